-- What an edit makes of a LUKS1 volume (LUKS1 On-Disk Format 1.2.3, 4.1 to 4.4).
use Rattle.std.specs.Prelude.{◌≡◌, ℕ, Bool, ◌-◌, ◌*◌, ◌<◌, ◌≤◌, ◌⊎◌, List, ◌++◌, length, take, drop, replicate, Option, Some, None, true, IfSome, IsSomeAnd}
use Rattle.luks_area.specs.Ranges.{part, SameBut}
use Rattle.luks1_header.specs.Header1.{active_word, disabled_word, enabled_word, entry, entry_iterations, entry_key_material_offset, entry_salt, entry_stripes, field_at, field_len, luks1_size}
use Rattle.luks1_header.specs.declared.fault.TextField.TheVariants.{Uuid}
use Rattle.luks_making.specs.declared.derivation.AskedDerivation.{AskedDerivation}
use Rattle.luks_making.specs.declared.derivation.NewDerivation.{NewDerivation}
use Rattle.luks_making.specs.declared.derivation.NewDerivation.TheVariants.{Pbkdf2, Argon2i, Argon2id}
use Rattle.luks_slot.specs.declared.plan.SlotPlan.{SlotPlan}
use Rattle.luks_slot.specs.declared.allowed.Allowed.{Allowed}
use Rattle.luks_slot.specs.Allowance.{without_memory}
use Rattle.luks_slot.specs.Opening.{area_bytes}
use Rattle.luks_slot.specs.Refusal.{slot_refusal_within}
use Rattle.luks_slot.specs.Sealing.{IsSealed}
use Rattle.luks_reading.specs.Answer.{AnswerWithin, opens}
use Rattle.luks_reading.specs.Plans.{HasLuks1Plan}
use Rattle.luks_edit.specs.declared.edit.Edit.{Edit}
use Rattle.luks_edit.specs.declared.edit.Opener.{Opener}
use Rattle.luks_edit.specs.declared.edit.Opener.TheVariants.{Keyslot, Key}
use Rattle.luks_edit.specs.declared.edit.Secret.{Secret}
use Rattle.luks_edit.specs.declared.deed.Place.{Place}
use Rattle.luks_edit.specs.declared.deed.Place.TheVariants.{New, Opened}
use Rattle.luks_edit.specs.declared.deed.Sealed.{Sealed}
use Rattle.luks_edit.specs.declared.new_uuid.NewUuid.{NewUuid}
use Rattle.luks_edit.specs.Asked.{allowed_of, deed_of, MatchDeed, MatchPlace, opener_at, sealed_by, sets_uuid_at_most, uuid_by}
use Rattle.luks_edit.specs.NewUuids.{new_uuid_text}
use Rattle.luks_edit.specs.Secrets.{GivesWithin, own_key}
use Rattle.luks1_edits.specs.Kept.{IsEither}
use Rattle.luks1_edits.specs.Places.{area_len, area_start, IsOfKeyslots, IsOfUuid}

-- ---- keyslots in use and free

abbrev pub IsInUse : List ℕ → ℕ → Type 0
IsInUse v n = (n < 8) × (active_word (entry v n) ≡ enabled_word)

abbrev pub IsFree : List ℕ → ℕ → Type 0
IsFree v n = (n < 8) × (active_word (entry v n) ≡ disabled_word)

pub record IsLeastFree (v : List ℕ) (n : ℕ) : Type 0 where
  pub free : IsFree v n
  pub least : (m : ℕ) → IsFree v m → n ≤ m

-- the keyslot that an addition makes: the one that is asked for, or else the least that is free
abbrev pub IsNewKeyslot : List ℕ → Option ℕ → ℕ → Type 0
IsNewKeyslot v (Some t) n = n ≡ t
IsNewKeyslot v None n = IsLeastFree v n

-- the number that is asked for the keyslot in which a key is sealed: for one that was opened none
abbrev pub number_asked : Place → Option ℕ
number_asked (New o to) = to
number_asked (Opened slot secret) = None

-- the keyslot in which an edit seals the key: always a new one
abbrev pub IsSealedIn : List ℕ → Sealed → ℕ → Type 0
IsSealedIn v s n = IsNewKeyslot v (number_asked s.place) n

-- the keyslots that an edit names: the one that it makes, and the one that it removes, or all that it erases
abbrev pub NamedKeyslots1 : List ℕ → Edit → ℕ → Type 0
NamedKeyslots1 v e n = MatchDeed (deed_of e)
    (λ s. MatchPlace s.place (λ o to. IsNewKeyslot v to n) (λ slot secret. (n ≡ slot) ⊎ IsLeastFree v n))
    (λ r. n ≡ r.slot)
    (λ r. ⊥)
    (n < 8)

-- the place is of a keyslot that the edit names, or of the uuid's field where it sets the uuid
abbrev pub IsTouched1 : List ℕ → Edit → ℕ → Type 0
IsTouched1 v e p = IsOfKeyslots v (NamedKeyslots1 v e) p ⊎ IsSomeAnd (uuid_by e) (λ uuid. IsOfUuid p)

-- the iterations of a keyslot that is made: those of the PBKDF2 that is chosen, where it is; LUKS1 has no
-- Argon2
abbrev pub iterations_or : ℕ → Option NewDerivation → ℕ
iterations_or n None = n
iterations_or n (Some (Pbkdf2 iterations)) = iterations
iterations_or n (Some (Argon2i costs)) = n
iterations_or n (Some (Argon2id costs)) = n

abbrev pub iterations_of : AskedDerivation → ℕ
iterations_of asked = iterations_or asked.iterations asked.chosen

-- ---- what gives the key

-- a keyslot of the header, in use or not, has a plan that isn't refused, with ciphers and hashes of older disks where
-- `older` says so; and the bytes are found to be the volume's key, or not, by its length and the digest: these are the
-- header's, as the cipher and the hash are
pub record GivesKey (older : Bool) (v bytes : List ℕ) (found : Option (List ℕ)) : Type 0 where
  pub slot : ℕ
  pub plan : SlotPlan
  pub is : HasLuks1Plan (part v 0 luks1_size) slot plan
  pub accepted : slot_refusal_within (without_memory older) plan ≡ None
  pub key : own_key plan bytes ≡ found

-- what is given by a keyslot and its secret, or by the volume key alone
abbrev pub Gives1 : Allowed → List ℕ → Opener → Option (List ℕ) → Type 0
Gives1 allowed v (Keyslot slot secret) found = GivesWithin secret.kind allowed v slot secret.bytes.now found
Gives1 allowed v (Key key) found = GivesKey allowed.older v key.bytes.now found

-- the opener gives the key, with ciphers and hashes of older disks where it allows them; no memory is taken
abbrev pub Opens1 : List ℕ → Opener → List ℕ → Type 0
Opens1 v o key = Gives1 (without_memory (allowed_of o).older) v o (Some key)

-- ---- entries and areas

-- the entry of a keyslot that was made: the key material's offset and the stripes are as before
pub record IsMade (old new : List ℕ) (iterations : ℕ) (salt : List ℕ) : Type 0 where
  pub enabled : active_word new ≡ enabled_word
  pub iterations_are : entry_iterations new ≡ iterations
  pub salt_is : entry_salt new ≡ salt
  pub offset : entry_key_material_offset new ≡ entry_key_material_offset old
  pub stripes : entry_stripes new ≡ entry_stripes old

-- the entry of a keyslot that was removed: disabled, no iterations, a salt of zeros
pub record IsFreed (old new : List ℕ) : Type 0 where
  pub disabled : active_word new ≡ disabled_word
  pub no_iterations : entry_iterations new ≡ 0
  pub no_salt : entry_salt new ≡ replicate 32 0
  pub offset : entry_key_material_offset new ≡ entry_key_material_offset old
  pub stripes : entry_stripes new ≡ entry_stripes old

-- the area that the keyslot had is zeros
abbrev pub IsWiped : List ℕ → ℕ → List ℕ → Type 0
IsWiped v n w = part w (area_start v n) (area_len v n) ≡ replicate (area_len v n) 0

-- the area of the keyslot `n` holds the key under the passphrase: as its entry says it decrypts to
-- the stripes that hold the key, all but the last of them random, and then zeros
pub record HoldsKey (w : List ℕ) (n : ℕ) (passphrase key random : List ℕ) : Type 0 where
  pub plan : SlotPlan
  pub is : HasLuks1Plan (part w 0 luks1_size) n plan
  pub key_length : length key ≡ plan.key_bytes
  pub random_length : length random ≡ (plan.stripes - 1) * plan.key_bytes
  pub sealed : IsSealed plan (area_bytes w plan.area) passphrase key random

-- ---- the volume after an edit

-- the keyslot was removed, and nothing else changed
pub record IsRemoved (v : List ℕ) (slot : ℕ) (w : List ℕ) : Type 0 where
  pub rest : SameBut (IsOfKeyslots v (IsEither slot slot)) v w
  pub freed : IsFreed (entry v slot) (entry w slot)
  pub wiped : IsWiped v slot w

-- the keyslots below `count` were removed, in use or not, and nothing else changed
pub record AreRemoved (count : ℕ) (v w : List ℕ) : Type 0 where
  pub rest : SameBut (IsOfKeyslots v (λ n. n < count)) v w
  pub freed : (n : ℕ) → n < count → IsFreed (entry v n) (entry w n)
  pub wiped : (n : ℕ) → n < count → IsWiped v n w

-- a keyslot was made in which `new` opens the key that the opener gave, with a salt and stripes of the random
-- bytes, and nothing else changed
pub record IsAdded
    (o : Opener) (v new : List ℕ) (to : Option ℕ) (iterations : ℕ) (random w : List ℕ)
    : Type 0 where
  pub slot : ℕ
  pub is_new : IsNewKeyslot v to slot
  pub key : List ℕ
  pub opened : Opens1 v o key
  pub rest : SameBut (IsOfKeyslots v (IsEither slot slot)) v w
  pub made : IsMade (entry v slot) (entry w slot) iterations (take 32 random)
  pub holds : HoldsKey w slot new key (drop 32 random)

-- the least free keyslot was made, in which `new` opens the key that the keyslot `slot` gave by the secret, that
-- one was removed, and nothing else changed
pub record IsChanged
    (v : List ℕ) (slot : ℕ) (secret : Secret) (new : List ℕ) (iterations : ℕ) (random w : List ℕ)
    : Type 0 where
  pub fresh : ℕ
  pub is_free : IsLeastFree v fresh
  pub key : List ℕ
  pub opened : Opens1 v (Keyslot slot secret) key
  pub rest : SameBut (IsOfKeyslots v (IsEither slot fresh)) v w
  pub made : IsMade (entry v fresh) (entry w fresh) iterations (take 32 random)
  pub holds : HoldsKey w fresh new key (drop 32 random)
  pub freed : IsFreed (entry v slot) (entry w slot)
  pub wiped : IsWiped v slot w

-- the uuid's field is the text that is given, or made of the random bytes, and zeros, and nothing else changed
pub record IsUuidSet (uuid : NewUuid) (v random w : List ℕ) : Type 0 where
  pub rest : SameBut IsOfUuid v w
  pub field_is : part w (field_at Uuid) (field_len Uuid) ≡ new_uuid_text uuid random ++ replicate 4 0

-- a uuid that is given was set, or nothing changed
abbrev pub SetsUuid : Option NewUuid → List ℕ → List ℕ → List ℕ → Type 0
SetsUuid None v random w = w ≡ v
SetsUuid (Some uuid) v random w = IsUuidSet uuid v random w

-- the LUKS1 volume `w` is what the edit makes of `v` with the random bytes: first the salt of a new
-- keyslot, then its stripes but the last; or those of a new uuid; nothing else is set
abbrev pub After1 : List ℕ → Edit → List ℕ → List ℕ → Type 0
After1 v e random w = MatchDeed (deed_of e)
    (λ s. MatchPlace s.place
    (λ o to. IsAdded o v s.passphrase.now to (iterations_of s.derivation) random w)
    (λ slot secret. IsChanged v slot secret s.passphrase.now (iterations_of s.derivation) random w))
    (λ r. IsRemoved v r.slot w)
    (λ r. (sets_uuid_at_most r ≡ true) × SetsUuid r.uuid v random w)
    (AreRemoved 8 v w)

-- ---- what opens after an edit

-- a keyslot that the edit made opens by its new passphrase to the key that the opener gave, whatever is
-- allowed
abbrev pub OpensAfter1 : List ℕ → Edit → List ℕ → Type 0
OpensAfter1 v e w = IfSome (sealed_by e) (λ s. (allowed : Allowed) (n : ℕ) (key : List ℕ) → IsSealedIn v s n
    → Gives1 allowed v (opener_at s.place) (Some key)
    → AnswerWithin allowed w n s.passphrase.now (opens key))
