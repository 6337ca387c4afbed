-- What an edit asks for, whatever the version of the volume.
use Rattle.std.specs.Prelude.{◌≡◌, ◌⊎◌, ℕ, ◌^◌, ◌<◌, ◌&&◌, nat_lt, if◌then◌else◌, List, [], length, Bool, true, Option, Some, None, is_none, IsSomeAnd, ⊤}
use Rattle.std.specs.Borrow.{Bor}
use Rattle.serde_json.specs.declared.value.Value.{Value}
use Rattle.luks_slot.specs.declared.allowed.Allowed.{Allowed}
use Rattle.luks_slot.specs.Allowance.{none_allowed}
use Rattle.luks_making.specs.Derivations.{asked_beyond, asked_few_turns, takes_memory}
use Rattle.luks_making.specs.declared.derivation.NewDerivation.{NewDerivation}
use Rattle.luks_making.specs.declared.derivation.NewDerivation.TheVariants.{Pbkdf2}
use Rattle.luks_making.specs.declared.amended.Change.{Change}
use Rattle.luks_making.specs.declared.amended.Change.TheVariants as changes
use Rattle.luks_making.specs.declared.amended.Priority.{Priority}
use Rattle.luks_edit.specs.declared.deed.Deed.{Deed}
use Rattle.luks_edit.specs.declared.deed.Deed.TheVariants as deed
use Rattle.luks_edit.specs.declared.deed.Place.{Place}
use Rattle.luks_edit.specs.declared.deed.Place.TheVariants.{New, Opened}
use Rattle.luks_edit.specs.declared.deed.Removed.{Removed}
use Rattle.luks_edit.specs.declared.deed.Rewritten.{Rewritten}
use Rattle.luks_edit.specs.declared.deed.Sealed.{Sealed}
use Rattle.luks_edit.specs.declared.edit.Edit.{Edit}
use Rattle.luks_edit.specs.declared.edit.Edit.TheVariants.{Add, AddByKey, Change as ChangeKey, Remove, Erase, Repair, Label, Uuid, Amend}
use Rattle.luks_edit.specs.declared.edit.Opener.{Opener}
use Rattle.luks_edit.specs.declared.edit.Opener.TheVariants as opener
use Rattle.luks_edit.specs.declared.edit.Secret.{Secret}
use Rattle.luks_edit.specs.declared.edit.SecretKind.{SecretKind}
use Rattle.luks_edit.specs.declared.edit.SecretKind.TheVariants as kind
use Rattle.luks_edit.specs.declared.edit.VolumeKey.{VolumeKey}
use Rattle.luks_edit.specs.declared.new_uuid.NewUuid.{NewUuid}

-- ---- what an edit does: it is read here, and all else is said of its parts

-- the keyslot whose secret removes the keyslot `slot`: another one where it is named, else itself
abbrev pub opener_of : ℕ → Option ℕ → ℕ
opener_of slot None = slot
opener_of slot (Some other) = other

-- what gives a key for the removal: another keyslot where it is named; else a passphrase the keyslot itself, and a
-- key the volume's
abbrev pub remover_by : ℕ → SecretKind → Secret → Opener
remover_by slot kind.Passphrase secret = opener.Keyslot slot secret
remover_by slot kind.Key secret = opener.Key (record { bytes = secret.bytes; allowed = secret.allowed })

abbrev pub remover_of : ℕ → Option ℕ → Secret → Opener
remover_of slot None secret = remover_by slot secret.kind secret
remover_of slot (Some other) secret = opener.Keyslot other secret

-- the derivation of a keyslot that is made by a key: the one that is chosen, or PBKDF2 by so many iterations
abbrev pub chosen_or : ℕ → Option NewDerivation → NewDerivation
chosen_or iterations None = Pbkdf2 iterations
chosen_or iterations (Some c) = c

abbrev pub deed_of : Edit → Deed
deed_of (Add by_ old new to iterations chosen) =
    deed.Seal (record { place = New (opener.Keyslot by_ old) to; passphrase = new; derivation = record { iterations = iterations; chosen = chosen } })
deed_of (AddByKey key new to iterations chosen) =
    deed.Seal (record { place = New (opener.Key key) to; passphrase = new; derivation = record { iterations = iterations; chosen = Some (chosen_or iterations chosen) } })
deed_of (ChangeKey slot old new iterations chosen) =
    deed.Seal (record { place = Opened slot old; passphrase = new; derivation = record { iterations = iterations; chosen = chosen } })
deed_of (Remove slot by_ secret) =
    deed.Remove (record { slot = slot; by_ = by_; secret = secret })
deed_of Erase = deed.Erase
deed_of Repair = deed.Rewrite (record { uuid = None; label = None; subsystem = None; change = None })
deed_of (Label text subsystem) = deed.Rewrite (record { uuid = None; label = Some text; subsystem = subsystem; change = None })
deed_of (Uuid uuid) = deed.Rewrite (record { uuid = Some uuid; label = None; subsystem = None; change = None })
deed_of (Amend change) = deed.Rewrite (record { uuid = None; label = None; subsystem = None; change = Some change })

-- ---- by what is done

-- of the key that is sealed, of the keyslot that is removed, of what is set, or else where all keyslots are erased
abbrev pub MatchDeed : Deed → (Sealed → Type 0) → (Removed → Type 0) → (Rewritten → Type 0) → Type 0 → Type 0
MatchDeed (deed.Seal s) S R W E = S s
MatchDeed (deed.Remove r) S R W E = R r
MatchDeed (deed.Rewrite r) S R W E = W r
MatchDeed deed.Erase S R W E = E

-- of what gives the key of a new keyslot and the number that is asked for it, or of the keyslot that is opened and
-- its secret
abbrev pub MatchPlace : Place → (Opener → Option ℕ → Type 0) → (ℕ → Secret → Type 0) → Type 0
MatchPlace (New o to) N O = N o to
MatchPlace (Opened slot secret) N O = O slot secret

-- of a keyslot and its secret, or of the volume key
abbrev pub MatchOpener : Opener → (ℕ → Secret → Type 0) → (VolumeKey → Type 0) → Type 0
MatchOpener (opener.Keyslot slot secret) S K = S slot secret
MatchOpener (opener.Key key) S K = K key

-- ---- the parts

-- what gives the key that is sealed
abbrev pub opener_at : Place → Opener
opener_at (New o to) = o
opener_at (Opened slot secret) = opener.Keyslot slot secret

abbrev pub opener_in : Deed → Option Opener
opener_in (deed.Seal s) = Some (opener_at s.place)
opener_in (deed.Remove r) = Some (remover_of r.slot r.by_ r.secret)
opener_in (deed.Rewrite r) = None
opener_in deed.Erase = None

-- its bytes, and what it allows
abbrev pub bytes_of : Opener → List ℕ
bytes_of (opener.Keyslot slot secret) = secret.bytes.now
bytes_of (opener.Key key) = key.bytes.now

abbrev pub allowed_of : Opener → Allowed
allowed_of (opener.Keyslot slot secret) = secret.allowed
allowed_of (opener.Key key) = key.allowed

abbrev pub sealed_in : Deed → Option Sealed
sealed_in (deed.Seal s) = Some s
sealed_in (deed.Remove r) = None
sealed_in (deed.Rewrite r) = None
sealed_in deed.Erase = None

abbrev pub removed_in : Deed → Option Removed
removed_in (deed.Seal s) = None
removed_in (deed.Remove r) = Some r
removed_in (deed.Rewrite r) = None
removed_in deed.Erase = None

abbrev pub rewritten_in : Deed → Option Rewritten
rewritten_in (deed.Seal s) = None
rewritten_in (deed.Remove r) = None
rewritten_in (deed.Rewrite r) = Some r
rewritten_in deed.Erase = None

-- the uuid, the label and the subsystem that it sets
abbrev pub uuid_in : Deed → Option NewUuid
uuid_in (deed.Seal s) = None
uuid_in (deed.Remove r) = None
uuid_in (deed.Rewrite r) = r.uuid
uuid_in deed.Erase = None

abbrev pub label_in : Deed → Option (Bor (List ℕ))
label_in (deed.Seal s) = None
label_in (deed.Remove r) = None
label_in (deed.Rewrite r) = r.label
label_in deed.Erase = None

abbrev pub subsystem_in : Deed → Option (Bor (List ℕ))
subsystem_in (deed.Seal s) = None
subsystem_in (deed.Remove r) = None
subsystem_in (deed.Rewrite r) = r.subsystem
subsystem_in deed.Erase = None

-- what it changes of the metadata
abbrev pub change_in : Deed → Option Change
change_in (deed.Seal s) = None
change_in (deed.Remove r) = None
change_in (deed.Rewrite r) = r.change
change_in deed.Erase = None

-- the keyslot whose priority the change sets, the token that it adds with the number that is asked for it, and the
-- token that it removes
abbrev pub MatchChange : Change → (ℕ → Priority → Type 0) → (Option ℕ → Bor Value → Type 0) → (ℕ → Type 0) → Type 0
MatchChange (changes.Priority slot priority) P A R = P slot priority
MatchChange (changes.AddToken to token) P A R = A to token
MatchChange (changes.RemoveToken number) P A R = R number

-- the keyslot that a change names: the one whose priority it sets
abbrev pub AmendsSlot : Option Change → ℕ → Type 0
AmendsSlot None n = ⊥
AmendsSlot (Some c) n = MatchChange c (λ slot priority. n ≡ slot) (λ to token. ⊥) (λ number. ⊥)

-- the header says all that it said except for the uuid, if one is given
abbrev pub sets_uuid_at_most : Rewritten → Bool
sets_uuid_at_most r = is_none r.label && is_none r.subsystem && is_none r.change

-- the key is sealed in the keyslot that was opened
abbrev pub again_at : Place → Sealed → Option Sealed
again_at (New o to) s = None
again_at (Opened slot secret) s = Some s

abbrev pub again_in : Deed → Option Sealed
again_in (deed.Seal s) = again_at s.place s
again_in (deed.Remove r) = None
again_in (deed.Rewrite r) = None
again_in deed.Erase = None

-- the keyslot `n` loses its area: the one that is removed, or that the key is sealed in anew, or where all are
-- erased any
abbrev pub LosesAt : Place → ℕ → Type 0
LosesAt (New o to) n = ⊥
LosesAt (Opened slot secret) n = n ≡ slot

abbrev pub LosesIn : Deed → ℕ → Type 0
LosesIn (deed.Seal s) n = LosesAt s.place n
LosesIn (deed.Remove r) n = n ≡ r.slot
LosesIn (deed.Rewrite r) n = ⊥
LosesIn deed.Erase n = ⊤

-- ---- of an edit

-- the key that it seals, the one that it seals in the keyslot that was opened, the keyslot that it
-- removes, what it sets, and of that the uuid, the label, the subsystem and the change
abbrev pub sealed_by : Edit → Option Sealed
sealed_by e = sealed_in (deed_of e)

abbrev pub again_by : Edit → Option Sealed
again_by e = again_in (deed_of e)

abbrev pub removed_by : Edit → Option Removed
removed_by e = removed_in (deed_of e)

abbrev pub rewritten_by : Edit → Option Rewritten
rewritten_by e = rewritten_in (deed_of e)

abbrev pub uuid_by : Edit → Option NewUuid
uuid_by e = uuid_in (deed_of e)

abbrev pub label_by : Edit → Option (Bor (List ℕ))
label_by e = label_in (deed_of e)

abbrev pub subsystem_by : Edit → Option (Bor (List ℕ))
subsystem_by e = subsystem_in (deed_of e)

abbrev pub change_by : Edit → Option Change
change_by e = change_in (deed_of e)

-- the keyslot `n` loses its area by the edit
abbrev pub Loses : Edit → ℕ → Type 0
Loses e n = LosesIn (deed_of e) n

-- the edit wants the keyslot `n` to be there: the one that it opens, and the one that it removes
abbrev pub Wants : Edit → ℕ → Type 0
Wants e n = MatchDeed (deed_of e) (λ s. MatchOpener (opener_at s.place) (λ slot secret. n ≡ slot) (λ key. ⊥))
    (λ r. (n ≡ opener_of r.slot r.by_) ⊎ (n ≡ r.slot)) (λ r. ⊥) ⊥

-- the edit names the keyslot that it removes as the one to open by
abbrev pub NamesItself : Edit → Type 0
NamesItself e = IsSomeAnd (removed_by e) (λ r. r.by_ ≡ Some r.slot)

-- what may be spent on what opens, and on a new passphrase beside it: no memory where one has 2^32 bytes
-- or more, since Argon2 takes fewer (RFC 9106, 3.1)
abbrev pub allowed_for : Opener → List ℕ → Allowed
allowed_for old new = record {
  memory = if nat_lt (length (bytes_of old)) (2 ^ 32) && nat_lt (length new) (2 ^ 32) then (allowed_of old).memory else 0;
  older = (allowed_of old).older;
}

-- on the secret that opens, and the passphrase that the key is sealed under
abbrev pub allowed_in : Deed → Allowed
allowed_in (deed.Seal s) = allowed_for (opener_at s.place) s.passphrase.now
allowed_in (deed.Remove r) = allowed_for (remover_of r.slot r.by_ r.secret) []
allowed_in (deed.Rewrite r) = none_allowed
allowed_in deed.Erase = none_allowed

-- on each of the edit's secrets
abbrev pub allowed_by : Edit → Allowed
allowed_by e = allowed_in (deed_of e)

-- the secrets of the edit have fewer than 2^32 bytes
abbrev pub AreShortIn : Deed → Type 0
AreShortIn (deed.Seal s) = (length (bytes_of (opener_at s.place)) < 2 ^ 32) × (length s.passphrase.now < 2 ^ 32)
AreShortIn (deed.Remove r) = length (bytes_of (remover_of r.slot r.by_ r.secret)) < 2 ^ 32
AreShortIn (deed.Rewrite r) = ⊤
AreShortIn deed.Erase = ⊤

abbrev pub HasShortPassphrases : Edit → Type 0
HasShortPassphrases e = AreShortIn (deed_of e)

-- the edit derives a new keyslot's key with fewer iterations than new keyslots have, or with no pass
abbrev pub HasFewIterations : Edit → Type 0
HasFewIterations e = IsSomeAnd (sealed_by e) (λ s. asked_few_turns s.derivation ≡ true)

-- it chooses an Argon2 that takes more memory than both of its secrets may, or is outside the bounds
abbrev pub IsBeyondMemory : Edit → Type 0
IsBeyondMemory e = IsSomeAnd (sealed_by e) (λ s. asked_beyond (allowed_for (opener_at s.place) s.passphrase.now).memory s.derivation ≡ true)

-- it chooses Argon2
abbrev pub ChoosesArgon2 : Edit → Type 0
ChoosesArgon2 e = IsSomeAnd (sealed_by e) (λ s. takes_memory s.derivation.chosen ≡ true)
