-- What an edit makes of a LUKS2 volume (LUKS2 On-Disk Format 1.1, 4).
use Rattle.std.specs.Prelude.{◌≡◌, ℕ, ◌-◌, ◌*◌, ◌^◌, ◌<◌, Bool, List, length, drop, replicate, Option, None, Some, IfSome, ⊤}
use Rattle.base64.specs.GeneralPurpose.{IsBytes}
use Rattle.serde_json.specs.Data.{Data as Value}
use Rattle.serde_json.specs.View.{view}
use Rattle.luks_area.specs.declared.area.Area.{Area}
use Rattle.luks_area.specs.Ranges.{part, SameBut}
use Rattle.luks2_header.specs.Header2.{hdr_size, header_at}
use Rattle.luks_rules.specs.declared.table.Section.TheVariants.{Keyslots}
use Rattle.luks_rules.specs.Accepted.{HasObject}
use Rattle.luks_making.specs.Amended.{with_priority, with_token, without_token}
use Rattle.luks_making.specs.declared.amended.Change.{Change}
use Rattle.luks_making.specs.Changed.{changed_slot}
use Rattle.luks_making.specs.Derivations.{FitsAsked}
use Rattle.luks_making.specs.declared.derivation.AskedDerivation.{AskedDerivation}
use Rattle.luks_making.specs.Keyslots.{NewMembers}
use Rattle.luks_making.specs.Without.{without_slot, without_slots}
use Rattle.luks_slot.specs.declared.allowed.Allowed.{Allowed}
use Rattle.luks_slot.specs.declared.plan.SlotPlan.{SlotPlan}
use Rattle.luks_slot.specs.Opening.{area_bytes}
use Rattle.luks_slot.specs.Sealing.{IsSealed}
use Rattle.luks_reading.specs.declared.report.Data.{Data}
use Rattle.luks_reading.specs.Answer.{AnswerWithin, opens}
use Rattle.luks_reading.specs.Plans.{IsLuks2Plan}
use Rattle.luks_edit.specs.declared.edit.Edit.{Edit}
use Rattle.luks_edit.specs.declared.edit.Opener.{Opener}
use Rattle.luks_edit.specs.declared.edit.Opener.TheVariants as opener
use Rattle.luks_edit.specs.declared.deed.Sealed.{Sealed}
use Rattle.luks_edit.specs.Secrets.{AnswersTo}
use Rattle.luks_edit.specs.Asked.{AmendsSlot, deed_of, Loses, MatchChange, MatchDeed, MatchPlace, allowed_for, opener_at, sealed_by}
use Rattle.luks2_edit_laws.specs.declared.like.Like.{Like}
use Rattle.luks2_edit_laws.specs.declared.like.Like.TheVariants.{Keyslot}
use Rattle.luks2_edit_laws.specs.Copies.{IsWrittenAnew}
use Rattle.luks2_edit_laws.specs.Likes.{ForLike, HasRefusal, IsAddedLike, IsLikeByKey}
use Rattle.luks2_edit_laws.specs.Metadata.{HasMetadata, IsKeyArea, IsNewKeyslot, IsNewToken}
use Rattle.luks2_edit_laws.specs.Places.{IsNewArea, IsTouched}

-- ---- the keyslots that an edit names

-- the keyslot that an addition to the volume makes
pub record IsMadeIn (v : List ℕ) (to : Option ℕ) (n : ℕ) : Type 0 where
  pub place : ℕ
  pub value : Value
  pub metadata : HasMetadata v place value
  pub is_new : IsNewKeyslot value to n

-- the keyslot of the volume that an edit seals the key in
abbrev pub IsSealedIn : List ℕ → Sealed → ℕ → Type 0
IsSealedIn v s n = MatchPlace s.place (λ o to. IsMadeIn v to n) (λ slot secret. n ≡ slot)

abbrev pub NamedKeyslots2 : List ℕ → Edit → ℕ → Type 0
NamedKeyslots2 v e n = MatchDeed (deed_of e) (λ s. IsSealedIn v s n) (λ r. n ≡ r.slot) (λ r. AmendsSlot r.change n) ⊤

-- ---- what a call is given

-- the numbers of the derivation that is asked for have 32 bits
abbrev pub HasRangedDerivation : Edit → Type 0
HasRangedDerivation e = IfSome (sealed_by e) (λ s. FitsAsked s.derivation)

-- what an edit is given has the ranges of its types: 64 bits for the volume's length, 32 for the
-- numbers of a derivation, and random bytes
pub record HasRanges (v : List ℕ) (e : Edit) (random : List ℕ) : Type 0 where
  pub size : length v < 2 ^ 64
  pub derivation : HasRangedDerivation e
  pub random_bytes : IsBytes random

-- ---- the metadata, in a volume of `total` bytes with copies of `h` bytes

-- what is new of a keyslot
abbrev pub members_of : AskedDerivation → List ℕ → Area → NewMembers
members_of asked salt area =
    record { derivation = asked; salt = salt; offset = area.start; size = area.len }

-- `new` is the metadata `j` with a new keyslot that is made like this one
pub record HasAdded
    (h total : ℕ) (payload : Data) (to : Option ℕ) (asked : AskedDerivation) (salt : List ℕ)
    (j new : Value) (like : Like)
    : Type 0 where
  pub slot : ℕ
  pub is_new : IsNewKeyslot j to slot
  pub area : Area
  pub place : IsNewArea h total payload j like area
  pub is : IsAddedLike slot like (members_of asked salt area) j new

-- `new` is the metadata `j` with a new derivation, salt and area in the keyslot `slot`
pub record HasChanged
    (h total : ℕ) (payload : Data) (slot : ℕ) (asked : AskedDerivation) (salt : List ℕ) (j new : Value)
    : Type 0 where
  pub area : Area
  pub place : IsNewArea h total payload j (Keyslot slot) area
  pub is : new ≡ changed_slot slot (members_of asked salt area) j

-- `new` is the metadata `j` with this token, by a new number
pub record HasNewToken (to : Option ℕ) (token j new : Value) : Type 0 where
  pub number : ℕ
  pub is_new : IsNewToken j to number
  pub is : new ≡ with_token number token j

-- `new` is the metadata `j` with the change, if there is one
abbrev pub IsAmended : Option Change → Value → Value → Type 0
IsAmended None j new = new ≡ j
IsAmended (Some c) j new = MatchChange c (λ slot priority. new ≡ with_priority slot priority j)
    (λ to token. HasNewToken to (view token.now) j new) (λ number. new ≡ without_token number j)

-- `new` is what the edit makes of the metadata `j`, with the salt for a keyslot that it seals
abbrev pub IsEdited : ℕ → ℕ → Data → Edit → List ℕ → Value → Value → Type 0
IsEdited h total payload e salt j k = MatchDeed (deed_of e)
    (λ s. MatchPlace s.place
    (λ o to. ForLike j o (HasAdded h total payload to s.derivation salt j k))
    (λ slot secret. HasChanged h total payload slot s.derivation salt j k))
    (λ r. k ≡ without_slot r.slot j)
    (λ r. IsAmended r.change j k)
    (k ≡ without_slots j)

-- of the random bytes those behind the salts of the copies: the salt of a keyslot, and its stripes
abbrev pub keyslot_salt : List ℕ → List ℕ
keyslot_salt random = part random 128 32

abbrev pub stripes_random : List ℕ → List ℕ
stripes_random random = drop 160 random

-- ---- key areas

-- as the metadata `j` says, the area of the keyslot `n` holds the key under the passphrase: it decrypts
-- to the stripes that hold the key, all but the last of them random, and then to zeros
pub record HoldsKey (w : List ℕ) (j : Value) (n : ℕ) (passphrase key random : List ℕ) : Type 0 where
  pub object : Value
  pub there : HasObject j Keyslots n object
  pub plan : SlotPlan
  pub is : IsLuks2Plan j n object plan
  pub key_length : length key ≡ plan.key_bytes
  pub random_length : length random ≡ (plan.stripes - 1) * plan.key_bytes
  pub sealed : IsSealed plan (area_bytes w plan.area) passphrase key random

-- the bytes are a key of the LUKS2 volume `v`: they meet a digest of it, and a keyslot that is made by them isn't refused,
-- with ciphers and hashes of older disks where `older` says so
pub record IsOwnKey (older : Bool) (v bytes : List ℕ) : Type 0 where
  pub place : ℕ
  pub value : Value
  pub metadata : HasMetadata v place value
  pub like : Like
  pub is_like : IsLikeByKey older value bytes like
  pub accepted : HasRefusal older value like None

-- the key that is given by a keyslot and its secret, or by the volume key alone
abbrev pub Gives2 : Allowed → List ℕ → Opener → List ℕ → Type 0
Gives2 allowed v (opener.Keyslot slot secret) key = AnswersTo secret.kind allowed v slot secret.bytes.now (opens key)
Gives2 allowed v (opener.Key own) key = (key ≡ own.bytes.now) × IsOwnKey own.allowed.older v own.bytes.now

-- a keyslot of the set `made` holds under `new`, by the metadata `j`, the key that the opener gives of the volume
-- `v`, where so much is allowed
pub record HoldsOpened
    (allowed : Allowed) (v : List ℕ) (o : Opener) (new : List ℕ) (made : ℕ → Type 0) (random w : List ℕ) (j : Value)
    : Type 0 where
  pub slot : ℕ
  pub is_made : made slot
  pub key : List ℕ
  pub opened : Gives2 allowed v o key
  pub holds : HoldsKey w j slot new key (stripes_random random)

-- the keyslot that a key is sealed in by the metadata `j`
abbrev pub IsSealedBeside : Value → Sealed → ℕ → Type 0
IsSealedBeside j s n = MatchPlace s.place (λ o to. IsNewKeyslot j to n) (λ slot secret. n ≡ slot)

-- the keyslot that the edit makes of the metadata `j`, or seals again, holds the key that was opened
abbrev pub IsSealedBy : List ℕ → Edit → List ℕ → Value → List ℕ → Value → Type 0
IsSealedBy v e random j w k = IfSome (sealed_by e) (λ s.
    HoldsOpened (allowed_for (opener_at s.place) s.passphrase.now) v (opener_at s.place) s.passphrase.now (IsSealedBeside j s) random w k)

-- the area that the keyslot `n` has by the metadata `j` is zeros
abbrev pub IsWiped : Value → ℕ → List ℕ → Type 0
IsWiped j n w = (a : Area) → IsKeyArea j n a → part w a.start a.len ≡ replicate a.len 0

-- each area that a keyslot loses by the edit is zeros
abbrev pub IsWipedBy : Edit → Value → List ℕ → Type 0
IsWipedBy e j w = (n : ℕ) → Loses e n → IsWiped j n w

-- ---- the volume after an edit

-- the LUKS2 volume `w` is what the edit makes of `v` with the random bytes: both copies are written
-- anew with the metadata `new`, a new keyslot's area holds the key, lost ones are zeros, and each other
-- byte is as it was
pub record After2 (v : List ℕ) (payload : Data) (e : Edit) (random w : List ℕ) : Type 0 where
  pub place : ℕ
  pub value : Value
  pub metadata : HasMetadata v place value
  pub new : Value
  pub edited : IsEdited (hdr_size (header_at v place)) (length v) payload e (keyslot_salt random) value new
  pub first : IsWrittenAnew v place e random new w 0
  pub second : IsWrittenAnew v place e random new w (hdr_size (header_at v place))
  pub sealed : IsSealedBy v e random value w new
  pub wiped : IsWipedBy e value w
  pub rest : SameBut (IsTouched (hdr_size (header_at v place)) (length v) payload value e) v w

-- ---- what opens after an edit

-- a keyslot that the edit made or sealed again opens by its new passphrase to the key that the opener
-- gave, where as much is allowed
abbrev pub OpensAfter2 : List ℕ → Edit → List ℕ → Type 0
OpensAfter2 v e w = IfSome (sealed_by e) (λ s. MatchPlace s.place
    (λ o to. (n : ℕ) (key : List ℕ) → IsMadeIn v to n
    → Gives2 (allowed_for o s.passphrase.now) v o key
    → AnswerWithin (allowed_for o s.passphrase.now) w n s.passphrase.now (opens key))
    (λ slot secret. (key : List ℕ) → Gives2 (allowed_for (opener.Keyslot slot secret) s.passphrase.now) v (opener.Keyslot slot secret) key
    → AnswerWithin (allowed_for (opener.Keyslot slot secret) s.passphrase.now) w slot s.passphrase.now (opens key)))
