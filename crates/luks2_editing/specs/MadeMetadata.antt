-- The new metadata of an edit of a LUKS2 volume that seals a keyslot: words of private contracts.
use Rattle.std.specs.Prelude.{◌≡◌, ℕ, ◌*◌, ◌≤◌, List, length, IsSomeAnd, ⊤}
use Rattle.serde_json.specs.Data.{Data as Value}
use Rattle.luks2_header.specs.Header2.{hdr_size, header_at}
use Rattle.luks_making.specs.declared.derivation.AskedDerivation.{AskedDerivation}
use Rattle.luks_making.specs.Changed.{changed_slot}
use Rattle.luks_area.specs.Sectors.{rounded_to_sectors}
use Rattle.luks_rules.specs.declared.table.Section.TheVariants.{Digests}
use Rattle.luks_rules.specs.Accepted.{HasObject}
use Rattle.luks_making.specs.Conditions.{Between, CanSeal, IsFree, IsInRegion, IsThere}
use Rattle.luks_making.specs.Derivations.{IsPositive}
use Rattle.luks_making.specs.Keyslots.{slot_value, NewMembers}
use Rattle.luks_making.specs.Unchanged.{ChangesSlot, GainsSlot, SaysMembers}
use Rattle.luks_meta.specs.Content.{content}
use Rattle.luks_reading.specs.declared.header.ChosenCopy.{ChosenCopy}
use Rattle.luks_reading.specs.declared.report.Data.{Data}
use Rattle.luks_reading.specs.Checked.{WellFormed}
use Rattle.luks_reading.specs.Header.{IsChosenCopy}
use Rattle.luks_edit.specs.declared.deed.Place.{Place}
use Rattle.luks_edit.specs.declared.edit.Edit.{Edit}
use Rattle.luks_edit.specs.Asked.{MatchPlace, sealed_by}
use Rattle.luks2_edit_laws.specs.declared.like.Like.{Like}
use Rattle.luks2_edit_laws.specs.declared.like.Like.TheVariants.{Keyslot, Digest}
use Rattle.luks2_edit_laws.specs.Likes.{digest_by, IsAddedLike, IsLike, slot_by}
use Rattle.luks2_edit_laws.specs.Metadata.{IsNewKeyslot}
use Rattle.luks2_edit_laws.specs.Places.{IsNewArea}
use Rattle.luks2_judging.specs.Opened.{IsOpenedTo}
use Rattle.luks2_judging.specs.Rows.{HasNoFaultBefore}
use Rattle.luks2_editing.specs.declared.sealed_metadata.SealedSlot.{SealedSlot}
use Rattle.luks2_editing.specs.declared.sealed_metadata.SealedSlot.TheVariants.{Made, Renewed}
use Rattle.luks2_editing.specs.declared.sealed_metadata.Sealing.{Sealing}

-- ---- the keyslot that is sealed

-- the keyslot like which it is made
abbrev pub like_of : SealedSlot → Like
like_of (Made slot like) = like
like_of (Renewed slot) = Keyslot slot

-- the number of a new one is free
abbrev pub HasNumber : Value → SealedSlot → Type 0
HasNumber j (Made slot like) = IsFree j slot
HasNumber j (Renewed slot) = ⊤

-- an edit of the metadata `j` seals it so derived that asks for a key at this place with this derivation
abbrev pub AsksOf : Place → AskedDerivation → Value → SealedSlot → AskedDerivation → Type 0
AsksOf place own j (Made slot like) derivation = MatchPlace place (λ o to. IsLike j o like × (derivation ≡ own) × IsNewKeyslot j to slot) (λ named secret. ⊥)
AsksOf place own j (Renewed slot) derivation = MatchPlace place (λ o to. ⊥) (λ named secret. (slot ≡ named) × (derivation ≡ own))

abbrev pub AsksFor : Edit → Value → SealedSlot → AskedDerivation → Type 0
AsksFor e j keyslot derivation = IsSomeAnd (sealed_by e) (λ s. AsksOf s.place s.derivation j keyslot derivation)

-- ---- what it is made like

-- the keyslot is there, or the digest of one that is made as a new volume has it
pub record HasDigest (j : Value) (m : ℕ) : Type 0 where
  pub object : Value
  pub there : HasObject j Digests m object

abbrev pub IsThereLike : Value → Like → Type 0
IsThereLike j (Keyslot n) = IsThere j n
IsThereLike j (Digest number key_bytes) = HasDigest j number

-- what is new suits it
pub record CanMake (len : ℕ) (j : Value) (number key_bytes : ℕ) (f : NewMembers) : Type 0 where
  pub digest : HasDigest j number
  pub key : Between 1 128 key_bytes
  pub derivation : IsPositive f.derivation
  pub salt : Between 1 128 (length f.salt)
  pub large : rounded_to_sectors (key_bytes * 4000) ≤ f.size
  pub within : IsInRegion len j f.offset f.size

abbrev pub CanSealLike : ℕ → Value → Like → NewMembers → Type 0
CanSealLike len j (Keyslot n) f = CanSeal len j n f
CanSealLike len j (Digest number key_bytes) f = CanMake len j number key_bytes f

-- ---- the metadata `k`, made of the metadata `j`

-- it has a new keyslot `slot` made like this one, and all else as it was
pub record IsGained (slot : ℕ) (like : Like) (f : NewMembers) (j k : Value) : Type 0 where
  pub added : IsAddedLike slot like f j k
  pub gains : GainsSlot slot (digest_by slot like f j k added) (slot_by slot like f j k added) j k
  pub says : SaysMembers (slot_by slot like f j k added) (slot_value (slot_by slot like f j k added))

-- it has what is new in the keyslot `slot`, and all else as it was
pub record IsSealedAgain (slot : ℕ) (f : NewMembers) (j k : Value) : Type 0 where
  pub is : k ≡ changed_slot slot f j
  pub changes : ChangesSlot slot f j k

abbrev pub IsMadeBy : SealedSlot → NewMembers → Value → Value → Type 0
IsMadeBy (Made slot like) f j k = IsGained slot like f j k
IsMadeBy (Renewed slot) f j k = IsSealedAgain slot f j k

-- ---- the edit

-- the rows of the edit `e` of the volume `v` were judged up to those of the token, its keyslot was
-- opened, and it seals a keyslot in the area that is found for it
pub record IsSealingEdit
    (v : List ℕ) (payload : Data) (e : Edit) (random : List ℕ) (copy : ChosenCopy) (sealing : Sealing)
    : Type 0 where
  pub chosen : IsChosenCopy v copy
  pub well : WellFormed v payload
  pub before : HasNoFaultBefore 20 v payload e random
  pub asked : AsksFor e (content copy.meta) sealing.keyslot sealing.derivation
  pub place : IsNewArea (hdr_size (header_at v copy.header.hdr_offset)) (length v) payload
      (content copy.meta) (like_of sealing.keyslot) sealing.area
  pub key : List ℕ
  pub opened : IsOpenedTo v e key
