-- What an edit of some keyslots, or of the uuid, of a LUKS1 volume leaves as it was.
use Rattle.std.specs.Prelude.{◌≡◌, ℕ, ◌<◌, ◌⊎◌, ◌↔◌, List, length}
use Rattle.luks_area.specs.declared.area.AreaName.TheVariants.{Segment, Slot}
use Rattle.luks_area.specs.Ranges.{part, IsOfEither, SameBut}
use Rattle.luks1_header.specs.Bytes.{HoldsText, IsUuid}
use Rattle.luks1_header.specs.Faults.{HasUnknownState, LacksIterations}
use Rattle.luks1_header.specs.Header1.{entry, entry_key_material_offset, entry_stripes, field_at, field_len, header_text}
use Rattle.luks1_header.specs.declared.fault.TextField.TheVariants.{Uuid}
use Rattle.luks2_header.specs.Selection.{luks1, Chosen}
use Rattle.luks_reading.specs.declared.report.Data.{Data}
use Rattle.luks_reading.specs.Checked.{WellFormed}
use Rattle.luks_edit.specs.Kept.{IsEntry, KeepsArea, KeepsSlot}
use Rattle.luks1_edits.specs.Places.{area_len, area_start, IsOfKeyslots, IsOfUuid}

-- the uuid's field of the LUKS1 volume holds a uuid
abbrev pub HasUuid : List ℕ → Type 0
HasUuid v = IsUuid (header_text v Uuid)

-- the two LUKS1 volumes have the same 168 bytes before the uuid, and the uuids' fields have the same faults:
-- the texts of both are printable or of neither, and both are of a uuid or neither
pub record HasSameCommon (v w : List ℕ) : Type 0 where
  pub front : part w 0 (field_at Uuid) ≡ part v 0 (field_at Uuid)
  pub text : HoldsText w (field_at Uuid) (field_len Uuid) ↔ HoldsText v (field_at Uuid) (field_len Uuid)
  pub uuid : HasUuid w ↔ HasUuid v

-- what the answer of the keyslot `n` depends on: the two LUKS1 volumes have one length, the same bytes before
-- the uuid, the same faults of the uuid, and the same entry and area of the keyslot
pub record HasSameKeyslot (n : ℕ) (v w : List ℕ) : Type 0 where
  pub length_same : length w ≡ length v
  pub common : HasSameCommon v w
  pub entry : n < 8 → entry w n ≡ entry v n
  pub area : n < 8
      → part w (area_start v n) (area_len v n) ≡ part v (area_start v n) (area_len v n)

-- one of two keyslots
abbrev pub IsEither : ℕ → ℕ → ℕ → Type 0
IsEither first second n = (n ≡ first) ⊎ (n ≡ second)

-- the set has only keyslots that LUKS1 has
pub record AreKeyslots (named : ℕ → Type 0) : Type 0 where
  pub numbered : (n : ℕ) → named n → n < 8

-- the volume `v` is a well formed LUKS1 volume, and `w` differs from it only in the entries and the
-- areas of the keyslots of the set, and in the uuid's field
pub record ChangesKeyslots (payload : Data) (named : ℕ → Type 0) (v w : List ℕ) : Type 0 where
  pub keyslots : AreKeyslots named
  pub chosen : Chosen v luks1
  pub well : WellFormed v payload
  pub rest : SameBut (IsOfEither (IsOfKeyslots v named) IsOfUuid) v w

-- the entry `new` is fit for use in the place of the entry `old`: it has a state, the same area,
-- the same stripes, and iterations where it is enabled
pub record IsFitFor (old new : List ℕ) : Type 0 where
  pub stated : HasUnknownState new → ⊥
  pub offset : entry_key_material_offset new ≡ entry_key_material_offset old
  pub stripes : entry_stripes new ≡ entry_stripes old
  pub iterated : LacksIterations new → ⊥

-- the volume keeps its length, the segments are as they were, and so is each keyslot outside the
-- set
pub record KeepsOthers (payload : Data) (named : ℕ → Type 0) (v w : List ℕ) : Type 0 where
  pub size : length w ≡ length v
  pub segments : (n : ℕ) → KeepsArea payload (Segment n) v w
  pub slots : (n : ℕ) → (named n → ⊥) → KeepsSlot payload n v w

-- the keyslot `n` has its area and its entry, whatever it answers
pub record KeepsEntry (payload : Data) (n : ℕ) (v w : List ℕ) : Type 0 where
  pub area : KeepsArea payload (Slot n) v w
  pub entry : (bytes : List ℕ) → IsEntry v n bytes ↔ IsEntry w n bytes

-- the volume keeps its length, the segments are as they were, and each keyslot outside the set has its area and
-- its entry
pub record KeepsEntries (payload : Data) (named : ℕ → Type 0) (v w : List ℕ) : Type 0 where
  pub size : length w ≡ length v
  pub segments : (n : ℕ) → KeepsArea payload (Segment n) v w
  pub slots : (n : ℕ) → (named n → ⊥) → KeepsEntry payload n v w
