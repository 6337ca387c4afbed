-- A backup of a volume's header.
use Rattle.std.specs.Prelude.{◌≡◌, ℕ, ◌+◌, ◌*◌, ◌<◌, ◌≤◌, List, Some, length, slice_index}
use Rattle.serde_json.specs.Data.{Data as Value}
use Rattle.luks_area.specs.Ranges.{part, IsAt, SameBut}
use Rattle.luks_area.specs.declared.area.Area.{Area}
use Rattle.luks_area.specs.declared.area.AreaName.TheVariants.{Slot}
use Rattle.luks1_header.specs.Header1.{luks1_size, payload_offset_of}
use Rattle.luks2_header.specs.Header2.{header_at, hdr_size}
use Rattle.luks2_header.specs.Selection.{luks1, luks2, nothing, Choice, Chosen}
use Rattle.luks_meta.specs.MetaFault.{Json}
use Rattle.luks_meta.specs.Sizes.{keyslots_size}
use Rattle.luks_reading.specs.Header.{json_at}
use Rattle.luks_reading.specs.Layout1.{Luks1Area}
use Rattle.luks_reading.specs.declared.report.Data.{Data}
use Rattle.luks_reading.specs.declared.report.Data.TheVariants.{Elsewhere, Here}
use Rattle.luks_keeping.specs.Kept.{HasKept, IsKept}

-- `size` bytes hold the LUKS1 header `h`, all eight key areas and, where the payload is here, all that is
-- before it
pub record HoldsLuks1 (h : List ℕ) (payload : Data) (size : ℕ) : Type 0 where
  pub header : luks1_size ≤ size
  pub areas : (n : ℕ) (a : Area) → Luks1Area h Elsewhere 0 (Slot n) a → a.start + a.len ≤ size
  pub payload_follows : payload ≡ Here → payload_offset_of h * 512 ≤ size

-- and no fewer do
pub record IsLuks1Size (h : List ℕ) (payload : Data) (size : ℕ) : Type 0 where
  pub holds : HoldsLuks1 h payload size
  pub least : (other : ℕ) → HoldsLuks1 h payload other → size ≤ other

-- a header of `bytes` bytes, its second copy, and the region of the key areas that its metadata says
pub record IsLuks2Size (bytes : ℕ) (json : List ℕ) (size : ℕ) : Type 0 where
  pub value : Value
  pub holds : Json json value
  pub region : ℕ
  pub says : keyslots_size value ≡ Some region
  pub is : size ≡ 2 * bytes + region

-- the bytes of a backup, by what counts of the volume `v`
abbrev pub IsSizeAs : List ℕ → Data → Choice → ℕ → Type 0
IsSizeAs v payload luks1 size = IsLuks1Size (part v 0 luks1_size) payload size
IsSizeAs v payload (luks2 o copies) size = IsLuks2Size (hdr_size (header_at v o)) (json_at v o) size
IsSizeAs v payload nothing size = ⊥

pub record IsBackupSize (v : List ℕ) (payload : Data) (size : ℕ) : Type 0 where
  pub choice : Choice
  pub chosen : Chosen v choice
  pub is : IsSizeAs v payload choice size

-- `new` begins with the backup of the volume `v`: its header and its key areas at their places, zeros
-- between these; all behind is that of `old`
pub record IsBackup (v : List ℕ) (payload : Data) (old new : List ℕ) : Type 0 where
  pub choice : Choice
  pub chosen : Chosen v choice
  pub size : ℕ
  pub is_size : IsSizeAs v payload choice size
  pub within : size ≤ length new
  pub kept : HasKept v choice new
  pub zeros : (p : ℕ) → p < size → (IsKept v choice p → ⊥) → slice_index new p ≡ 0
  pub rest : SameBut (IsAt 0 size) old new
