-- When a volume is well formed, which areas it has, and what its faults are.
use Rattle.std.specs.Prelude.{◌≡◌, ℕ, ◌+◌, ◌<◌, ◌≤◌, List, [], ◌∷◌, length, codes, true, false, Some}
use Rattle.serde_json.specs.Data.{Data as Value}
use Rattle.luks_area.specs.declared.area.Area.{Area as TheArea}
use Rattle.luks_area.specs.declared.area.AreaName.{AreaName}
use Rattle.luks_area.specs.declared.area.AreaName.TheVariants.{Segment}
use Rattle.luks_area.specs.Area.{Fit, IsAreaFault, area_key}
use Rattle.luks_area.specs.First.{IsLeast}
use Rattle.luks_area.specs.Ranges.{part}
use Rattle.luks1_header.specs.declared.fault.HeadFault.{HeadFault}
use Rattle.luks1_header.specs.declared.luks1.Luks1.{Luks1}
use Rattle.luks1_header.specs.Faults.{head_key, IsLuks1Fault as IsLuks1HeadFault}
use Rattle.luks1_header.specs.Header1.{IsLuks1}
use Rattle.luks2_header.specs.Header2.{header_at, hdr_size, uuid_field, IsUuidField, IsUuidFault}
use Rattle.luks2_header.specs.Selection.{Choice, luks1, luks2, nothing, Chosen, IsSelectFault}
use Rattle.luks_rules.specs.declared.fault.MetaFault.{MetaFault}
use Rattle.luks_rules.specs.declared.fault.MetaFault.TheVariants as meta
use Rattle.luks_meta.specs.declared.meta.Meta.{Meta as Meta2}
use Rattle.luks_meta.specs.Accepted.{HasObject, IsMeta}
use Rattle.luks_meta.specs.Content.{area_len, content}
use Rattle.luks_meta.specs.MetaFault.{Json, IsMetaFault, meta_key}
use Rattle.luks_meta.specs.Reading.{decimal_in}
use Rattle.luks_meta.specs.Sizes.{has_segment_below, inside_at, keyslots_size, region_start}
use Rattle.luks_rules.specs.declared.table.Outer.TheVariants as outer
use Rattle.luks_rules.specs.declared.table.Section.TheVariants.{Segments}
use Rattle.luks_reading.specs.declared.check_fault.CheckFault.{CheckFault}
use Rattle.luks_reading.specs.declared.check_fault.CheckFault.TheVariants.{Head, Meta, Area, Device, Memory}
use Rattle.luks_reading.specs.declared.report.Data.{Data}
use Rattle.luks_reading.specs.declared.report.Data.TheVariants.{Here}
use Rattle.luks_reading.specs.Header.{json_at, NeedsMetadata}
use Rattle.luks_reading.specs.Layout1.{Luks1Area}
use Rattle.luks_reading.specs.Layout2.{Luks2Area}

-- the order of the faults: those of the header, of the metadata, of the areas
abbrev pub check_key : CheckFault → List ℕ
check_key (Head f) = 1 ∷ head_key f
check_key (Meta f) = 2 ∷ meta_key f
check_key (Area f) = 3 ∷ area_key f
check_key Device = 4 ∷ []
check_key Memory = 5 ∷ []

-- ---- LUKS1

-- the volume of `total` bytes whose first 592 bytes are `h` is a well formed LUKS1 volume: `h` is a
-- header, and all areas are inside and disjoint
pub record IsLuks1Volume (h : List ℕ) (payload : Data) (total : ℕ) : Type 0 where
  pub header : (d : Luks1) × IsLuks1 h d
  pub fit : Fit (Luks1Area h payload total) total

-- the faults of a volume of `total` bytes whose first 592 bytes are `h`, as a LUKS1 volume
abbrev pub IsLuks1Fault : List ℕ → Data → ℕ → CheckFault → Type 0
IsLuks1Fault h payload total (Head f) = IsLuks1HeadFault h f
IsLuks1Fault h payload total (Meta f) = ⊥
IsLuks1Fault h payload total (Area f) = IsAreaFault (Luks1Area h payload total) total f
IsLuks1Fault h payload total Device = ⊥
IsLuks1Fault h payload total Memory = ⊥

-- ---- LUKS2, of a copy with the binary header `b` and the JSON area `json`, in a volume of `total` bytes

-- no segment of the metadata `j`, in a JSON area of `len` bytes, begins before the end of the key areas' region
pub record SegmentsFollow (len : ℕ) (j : Value) : Type 0 where
  pub each : (n : ℕ) (d : Value) (bytes start : ℕ) → HasObject j Segments n d → keyslots_size j ≡ Some bytes
      → decimal_in (inside_at outer.Top (codes "offset") d) ≡ Some start → region_start len + bytes ≤ start

-- the copy's metadata `j` makes a well formed volume: it meets its rules, no segment begins before
-- the end of the key areas' region, and all areas are inside and disjoint
pub record IsLuks2Layout (b json : List ℕ) (payload : Data) (total : ℕ) (j : Value) : Type 0 where
  pub metadata : IsMeta json j
  pub segments : payload ≡ Here → SegmentsFollow (length json) j
  pub fit : Fit (Luks2Area j (hdr_size b) payload total) total

pub record IsLuks2Volume (b json : List ℕ) (payload : Data) (total : ℕ) : Type 0 where
  pub uuid : IsUuidField (uuid_field b)
  pub layout : (j : Value) × IsLuks2Layout b json payload total j

-- an area that the metadata names
pub record HasLuks2Area (b json : List ℕ) (payload : Data) (total : ℕ) (n : AreaName) (a : TheArea) : Type 0 where
  pub value : Value
  pub holds : Json json value
  pub area : Luks2Area value (hdr_size b) payload total n a

-- with the payload here, a segment begins before the end of the key areas' region
pub record HasSegmentBelow (json : List ℕ) (payload : Data) (n : ℕ) : Type 0 where
  pub value : Value
  pub holds : Json json value
  pub here : payload ≡ Here
  pub numbered : n < 32
  pub below : has_segment_below (length json) value n ≡ true

abbrev pub IsLuks2MetaFault : List ℕ → Data → MetaFault → Type 0
IsLuks2MetaFault json payload (meta.Region (Segment n)) = HasSegmentBelow json payload n
IsLuks2MetaFault json payload f = IsMetaFault json f

abbrev pub IsLuks2Fault : List ℕ → List ℕ → Data → ℕ → CheckFault → Type 0
IsLuks2Fault b json payload total (Head f) = IsUuidFault (uuid_field b) f
IsLuks2Fault b json payload total (Meta f) = IsLuks2MetaFault json payload f
IsLuks2Fault b json payload total (Area f) = IsAreaFault (HasLuks2Area b json payload total) total f
IsLuks2Fault b json payload total Device = ⊥
IsLuks2Fault b json payload total Memory = ⊥

-- ---- any volume

-- the faults of a volume of which nothing counts
abbrev pub IsOtherFault : List ℕ → CheckFault → Type 0
IsOtherFault v (Head f) = IsSelectFault v f
IsOtherFault v (Meta f) = ⊥
IsOtherFault v (Area f) = ⊥
IsOtherFault v Device = ⊥
IsOtherFault v Memory = ⊥

-- by what counts of the volume `v`: whether it is well formed, its areas, its faults
abbrev pub WellFormedAs : List ℕ → Data → Choice → Type 0
WellFormedAs v payload luks1 = IsLuks1Volume (part v 0 592) payload (length v)
WellFormedAs v payload (luks2 o copies) = IsLuks2Volume (header_at v o) (json_at v o) payload (length v)
WellFormedAs v payload nothing = ⊥

abbrev pub HasAreaAs : List ℕ → Data → Choice → AreaName → TheArea → Type 0
HasAreaAs v payload luks1 n a = Luks1Area (part v 0 592) payload (length v) n a
HasAreaAs v payload (luks2 o copies) n a = HasLuks2Area (header_at v o) (json_at v o) payload (length v) n a
HasAreaAs v payload nothing n a = ⊥

abbrev pub IsFaultAs : List ℕ → Data → Choice → CheckFault → Type 0
IsFaultAs v payload luks1 f = IsLuks1Fault (part v 0 592) payload (length v) f
IsFaultAs v payload (luks2 o copies) f = IsLuks2Fault (header_at v o) (json_at v o) payload (length v) f
IsFaultAs v payload nothing f = IsOtherFault v f

-- the volume `v` is well formed
pub record WellFormed (v : List ℕ) (payload : Data) : Type 0 where
  pub choice : Choice
  pub chosen : Chosen v choice
  pub formed : WellFormedAs v payload choice

-- the set of its areas, by name
pub record AreaOf (v : List ℕ) (payload : Data) (n : AreaName) (a : TheArea) : Type 0 where
  pub choice : Choice
  pub chosen : Chosen v choice
  pub area : HasAreaAs v payload choice n a

-- the set of its faults
pub record IsFault (v : List ℕ) (payload : Data) (f : CheckFault) : Type 0 where
  pub choice : Choice
  pub chosen : Chosen v choice
  pub fault : IsFaultAs v payload choice f

-- its first fault
abbrev pub First : List ℕ → Data → CheckFault → Type 0
First v payload f = IsLeast check_key (IsFault v payload) f

-- a refusal: the first fault, unless the device failed or memory was refused
abbrev pub IsCheckRefusal : List ℕ → Data → CheckFault → Type 0
IsCheckRefusal v payload Device = Unit {0}
IsCheckRefusal v payload Memory = NeedsMetadata v
IsCheckRefusal v payload f = First v payload f

-- `m` is the metadata of the JSON area
pub record HoldsMeta (json : List ℕ) (m : Meta2) : Type 0 where
  pub accepted : IsMeta json (content m)
  pub len : area_len m ≡ length json

-- neither the uuid nor the metadata of a LUKS2 copy has a fault of its own
pub record IsLuks2Faultless (b json : List ℕ) : Type 0 where
  pub uuid : (f : HeadFault) → IsUuidFault (uuid_field b) f → ⊥
  pub metadata : (f : MetaFault) → IsMetaFault json f → ⊥

-- `n` is the least segment that begins before the region's end
pub record IsFirstBelow (json : List ℕ) (payload : Data) (j : Value) (n : ℕ) : Type 0 where
  pub here : payload ≡ Here
  pub numbered : n < 32
  pub below : has_segment_below (length json) j n ≡ true
  pub first : (m : ℕ) → m < n → has_segment_below (length json) j m ≡ false
