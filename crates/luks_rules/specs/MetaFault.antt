-- The faults of a JSON area, and their order: by row, among paths by the order of their bytes,
-- among objects by number.
use Rattle.std.specs.Fmt.{decimal}
use Rattle.std.specs.Prelude.{codes, ◌++◌, ◌≡◌, ℕ, ◌<◌, List, [], ◌∷◌, length, true, false}
use Rattle.serde_json.specs.Data.{Data}
use Rattle.serde_json.specs.Written.{has_float}
use Rattle.arrayvec.specs.declared.array_string.ArrayString.{ArrayString}
use Rattle.luks_area.specs.Area.{name_key}
use Rattle.luks_area.specs.Printed.{name_text}
use Rattle.luks_area.specs.declared.area.AreaName.TheVariants.{Head1, Head2, Slot, Segment}
use Rattle.luks_json.specs.declared.fault.JsonFault.{JsonFault}
use Rattle.luks_json.specs.declared.fault.JsonFault.TheVariants as json
use Rattle.luks_rules.specs.declared.fault.MetaFault.{MetaFault}
use Rattle.luks_rules.specs.declared.fault.MetaFault.TheVariants as fault
use Rattle.luks_rules.specs.declared.place.Place.{Place}
use Rattle.luks_rules.specs.declared.place.Test.{Test}
use Rattle.luks_rules.specs.declared.place.Test.TheVariants as test
pub use Rattle.luks_json.specs.AreaText.{JsonText, Json, IsBadJson}
use Rattle.luks_rules.specs.Faults.{IsFaulty, IsPlace, has_fault, place_path}
use Rattle.luks_rules.specs.Sizes.{has_other_size, has_small_area, has_slot_outside}

-- a place with the path where the test finds a fault
pub record HasPath (t : Test) (j : Data) (path : List ℕ) : Type 0 where
  pub place : Place
  pub faulty : IsFaulty t j place
  pub is : path ≡ place_path place

-- the faults of a value in an area of `len` bytes
abbrev pub IsDataFault : ℕ → Data → MetaFault → Type 0
IsDataFault len j fault.JsonArea = ⊥
IsDataFault len j fault.BadJson = ⊥
IsDataFault len j fault.NotWhole = has_float j ≡ true
IsDataFault len j (fault.Shape path) = HasPath test.Shape j path.bytes
IsDataFault len j (fault.Kind path) = HasPath test.Kind j path.bytes
IsDataFault len j (fault.NoSuchName path) = HasPath test.NoSuchName j path.bytes
IsDataFault len j (fault.Assigned path) = HasPath test.Assigned j path.bytes
IsDataFault len j fault.Sizes = has_other_size len j ≡ true
IsDataFault len j (fault.AreaTooSmall n) = (n < 32) × (has_small_area j n ≡ true)
IsDataFault len j (fault.Region Head1) = ⊥
IsDataFault len j (fault.Region Head2) = ⊥
IsDataFault len j (fault.Region (Slot n)) = (n < 32) × (has_slot_outside len j n ≡ true)
IsDataFault len j (fault.Region (Segment n)) = ⊥
IsDataFault len j fault.Memory = ⊥

-- a fault of the value that the area holds
pub record HasDataFault (area : List ℕ) (f : MetaFault) : Type 0 where
  pub value : Data
  pub json : Json area value
  pub fault : IsDataFault (length area) value f

-- the faults of an area
abbrev pub IsMetaFault : List ℕ → MetaFault → Type 0
IsMetaFault area fault.JsonArea = (text : List ℕ) → JsonText area text → ⊥
IsMetaFault area fault.BadJson = IsBadJson area
IsMetaFault area fault.NotWhole = HasDataFault area fault.NotWhole
IsMetaFault area (fault.Shape path) = HasDataFault area (fault.Shape path)
IsMetaFault area (fault.Kind path) = HasDataFault area (fault.Kind path)
IsMetaFault area (fault.NoSuchName path) = HasDataFault area (fault.NoSuchName path)
IsMetaFault area (fault.Assigned path) = HasDataFault area (fault.Assigned path)
IsMetaFault area fault.Sizes = HasDataFault area fault.Sizes
IsMetaFault area (fault.AreaTooSmall n) = HasDataFault area (fault.AreaTooSmall n)
IsMetaFault area (fault.Region name) = HasDataFault area (fault.Region name)
IsMetaFault area fault.Memory = ⊥

abbrev pub meta_row : MetaFault → ℕ
meta_row fault.JsonArea = 1
meta_row fault.BadJson = 2
meta_row fault.NotWhole = 3
meta_row (fault.Shape path) = 4
meta_row (fault.Kind path) = 5
meta_row (fault.NoSuchName path) = 6
meta_row (fault.Assigned path) = 7
meta_row fault.Sizes = 8
meta_row (fault.AreaTooSmall n) = 9
meta_row (fault.Region name) = 10
meta_row fault.Memory = 11

abbrev pub meta_place : MetaFault → List ℕ
meta_place fault.JsonArea = []
meta_place fault.BadJson = []
meta_place fault.NotWhole = []
meta_place (fault.Shape path) = path.bytes
meta_place (fault.Kind path) = path.bytes
meta_place (fault.NoSuchName path) = path.bytes
meta_place (fault.Assigned path) = path.bytes
meta_place fault.Sizes = []
meta_place (fault.AreaTooSmall n) = n ∷ []
meta_place (fault.Region name) = name_key name
meta_place fault.Memory = []

abbrev pub meta_key : MetaFault → List ℕ
meta_key f = meta_row f ∷ meta_place f

abbrev pub test_row : Test → ℕ
test_row test.Shape = 4
test_row test.Kind = 5
test_row test.NoSuchName = 6
test_row test.Assigned = 7

abbrev pub fault_of : Test → ArrayString 32 → MetaFault
fault_of test.Shape path = fault.Shape path
fault_of test.Kind path = fault.Kind path
fault_of test.NoSuchName path = fault.NoSuchName path
fault_of test.Assigned path = fault.Assigned path

-- no test finds a fault in a value that is in an area of `len` bytes
pub record IsFaultless (len : ℕ) (j : Data) : Type 0 where
  pub whole : has_float j ≡ false
  pub places : (t : Test) (p : Place) → IsPlace p → has_fault t j p ≡ false
  pub sizes : has_other_size len j ≡ false
  pub areas : (n : ℕ) → n < 32 → has_small_area j n ≡ false
  pub region : (n : ℕ) → n < 32 → has_slot_outside len j n ≡ false

-- what is answered where no value was read
abbrev pub of_json : JsonFault → MetaFault
of_json json.JsonArea = fault.JsonArea
of_json json.BadJson = fault.BadJson
of_json json.Memory = fault.Memory

-- how a fault is written
abbrev pub fault_text : MetaFault → List ℕ
fault_text fault.JsonArea = codes "JsonArea"
fault_text fault.BadJson = codes "BadJson"
fault_text fault.NotWhole = codes "NotWhole"
fault_text (fault.Shape path) = codes "Shape(" ++ path.bytes ++ codes ")"
fault_text (fault.Kind path) = codes "Kind(" ++ path.bytes ++ codes ")"
fault_text (fault.NoSuchName path) = codes "NoSuchName(" ++ path.bytes ++ codes ")"
fault_text (fault.Assigned path) = codes "Assigned(" ++ path.bytes ++ codes ")"
fault_text fault.Sizes = codes "Sizes"
fault_text (fault.AreaTooSmall n) = codes "AreaTooSmall(" ++ decimal n ++ codes ")"
fault_text (fault.Region name) = codes "Region(" ++ name_text name ++ codes ")"
fault_text fault.Memory = codes "Memory"
