-- The faults of metadata in which something is under way, and their order: by row, among paths by the order of their bytes, among objects by number.
use Rattle.std.specs.Prelude.{codes, ◌++◌, ◌≡◌, ℕ, ◌<◌, ◌≤◌, List, ◌∷◌, length, Bool, true, false, ◌&&◌, not}
use Rattle.serde_json.specs.Data.{Data, depth}
use Rattle.serde_json.specs.Read.{max_depth}
use Rattle.serde_json.specs.Written.{has_float}
use Rattle.luks_area.specs.declared.area.AreaName.TheVariants.{Head1, Head2, Slot, Segment}
use Rattle.luks_rules.specs.declared.fault.MetaFault.{MetaFault}
use Rattle.luks_rules.specs.declared.fault.MetaFault.TheVariants as fault
use Rattle.luks_rules.specs.declared.place.Test.{Test}
use Rattle.luks_rules.specs.declared.place.Test.TheVariants as test
use Rattle.luks_json.specs.AreaText.{IsBadJson, Json, JsonText}
use Rattle.luks_rules.specs.MetaFault.{fault_text, meta_key}
use Rattle.luks_rules.specs.Sizes.{has_other_size, has_slot_outside, has_small_area}
use Rattle.luks_underway.specs.Kinds.{has_reencrypt}
use Rattle.luks_contradictions.specs.Contradicted.{ContradictsAt}
use Rattle.luks_wider.specs.Places.{has_wide_fault, HasWidePath, IsWidePlace}
use Rattle.luks_wider.specs.declared.fault.WideFault.{WideFault}
use Rattle.luks_wider.specs.declared.fault.WideFault.TheVariants.{Meta, UnderWay}
use Rattle.luks_wider.specs.declared.place.WidePlace.{WidePlace}

-- a keyslot that keeps a key has an area with fewer bytes than the sectors of its stripes
abbrev pub has_small_key_area : Data → ℕ → Bool
has_small_key_area j n = has_small_area j n && not (has_reencrypt j n)

-- the faults of a value in an area of `len` bytes, except for what contradicts itself
abbrev pub IsWideDataFault : ℕ → Data → MetaFault → Type 0
IsWideDataFault len j fault.JsonArea = ⊥
IsWideDataFault len j fault.BadJson = ⊥
IsWideDataFault len j fault.NotWhole = has_float j ≡ true
IsWideDataFault len j (fault.Shape path) = HasWidePath test.Shape j path.bytes
IsWideDataFault len j (fault.Kind path) = HasWidePath test.Kind j path.bytes
IsWideDataFault len j (fault.NoSuchName path) = HasWidePath test.NoSuchName j path.bytes
IsWideDataFault len j (fault.Assigned path) = HasWidePath test.Assigned j path.bytes
IsWideDataFault len j fault.Sizes = has_other_size len j ≡ true
IsWideDataFault len j (fault.AreaTooSmall n) = (n < 32) × (has_small_key_area j n ≡ true)
IsWideDataFault len j (fault.Region Head1) = ⊥
IsWideDataFault len j (fault.Region Head2) = ⊥
IsWideDataFault len j (fault.Region (Slot n)) = (n < 32) × (has_slot_outside len j n ≡ true)
IsWideDataFault len j (fault.Region (Segment n)) = ⊥
IsWideDataFault len j fault.Memory = ⊥

-- a fault of the value that the area holds, and the faults of an area
pub record HasWideDataFault (area : List ℕ) (f : MetaFault) : Type 0 where
  pub value : Data
  pub json : Json area value
  pub fault : IsWideDataFault (length area) value f

abbrev pub IsWideMetaFault : List ℕ → MetaFault → Type 0
IsWideMetaFault area fault.JsonArea = (text : List ℕ) → JsonText area text → ⊥
IsWideMetaFault area fault.BadJson = IsBadJson area
IsWideMetaFault area fault.NotWhole = HasWideDataFault area fault.NotWhole
IsWideMetaFault area (fault.Shape path) = HasWideDataFault area (fault.Shape path)
IsWideMetaFault area (fault.Kind path) = HasWideDataFault area (fault.Kind path)
IsWideMetaFault area (fault.NoSuchName path) = HasWideDataFault area (fault.NoSuchName path)
IsWideMetaFault area (fault.Assigned path) = HasWideDataFault area (fault.Assigned path)
IsWideMetaFault area fault.Sizes = HasWideDataFault area fault.Sizes
IsWideMetaFault area (fault.AreaTooSmall n) = HasWideDataFault area (fault.AreaTooSmall n)
IsWideMetaFault area (fault.Region name) = HasWideDataFault area (fault.Region name)
IsWideMetaFault area fault.Memory = ⊥

-- no test finds a fault in a value that is in an area of `len` bytes
pub record IsWideFaultless (len : ℕ) (j : Data) : Type 0 where
  pub whole : has_float j ≡ false
  pub places : (t : Test) (p : WidePlace) → IsWidePlace j p → has_wide_fault t j p ≡ false
  pub sizes : has_other_size len j ≡ false
  pub areas : (n : ℕ) → n < 32 → has_small_key_area j n ≡ false
  pub region : (n : ℕ) → n < 32 → has_slot_outside len j n ≡ false

-- and it nests no deeper than a JSON text that is read: what a value keeps that was read
pub record IsWideHeld (len : ℕ) (j : Data) : Type 0 where
  pub nests : depth j ≤ max_depth
  pub faultless : IsWideFaultless len j

-- what is under way in the value that the area holds contradicts itself at the path
pub record HasContradiction (area path : List ℕ) : Type 0 where
  pub value : Data
  pub json : Json area value
  pub at : ContradictsAt value path

-- the faults of an area in which something is under way
abbrev pub IsUnderWayFault : List ℕ → WideFault → Type 0
IsUnderWayFault area (Meta f) = IsWideMetaFault area f
IsUnderWayFault area (UnderWay path) = HasContradiction area path.bytes

-- what is answered where memory was refused
abbrev pub no_memory : WideFault
no_memory = Meta fault.Memory

-- the order of the faults: those of `MetaFault` by theirs, then what contradicts itself
abbrev pub wide_key : WideFault → List ℕ
wide_key (Meta f) = meta_key f
wide_key (UnderWay path) = 12 ∷ path.bytes

-- how a fault is written
abbrev pub wide_fault_text : WideFault → List ℕ
wide_fault_text (Meta f) = fault_text f
wide_fault_text (UnderWay path) = codes "UnderWay(" ++ path.bytes ++ codes ")"
