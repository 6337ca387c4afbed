-- The order of the faults of rebuilding, and which of them are a device's.
use Rattle.std.specs.Prelude.{ℕ, List, [], ◌∷◌, Bool, true, false}
use Rattle.luks_area.specs.Area.{area_key}
use Rattle.luks_rebuilding.specs.declared.rebuild_fault.RebuildFault.{RebuildFault}
use Rattle.luks_rebuilding.specs.declared.rebuild_fault.RebuildFault.TheVariants.{Counts, NoMetadata, Area, TooSmall, Uuid, RandomLength, Memory, Device}

-- the rows of the table of faults, in their order
abbrev pub rebuild_row : RebuildFault → ℕ
rebuild_row Counts = 1
rebuild_row NoMetadata = 2
rebuild_row (Area f) = 3
rebuild_row TooSmall = 4
rebuild_row Uuid = 5
rebuild_row RandomLength = 6
rebuild_row Memory = 7
rebuild_row Device = 8

-- the place of a fault among those of its row
abbrev pub rebuild_place : RebuildFault → List ℕ
rebuild_place Counts = []
rebuild_place NoMetadata = []
rebuild_place (Area f) = area_key f
rebuild_place TooSmall = []
rebuild_place Uuid = []
rebuild_place RandomLength = []
rebuild_place Memory = []
rebuild_place Device = []

-- the least key is that of the first fault
abbrev pub rebuild_key : RebuildFault → List ℕ
rebuild_key f = rebuild_row f ∷ rebuild_place f

-- the fault is a device's
abbrev pub is_rebuild_failure : RebuildFault → Bool
is_rebuild_failure Counts = false
is_rebuild_failure NoMetadata = false
is_rebuild_failure (Area f) = false
is_rebuild_failure TooSmall = false
is_rebuild_failure Uuid = false
is_rebuild_failure RandomLength = false
is_rebuild_failure Memory = false
is_rebuild_failure Device = true
