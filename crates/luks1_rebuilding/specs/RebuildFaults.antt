-- The order of the faults of rebuilding a LUKS1 header, which of them are a device's, and which a field's.
use Rattle.std.specs.Prelude.{ℕ, List, [], ◌∷◌, Bool, true, false}
use Rattle.luks_area.specs.Area.{area_key}
use Rattle.luks1_header.specs.Faults.{field_key}
use Rattle.luks1_header.specs.declared.fault.HeadFault.{HeadFault}
use Rattle.luks1_header.specs.declared.fault.HeadFault.TheVariants as head
use Rattle.luks1_rebuilding.specs.declared.rebuild_fault.Rebuild1Fault.{Rebuild1Fault}
use Rattle.luks1_rebuilding.specs.declared.rebuild_fault.Rebuild1Fault.TheVariants.{Counts, Reencrypting, NoHeader, Text, KeyBytes, Iterations, TooSmall, Area, Device}

-- the rows of the table of faults, in their order
abbrev pub rebuild_row : Rebuild1Fault → ℕ
rebuild_row Counts = 1
rebuild_row Reencrypting = 2
rebuild_row NoHeader = 3
rebuild_row (Text t) = 4
rebuild_row KeyBytes = 5
rebuild_row Iterations = 6
rebuild_row TooSmall = 7
rebuild_row (Area f) = 8
rebuild_row Device = 9

-- the place of a fault among those of its row
abbrev pub rebuild_place : Rebuild1Fault → List ℕ
rebuild_place Counts = []
rebuild_place Reencrypting = []
rebuild_place NoHeader = []
rebuild_place (Text t) = field_key t ∷ []
rebuild_place KeyBytes = []
rebuild_place Iterations = []
rebuild_place TooSmall = []
rebuild_place (Area f) = area_key f
rebuild_place Device = []

-- the least key is that of the first fault
abbrev pub rebuild_key : Rebuild1Fault → List ℕ
rebuild_key f = rebuild_row f ∷ rebuild_place f

-- the fault is a device's
abbrev pub is_rebuild_failure : Rebuild1Fault → Bool
is_rebuild_failure Counts = false
is_rebuild_failure Reencrypting = false
is_rebuild_failure NoHeader = false
is_rebuild_failure (Text t) = false
is_rebuild_failure KeyBytes = false
is_rebuild_failure Iterations = false
is_rebuild_failure TooSmall = false
is_rebuild_failure (Area f) = false
is_rebuild_failure Device = true

-- the fault of a field, as it is answered
abbrev pub field_fault : HeadFault → Rebuild1Fault
field_fault (head.Text t) = Text t
field_fault head.KeyBytes = KeyBytes
field_fault f = Iterations
