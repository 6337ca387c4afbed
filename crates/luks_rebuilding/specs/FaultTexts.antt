-- How the faults of rebuilding are written: one of the areas as itself.
use Rattle.std.specs.Prelude.{ℕ, List, codes}
use Rattle.luks_area.specs.Printed.{area_fault_text}
use Rattle.luks_rebuilding.specs.declared.rebuild_fault.RebuildFault.{RebuildFault}
use Rattle.luks_rebuilding.specs.declared.rebuild_fault.RebuildFault.TheVariants.{Counts, NoMetadata, Area, TooSmall, Uuid, RandomLength, Memory, Device}

abbrev pub rebuild_fault_text : RebuildFault → List ℕ
rebuild_fault_text Counts = codes "Counts"
rebuild_fault_text NoMetadata = codes "NoMetadata"
rebuild_fault_text (Area f) = area_fault_text f
rebuild_fault_text TooSmall = codes "TooSmall"
rebuild_fault_text Uuid = codes "Uuid"
rebuild_fault_text RandomLength = codes "RandomLength"
rebuild_fault_text Memory = codes "Memory"
rebuild_fault_text Device = codes "Device"
