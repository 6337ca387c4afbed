-- How the faults of rebuilding are written: one of the areas as itself.
use Rattle.std.specs.Prelude.{ℕ, List, ◌++◌, codes}
use Rattle.luks_area.specs.Printed.{area_fault_text}
use Rattle.luks1_header.specs.FaultTexts.{field_text}
use Rattle.luks1_rebuilding.specs.declared.rebuild_fault.Rebuild1Fault.{Rebuild1Fault}
use Rattle.luks1_rebuilding.specs.declared.rebuild_fault.Rebuild1Fault.TheVariants.{Counts, Reencrypting, NoHeader, Text, KeyBytes, Iterations, TooSmall, Area, Device}

abbrev pub rebuild_fault_text : Rebuild1Fault → List ℕ
rebuild_fault_text Counts = codes "Counts"
rebuild_fault_text Reencrypting = codes "Reencrypting"
rebuild_fault_text NoHeader = codes "NoHeader"
rebuild_fault_text (Text t) = codes "Text(" ++ field_text t ++ codes ")"
rebuild_fault_text KeyBytes = codes "KeyBytes"
rebuild_fault_text Iterations = codes "Iterations(Digest)"
rebuild_fault_text TooSmall = codes "TooSmall"
rebuild_fault_text (Area f) = area_fault_text f
rebuild_fault_text Device = codes "Device"
