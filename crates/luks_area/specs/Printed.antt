-- How the names of areas and the faults are written.
use Rattle.std.specs.Prelude.{ℕ, List, ◌++◌, codes}
use Rattle.std.specs.Fmt.{decimal}
use Rattle.luks_area.specs.declared.area.AreaName.{AreaName}
use Rattle.luks_area.specs.declared.area.AreaName.TheVariants.{Head1, Head2, Slot, Segment}
use Rattle.luks_area.specs.declared.area.AreaFault.{AreaFault}
use Rattle.luks_area.specs.declared.area.AreaFault.TheVariants.{Outside, Overlap}

abbrev pub name_text : AreaName → List ℕ
name_text Head1 = codes "Head1"
name_text Head2 = codes "Head2"
name_text (Slot n) = codes "Slot(" ++ decimal n ++ codes ")"
name_text (Segment n) = codes "Segment(" ++ decimal n ++ codes ")"

abbrev pub area_fault_text : AreaFault → List ℕ
area_fault_text (Outside n) = codes "Outside(" ++ name_text n ++ codes ")"
area_fault_text (Overlap m n) = codes "Overlap(" ++ name_text m ++ codes "," ++ name_text n ++ codes ")"

abbrev pub device_fault_text : List ℕ
device_fault_text = codes "Device"
