-- How the faults of a conversion are written: one of the volume's check as itself.
use Rattle.std.specs.Prelude.{ℕ, List, codes}
use Rattle.luks_reading.specs.FaultTexts.{check_fault_text}
use Rattle.luks_converting.specs.declared.convert_fault.ConvertFault.{ConvertFault}
use Rattle.luks_converting.specs.declared.convert_fault.ConvertFault.TheVariants.{NotAccepted, NotLuks1, TooSmall, NoRoom, MetadataFull, RandomLength, Memory, Device}

abbrev pub convert_fault_text : ConvertFault → List ℕ
convert_fault_text (NotAccepted f) = check_fault_text f
convert_fault_text NotLuks1 = codes "NotLuks1"
convert_fault_text TooSmall = codes "TooSmall"
convert_fault_text NoRoom = codes "NoRoom"
convert_fault_text MetadataFull = codes "MetadataFull"
convert_fault_text RandomLength = codes "RandomLength"
convert_fault_text Memory = codes "Memory"
convert_fault_text Device = codes "Device"
