-- The order of the faults of a conversion, and which of them are a device's.
use Rattle.std.specs.Prelude.{ℕ, List, [], ◌∷◌, Bool, true, false}
use Rattle.luks_reading.specs.Checked.{check_key}
use Rattle.luks_reading.specs.declared.check_fault.CheckFault.{CheckFault}
use Rattle.luks_reading.specs.declared.check_fault.CheckFault.TheVariants as check
use Rattle.luks_converting.specs.declared.convert_fault.ConvertFault.{ConvertFault}
use Rattle.luks_converting.specs.declared.convert_fault.ConvertFault.TheVariants.{NotAccepted, NotLuks1, TooSmall, NoRoom, MetadataFull, RandomLength, Memory, Device}

-- the rows of the table of faults, in their order
abbrev pub convert_row : ConvertFault → ℕ
convert_row (NotAccepted f) = 1
convert_row NotLuks1 = 2
convert_row TooSmall = 3
convert_row NoRoom = 4
convert_row MetadataFull = 5
convert_row RandomLength = 6
convert_row Memory = 7
convert_row Device = 8

-- the place of a fault among those of its row
abbrev pub convert_place : ConvertFault → List ℕ
convert_place (NotAccepted f) = check_key f
convert_place f = []

-- the least key is that of the first fault
abbrev pub convert_key : ConvertFault → List ℕ
convert_key f = convert_row f ∷ convert_place f

-- the fault is a device's
abbrev pub is_convert_failure : ConvertFault → Bool
is_convert_failure Device = true
is_convert_failure f = false

-- what the source's check answers, as the fault of a conversion
abbrev pub checked_convert : CheckFault → ConvertFault
checked_convert check.Device = Device
checked_convert check.Memory = Memory
checked_convert f = NotAccepted f
