-- Which faults are the device's.
use Rattle.std.specs.Prelude.{Bool, true, false}
use Rattle.luks_reading.specs.declared.check_fault.CheckFault.{CheckFault}
use Rattle.luks_reading.specs.declared.check_fault.CheckFault.TheVariants as checking
use Rattle.luks_reading.specs.declared.open_fault.OpenFault.{OpenFault}
use Rattle.luks_reading.specs.declared.open_fault.OpenFault.TheVariants as opening
use Rattle.luks_reading.specs.declared.read_fault.ReadFault.{ReadFault}
use Rattle.luks_reading.specs.declared.read_fault.ReadFault.TheVariants as reading

abbrev pub is_read_failure : ReadFault → Bool
is_read_failure (reading.Head f) = false
is_read_failure (reading.Meta f) = false
is_read_failure reading.Device = true
is_read_failure reading.Memory = false

abbrev pub is_check_failure : CheckFault → Bool
is_check_failure (checking.Head f) = false
is_check_failure (checking.Meta f) = false
is_check_failure (checking.Area f) = false
is_check_failure checking.Device = true
is_check_failure checking.Memory = false

abbrev pub is_open_failure : OpenFault → Bool
is_open_failure (opening.Head f) = false
is_open_failure (opening.Meta f) = false
is_open_failure opening.NoSuchSlot = false
is_open_failure opening.SlotFree = false
is_open_failure opening.Outside = false
is_open_failure (opening.Slot f) = false
is_open_failure opening.Device = true
is_open_failure opening.Memory = false

-- the fault is the volume's own: neither did the device fail nor was memory refused
abbrev pub is_own : OpenFault → Bool
is_own opening.Device = false
is_own opening.Memory = false
is_own f = true
