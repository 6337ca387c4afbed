-- Which faults of reading a front are the device's.
use Rattle.std.specs.Prelude.{Bool, true, false}
use Rattle.luks_notes.specs.declared.front.FrontFault.{FrontFault}
use Rattle.luks_notes.specs.declared.front.FrontFault.TheVariants.{Device, Memory}

abbrev pub is_front_failure : FrontFault → Bool
is_front_failure Device = true
is_front_failure Memory = false
