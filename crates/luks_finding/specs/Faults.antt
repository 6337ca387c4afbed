-- Why a search ends, and how that is written.
use Rattle.std.specs.Prelude.{ℕ, List, Bool, true, false, codes, Result, Ok, Err}
use Rattle.luks_rules.specs.declared.fault.MetaFault.TheVariants as meta
use Rattle.luks_wider.specs.declared.fault.WideFault.{WideFault}
use Rattle.luks_wider.specs.declared.fault.WideFault.TheVariants as wide
use Rattle.luks_finding.specs.declared.find_fault.FindFault.{FindFault}
use Rattle.luks_finding.specs.declared.find_fault.FindFault.TheVariants as fault

-- the fault is the device's
abbrev pub is_find_failure : FindFault → Bool
is_find_failure fault.Memory = false
is_find_failure fault.Device = true

abbrev pub find_fault_text : FindFault → List ℕ
find_fault_text fault.Memory = codes "Memory"
find_fault_text fault.Device = codes "Device"

-- whether metadata that is refused by the fault has none: a failed allocation leaves it open
abbrev pub faulty : WideFault → Result Bool FindFault
faulty (wide.Meta meta.Memory) = Err fault.Memory
faulty f = Ok false
