-- The faults of the wider reading: what they become, and how they are written.
use Rattle.std.specs.Prelude.{ℕ, List, [], ◌∷◌, codes, Bool, false, true}
use Rattle.luks_rules.specs.declared.fault.MetaFault.{MetaFault}
use Rattle.luks_rules.specs.declared.fault.MetaFault.TheVariants as meta
use Rattle.luks_reading.specs.declared.read_fault.ReadFault.TheVariants as reading
use Rattle.luks_reading.specs.Answer.{open_key}
use Rattle.luks_reading.specs.Failures.{is_open_failure, is_own, is_read_failure}
use Rattle.luks_reading.specs.FaultTexts.{open_fault_text, read_fault_text}
use Rattle.luks_wider.specs.WideFaults.{wide_fault_text}
use Rattle.luks_wider.specs.declared.fault.WideFault.{WideFault}
use Rattle.luks_wider.specs.declared.fault.WideFault.TheVariants as wide
use Rattle.luks_wide_reading.specs.declared.open_fault.WideOpenFault.{WideOpenFault}
use Rattle.luks_wide_reading.specs.declared.open_fault.WideOpenFault.TheVariants.{Open, NoKey}
use Rattle.luks_wide_reading.specs.declared.read_fault.WideReadFault.{WideReadFault}
use Rattle.luks_wide_reading.specs.declared.read_fault.WideReadFault.TheVariants.{Read, Underway}

-- ---- reading

-- the fault of metadata in which something is under way: a failed allocation stands for itself
abbrev pub underway_unread : WideFault → MetaFault → WideReadFault
underway_unread (wide.Meta meta.Memory) narrow = Read reading.Memory
underway_unread f narrow = Underway f narrow

-- the device failed
abbrev pub is_wide_read_failure : WideReadFault → Bool
is_wide_read_failure (Read f) = is_read_failure f
is_wide_read_failure (Underway f narrow) = false

abbrev pub wide_read_text : WideReadFault → List ℕ
wide_read_text (Read f) = read_fault_text f
wide_read_text (Underway f narrow) = wide_fault_text f

-- ---- opening

-- the order of the refusals of a keyslot: that it holds no key follows its being there
abbrev pub wide_open_key : WideOpenFault → List ℕ
wide_open_key (Open f) = open_key f
wide_open_key NoKey = 4 ∷ []

abbrev pub is_wide_open_failure : WideOpenFault → Bool
is_wide_open_failure (Open f) = is_open_failure f
is_wide_open_failure NoKey = false

-- the fault is the volume's own: neither did the device fail nor was memory refused
abbrev pub is_wide_own : WideOpenFault → Bool
is_wide_own (Open f) = is_own f
is_wide_own NoKey = true

abbrev pub wide_open_text : WideOpenFault → List ℕ
wide_open_text (Open f) = open_fault_text f
wide_open_text NoKey = codes "NoKey"
