-- The texts of the faults, as the program prints them.
use Rattle.std.specs.Prelude.{ℕ, List, ◌++◌, codes}
use Rattle.std.specs.Fmt.{decimal}
use Rattle.luks1_header.specs.declared.fault.HeadFault.{HeadFault}
use Rattle.luks1_header.specs.declared.fault.HeadFault.TheVariants as fault
use Rattle.luks1_header.specs.declared.fault.TextField.{TextField}
use Rattle.luks1_header.specs.declared.fault.TextField.TheVariants as field
use Rattle.luks1_header.specs.declared.fault.IterationsOf.{IterationsOf}
use Rattle.luks1_header.specs.declared.fault.IterationsOf.TheVariants as of

-- a field of text by its name in the standard
abbrev pub field_text : TextField → List ℕ
field_text field.CipherName = codes "cipher-name"
field_text field.CipherMode = codes "cipher-mode"
field_text field.HashSpec = codes "hash-spec"
field_text field.Uuid = codes "uuid"

-- `Slot(2)`, `Digest`
abbrev pub of_text : IterationsOf → List ℕ
of_text (of.Slot n) = codes "Slot(" ++ decimal n ++ codes ")"
of_text of.Digest = codes "Digest"

-- the fault as it is printed: `Text(cipher-name)`, `Iterations(Slot(2))`
abbrev pub fault_text : HeadFault → List ℕ
fault_text fault.TooShort = codes "TooShort"
fault_text fault.NotLuks = codes "NotLuks"
fault_text fault.Version = codes "Version"
fault_text fault.NoSoundCopy = codes "NoSoundCopy"
fault_text (fault.Text t) = codes "Text(" ++ field_text t ++ codes ")"
fault_text fault.Uuid = codes "Uuid"
fault_text (fault.SlotState n) = codes "SlotState(" ++ decimal n ++ codes ")"
fault_text fault.KeyBytes = codes "KeyBytes"
fault_text (fault.Stripes n) = codes "Stripes(" ++ decimal n ++ codes ")"
fault_text (fault.Iterations o) = codes "Iterations(" ++ of_text o ++ codes ")"
fault_text fault.Device = codes "Device"
fault_text fault.Memory = codes "Memory"
