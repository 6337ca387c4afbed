-- Why the header of a volume that is to be edited isn't read.
use Rattle.std.specs.Prelude.{List, ℕ, ⊤}
use Rattle.luks_reading.specs.declared.check_fault.CheckFault.TheVariants as checking
use Rattle.luks_reading.specs.declared.read_fault.ReadFault.{ReadFault}
use Rattle.luks_reading.specs.declared.read_fault.ReadFault.TheVariants as reading
use Rattle.luks_reading.specs.declared.report.Data.{Data}
use Rattle.luks_reading.specs.Checked.{First}
use Rattle.luks_reading.specs.Header.{NeedsMetadata}
use Rattle.luks_edit.specs.declared.edit_fault.EditFault.{EditFault}
use Rattle.luks_edit.specs.declared.edit_fault.EditFault.TheVariants as fault

-- the fault of reading the header as that of an edit
abbrev pub unread_edit : ReadFault → EditFault
unread_edit (reading.Head f) = fault.NotAccepted (checking.Head f)
unread_edit (reading.Meta f) = fault.NotAccepted (checking.Meta f)
unread_edit reading.Device = fault.Device
unread_edit reading.Memory = fault.Memory

-- the volume's first fault, unless the device failed or memory was refused
abbrev pub IsHeaderRefused : List ℕ → Data → EditFault → Type 0
IsHeaderRefused v payload (fault.NotAccepted f) = First v payload f
IsHeaderRefused v payload fault.Device = ⊤
IsHeaderRefused v payload fault.Memory = NeedsMetadata v
IsHeaderRefused v payload f = ⊥
