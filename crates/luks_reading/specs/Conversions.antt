-- What a fault becomes in an outer fault type: the device's failure and a failed allocation stand for themselves.
use Rattle.luks1_header.specs.declared.fault.HeadFault.{HeadFault}
use Rattle.luks1_header.specs.declared.fault.HeadFault.TheVariants as head
use Rattle.luks_rules.specs.declared.fault.MetaFault.{MetaFault}
use Rattle.luks_rules.specs.declared.fault.MetaFault.TheVariants as meta
use Rattle.luks_slot.specs.declared.fault.SlotFault.{SlotFault}
use Rattle.luks_slot.specs.declared.fault.SlotFault.TheVariants as slot
use Rattle.luks_reading.specs.declared.check_fault.CheckFault.{CheckFault}
use Rattle.luks_reading.specs.declared.check_fault.CheckFault.TheVariants as checking
use Rattle.luks_reading.specs.declared.key_fault.KeyFault.{KeyFault}
use Rattle.luks_reading.specs.declared.key_fault.KeyFault.TheVariants as judging
use Rattle.luks_reading.specs.declared.open_fault.OpenFault.{OpenFault}
use Rattle.luks_reading.specs.declared.open_fault.OpenFault.TheVariants as opening
use Rattle.luks_reading.specs.declared.read_fault.ReadFault.{ReadFault}
use Rattle.luks_reading.specs.declared.read_fault.ReadFault.TheVariants as reading

-- the fault of a selection or a uuid as that of reading the header
abbrev pub head_unread : HeadFault → ReadFault
head_unread head.Device = reading.Device
head_unread head.Memory = reading.Memory
head_unread f = reading.Head f

-- the fault of the metadata as that of reading the header
abbrev pub meta_unread : MetaFault → ReadFault
meta_unread meta.Memory = reading.Memory
meta_unread f = reading.Meta f

-- the fault of reading the header as that of a check, of an opening, and of judging a key
abbrev pub unread_checked : ReadFault → CheckFault
unread_checked (reading.Head f) = checking.Head f
unread_checked (reading.Meta f) = checking.Meta f
unread_checked reading.Device = checking.Device
unread_checked reading.Memory = checking.Memory

abbrev pub unread_opened : ReadFault → OpenFault
unread_opened (reading.Head f) = opening.Head f
unread_opened (reading.Meta f) = opening.Meta f
unread_opened reading.Device = opening.Device
unread_opened reading.Memory = opening.Memory

abbrev pub unread_key : ReadFault → KeyFault
unread_key (reading.Head f) = judging.Head f
unread_key (reading.Meta f) = judging.Meta f
unread_key reading.Device = judging.Device
unread_key reading.Memory = judging.Memory

-- the fault of a keyslot's plan as that of an opening
abbrev pub slot_opened : SlotFault → OpenFault
slot_opened slot.Device = opening.Device
slot_opened slot.Memory = opening.Memory
slot_opened f = opening.Slot f
