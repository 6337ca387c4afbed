-- How the faults of a whole volume are written: one that was met beneath is written as itself.
use Rattle.std.specs.Prelude.{ℕ, List, codes}
use Rattle.luks_area.specs.Printed.{area_fault_text}
use Rattle.luks1_header.specs.FaultTexts.{fault_text as head_fault_text}
use Rattle.luks_rules.specs.MetaFault.{fault_text as meta_fault_text}
use Rattle.luks_slot.specs.Fault.{fault_text as slot_fault_text}
use Rattle.luks_reading.specs.declared.check_fault.CheckFault.{CheckFault}
use Rattle.luks_reading.specs.declared.check_fault.CheckFault.TheVariants as checking
use Rattle.luks_reading.specs.declared.key_fault.KeyFault.{KeyFault}
use Rattle.luks_reading.specs.declared.key_fault.KeyFault.TheVariants as judging
use Rattle.luks_reading.specs.declared.open_fault.OpenFault.{OpenFault}
use Rattle.luks_reading.specs.declared.open_fault.OpenFault.TheVariants as opening
use Rattle.luks_reading.specs.declared.read_fault.ReadFault.{ReadFault}
use Rattle.luks_reading.specs.declared.read_fault.ReadFault.TheVariants as reading

abbrev pub read_fault_text : ReadFault → List ℕ
read_fault_text (reading.Head f) = head_fault_text f
read_fault_text (reading.Meta f) = meta_fault_text f
read_fault_text reading.Device = codes "Device"
read_fault_text reading.Memory = codes "Memory"

abbrev pub check_fault_text : CheckFault → List ℕ
check_fault_text (checking.Head f) = head_fault_text f
check_fault_text (checking.Meta f) = meta_fault_text f
check_fault_text (checking.Area f) = area_fault_text f
check_fault_text checking.Device = codes "Device"
check_fault_text checking.Memory = codes "Memory"

abbrev pub open_fault_text : OpenFault → List ℕ
open_fault_text (opening.Head f) = head_fault_text f
open_fault_text (opening.Meta f) = meta_fault_text f
open_fault_text opening.NoSuchSlot = codes "NoSuchSlot"
open_fault_text opening.SlotFree = codes "SlotFree"
open_fault_text opening.Outside = codes "Outside"
open_fault_text (opening.Slot f) = slot_fault_text f
open_fault_text opening.Device = codes "Device"
open_fault_text opening.Memory = codes "Memory"

abbrev pub key_fault_text : KeyFault → List ℕ
key_fault_text (judging.Head f) = head_fault_text f
key_fault_text (judging.Meta f) = meta_fault_text f
key_fault_text judging.NoSuchDigest = codes "NoSuchDigest"
key_fault_text judging.KeyLength = codes "KeyLength"
key_fault_text judging.Hash = codes "Hash"
key_fault_text judging.Device = codes "Device"
key_fault_text judging.Memory = codes "Memory"
