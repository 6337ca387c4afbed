-- How the faults of an edit, and of a list of them, are written.
use Rattle.std.specs.Prelude.{ℕ, List, codes}
use Rattle.luks_rules.specs.MetaFault.{fault_text as meta_fault_text}
use Rattle.luks_slot.specs.Fault.{fault_text as slot_fault_text}
use Rattle.luks_reading.specs.FaultTexts.{check_fault_text}
use Rattle.luks_edit.specs.declared.edit_fault.EditFault.{EditFault}
use Rattle.luks_edit.specs.declared.edit_fault.EditFault.TheVariants as edit
use Rattle.luks_edit.specs.declared.edit_fault.RunFault.{RunFault}
use Rattle.luks_edit.specs.declared.edit_fault.RunFault.TheVariants as run

abbrev pub edit_fault_text : EditFault → List ℕ
edit_fault_text (edit.NotAccepted f) = check_fault_text f
edit_fault_text edit.Requirements = codes "Requirements"
edit_fault_text edit.NoSuchSlot = codes "NoSuchSlot"
edit_fault_text edit.SameSlot = codes "SameSlot"
edit_fault_text edit.Locked = codes "Locked"
edit_fault_text edit.KeyLength = codes "KeyLength"
edit_fault_text edit.WrongKey = codes "WrongKey"
edit_fault_text (edit.Slot f) = slot_fault_text f
edit_fault_text edit.SlotTaken = codes "SlotTaken"
edit_fault_text edit.NoFreeSlot = codes "NoFreeSlot"
edit_fault_text edit.NoRoom = codes "NoRoom"
edit_fault_text edit.LastSlot = codes "LastSlot"
edit_fault_text edit.Iterations = codes "Iterations"
edit_fault_text edit.Argon2 = codes "Argon2"
edit_fault_text edit.BadLabel = codes "BadLabel"
edit_fault_text edit.NoSuchToken = codes "NoSuchToken"
edit_fault_text edit.TokenTaken = codes "TokenTaken"
edit_fault_text edit.NoFreeToken = codes "NoFreeToken"
edit_fault_text edit.UnreadableToken = codes "UnreadableToken"
edit_fault_text edit.BadUuid = codes "BadUuid"
edit_fault_text (edit.BadToken f) = meta_fault_text f
edit_fault_text edit.SeqExhausted = codes "SeqExhausted"
edit_fault_text edit.MetadataFull = codes "MetadataFull"
edit_fault_text edit.RandomLength = codes "RandomLength"
edit_fault_text edit.Memory = codes "Memory"
edit_fault_text edit.Device = codes "Device"

abbrev pub run_fault_text : RunFault → List ℕ
run_fault_text run.Memory = codes "Memory"
