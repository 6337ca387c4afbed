-- The order of an edit's faults, and which of them is the device's.
use Rattle.std.specs.Prelude.{ℕ, List, [], ◌∷◌, Bool, true, false}
use Rattle.luks_rules.specs.MetaFault.{meta_key}
use Rattle.luks_reading.specs.Answer.{slot_row}
use Rattle.luks_reading.specs.Checked.{check_key}
use Rattle.luks_edit.specs.declared.edit_fault.EditFault.{EditFault}
use Rattle.luks_edit.specs.declared.edit_fault.EditFault.TheVariants.{NotAccepted, Requirements, NoSuchSlot, SameSlot, Locked, KeyLength, WrongKey, Slot, SlotTaken, NoFreeSlot, NoRoom, LastSlot, Iterations, Argon2, BadLabel, NoSuchToken, TokenTaken, NoFreeToken, UnreadableToken, BadUuid, BadToken, SeqExhausted, MetadataFull, RandomLength, Memory, Device}

-- the rows of the table of faults, in their order
abbrev pub edit_row : EditFault → ℕ
edit_row (NotAccepted f) = 0
edit_row Requirements = 1
edit_row NoSuchSlot = 2
edit_row SameSlot = 3
edit_row Locked = 4
edit_row KeyLength = 5
edit_row WrongKey = 6
edit_row (Slot s) = 7
edit_row SlotTaken = 8
edit_row NoFreeSlot = 9
edit_row NoRoom = 10
edit_row LastSlot = 11
edit_row Iterations = 12
edit_row Argon2 = 13
edit_row BadLabel = 14
edit_row NoSuchToken = 15
edit_row TokenTaken = 16
edit_row NoFreeToken = 17
edit_row UnreadableToken = 18
edit_row BadUuid = 19
edit_row (BadToken f) = 20
edit_row SeqExhausted = 21
edit_row MetadataFull = 22
edit_row RandomLength = 23
edit_row Memory = 24
edit_row Device = 25

-- the place of a fault among those of its row
abbrev pub edit_place : EditFault → List ℕ
edit_place (NotAccepted f) = check_key f
edit_place (Slot s) = slot_row s ∷ []
edit_place (BadToken f) = meta_key f
edit_place f = []

-- the least key is that of the first fault
abbrev pub edit_key : EditFault → List ℕ
edit_key f = edit_row f ∷ edit_place f

-- the fault is the device's
abbrev pub is_edit_failure : EditFault → Bool
is_edit_failure Device = true
is_edit_failure f = false
