-- What asking for an edit's random bytes answers: no keyslot is opened for it.
use Rattle.std.specs.Prelude.{List, ℕ, Result, Ok, Err}
use Rattle.luks_area.specs.First.{IsLeast}
use Rattle.luks_reading.specs.declared.report.Data.{Data}
use Rattle.luks_reading.specs.Checked.{IsFault}
use Rattle.luks_edit.specs.declared.edit.Edit.{Edit}
use Rattle.luks_edit.specs.declared.edit_fault.EditFault.{EditFault}
use Rattle.luks_edit.specs.declared.edit_fault.EditFault.TheVariants as fault
use Rattle.luks_edit.specs.Asked.{NamesItself}
use Rattle.luks_edit.specs.EditFaults.{edit_key}
use Rattle.luks1_edits.specs.Refused.{HasNoFree, IsAbsent, IsTaken, Need1}

-- the faults that are seen without opening a keyslot
abbrev pub IsNeedFault1 : List ℕ → Data → Edit → EditFault → Type 0
IsNeedFault1 v payload e (fault.NotAccepted f) = IsFault v payload f
IsNeedFault1 v payload e fault.NoSuchSlot = IsAbsent v e
IsNeedFault1 v payload e fault.SameSlot = NamesItself e
IsNeedFault1 v payload e fault.SlotTaken = IsTaken v e
IsNeedFault1 v payload e fault.NoFreeSlot = HasNoFree v e
IsNeedFault1 v payload e f = ⊥

-- none of these faults stands, and the edit takes `k` random bytes
pub record NeedsRandom (v : List ℕ) (payload : Data) (e : Edit) (k : ℕ) : Type 0 where
  pub unrefused : (f : EditFault) → IsNeedFault1 v payload e f → ⊥
  pub need : Need1 v e k

-- how many random bytes the edit takes, or the first of these faults
abbrev pub TellsNeed1 : Data → List ℕ → Edit → Result ℕ EditFault → Type 0
TellsNeed1 payload v e (Ok k) = NeedsRandom v payload e k
TellsNeed1 payload v e (Err f) = IsLeast edit_key (IsNeedFault1 v payload e) f
