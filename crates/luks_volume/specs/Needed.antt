-- What asking for an edit's random bytes answers, of a volume of either version: no keyslot is
-- opened for it.
use Rattle.std.specs.Prelude.{ℕ, List, Result, Ok, Err, ⊤}
use Rattle.luks_area.specs.First.{IsLeast}
use Rattle.luks2_header.specs.Selection.{Choice, luks1, luks2, nothing, Chosen}
use Rattle.luks_reading.specs.declared.report.Data.{Data}
use Rattle.luks_reading.specs.Checked.{IsFault}
use Rattle.luks_reading.specs.Header.{NeedsMetadata}
use Rattle.luks_edit.specs.declared.edit.Edit.{Edit}
use Rattle.luks_edit.specs.declared.edit_fault.EditFault.{EditFault}
use Rattle.luks_edit.specs.declared.edit_fault.EditFault.TheVariants as fault
use Rattle.luks_edit.specs.EditFaults.{edit_key}
use Rattle.luks1_edits.specs.Needed.{IsNeedFault1}
use Rattle.luks2_judging.specs.Needed.{IsNeedFault2}
use Rattle.luks_volume.specs.Edits.{Need}

-- the faults that are seen without opening a keyslot, by what counts of the volume
abbrev pub IsNeedFaultAs : List ℕ → Data → Edit → Choice → EditFault → Type 0
IsNeedFaultAs v payload e luks1 f = IsNeedFault1 v payload e f
IsNeedFaultAs v payload e (luks2 o copies) f = IsNeedFault2 v payload e f
IsNeedFaultAs v payload e nothing (fault.NotAccepted f) = IsFault v payload f
IsNeedFaultAs v payload e nothing f = ⊥

-- the set of them
pub record IsNeedFault (v : List ℕ) (payload : Data) (e : Edit) (f : EditFault) : Type 0 where
  pub choice : Choice
  pub chosen : Chosen v choice
  pub fault : IsNeedFaultAs v payload e choice f

-- none of them stands, and the edit takes `k` random bytes
pub record NeedsRandom (v : List ℕ) (payload : Data) (e : Edit) (k : ℕ) : Type 0 where
  pub unrefused : (f : EditFault) → IsNeedFault v payload e f → ⊥
  pub need : Need v e k

-- why it isn't told: the first of these faults, unless the device failed or memory was refused
abbrev pub IsUntold : List ℕ → Data → Edit → EditFault → Type 0
IsUntold v payload e fault.Device = ⊤
IsUntold v payload e fault.Memory = NeedsMetadata v
IsUntold v payload e f = IsLeast edit_key (IsNeedFault v payload e) f

-- how many random bytes the edit takes, or why it isn't told
abbrev pub TellsNeed : Data → List ℕ → Edit → Result ℕ EditFault → Type 0
TellsNeed payload v e (Ok k) = NeedsRandom v payload e k
TellsNeed payload v e (Err f) = IsUntold v payload e f
