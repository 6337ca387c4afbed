-- The rows of the table of an edit's faults that were judged.
use Rattle.std.specs.Prelude.{ℕ, ◌≤◌, List}
use Rattle.luks_reading.specs.declared.report.Data.{Data}
use Rattle.luks_edit.specs.declared.edit.Edit.{Edit}
use Rattle.luks_edit.specs.declared.edit_fault.EditFault.{EditFault}
use Rattle.luks_edit.specs.EditFaults.{edit_row}
use Rattle.luks2_edit_laws.specs.Refused.{IsEditFault2}

-- no fault of the edit is in a row before the row `k`
pub record HasNoFaultBefore (k : ℕ) (v : List ℕ) (payload : Data) (e : Edit) (random : List ℕ) : Type 0 where
  pub each : (f : EditFault) → IsEditFault2 v payload e random f → k ≤ edit_row f
