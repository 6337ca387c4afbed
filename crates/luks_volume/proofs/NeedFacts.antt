-- How many random bytes an edit takes: what is told of a volume of one version is told of the volume.
use Rattle.std.proofs.Common.{ℕ, List, Result, Ok, Err, ◌≢◌, subst}
use Rattle.luks_area.specs.First.{IsLeast}
use Rattle.luks2_header.specs.declared.selection.Copies.{Copies}
use Rattle.luks2_header.specs.Selection.{luks1, luks2, Chosen}
use Rattle.luks_reading.specs.declared.report.Data.{Data}
use Rattle.luks_reading.specs.Header.{TakesNoMemory}
use Rattle.luks_edit.specs.declared.edit.Edit.{Edit}
use Rattle.luks_edit.specs.declared.edit_fault.EditFault.{EditFault}
use Rattle.luks_edit.specs.declared.edit_fault.EditFault.TheVariants as fault
use Rattle.luks_edit.specs.EditFaults.{edit_key}
use Rattle.luks1_edits.specs.Needed.{TellsNeed1}
use Rattle.luks2_judging.specs.Needed.{TellsNeed2}
use Rattle.luks_volume.specs.Needed.{IsNeedFault, IsUntold, TellsNeed}
use Rattle.luks_volume.specs.Unread.{IsHeaderRefused}
use Rattle.luks_volume.proofs.VersionFacts.{first_need_by, first_untold, need_fault_by, takes_none}

-- no fault of reading the header is another
pub unread_untold : (v : List ℕ) (payload : Data) (e : Edit) (f : EditFault) → IsHeaderRefused v payload f → IsUntold v payload e f
unread_untold v payload e (fault.NotAccepted f) x = first_untold v payload e f x
unread_untold v payload e fault.Memory x = x
unread_untold v payload e fault.Device x = tt
unread_untold v payload e f x = absurd x

-- neither the device's failure nor a failed allocation is among the first faults
first_untold_by : (v : List ℕ) (payload : Data) (e : Edit) (f : EditFault) → (IsNeedFault v payload e fault.Memory → ⊥)
    → IsLeast edit_key (IsNeedFault v payload e) f → IsUntold v payload e f
first_untold_by v payload e fault.Memory none x = absurd (none x.0)
first_untold_by v payload e fault.Device none x = tt
first_untold_by v payload e f none x = x

module _ (v : List ℕ) (payload : Data) (e : Edit) where
  pub tells_need1 : Chosen v luks1 → (result : Result ℕ EditFault) → TellsNeed1 payload v e result → TellsNeed payload v e result
  tells_need1 chosen (Ok k) x = record {
    unrefused = λ f bad. x.unrefused f (need_fault_by v payload e luks1 chosen f bad);
    need = record { choice = luks1; chosen = chosen; is = x.need };
  }
  tells_need1 chosen (Err f) x =
      first_untold_by v payload e f (need_fault_by v payload e luks1 chosen fault.Memory) (first_need_by v payload e luks1 chosen f x)

  pub tells_need2 : (o : ℕ) (copies : Copies) → Chosen v (luks2 o copies) → (result : Result ℕ EditFault) → TellsNeed2 payload v e result → TellsNeed payload v e result
  tells_need2 o copies chosen (Ok k) x = record {
    unrefused = λ f bad. x.unrefused f (need_fault_by v payload e (luks2 o copies) chosen f bad);
    need = record { choice = luks2 o copies; chosen = chosen; is = x.need };
  }
  tells_need2 o copies chosen (Err f) x =
      first_untold_by v payload e f (need_fault_by v payload e (luks2 o copies) chosen fault.Memory) (first_need_by v payload e (luks2 o copies) chosen f x)

  -- memory that isn't taken isn't refused
  pub unread_without_memory : TakesNoMemory v → (f : EditFault) → IsHeaderRefused v payload f → f ≢ fault.Memory
  unread_without_memory free f x same = takes_none v free (subst (IsHeaderRefused v payload) same x)
