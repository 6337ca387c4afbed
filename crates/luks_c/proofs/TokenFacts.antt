-- Facts on a token whose text is given.
use Rattle.std.proofs.Common.{◌≡◌, ◌≢◌, ℕ, List, Option, false, inl, inr, refl}
use Rattle.std.proofs.lemmas.Bool.{true≢false}
use Rattle.luks_area.specs.First.{IsLeast}
use Rattle.luks_making.specs.declared.amended.Change.TheVariants.{AddToken}
use Rattle.luks_edit.specs.declared.edit.Edit.{Edit}
use Rattle.luks_edit.specs.declared.edit.Edit.TheVariants.{Amend}
use Rattle.luks_edit.specs.declared.edit_fault.EditFault.{EditFault}
use Rattle.luks_edit.specs.declared.edit_fault.EditFault.TheVariants as edit
use Rattle.luks_edit.specs.EditFaults.{edit_key, is_edit_failure}
use Rattle.luks_given.specs.declared.parts.Part.{Part}
use Rattle.luks_reading.specs.declared.report.Data.{Data}
use Rattle.luks_volume.specs.Needed.{IsNeedFault, IsUntold}
use Rattle.luks_c_answers.specs.declared.asking.LuksEdit.{LuksEdit}
use Rattle.luks_c_answers.specs.declared.plans.LuksPlan.{LuksPlan}
use Rattle.luks_c_answers.specs.EditAsked.{IsTokenAsked}
use Rattle.luks_c_answers.specs.Plans.{Buffers}
use Rattle.luks_c.specs.declared.needing.LuksNeeded.{LuksNeeded}
use Rattle.luks_c.specs.EditAnswers.{AnswersAsked, AnswersNeeded, AnswersToken, AnswersTokenNeed}

-- what is told of the text of a token is told of what is asked for
pub needed_of_token : (v : List ℕ) (payload : Data) (asked : LuksEdit) (words text subsystem : List ℕ) (to : Option ℕ) (told : LuksNeeded) (number : ℕ) → IsTokenAsked asked to
    → AnswersTokenNeed v payload to text told number → AnswersNeeded v payload asked words text subsystem told number
needed_of_token v payload asked words text subsystem to told number is answers = elim answers [
  | inl a ↦ inl (record { edit = Amend (AddToken to a.token); is = (is, a.has); answers = a.answers })
  | inr why ↦ inr (record { to = to; is = is; why = why })
]

-- the same of its plan
pub asked_of_token : (parts : List Part) (v : List ℕ) (payload : Data) (asked : LuksEdit) (words text subsystem random : List ℕ) (to : Option ℕ) (old new : Buffers)
    (told : LuksPlan) (number : ℕ) → IsTokenAsked asked to → AnswersToken parts v payload to text random old new told number
    → AnswersAsked parts v payload asked words text subsystem random old new told number
asked_of_token parts v payload asked words text subsystem random to old new told number is answers = elim answers [
  | inl a ↦ inl (record { edit = Amend (AddToken to a.token); is = (is, a.has); answers = a.answers })
  | inr both ↦ inr (record { to = to; is = is; why = both.0; kept = both.1 })
]

-- why an edit isn't told is its first fault, where that is neither a failed allocation nor the device's failure
pub untold_first : (v : List ℕ) (payload : Data) (e : Edit) (f : EditFault) → f ≢ edit.Memory → is_edit_failure f ≡ false → IsUntold v payload e f
    → IsLeast edit_key (IsNeedFault v payload e) f
untold_first v payload e edit.Memory other own untold = absurd (other refl)
untold_first v payload e edit.Device other own untold = absurd (true≢false own)
untold_first v payload e f other own untold = untold
