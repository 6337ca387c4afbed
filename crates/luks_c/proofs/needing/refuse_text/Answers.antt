use Rattle.std.proofs.Common.{◌≡◌, ◌≢◌, inl, ℕ, List, refl, sym, ◌∙◌, arith, rules, false}
use Rattle.luks_area.specs.First.{IsLeast}
use Rattle.luks_reading.specs.declared.report.Data.{Data}
use Rattle.luks_edit.specs.declared.edit.Edit.TheVariants.{Repair}
use Rattle.luks_edit.specs.declared.edit_fault.EditFault.{EditFault}
use Rattle.luks_edit.specs.declared.edit_fault.EditFault.TheVariants as fault
use Rattle.luks_edit.specs.EditFaults.{edit_key, is_edit_failure}
use Rattle.luks_volume.specs.Needed.{IsNeedFault, IsUntold}
use Rattle.luks_c_answers.specs.Numbers.{edit_number}
use Rattle.luks_c_answers.proofs.NumberFacts.{edit_number_other, edit_number_range, edit_number_usage}
use Rattle.luks_c.proofs.needing.refuse_text.Goals as goal

-- what isn't the device's failure nor a failed allocation is the first fault that is seen without a keyslot
first_of : (v : List ℕ) (payload : Data) (f : EditFault) → is_edit_failure f ≡ false → edit_number f ≢ 103 → IsUntold v payload Repair f
    → IsLeast edit_key (IsNeedFault v payload Repair) f
first_of v payload fault.Device own other so = cc
first_of v payload fault.Memory own other so = absurd (other refl)
first_of v payload f own other so = so

pub returns-in-Err : goal.returns-in-Err
returns-in-Err g c =
    let f = c.in-Err.fault in
    let range = edit_number_range f in
    let low = range.0 in
    let high = range.1 in
    let own : is_edit_failure f ≡ false = search rules in
    let so : IsUntold g.K.Given.bytes c.args.payload Repair f = search rules in
    let is : c.edit_number.result ≡ edit_number f = c.edit_number.ensures in
    record {
      own = λ usage. edit_number_usage f (sym is ∙ usage);
      refused = λ zero. absurd (omega (arith, zero, is, low));
      room = λ full. absurd (omega (arith, full, is, high));
      why = λ beyond wanting. inl (record { fault = f; first = first_of g.K.Given.bytes c.args.payload f own (λ e. wanting (is ∙ e)) so; is = is });
      wanted = λ asked. absurd (edit_number_other f own (sym is ∙ asked));
    }
