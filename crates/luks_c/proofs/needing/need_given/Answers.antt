use Rattle.std.proofs.Common.{◌≡◌, false, ◌∙◌, sym, arith, rules}
use Rattle.luks_edit.specs.EditFaults.{is_edit_failure}
use Rattle.luks_volume.specs.Needed.{IsUntold}
use Rattle.luks_c_answers.specs.Numbers.{edit_number}
use Rattle.luks_c_answers.proofs.NumberFacts.{edit_number_other, edit_number_range}
use Rattle.luks_c.proofs.needing.need_given.Goals as goal

pub returns-in-Err-clause-answers : goal.returns-in-Err-clause-answers
returns-in-Err-clause-answers g c =
    let f = c.in-Err.fault in
    let low = (edit_number_range f).0 in
    let so : IsUntold g.K.Given.bytes c.args.payload c.args.edit.now f = search rules in
    let is : c.edit_number.result ≡ edit_number f = c.edit_number.ensures in
    record {
      needs = λ zero. absurd (omega (arith, zero, is, low));
      untold = λ other. record { fault = f; untold = so; is = is };
    }

pub returns-in-Err-clause-wanted : goal.returns-in-Err-clause-wanted
returns-in-Err-clause-wanted g c =
    let f = c.in-Err.fault in
    let own : is_edit_failure f ≡ false = search rules in
    λ asked. absurd (edit_number_other f own (sym c.edit_number.ensures ∙ asked))
