use Rattle.std.proofs.Common.{◌≡◌, Err, false, ◌∙◌, subst, sym, rules}
use Rattle.luks_edit.specs.EditFaults.{is_edit_failure}
use Rattle.luks_given.specs.Planned.{planned_bytes}
use Rattle.luks_volume.specs.Outcome.{IsApplied}
use Rattle.luks_c_answers.proofs.NumberFacts.{edit_number_other, edit_number_usage}
use Rattle.luks_c.proofs.PlanFacts.{edit_refused}
use Rattle.luks_c.proofs.editing.apply_given.Goals as goal

pub returns : goal.returns
returns g c =
    let f = c.in-Err.fault in
    let own : is_edit_failure f ≡ false = search rules in
    let applied : IsApplied c.args.payload g.K.Given.bytes c.args.edit.now c.args.random.now (Err f) (planned_bytes c.apply.new.device) =
    subst (λ v. IsApplied c.args.payload v c.args.edit.now c.args.random.now (Err f) (planned_bytes c.apply.new.device)) c.in-Ok.ensures.bytes (c.in-Err.ensures.applied tt) in
    record {
      own = λ usage. edit_number_usage f (sym c.edit_number.ensures ∙ usage);
      answers = edit_refused g.K.Given.parts g.K.Given.bytes c.args.payload c.args.edit.now c.args.random.now (planned_bytes c.apply.new.device) f (record { calls = c.args.calls.now; bytes = c.args.bytes.now }) c.args.told.now c.edit_number.result applied own c.edit_number.ensures;
      wanted = λ asked. absurd (edit_number_other f own (sym c.edit_number.ensures ∙ asked));
    }

pub returns-in-Err-Device-clause-wanted : goal.returns-in-Err-Device-clause-wanted
returns-in-Err-Device-clause-wanted g c = λ asked. c.tell_wanted.ensures.wanted c.args.total (c.in-Err-Device.ensures.size ∙ c.in-Ok.ensures.size) asked
