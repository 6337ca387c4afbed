use Rattle.std.proofs.Common.{◌≡◌, inl, inr, ℕ, List, false, ◌∙◌, ap, arith, rules, subst, sym}
use Rattle.luks_keeping.specs.RestoreFaults.{is_restore_failure, CanRestore, IsAnsweredRestore}
use Rattle.luks_given.specs.Given.{given_bytes}
use Rattle.luks_given.specs.Planned.{planned_bytes, planned_calls, planned_size, planned_written}
use Rattle.luks_c_answers.proofs.NumberFacts.{restore_number_other, restore_number_range, restore_number_usage}
use Rattle.luks_c_answers.specs.Numbers.{restore_number}
use Rattle.luks_c_answers.proofs.PlanFacts.{plan_answered, refusal_answered}
use Rattle.luks_c_headers.specs.KeepAnswers.{IsRestoredTo}
use Rattle.luks_c_headers.proofs.HeaderFacts.{of_volumes, restore_refusal}
use Rattle.luks_c_headers.proofs.restoring.restore_given.Goals as goal

pub returns-in-Ok-restore-clause-answers : goal.returns-in-Ok-restore-clause-answers
returns-in-Ok-restore-clause-answers g c =
    let device = c.restore.new.target in
    let e = c.in-Ok-restore.ensures in
    let both = of_volumes
    (λ (u : List ℕ) (n : ℕ) (o : List ℕ) (m : ℕ). CanRestore u o c.args.payload c.args.over × IsRestoredTo u c.args.payload n o (planned_bytes device))
    (given_bytes c.new-from.result) g.S.Given.bytes (planned_size c.in-Ok.device) c.args.total (planned_size device)
    (planned_bytes c.in-Ok.device) g.K.Given.bytes
    c.new-from.ensures.bytes c.in-Ok.ensures.size c.in-Ok.ensures.bytes (e.size ∙ c.in-Ok.ensures.size)
    (e.faultless tt tt, record { restored = e.restored tt tt; well_formed = e.well_formed tt tt; answers = e.answers tt tt; segments = e.segments tt tt }) in
    plan_answered g.K.Given.parts g.K.Given.bytes (planned_bytes device) _ _ _ (planned_calls device) (planned_written device) _ _ _ _
    both.0 both.1
    c.give_plan.ensures.plan
    (record { none = λ p is. (e.settled tt).none p is })
    c.give_plan.ensures.calls
    c.give_plan.ensures.bytes
    c.give_plan.ensures.given

pub returns-in-Ok-restore-clause-wanted : goal.returns-in-Ok-restore-clause-wanted
returns-in-Ok-restore-clause-wanted g c = λ asked. absurd (elim c.give_plan.ensures.answers [ inl zero ↦ omega (arith, asked, zero) | inr six ↦ omega (arith, asked, six) ])

pub returns : goal.returns
returns g c =
    let f = c.in-Err.fault in
    let is = c.restore_number.ensures in
    let own : is_restore_failure f ≡ false = search rules in
    let r = restore_number_range f in
    let low = r.0 in
    let high = r.1 in
    let on : IsAnsweredRestore g.S.Given.bytes (planned_bytes c.in-Ok.device) c.args.payload c.args.over f =
    subst (λ (u : List ℕ). IsAnsweredRestore u (planned_bytes c.in-Ok.device) c.args.payload c.args.over f) c.new-from.ensures.bytes (c.in-Err.ensures.fault tt tt) in
    let answered : IsAnsweredRestore g.S.Given.bytes g.K.Given.bytes c.args.payload c.args.over f =
    subst (λ (o : List ℕ). IsAnsweredRestore g.S.Given.bytes o c.args.payload c.args.over f) c.in-Ok.ensures.bytes on in
    record {
      own = λ usage. restore_number_usage f (sym is ∙ usage);
      answers = refusal_answered g.K.Given.parts g.K.Given.bytes _ _ _ _ _ c.restore_number.result (omega (arith, is, low)) (omega (arith, is, high))
          (λ memory. record { fault = f; least = restore_refusal _ _ _ _ f (λ m. memory (is ∙ ap restore_number m)) own answered; is = is });
      wanted = λ asked. absurd (restore_number_other f own (sym is ∙ asked));
    }
