use Rattle.std.proofs.Common.{◌≡◌, inl, inr, ℕ, List, false, ◌∙◌, ap, arith, rules, sym}
use Rattle.luks_converting.specs.ConvertFaults.{is_convert_failure}
use Rattle.luks_converting.specs.Outcome.{IsAnsweredFault, IsConvertible}
use Rattle.luks_given.specs.Given.{given_bytes}
use Rattle.luks_given.specs.Planned.{planned_bytes, planned_calls, planned_size, planned_written}
use Rattle.luks_c_answers.proofs.NumberFacts.{convert_number_other, convert_number_range, convert_number_usage}
use Rattle.luks_c_answers.specs.Numbers.{convert_number}
use Rattle.luks_c_answers.proofs.PlanFacts.{plan_answered, refusal_answered}
use Rattle.luks_c_headers.specs.ConvertAnswers.{IsConvertedTo}
use Rattle.luks_c_headers.proofs.HeaderFacts.{convert_refusal, fault_of_volume, of_volumes}
use Rattle.luks_c_headers.proofs.converting.convert_given.Goals as goal

pub returns-in-Ok-convert-clause-answers : goal.returns-in-Ok-convert-clause-answers
returns-in-Ok-convert-clause-answers g c =
    let device = c.convert.new.target in
    let e = c.in-Ok-convert.ensures in
    let both = of_volumes
    (λ (u : List ℕ) (n : ℕ) (o : List ℕ) (m : ℕ). IsConvertible u c.args.payload n c.args.random.now × IsConvertedTo u c.args.random.now o (planned_bytes device))
    (given_bytes c.new-from.result) g.S.Given.bytes (planned_size c.in-Ok.device) c.args.total (planned_size device)
    (planned_bytes c.in-Ok.device) g.K.Given.bytes
    c.new-from.ensures.bytes c.in-Ok.ensures.size c.in-Ok.ensures.bytes (e.size ∙ c.in-Ok.ensures.size)
    (e.faultless tt, record { converted = e.converted tt tt; well_formed = e.well_formed tt tt; opens = e.opens tt tt; absent = e.absent tt tt }) in
    plan_answered g.K.Given.parts g.K.Given.bytes (planned_bytes device) _ _ _ (planned_calls device) (planned_written device) _ _ _ _
    both.0 both.1
    c.give_plan.ensures.plan
    (record { none = λ p is. (e.settled tt).none p is })
    c.give_plan.ensures.calls
    c.give_plan.ensures.bytes
    c.give_plan.ensures.given

pub returns-in-Ok-convert-clause-wanted : goal.returns-in-Ok-convert-clause-wanted
returns-in-Ok-convert-clause-wanted g c = λ asked. absurd (elim c.give_plan.ensures.answers [ inl zero ↦ omega (arith, asked, zero) | inr six ↦ omega (arith, asked, six) ])

pub returns : goal.returns
returns g c =
    let f = c.in-Err.fault in
    let is = c.convert_number.ensures in
    let own : is_convert_failure f ≡ false = search rules in
    let r = convert_number_range f in
    let low = r.0 in
    let high = r.1 in
    let answered : IsAnsweredFault g.S.Given.bytes c.args.payload c.args.total c.args.random.now f =
    fault_of_volume (λ (u : List ℕ) (n : ℕ). IsAnsweredFault u c.args.payload n c.args.random.now f) (given_bytes c.new-from.result) g.S.Given.bytes
    (planned_size c.in-Ok.device) c.args.total c.new-from.ensures.bytes c.in-Ok.ensures.size (c.in-Err.ensures.fault tt) in
    record {
      own = λ usage. convert_number_usage f (sym is ∙ usage);
      answers = refusal_answered g.K.Given.parts g.K.Given.bytes _ _ _ _ _ c.convert_number.result (omega (arith, is, low)) (omega (arith, is, high))
          (λ memory. record { fault = f; least = convert_refusal _ _ _ _ f (λ m. memory (is ∙ ap convert_number m)) own answered; is = is });
      wanted = λ asked. absurd (convert_number_other f own (sym is ∙ asked));
    }
