use Rattle.std.proofs.Common.{◌≡◌, ℕ, List, Option, option_map, false, ◌∙◌, ap, arith, rules, sym}
use Rattle.luks_rebuilding.specs.Outcome.{IsAnsweredFault, IsRebuildable}
use Rattle.luks_rebuilding.specs.RebuildFaults.{is_rebuild_failure}
use Rattle.luks_given.specs.Given.{given_bytes}
use Rattle.luks_given.specs.Planned.{planned_bytes, planned_calls, planned_size, planned_written}
use Rattle.luks_c_answers.proofs.NumberFacts.{rebuild_number_other, rebuild_number_range, rebuild_number_usage}
use Rattle.luks_c_answers.specs.Numbers.{rebuild_number}
use Rattle.luks_c_answers.proofs.PlanFacts.{plan_answered, refusal_answered}
use Rattle.luks_c_headers.specs.RebuildAnswers.{IsRebuiltTo}
use Rattle.luks_c_headers.proofs.HeaderFacts.{fault_of_volume, of_volumes, rebuild_refusal}
use Rattle.luks_c_headers.proofs.rebuilding.rebuild_given.Goals as goal

pub returns-in-Ok-rebuild-clause-answers : goal.returns-in-Ok-rebuild-clause-answers
returns-in-Ok-rebuild-clause-answers g c =
    let device = c.rebuild.new.target in
    let e = c.in-Ok-rebuild.ensures in
    let uuid : Option (List ℕ) = option_map (λ t. t.now) c.args.uuid in
    let both = of_volumes
    (λ (u : List ℕ) (n : ℕ) (o : List ℕ) (m : ℕ). IsRebuildable u c.args.which uuid n c.args.random.now
    × IsRebuiltTo u c.args.which uuid c.args.random.now o (planned_bytes device))
    (given_bytes c.new-from.result) g.S.Given.bytes (planned_size c.in-Ok.device) c.args.total (planned_size device)
    (planned_bytes c.in-Ok.device) g.K.Given.bytes
    c.new-from.ensures.bytes c.in-Ok.ensures.size c.in-Ok.ensures.bytes (e.size ∙ c.in-Ok.ensures.size)
    (e.faultless tt, record { rebuilt = e.rebuilt tt tt; well_formed = e.well_formed tt tt; opens = e.opens tt tt }) in
    plan_answered g.K.Given.parts g.K.Given.bytes (planned_bytes device) _ _ _ (planned_calls device) (planned_written device) _ _ _ _
    both.0 both.1
    c.give_plan.ensures.plan
    (record { none = λ p is. (e.settled tt).none p is })
    c.give_plan.ensures.calls
    c.give_plan.ensures.bytes
    c.give_plan.ensures.given

pub returns : goal.returns
returns g c =
    let f = c.in-Err.fault in
    let is = c.rebuild_number.ensures in
    let uuid : Option (List ℕ) = option_map (λ t. t.now) c.args.uuid in
    let own : is_rebuild_failure f ≡ false = search rules in
    let r = rebuild_number_range f in
    let low = r.0 in
    let high = r.1 in
    let answered : IsAnsweredFault g.S.Given.bytes c.args.which uuid c.args.total c.args.random.now f =
    fault_of_volume (λ (u : List ℕ) (n : ℕ). IsAnsweredFault u c.args.which uuid n c.args.random.now f) (given_bytes c.new-from.result)
    g.S.Given.bytes (planned_size c.in-Ok.device) c.args.total c.new-from.ensures.bytes c.in-Ok.ensures.size (c.in-Err.ensures.fault tt) in
    record {
      own = λ usage. rebuild_number_usage f (sym is ∙ usage);
      answers = refusal_answered g.K.Given.parts g.K.Given.bytes _ _ _ _ _ c.rebuild_number.result (omega (arith, is, low)) (omega (arith, is, high))
          (λ memory. record { fault = f; least = rebuild_refusal _ _ _ _ _ f (λ m. memory (is ∙ ap rebuild_number m)) own answered; is = is });
      wanted = λ asked. absurd (rebuild_number_other f own (sym is ∙ asked));
    }
