use Rattle.std.proofs.Common.{ℕ, List, ◌∙◌, subst}
use Rattle.luks_formatting.specs.FormatFaults.{HasNoFault, IsFormat1FaultAs}
use Rattle.luks_given.specs.Planned.{planned_bytes, planned_calls, planned_size, planned_written}
use Rattle.luks_c_answers.proofs.PlanFacts.{plan_answered}
use Rattle.luks_c.specs.FormatAnswers.{IsMade1}
use Rattle.luks_c.proofs.PlanFacts.{of_volume}
use Rattle.luks_c.proofs.formatting.make1.Goals as goal

pub returns-in-Ok-format1_as-clause-answers : goal.returns-in-Ok-format1_as-clause-answers
returns-in-Ok-format1_as-clause-answers g c =
    let device = c.format1_as.new.device in
    let e = c.in-Ok-format1_as.ensures in
    let both = of_volume
    (λ (n : ℕ) (o : List ℕ) (m : ℕ). HasNoFault (IsFormat1FaultAs c.args.given.now c.args.older n c.args.format.now c.args.random.now)
    × IsMade1 c.args.given.now c.args.format.now c.args.passphrase.now c.args.random.now o
    c.give_plan.new.told.slot (planned_bytes device))
    (planned_size c.in-Ok.device) c.args.total (planned_size device) (planned_bytes c.in-Ok.device) g.K.Given.bytes
    c.in-Ok.ensures.size c.in-Ok.ensures.bytes (e.size ∙ c.in-Ok.ensures.size)
    (e.faultless, record { is = e.formatted tt; well_formed = e.well_formed tt; opened = e.opens tt; payload = e.payload tt; slot = c.give_plan.ensures.slot ∙ c.requires.slot }) in
    plan_answered g.K.Given.parts g.K.Given.bytes (planned_bytes device) _ _ _ (planned_calls device) (planned_written device) _ _ _ _
    both.0 both.1
    c.give_plan.ensures.plan
    (record { none = λ p is. (e.settled tt e.count).none p is })
    c.give_plan.ensures.calls
    c.give_plan.ensures.bytes
    c.give_plan.ensures.given
