use Rattle.std.proofs.Common.{ℕ, List, ◌∙◌, subst}
use Rattle.luks_formatting.specs.Deriving.{allowed_for}
use Rattle.luks_formatting.specs.FormatFaults.{HasNoFault, IsFormat2FaultAs}
use Rattle.luks_given.specs.Planned.{planned_bytes, planned_calls, planned_size, planned_written}
use Rattle.luks_c_answers.proofs.PlanFacts.{plan_answered}
use Rattle.luks_c.specs.FormatAnswers.{IsMade2}
use Rattle.luks_c.proofs.PlanFacts.{of_volume}
use Rattle.luks_c.proofs.formatting.make2.Goals as goal

pub returns-in-Ok-format2_as-clause-answers : goal.returns-in-Ok-format2_as-clause-answers
returns-in-Ok-format2_as-clause-answers g c =
    let device = c.format2_as.new.device in
    let e = c.in-Ok-format2_as.ensures in
    let both = of_volume
    (λ (n : ℕ) (o : List ℕ) (m : ℕ). HasNoFault (IsFormat2FaultAs c.args.given.now c.args.passphrase.now.allowed.older c.args.chosen (allowed_for c.args.passphrase.now.allowed.memory c.args.passphrase.now.bytes.now) n c.args.format.now c.args.random.now)
    × IsMade2 c.args.given.now c.args.format.now c.args.chosen c.args.passphrase.now.bytes.now c.args.random.now o
    c.give_plan.new.told.slot (planned_bytes device))
    (planned_size c.in-Ok.device) c.args.total (planned_size device) (planned_bytes c.in-Ok.device) g.K.Given.bytes
    c.in-Ok.ensures.size c.in-Ok.ensures.bytes (e.size ∙ c.in-Ok.ensures.size)
    (e.faultless, record { is = e.formatted tt; well_formed = e.well_formed tt; opened = e.opens tt; payload = e.payload tt; slot = c.give_plan.ensures.slot ∙ c.requires.slot }) in
    plan_answered g.K.Given.parts g.K.Given.bytes (planned_bytes device) _ _ _ (planned_calls device) (planned_written device) _ _ _ _
    both.0 both.1
    c.give_plan.ensures.plan
    (record { none = λ p is. (e.settled tt e.count).none p is })
    c.give_plan.ensures.calls
    c.give_plan.ensures.bytes
    c.give_plan.ensures.given
