use Rattle.std.proofs.Common.{ℕ, List, Ok, sym, subst}
use Rattle.luks_given.specs.Planned.{planned_bytes, planned_calls, planned_written}
use Rattle.luks_volume.specs.Outcome.{IsApplied}
use Rattle.luks_c_answers.specs.EditAsked.{IsMaybeSlot}
use Rattle.luks_c.proofs.PlanFacts.{edit_planned}
use Rattle.luks_c.proofs.editing.give_edited.Goals as goal

pub returns-clause-answers : goal.returns-clause-answers
returns-clause-answers g c =
    let device = c.args.device in
    edit_planned g.K.Given.parts g.K.Given.bytes (planned_bytes device) c.args.payload c.args.edit.now c.args.random.now c.args.done (planned_calls device) (planned_written device) _ _ _ _
    c.requires.applied
    (subst (λ (n : ℕ). IsMaybeSlot n c.args.done.slot) (sym c.give_plan.ensures.slot) c.number_of_slot-told.ensures)
    c.give_plan.ensures.plan
    (record { none = λ p is. c.requires.settled.none p is })
    c.give_plan.ensures.calls
    c.give_plan.ensures.bytes
    c.give_plan.ensures.given
