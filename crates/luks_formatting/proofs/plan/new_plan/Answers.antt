use Rattle.std.proofs.Common.{None}
use Rattle.luks_formatting.specs.Deriving.{slot_derivation}
use Rattle.luks_formatting.proofs.NewPlanFacts.{not_argon2}
use Rattle.luks_formatting.proofs.plan.new_plan.Goals as goal

pub returns-clause-plan : goal.returns-clause-plan
returns-clause-plan c = c.new_plan_by.ensures.plan (slot_derivation c.args.format.now None) c.args.salt.now c.plan_derivation-derivation.ensures

pub returns-clause-here : goal.returns-clause-here
returns-clause-here c =
    let plan = c.new_plan_by.ensures.plan (slot_derivation c.args.format.now None) c.args.salt.now c.plan_derivation-derivation.ensures in
    not_argon2 c.args.format.now c.args.salt.now c.new_plan_by.result.derivation plan.derivation
