use Rattle.luks_given.proofs.PlanFacts.{played-given}
use Rattle.luks_given.proofs.laws.plan_keeps_the_others.Goals as goal

pub returns : goal.returns
returns c = played-given
