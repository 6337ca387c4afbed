use Rattle.luks_given.proofs.PlanFacts.{played-front}
use Rattle.luks_given.proofs.laws.plan_leaves_the_rest.Goals as goal

pub returns : goal.returns
returns c = played-front
