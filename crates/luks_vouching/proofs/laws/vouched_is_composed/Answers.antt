use Rattle.luks_vouching.proofs.LawFacts.{vouched_composed, vouched_meets, vouched_tried}
use Rattle.luks_vouching.proofs.laws.vouched_is_composed.Goals as goal

pub returns-clause-composed : goal.returns-clause-composed
returns-clause-composed c = vouched_composed

pub returns-clause-tried : goal.returns-clause-tried
returns-clause-tried c = vouched_tried

pub returns-clause-met : goal.returns-clause-met
returns-clause-met c = vouched_meets
