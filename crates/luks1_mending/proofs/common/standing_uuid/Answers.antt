use Rattle.luks1_mending.proofs.TextFacts.{plain}
use Rattle.luks1_mending.proofs.common.standing_uuid.Goals as goal

pub returns-in-None-clause-none : goal.returns-in-None-clause-none
returns-in-None-clause-none c = λ is. c.in-None.ensures.none (plain _ is)
