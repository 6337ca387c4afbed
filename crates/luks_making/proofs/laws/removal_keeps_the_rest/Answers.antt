use Rattle.luks_making.proofs.RemovalFacts.{held_left, slot_lost}
use Rattle.luks_making.proofs.laws.removal_keeps_the_rest.Goals as goal

pub returns-clause-held : goal.returns-clause-held
returns-clause-held c = held_left

pub returns-clause-rest : goal.returns-clause-rest
returns-clause-rest c = slot_lost
