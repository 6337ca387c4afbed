use Rattle.luks_making.proofs.ErasureFacts.{held_emptied, slots_lost}
use Rattle.luks_making.proofs.laws.erasure_keeps_the_rest.Goals as goal

pub returns-clause-held : goal.returns-clause-held
returns-clause-held c = held_emptied

pub returns-clause-rest : goal.returns-clause-rest
returns-clause-rest c = slots_lost
