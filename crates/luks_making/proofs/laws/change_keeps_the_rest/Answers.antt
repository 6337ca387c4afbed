use Rattle.luks_making.proofs.ChangeFacts.{held_changed, slot_renewed}
use Rattle.luks_making.proofs.laws.change_keeps_the_rest.Goals as goal

pub returns-clause-held : goal.returns-clause-held
returns-clause-held c = held_changed

pub returns-clause-rest : goal.returns-clause-rest
returns-clause-rest c = λ len n f j held can new. slot_renewed len n f j held.content can new
