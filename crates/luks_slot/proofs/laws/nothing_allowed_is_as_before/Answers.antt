use Rattle.luks_slot.proofs.DerivationFacts.{answered_before}
use Rattle.luks_slot.proofs.laws.nothing_allowed_is_as_before.Goals as goal

pub returns-clause-fault : goal.returns-clause-fault
returns-clause-fault c = answered_before
