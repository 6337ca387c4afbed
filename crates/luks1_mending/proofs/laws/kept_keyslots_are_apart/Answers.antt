use Rattle.luks1_mending.proofs.KeptSetFacts.{kept_apart, kept_exactly, kept_or_meets}
use Rattle.luks1_mending.proofs.laws.kept_keyslots_are_apart.Goals as goal

pub returns-clause-apart : goal.returns-clause-apart
returns-clause-apart c = kept_apart

pub returns-clause-rest : goal.returns-clause-rest
returns-clause-rest c = kept_or_meets

pub returns-clause-exactly : goal.returns-clause-exactly
returns-clause-exactly c = kept_exactly
