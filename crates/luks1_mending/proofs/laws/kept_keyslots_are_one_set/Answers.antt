use Rattle.luks1_mending.proofs.KeptFacts.{one_set}
use Rattle.luks1_mending.proofs.KeptSetFacts.{there_is}
use Rattle.luks1_mending.proofs.laws.kept_keyslots_are_one_set.Goals as goal

pub returns-clause-there : goal.returns-clause-there
returns-clause-there c = there_is

pub returns-clause-one : goal.returns-clause-one
returns-clause-one c = one_set
