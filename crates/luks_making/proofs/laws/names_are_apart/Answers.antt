use Rattle.luks_making.proofs.NameFacts.{same_number}
use Rattle.luks_making.proofs.laws.names_are_apart.Goals as goal

pub returns : goal.returns
returns c = same_number
