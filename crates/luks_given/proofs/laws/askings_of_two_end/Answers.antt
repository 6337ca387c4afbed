use Rattle.luks_given.proofs.AskingFacts.{askings_of_two_bounded}
use Rattle.luks_given.proofs.laws.askings_of_two_end.Goals as goal

pub returns : goal.returns
returns c = askings_of_two_bounded
