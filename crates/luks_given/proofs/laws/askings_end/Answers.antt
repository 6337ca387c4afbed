use Rattle.luks_given.proofs.AskingFacts.{askings_bounded}
use Rattle.luks_given.proofs.laws.askings_end.Goals as goal

pub returns : goal.returns
returns c = askings_bounded
