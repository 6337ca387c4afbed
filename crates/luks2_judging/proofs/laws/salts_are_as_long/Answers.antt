use Rattle.luks2_judging.proofs.EditedFacts.{texts_as_long}
use Rattle.luks2_judging.proofs.laws.salts_are_as_long.Goals as goal

pub returns : goal.returns
returns c = texts_as_long
