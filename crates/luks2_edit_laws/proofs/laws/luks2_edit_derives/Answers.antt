use Rattle.luks2_edit_laws.proofs.DerivedFacts.{derives}
use Rattle.luks2_edit_laws.proofs.laws.luks2_edit_derives.Goals as goal

pub returns : goal.returns
returns c = λ payload e v random w well. derives v payload random w well e
