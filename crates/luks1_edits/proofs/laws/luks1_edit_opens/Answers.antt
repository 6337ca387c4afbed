use Rattle.luks1_edits.proofs.EditedFacts.{opens_after}
use Rattle.luks1_edits.proofs.laws.luks1_edit_opens.Goals as goal

pub returns : goal.returns
returns c = λ payload e v random w chosen well free after. opens_after payload v chosen well e random w free after
