use Rattle.luks2_edit_laws.proofs.OpensFacts.{opens_after}
use Rattle.luks2_edit_laws.proofs.laws.luks2_edit_opens.Goals as goal

pub returns : goal.returns
returns c = λ payload e v random w well. opens_after v payload random w well e
