use Rattle.luks1_edits.proofs.AnswerFacts.{answer_moves, answer_returns}
use Rattle.luks1_edits.proofs.laws.luks1_answer_is_local.Goals as goal

pub returns : goal.returns
returns c = λ allowed n v w p a chosen same. (answer_moves allowed n v w p a chosen same, answer_returns allowed n v w p a chosen same)
