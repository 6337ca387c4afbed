use Rattle.luks2_header.proofs.ChoiceFacts.{choice_exists, choices_agree}
use Rattle.luks2_header.proofs.laws.one_choice.Goals as goal

pub returns-clause-some : goal.returns-clause-some
returns-clause-some c = choice_exists

pub returns-clause-only : goal.returns-clause-only
returns-clause-only c = choices_agree
