use Rattle.luks2_header.proofs.ChoiceFacts.{choices_agree}
use Rattle.luks2_edit_laws.proofs.KeptAnswers.{answers_kept}
use Rattle.luks2_edit_laws.proofs.laws.alike_slots_answer_alike.Goals as goal

pub returns : goal.returns
returns c = answers_kept choices_agree
