use Rattle.luks1_edits.proofs.EditedFacts.{sets_text, sets_uuid}
use Rattle.luks1_edits.proofs.laws.luks1_edit_sets_uuid.Goals as goal

pub returns-clause-text : goal.returns-clause-text
returns-clause-text c = λ payload e v random w uuid free after is. sets_text v payload e random w uuid free after is

pub returns-clause-good : goal.returns-clause-good
returns-clause-good c = λ payload e v random w uuid free after is. sets_uuid v payload e random w uuid free after is
