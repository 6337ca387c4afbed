use Rattle.luks2_edit_laws.proofs.UuidFacts.{copies_have, copies_say}
use Rattle.luks2_edit_laws.proofs.laws.luks2_edit_sets_uuid.Goals as goal

pub returns-clause-text : goal.returns-clause-text
returns-clause-text c payload e v random w uuid free a is q at = copies_say v payload e random w uuid free a is q at

pub returns-clause-good : goal.returns-clause-good
returns-clause-good c payload e v random w uuid free a is q at = copies_have v payload e random w uuid free a is q at
