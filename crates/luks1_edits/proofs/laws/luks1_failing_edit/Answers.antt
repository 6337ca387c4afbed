use Rattle.luks1_edits.proofs.EditedFacts.{leftover_accepted, leftover_answers, leftover_entries, leftover_faults, leftover_keeps, leftover_opens, leftover_rest}
use Rattle.luks1_edits.proofs.RefusalFacts.{leftover_refused}
use Rattle.luks1_edits.proofs.ShutFacts.{leftover_erased}
use Rattle.luks1_edits.proofs.laws.luks1_failing_edit.Goals as goal

pub returns-clause-rest : goal.returns-clause-rest
returns-clause-rest c = λ payload e v random w chosen well left. leftover_rest payload v chosen well e random w left

pub returns-clause-entries : goal.returns-clause-entries
returns-clause-entries c = λ payload e v random w chosen well left. leftover_entries payload v chosen well e random w left

pub returns-clause-keeps : goal.returns-clause-keeps
returns-clause-keeps c = λ payload e v random w chosen well left uuid. leftover_keeps payload v chosen well e random w left uuid

pub returns-clause-accepted : goal.returns-clause-accepted
returns-clause-accepted c = λ payload e v random w chosen well left untorn uuid. leftover_accepted payload v chosen well e random w left untorn uuid

pub returns-clause-uuid : goal.returns-clause-uuid
returns-clause-uuid c = λ payload e v random w chosen well left. leftover_faults payload v chosen well e random w left

pub returns-clause-answers : goal.returns-clause-answers
returns-clause-answers c = λ payload e v random w chosen well left. leftover_answers payload v chosen well e random w left

pub returns-clause-opens : goal.returns-clause-opens
returns-clause-opens c = λ payload e v random w chosen well left. leftover_opens payload v chosen well e random w left

pub returns-clause-erased : goal.returns-clause-erased
returns-clause-erased c = λ payload v random w chosen well left. leftover_erased payload v chosen well random w left

pub returns-clause-refused : goal.returns-clause-refused
returns-clause-refused c = λ payload e v random w. leftover_refused v payload e random w
