use Rattle.luks_edit.specs.Asked.{allowed_by}
use Rattle.luks_edit.proofs.AllowedMemory.{luks1_answers_alike}
use Rattle.luks_laws.proofs.WithoutMemory.{allowance_alone, answers_alike, memoryless, nothing_for, refused_alone, none_taken}
use Rattle.luks_slot.specs.Allowance.{none_allowed, without_memory}
use Rattle.luks_laws.proofs.edit_laws.nothing_allowed_edits_as_before.Goals as goal

pub returns-clause-memoryless : goal.returns-clause-memoryless
returns-clause-memoryless c = memoryless

pub returns-clause-allowed : goal.returns-clause-allowed
returns-clause-allowed c = nothing_for

pub returns-clause-answer : goal.returns-clause-answer
returns-clause-answer c = λ v e n p a zero. answers_alike v (allowed_by e) (without_memory (allowed_by e).older) n p a (allowance_alone (allowed_by e) zero)

pub returns-clause-as_before : goal.returns-clause-as_before
returns-clause-as_before c = λ v e n p a same. answers_alike v (allowed_by e) none_allowed n p a same

pub returns-clause-refused : goal.returns-clause-refused
returns-clause-refused c = refused_alone c.nothing_allowed_is_as_before.ensures.refusal1 c.nothing_allowed_is_as_before.ensures.refusal2

pub returns-clause-taken : goal.returns-clause-taken
returns-clause-taken c = none_taken c.nothing_allowed_is_as_before.ensures.memory

pub returns-clause-luks1 : goal.returns-clause-luks1
returns-clause-luks1 c = luks1_answers_alike
