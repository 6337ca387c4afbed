use Rattle.luks_argon2.proofs.SmallCases.{digest_of_abc, first_blocks, later_blocks}
use Rattle.luks_argon2.proofs.laws.definitions_give.Goals as goal

pub returns-clause-digest : goal.returns-clause-digest
returns-clause-digest c = digest_of_abc

pub returns-clause-first_blocks : goal.returns-clause-first_blocks
returns-clause-first_blocks c = first_blocks

pub returns-clause-later_blocks : goal.returns-clause-later_blocks
returns-clause-later_blocks c = later_blocks
