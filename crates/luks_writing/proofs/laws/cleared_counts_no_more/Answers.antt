use Rattle.luks_writing.proofs.ClearedFacts.{no_copy, no_luks1}
use Rattle.luks_writing.proofs.laws.cleared_counts_no_more.Goals as goal

pub returns-clause-copy : goal.returns-clause-copy
returns-clause-copy c = no_copy

pub returns-clause-luks1 : goal.returns-clause-luks1
returns-clause-luks1 c = no_luks1
