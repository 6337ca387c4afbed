use Rattle.luks_contradictions.proofs.Consistency.{consistent_of, nowhere_of}
use Rattle.luks_contradictions.proofs.laws.consistent_without_contradictions.Goals as goal

pub returns-clause-consistent : goal.returns-clause-consistent
returns-clause-consistent c = consistent_of

pub returns-clause-nowhere : goal.returns-clause-nowhere
returns-clause-nowhere c = nowhere_of
