use Rattle.luks_searching.proofs.LawFacts.{bit_turned_digest}
use Rattle.luks_searching.proofs.laws.digest_stood.Goals as goal

pub returns-clause-bit : goal.returns-clause-bit
returns-clause-bit c = bit_turned_digest

pub returns-clause-digest : goal.returns-clause-digest
returns-clause-digest c = λ h new bits x. x.rest
