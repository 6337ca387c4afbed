use Rattle.luks_signatures.specs.Signatures.{table}
use Rattle.luks_signatures.proofs.FirstFacts.{finds-one}
use Rattle.luks_signatures.proofs.laws.one_first_use.Goals as goal

pub returns : goal.returns
returns c = finds-one table
