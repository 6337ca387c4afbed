use Rattle.luks_meta.proofs.Namings.{unique}
use Rattle.luks_meta.proofs.naming.first_naming.Goals as goal

pub returns-then-names-clause-unique : goal.returns-then-names-clause-unique
returns-then-names-clause-unique c = unique c.args.digests.now.entries c.iter-key-items.ensures.ordered

pub returns-clause-unique : goal.returns-clause-unique
returns-clause-unique c = unique c.args.digests.now.entries c.iter-key-items.ensures.ordered
