use Rattle.luks_meta.proofs.Namings.{one_digest}
use Rattle.luks_meta.proofs.laws.one_digest.Goals as goal

pub returns : goal.returns
returns c = one_digest
