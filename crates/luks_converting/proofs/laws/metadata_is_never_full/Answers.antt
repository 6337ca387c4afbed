use Rattle.luks_converting.proofs.RowFacts.{never_full}
use Rattle.luks_converting.proofs.laws.metadata_is_never_full.Goals as goal

pub returns : goal.returns
returns c = never_full
