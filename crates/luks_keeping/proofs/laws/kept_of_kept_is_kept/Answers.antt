use Rattle.luks_keeping.proofs.KeptFacts.{kept_then}
use Rattle.luks_keeping.proofs.laws.kept_of_kept_is_kept.Goals as goal

pub returns : goal.returns
returns c v b w d x first second = kept_then v b w d x first second
