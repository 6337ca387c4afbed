use Rattle.luks1_mending.proofs.KeptSetFacts.{none_before_kept}
use Rattle.luks1_mending.proofs.laws.keyslot_that_meets_none_is_kept.Goals as goal

pub returns : goal.returns
returns c = none_before_kept
