use Rattle.luks_vouching.proofs.WorkFacts.{few_hashed}
use Rattle.luks_vouching.proofs.laws.work_is_bounded.Goals as goal

pub returns : goal.returns
returns c = few_hashed
