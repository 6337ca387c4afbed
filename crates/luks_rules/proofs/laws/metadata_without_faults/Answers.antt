use Rattle.luks_rules.proofs.Deciding.{metadata_faultless}
use Rattle.luks_rules.proofs.laws.metadata_without_faults.Goals as goal

pub returns : goal.returns
returns c = metadata_faultless
