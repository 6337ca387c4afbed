use Rattle.luks_volume.proofs.EditFacts.{edits_keep}
use Rattle.luks_volume.proofs.laws.edits_keep_volume.Goals as goal

pub returns : goal.returns
returns c = edits_keep
