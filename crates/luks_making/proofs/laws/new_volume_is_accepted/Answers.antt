use Rattle.luks_making.proofs.NewVolumeFacts.{held_made, says_volume}
use Rattle.luks_making.proofs.laws.new_volume_is_accepted.Goals as goal

pub returns-clause-held : goal.returns-clause-held
returns-clause-held c = held_made

pub returns-clause-says : goal.returns-clause-says
returns-clause-says c = says_volume
