use Rattle.luks_reading.proofs.OpenedKeys.{opened_matches}
use Rattle.luks_reading.proofs.laws.opened_key_matches.Goals as goal

pub returns : goal.returns
returns c = opened_matches
