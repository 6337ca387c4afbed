use Rattle.luks_reading.proofs.OneUnlocking.{one_unlocking}
use Rattle.luks_reading.proofs.laws.one_unlocking.Goals as goal

pub returns : goal.returns
returns c = one_unlocking
