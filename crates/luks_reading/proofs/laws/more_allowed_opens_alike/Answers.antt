use Rattle.luks_reading.proofs.AllowedMemory.{opens_alike}
use Rattle.luks_reading.proofs.laws.more_allowed_opens_alike.Goals as goal

pub returns : goal.returns
returns c = opens_alike
