use Rattle.luks_reading.proofs.OneArea.{one_area}
use Rattle.luks_reading.proofs.laws.one_area.Goals as goal

pub returns : goal.returns
returns c = one_area
