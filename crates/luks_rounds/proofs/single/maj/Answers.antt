use Rattle.luks_rounds.proofs.ChMaj.{maj_short}
use Rattle.luks_rounds.proofs.single.maj.Goals as goal

pub returns : goal.returns
returns c = maj_short c.args.x c.args.y c.args.z
