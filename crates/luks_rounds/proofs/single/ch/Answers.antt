use Rattle.std.proofs.Common.{arith, w32}
use Rattle.luks_rounds.proofs.ChMaj.{ch_short}
use Rattle.luks_rounds.proofs.single.ch.Goals as goal

pub returns : goal.returns
returns c = ch_short w32 c.args.x c.args.y c.args.z (omega arith) (omega arith) (omega arith)
