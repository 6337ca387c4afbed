use Rattle.std.proofs.Common.{arith, w64}
use Rattle.luks_rounds.proofs.ChMaj.{ch_short}
use Rattle.luks_rounds.proofs.wide.ch.Goals as goal

pub returns : goal.returns
returns c = ch_short w64 c.args.x c.args.y c.args.z (omega arith) (omega arith) (omega arith)
