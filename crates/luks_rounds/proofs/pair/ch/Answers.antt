use Rattle.std.proofs.Common.{arith, ◌*◌}
use Rattle.luks_rounds.proofs.VectorFacts.{ch_words}
use Rattle.luks_rounds.proofs.pair.ch.Goals as goal

pub returns : goal.returns
returns c = λ j lt. ch_words c.args.x c.args.y c.args.z c.fits-x c.fits-y c.fits-z (2 * j) (omega arith)
