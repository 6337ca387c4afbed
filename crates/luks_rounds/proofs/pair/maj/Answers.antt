use Rattle.std.proofs.Common.{arith, ◌*◌}
use Rattle.luks_rounds.proofs.VectorFacts.{maj_words}
use Rattle.luks_rounds.proofs.pair.maj.Goals as goal

pub returns : goal.returns
returns c = λ j lt. maj_words c.args.x c.args.y c.args.z c.fits-x c.fits-y c.fits-z (2 * j) (omega arith)
