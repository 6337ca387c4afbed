use Rattle.luks_rounds.proofs.VectorFacts.{maj_words}
use Rattle.luks_rounds.proofs.quad.maj.Goals as goal

pub returns : goal.returns
returns c = maj_words c.args.x c.args.y c.args.z c.fits-x c.fits-y c.fits-z
