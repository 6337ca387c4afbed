use Rattle.luks_rounds.proofs.VectorFacts.{ch_words}
use Rattle.luks_rounds.proofs.quad.ch.Goals as goal

pub returns : goal.returns
returns c = ch_words c.args.x c.args.y c.args.z c.fits-x c.fits-y c.fits-z
