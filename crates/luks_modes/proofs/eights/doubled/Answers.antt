use Rattle.luks_modes.proofs.AlphaFacts.{doubled_is}
use Rattle.luks_modes.proofs.eights.doubled.Goals as goal

pub returns : goal.returns
returns c = doubled_is c.args.tweak c.ranges.tweak.fits
