use Rattle.luks_argon2.proofs.LaneFacts.{lanes_multiplied}
use Rattle.luks_argon2.proofs.block_compression.multiplied_sum.Goals as goal

pub returns : goal.returns
returns c = lanes_multiplied c.args.x c.fits-x.0 c.args.y c.fits-y.0
