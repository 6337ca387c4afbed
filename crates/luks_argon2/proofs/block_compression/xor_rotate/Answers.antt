use Rattle.luks_argon2.proofs.LaneFacts.{lanes_rotated}
use Rattle.luks_argon2.proofs.block_compression.xor_rotate.Goals as goal

pub returns : goal.returns
returns c = lanes_rotated c.args.k c.requires.0 c.requires.1 c.args.x c.fits-x.0 c.args.y c.fits-y.0
