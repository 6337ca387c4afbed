use Rattle.luks_aes.proofs.BlockFacts.{twice_lane}
use Rattle.luks_aes.proofs.block.moved_up.Goals as goal

pub returns : goal.returns
returns c = λ k h. twice_lane c.args.x c.fits-x.0 k h
