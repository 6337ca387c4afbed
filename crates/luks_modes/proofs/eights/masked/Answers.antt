use Rattle.luks_modes.proofs.EightFacts.{xor_block_of}
use Rattle.luks_modes.proofs.eights.masked.Goals as goal

pub returns : goal.returns
returns c = xor_block_of c.args.block c.args.mask c.fits-block.0 c.fits-mask.0
