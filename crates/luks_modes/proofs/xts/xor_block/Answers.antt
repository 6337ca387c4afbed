use Rattle.std.proofs.Common.{refl}
use Rattle.luks_modes.specs.Xts.{xor_block}
use Rattle.luks_modes.proofs.xts.xor_block.Goals as goal

pub returns : goal.returns
unfolding xor_block
returns c = refl
