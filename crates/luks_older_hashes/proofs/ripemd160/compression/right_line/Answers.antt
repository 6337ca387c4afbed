use Rattle.std.proofs.Common.{refl}
use Rattle.luks_older_hashes.specs.Ripemd160.{right_line}
use Rattle.luks_older_hashes.proofs.ripemd160.compression.right_line.Goals as goal

pub loop-j-init : goal.loop-j-init
unfolding right_line
loop-j-init c = refl
