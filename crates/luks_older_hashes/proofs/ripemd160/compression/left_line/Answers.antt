use Rattle.std.proofs.Common.{refl}
use Rattle.luks_older_hashes.specs.Ripemd160.{left_line}
use Rattle.luks_older_hashes.proofs.ripemd160.compression.left_line.Goals as goal

pub loop-j-init : goal.loop-j-init
unfolding left_line
loop-j-init c = refl
