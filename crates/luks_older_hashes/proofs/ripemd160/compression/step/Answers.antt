use Rattle.std.proofs.Common.{refl}
use Rattle.luks_older_hashes.specs.Ripemd160.{step}
use Rattle.luks_older_hashes.proofs.ripemd160.compression.step.Goals as goal

pub returns : goal.returns
unfolding step
returns c = rw (c.rotate_left-turned.ensures, c.rotate_left-moved.ensures) refl
