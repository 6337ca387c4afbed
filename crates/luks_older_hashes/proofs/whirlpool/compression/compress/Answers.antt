use Rattle.std.proofs.Common.{refl}
use Rattle.luks_older_hashes.specs.Whirlpool.{compress}
use Rattle.luks_older_hashes.proofs.whirlpool.compression.compress.Goals as goal

pub returns : goal.returns
unfolding compress
returns c = rw (c.add.ensures, c.add-sum.ensures, c.cipher-sealed.ensures) refl
