use Rattle.std.proofs.Common.{refl}
use Rattle.luks_argon2.specs.Blake2b.{add64}
use Rattle.luks_argon2.proofs.blake2b_compression.add64.Goals as goal

pub returns : goal.returns
unfolding add64
returns c = refl
