use Rattle.luks_argon2.specs.Blake2b.{xor_rotate}
use Rattle.luks_argon2.proofs.blake2b_compression.xor_rotate.Goals as goal

pub returns : goal.returns
unfolding xor_rotate
returns c = c.rotate_right.ensures
