use Rattle.std.proofs.Common.{refl}
use Rattle.luks_argon2.specs.Blake2b.{mix}
use Rattle.luks_argon2.proofs.blake2b_compression.mix.Goals as goal

pub returns : goal.returns
unfolding mix
returns c =
    rw (
      c.xor_rotate-b2.ensures,
      c.add64-c2.ensures,
      c.xor_rotate-d2.ensures,
      c.add64-a2.ensures,
      c.add64-a3.ensures,
      c.xor_rotate-b1.ensures,
      c.add64-c1.ensures,
      c.xor_rotate-d1.ensures,
      c.add64-a1.ensures,
      c.add64-a0.ensures,
    ) refl
