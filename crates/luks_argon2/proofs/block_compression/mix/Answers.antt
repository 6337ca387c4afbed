use Rattle.std.proofs.Common.{refl}
use Rattle.luks_argon2.specs.BlockCompression.{mix}
use Rattle.luks_argon2.proofs.block_compression.mix.Goals as goal

pub returns : goal.returns
unfolding mix
returns c j h =
    rw (
      c.xor_rotate-b2.ensures j h,
      c.multiplied_sum-c2.ensures j h,
      c.xor_rotate-d2.ensures j h,
      c.multiplied_sum-a2.ensures j h,
      c.xor_rotate-b1.ensures j h,
      c.multiplied_sum-c1.ensures j h,
      c.xor_rotate-d1.ensures j h,
      c.multiplied_sum-a1.ensures j h,
    ) refl
