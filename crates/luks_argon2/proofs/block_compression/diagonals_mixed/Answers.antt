use Rattle.std.proofs.Common.{arith, refl}
use Rattle.luks_argon2.specs.BlockCompression.{diagonals_mixed}
use Rattle.luks_argon2.proofs.block_compression.diagonals_mixed.Goals as goal

pub returns : goal.returns
unfolding diagonals_mixed
returns c =
    rw (
      ← c.mix_two.ensures 0 (omega arith),
      ← c.mix_two.ensures 1 (omega arith),
      ← c.mix_two-2.ensures 0 (omega arith),
      ← c.mix_two-2.ensures 1 (omega arith),
    ) refl
