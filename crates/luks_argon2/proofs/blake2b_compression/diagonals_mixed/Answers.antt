use Rattle.std.proofs.Common.{refl}
use Rattle.luks_argon2.specs.Blake2b.{diagonals_mixed}
use Rattle.luks_argon2.proofs.blake2b_compression.diagonals_mixed.Goals as goal

pub returns : goal.returns
unfolding diagonals_mixed
returns c =
    rw (
      ← c.message_word-x0.ensures,
      ← c.message_word-x1.ensures,
      ← c.message_word-x2.ensures,
      ← c.message_word-x3.ensures,
      ← c.message_word-x4.ensures,
      ← c.message_word-x5.ensures,
      ← c.message_word-x6.ensures,
      ← c.message_word-x7.ensures,
      ← c.mix-v0.ensures,
      ← c.mix-v1.ensures,
      ← c.mix-v2.ensures,
      ← c.mix-v3.ensures,
    ) refl
