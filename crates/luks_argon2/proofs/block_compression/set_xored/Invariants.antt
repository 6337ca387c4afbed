use Rattle.std.proofs.Common.{◌≡◌, ℕ, ◌<◌, length, slice_index}
use Rattle.std.specs.Prelude.{bit_xor}
use Rattle.luks_argon2.proofs.block_compression.set_xored.Given as goal

abbrev pub invariant-words : goal.invariant-words
invariant-words l = (length l.z ≡ 128) × ((n : ℕ) → n < l.k → slice_index l.z n ≡ bit_xor (slice_index l.x n) (slice_index l.y n))
