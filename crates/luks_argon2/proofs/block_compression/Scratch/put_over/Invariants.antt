use Rattle.std.proofs.Common.{◌≡◌, ℕ, ◌<◌, ◌≤◌, length, slice_index}
use Rattle.std.specs.Prelude.{bit_xor}
use Rattle.luks_argon2.proofs.block_compression.Scratch.put_over.Given as goal

abbrev pub invariant-words : goal.invariant-words
invariant-words l =
    (length l.block ≡ 128)
    × ((n : ℕ) → n < l.k → slice_index l.block n ≡ bit_xor (bit_xor (slice_index l.self.sum n) (slice_index l.self.turned n)) (slice_index l.initial.block n))
    × ((n : ℕ) → l.k ≤ n → slice_index l.block n ≡ slice_index l.initial.block n)
