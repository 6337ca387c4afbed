use Rattle.std.proofs.Common.{◌≡◌, ℕ, ◌+◌, ◌-◌, ◌*◌, ◌/◌, ◌%◌, ◌<◌, bit_xor, length, slice_index}
use Rattle.luks_older_hashes.proofs.whirlpool.compression.shift_columns.Given as goal

abbrev pub invariant-loop-k : goal.invariant-loop-k
invariant-loop-k l = (length l.out ≡ 64) × ((k : ℕ) → k < l.k → slice_index l.out k ≡ slice_index l.state (8 * ((k / 8 + 8 - k % 8) % 8) + k % 8))
