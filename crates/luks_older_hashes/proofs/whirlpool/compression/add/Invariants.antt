use Rattle.std.proofs.Common.{◌≡◌, ℕ, ◌+◌, ◌-◌, ◌*◌, ◌/◌, ◌%◌, ◌<◌, bit_xor, length, slice_index}
use Rattle.luks_older_hashes.proofs.whirlpool.compression.add.Given as goal

abbrev pub invariant-loop-k : goal.invariant-loop-k
invariant-loop-k l = (length l.out ≡ 64) × ((k : ℕ) → k < l.k → slice_index l.out k ≡ bit_xor (slice_index l.state k) (slice_index l.other k))
