use Rattle.std.proofs.Common.{◌≡◌, ℕ, ◌+◌, ◌-◌, ◌*◌, ◌/◌, ◌%◌, ◌<◌, bit_xor, length, slice_index}
use Rattle.luks_older_hashes.specs.Whirlpool.{sbox}
use Rattle.luks_older_hashes.proofs.whirlpool.compression.sub_bytes.Given as goal

abbrev pub invariant-loop-k : goal.invariant-loop-k
invariant-loop-k l = (length l.out ≡ 64) × ((k : ℕ) → k < l.k → slice_index l.out k ≡ sbox (slice_index l.state k))
