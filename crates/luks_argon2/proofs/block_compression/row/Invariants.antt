use Rattle.std.proofs.Common.{◌≡◌, ℕ, ◌+◌, ◌*◌, ◌<◌, length, slice_index}
use Rattle.luks_argon2.proofs.block_compression.row.Given as goal

abbrev pub invariant-get : goal.invariant-get
invariant-get l = (length l.v ≡ 16) × ((k : ℕ) → k < l.n → slice_index l.v k ≡ slice_index l.b (16 * l.i + k))
