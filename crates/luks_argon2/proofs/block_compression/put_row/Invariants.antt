use Rattle.std.proofs.Common.{◌≡◌, ◌≢◌, ℕ, ◌+◌, ◌*◌, ◌/◌, ◌<◌, length, slice_index}
use Rattle.luks_argon2.proofs.block_compression.put_row.Given as goal

abbrev pub invariant-put : goal.invariant-put
invariant-put l =
    (length l.b ≡ 128)
    × ((k : ℕ) → k < l.n → slice_index l.b (16 * l.i + k) ≡ slice_index l.v k)
    × ((m : ℕ) → m / 16 ≢ l.i → slice_index l.b m ≡ slice_index l.initial.b m)
