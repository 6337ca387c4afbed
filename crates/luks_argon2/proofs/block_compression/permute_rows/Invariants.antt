use Rattle.std.proofs.Common.{◌≡◌, ℕ, ◌+◌, ◌*◌, ◌<◌, length, slice_index}
use Rattle.luks_argon2.specs.BlockCompression.{permuted, row}
use Rattle.luks_argon2.proofs.block_compression.permute_rows.Given as goal

abbrev pub invariant-all : goal.invariant-all
invariant-all l =
    (length l.turned ≡ 128)
    × ((h n : ℕ) → h < l.i → n < 16 → slice_index l.turned (16 * h + n) ≡ slice_index (permuted (row l.sum h)) n)
