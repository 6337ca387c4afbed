use Rattle.std.proofs.Common.{◌≡◌, ℕ, ◌+◌, ◌*◌, ◌/◌, ◌%◌, ◌<◌, ◌≤◌, length, slice_index}
use Rattle.luks_argon2.specs.BlockCompression.{permuted, column}
use Rattle.luks_argon2.proofs.block_compression.permute_columns.Given as goal

abbrev pub invariant-all : goal.invariant-all
invariant-all l =
    (length l.b ≡ 128)
    × ((h n : ℕ) → h < l.j → n < 16 → slice_index l.b (16 * (n / 2) + 2 * h + n % 2) ≡ slice_index (permuted (column l.initial.b h)) n)
    × ((m : ℕ) → l.j ≤ m % 16 / 2 → slice_index l.b m ≡ slice_index l.initial.b m)
