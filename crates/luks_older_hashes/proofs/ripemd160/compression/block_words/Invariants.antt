use Rattle.std.proofs.Common.{◌≡◌, ℕ, ◌<◌, ◌*◌, length, slice_index}
use Rattle.luks_older_hashes.specs.Ripemd160.{word_at}
use Rattle.luks_older_hashes.proofs.ripemd160.compression.block_words.Given as goal

abbrev pub invariant-loop-i : goal.invariant-loop-i
invariant-loop-i l = (length l.words ≡ 16) × ((k : ℕ) → k < l.i → slice_index l.words k ≡ word_at l.block (4 * k))
