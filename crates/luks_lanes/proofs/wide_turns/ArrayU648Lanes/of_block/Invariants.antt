use Rattle.std.proofs.Common.{◌≡◌, ℕ, ◌<◌, ◌*◌, length, slice_index}
use Rattle.sha2.specs.Sha512.{word_at}
use Rattle.luks_lanes.proofs.wide_turns.ArrayU648Lanes.of_block.Given as goal

abbrev pub invariant-load : goal.invariant-load
invariant-load l = (length l.w ≡ 16) × ((k : ℕ) → k < l.i → slice_index l.w k ≡ word_at l.block (8 * k))
