use Rattle.std.proofs.Common.{◌≡◌, ℕ, ◌<◌, ◌*◌, length, slice_index}
use Rattle.sha1.specs.Sha1.{word_at}
use Rattle.luks_rounds.specs.Quad.{window}
use Rattle.luks_lanes.proofs.quad_turns.ArrayU32x45Lanes.of_block.Given as goal

abbrev pub invariant-load : goal.invariant-load
invariant-load l = (length l.w ≡ 16)
    × ((j k : ℕ) → j < 4 → k < l.i → slice_index (window j l.w) k ≡ word_at l.block (4 * k))
