use Rattle.std.proofs.Common.{◌≡◌, ℕ, ◌<◌, ◌*◌, length, slice_index}
use Rattle.sha2.specs.Sha256.{word_at}
use Rattle.luks_rounds.specs.Pair.{window}
use Rattle.luks_lanes.proofs.pair_hasher.taken.Given as goal

-- the words so far are loaded, each into its lane
abbrev pub invariant-load : goal.invariant-load
invariant-load l = record {
  long : length l.w ≡ 16;
  first : (k : ℕ) → k < l.i → slice_index (window 0 l.w) k ≡ word_at l.first (4 * k);
  second : (k : ℕ) → k < l.i → slice_index (window 1 l.w) k ≡ word_at l.second (4 * k);
}
