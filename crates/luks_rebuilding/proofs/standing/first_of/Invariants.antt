use Rattle.std.proofs.Common.{ℕ, ◌<◌, length}
use Rattle.luks_area.specs.First.{NotAfter}
use Rattle.luks_rebuilding.specs.Found.{copy_at, standing_key}
use Rattle.luks_rebuilding.proofs.standing.first_of.Given as goal

-- `first` stands first among those so far
abbrev pub invariant-loop-n : goal.invariant-loop-n
invariant-loop-n l = record {
  inside : l.first < length l.left;
  before : (k : ℕ) → k < l.n → NotAfter (standing_key (copy_at l.left l.first)) (standing_key (copy_at l.left k));
}
