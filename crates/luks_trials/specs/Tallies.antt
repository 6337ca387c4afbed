-- How many derivations are counted.
use Rattle.std.specs.Prelude.{◌≡◌, ◌≤◌, ℕ, ◌+◌, Option, Some, None}
use Rattle.luks_trials.specs.declared.tally.Tally.{Tally}

-- those that were made, and those that may be
abbrev pub done_of : Tally → ℕ
done_of tally = tally.done

abbrev pub most_of : Tally → ℕ
most_of tally = tally.most

-- what a search leaves of a tally: as many may be made, and none is forgotten
pub record Counts (old new : Tally) : Type 0 where
  pub most : most_of new ≡ most_of old
  pub grows : done_of old ≤ done_of new

-- a keyslot that was tried is counted once, and one that wasn't at most once
abbrev pub CountsOne : {A : Type 0} → Option A → Tally → Tally → Type 0
CountsOne {A} (Some answer) old new = done_of new ≡ done_of old + 1
CountsOne {A} None old new = done_of new ≤ done_of old + 1
