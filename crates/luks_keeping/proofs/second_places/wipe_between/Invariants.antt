use Rattle.std.proofs.Common.{◌-◌, ◌≡◌, ◌⊎◌, ◌%◌, ◌<◌, ◌≤◌, ℕ, slice_index}
use Rattle.luks_area.specs.Device.{Touches}
use Rattle.luks_keeping.specs.Clearing.{IsBetween}
use Rattle.luks_keeping.proofs.second_places.wipe_between.Given as goal

-- what is between before `done` is zeros, and nothing else has changed
abbrev pub invariant-loop-done : goal.invariant-loop-done
invariant-loop-done g l = record {
  behind : 512 ≤ l.done;
  whole : l.done % 512 ≡ 0 ⊎ l.size ≤ l.done;
  size : g.T.Device.size l.target ≡ g.T.Device.size l.initial.target;
  count : g.T.Device.failed l.target ≡ g.T.Device.failed l.initial.target;
  touches : g.T.Device.tells → Touches g.T.Device.bytes g.T.Device.unsettled (IsBetween l.size) l.initial.target l.target;
  zeros : g.T.Device.tells → (p : ℕ) → IsBetween l.size p → p < l.done → slice_index (g.T.Device.bytes l.target) p ≡ 0;
}

abbrev pub decreases-loop-done : goal.decreases-loop-done
decreases-loop-done g l = l.size - l.done
