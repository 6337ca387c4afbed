use Rattle.std.proofs.Common.{◌≡◌, ℕ, ◌<◌, slice_index}
use Rattle.luks_area.specs.Device.{IsUnchanged}
use Rattle.luks_trials.specs.Tallies.{Counts}
use Rattle.luks2_searching.specs.Found.{HasNoneBy}
use Rattle.luks2_searching.specs.declared.searching.TheConstants.{SIZES}
use Rattle.luks2_searching.proofs.searching.by_step.Given as goal

-- nothing is found by the step in the copies of a size before this one
abbrev pub invariant-loop-size : goal.invariant-loop-size
invariant-loop-size g l = record {
  unchanged : IsUnchanged g.D.Device.tells g.D.Device.size g.D.Device.bytes g.D.Device.unsettled l.initial.source l.source;
  count : g.D.Device.failed l.source ≡ g.D.Device.failed l.initial.source;
  counts : Counts l.initial.tally l.tally;
  none : g.D.Device.tells → (k : ℕ) → k < l.size-index
      → HasNoneBy l.trying.allowed (g.D.Device.bytes l.initial.source) l.trying.passphrase.now l.step (slice_index SIZES k);
}
