use Rattle.std.proofs.Common.{◌≡◌}
use Rattle.luks_area.specs.Device.{IsUnchanged}
use Rattle.luks_trials.specs.Tallies.{Counts}
use Rattle.luks_piecing.proofs.piecing.search_fragments.Given as goal

-- the source is as it was, and what was counted stays counted
abbrev pub invariant-loop-spot : goal.invariant-loop-spot
invariant-loop-spot g l = record {
  unchanged : IsUnchanged g.D.Device.tells g.D.Device.size g.D.Device.bytes g.D.Device.unsettled l.initial.source l.source;
  count : g.D.Device.failed l.source ≡ g.D.Device.failed l.initial.source;
  counts : Counts l.initial.tally l.tally;
}
