use Rattle.std.proofs.Common.{◌-◌, ◌≡◌, ◌≤◌}
use Rattle.luks_area.specs.Device.{IsUnchanged}
use Rattle.luks_area.specs.Ranges.{part}
use Rattle.luks_keeping.proofs.comparing_areas.are_alike.Given as goal

-- the fronts of both areas hold the same bytes
abbrev pub invariant-loop-done : goal.invariant-loop-done
invariant-loop-done g l = record {
  below : l.done ≤ l.here.len;
  kept : IsUnchanged g.B.Device.tells g.B.Device.size g.B.Device.bytes g.B.Device.unsettled l.initial.backup l.backup;
  unchanged : IsUnchanged g.T.Device.tells g.T.Device.size g.T.Device.bytes g.T.Device.unsettled l.initial.target l.target;
  backup_count : g.B.Device.failed l.backup ≡ g.B.Device.failed l.initial.backup;
  count : g.T.Device.failed l.target ≡ g.T.Device.failed l.initial.target;
  alike : g.B.Device.tells → g.T.Device.tells
      → part (g.B.Device.bytes l.initial.backup) l.here.start l.done ≡ part (g.T.Device.bytes l.initial.target) l.there.start l.done;
}

abbrev pub decreases-loop-done : goal.decreases-loop-done
decreases-loop-done g l = l.here.len - l.done
