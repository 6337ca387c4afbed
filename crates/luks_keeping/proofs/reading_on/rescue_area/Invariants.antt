use Rattle.std.proofs.Common.{◌-◌, ◌≡◌, ◌≤◌}
use Rattle.luks_area.specs.Device.{IsUnchanged, Touches}
use Rattle.luks_area.specs.Ranges.{IsAt}
use Rattle.luks_keeping.specs.ReadPlaces.{LeavesRange}
use Rattle.luks_keeping.proofs.reading_on.rescue_area.Given as goal

-- the front of the area is copied as far as it can be read, and nothing outside the area was touched
abbrev pub invariant-loop-done : goal.invariant-loop-done
invariant-loop-done g l = record {
  below : l.done ≤ l.area.len;
  kept : IsUnchanged g.S.Device.tells g.S.Device.size g.S.Device.bytes g.S.Device.unsettled l.initial.source l.source;
  size : g.T.Device.size l.target ≡ g.T.Device.size l.initial.target;
  count : g.T.Device.failed l.target ≡ g.T.Device.failed l.initial.target;
  failing : g.S.Device.failed l.initial.source ≤ g.S.Device.failed l.source;
  left : LeavesRange (g.S.Device.tells × g.T.Device.tells) (g.S.Device.bytes l.initial.source) (g.T.Device.bytes l.target) l.area.start l.done
      (g.S.Device.failed l.initial.source) (g.S.Device.failed l.source);
  touches : g.T.Device.tells → Touches g.T.Device.bytes g.T.Device.unsettled (IsAt l.area.start l.area.len) l.initial.target l.target;
}

abbrev pub decreases-loop-done : goal.decreases-loop-done
decreases-loop-done g l = l.area.len - l.done
