use Rattle.std.proofs.Common.{◌-◌, ◌≡◌, ◌≤◌, replicate}
use Rattle.luks_area.specs.Device.{Touches}
use Rattle.luks_area.specs.Ranges.{written, IsAt}
use Rattle.luks_area.proofs.filling.fill.Given as goal

-- the front of the area is filled, and nothing outside the area has changed
abbrev pub invariant-loop-done : goal.invariant-loop-done
invariant-loop-done g l = record {
  below : l.done ≤ l.area.len;
  size : g.D.Device.size l.device ≡ g.D.Device.size l.initial.device;
  count : g.D.Device.failed l.device ≡ g.D.Device.failed l.initial.device;
  filled : g.D.Device.tells → g.D.Device.bytes l.device ≡ written (g.D.Device.bytes l.initial.device) l.area.start (replicate l.done l.byte);
  touches : g.D.Device.tells → Touches g.D.Device.bytes g.D.Device.unsettled (IsAt l.area.start l.area.len) l.initial.device l.device;
}

abbrev pub decreases-loop-done : goal.decreases-loop-done
decreases-loop-done g l = l.area.len - l.done
