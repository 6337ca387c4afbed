use Rattle.std.proofs.Common.{◌-◌, ◌≡◌, ◌≤◌}
use Rattle.luks_area.specs.Device.{IsUnchanged, Touches}
use Rattle.luks_area.specs.Ranges.{part, written, IsAt}
use Rattle.luks_writing.proofs.copying.copy_range.Given as goal

-- the front of the range is copied, and nothing outside the range was touched
abbrev pub invariant-loop-done : goal.invariant-loop-done
invariant-loop-done g l = record {
  below : l.done ≤ l.len;
  kept : IsUnchanged g.S.Device.tells g.S.Device.size g.S.Device.bytes g.S.Device.unsettled l.initial.source l.source;
  size : g.T.Device.size l.target ≡ g.T.Device.size l.initial.target;
  source_count : g.S.Device.failed l.source ≡ g.S.Device.failed l.initial.source;
  count : g.T.Device.failed l.target ≡ g.T.Device.failed l.initial.target;
  copied : g.S.Device.tells → g.T.Device.tells → g.T.Device.bytes l.target ≡ written (g.T.Device.bytes l.initial.target) l.at (part (g.S.Device.bytes l.initial.source) l.from l.done);
  touches : g.T.Device.tells → Touches g.T.Device.bytes g.T.Device.unsettled (IsAt l.at l.len) l.initial.target l.target;
}

abbrev pub decreases-loop-done : goal.decreases-loop-done
decreases-loop-done g l = l.len - l.done
