use Rattle.std.proofs.Common.{◌≡◌, ◌-◌, ◌*◌}
use Rattle.luks_area.specs.Device.{IsUnchanged}
use Rattle.luks_finding.specs.Finding.{looks_from, AreStartsBetween}
use Rattle.luks_finding.proofs.starts.all_starts.Given as goal

-- the list has the starts before where the search looks, and the device is as it was
abbrev pub invariant-loop-starts : goal.invariant-loop-starts
invariant-loop-starts g l = record {
  unchanged : IsUnchanged g.D.Device.tells g.D.Device.size g.D.Device.bytes g.D.Device.unsettled l.initial.device l.device;
  count : g.D.Device.failed l.device ≡ g.D.Device.failed l.initial.device;
  told : g.D.Device.tells → AreStartsBetween (g.D.Device.bytes l.initial.device) 0 (looks_from l.finding) l.starts.items;
}

abbrev pub decreases-loop-starts : goal.decreases-loop-starts
decreases-loop-starts g l = g.D.Device.size l.device - 512 * looks_from l.finding
