use Rattle.std.proofs.Common.{◌+◌, ◌<◌, ◌≤◌}
use Rattle.luks_area.specs.Device.{IsUnchanged}
use Rattle.luks_finding.proofs.behind.border.Given as goal

-- the border lies between the two sectors, and each time round one read failed at most
abbrev pub invariant-loop : goal.invariant-loop
invariant-loop g l = record {
  unchanged : IsUnchanged g.D.Device.tells g.D.Device.size g.D.Device.bytes g.D.Device.unsettled l.fn.device l.device;
  order : l.bad < l.good;
  low : l.fn.first ≤ l.bad;
  high : l.good ≤ l.fn.last;
  least : g.D.Device.failed l.fn.device ≤ g.D.Device.failed l.device;
  most : g.D.Device.failed l.device ≤ g.D.Device.failed l.fn.device + l.counter;
}
