use Rattle.std.proofs.Common.{◌+◌, ◌-◌, ◌*◌, ◌<◌, ◌≤◌}
use Rattle.luks_area.specs.Device.{IsUnchanged}
use Rattle.luks_finding.proofs.behind.first_behind.Given as goal

-- the last sector that couldn't be read, to which each failed read led by a stride
abbrev pub invariant-loop : goal.invariant-loop
invariant-loop g l = record {
  unchanged : IsUnchanged g.D.Device.tells g.D.Device.size g.D.Device.bytes g.D.Device.unsettled l.fn.device l.device;
  inside : 512 * l.bad < g.D.Device.size l.fn.device;
  low : l.fn.from ≤ l.bad;
  some : 1 ≤ l.stride;
  short : l.stride ≤ 2048;
  least : g.D.Device.failed l.fn.device ≤ g.D.Device.failed l.device;
  most : g.D.Device.failed l.device ≤ g.D.Device.failed l.fn.device + l.counter;
  bounded : l.bad ≤ l.fn.from + 2048 * (g.D.Device.failed l.device - g.D.Device.failed l.fn.device);
}
