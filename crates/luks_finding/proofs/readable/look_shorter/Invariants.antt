use Rattle.std.proofs.Common.{◌≡◌, ◌+◌, ◌≤◌}
use Rattle.luks_area.specs.Device.{IsUnchanged}
use Rattle.luks_finding.proofs.readable.look_shorter.Given as goal

-- each time round a read failed
abbrev pub invariant-loop : goal.invariant-loop
invariant-loop g l = record {
  unchanged : IsUnchanged g.D.Device.tells g.D.Device.size g.D.Device.bytes g.D.Device.unsettled l.fn.device l.device;
  some : 1 ≤ l.sectors;
  short : l.sectors ≤ 2048;
  count : g.D.Device.failed l.device ≡ g.D.Device.failed l.fn.device + l.counter;
}
