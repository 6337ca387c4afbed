use Rattle.std.proofs.Common.{◌+◌, ◌≤◌}
use Rattle.luks_area.specs.Device.{IsUnchanged}
use Rattle.luks_commands.proofs.open.underway.try_others.Given as goal

-- at each keyslot before this one a call may have failed
abbrev pub invariant-loop-n : goal.invariant-loop-n
invariant-loop-n g l = record {
  unchanged : IsUnchanged g.D.Device.tells g.D.Device.size g.D.Device.bytes g.D.Device.unsettled l.initial.device l.device;
  least : g.D.Device.failed l.initial.device ≤ g.D.Device.failed l.device;
  most : g.D.Device.failed l.device ≤ g.D.Device.failed l.initial.device + l.n;
}
