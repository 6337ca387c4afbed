use Rattle.std.proofs.Common.{◌≡◌, ◌-◌, ◌≤◌, length}
use Rattle.luks_area.specs.Device.{IsUnchanged}
use Rattle.luks_find_command.specs.Fragments.{ListsTo}
use Rattle.luks_find_command.proofs.fragments.list_by.Given as goal

-- the fragments that begin before the place were told, no call failed, and the device is as it was
abbrev pub invariant-loop-further : goal.invariant-loop-further
invariant-loop-further g l = record {
  unchanged : IsUnchanged g.D.Device.tells g.D.Device.size g.D.Device.bytes g.D.Device.unsettled l.initial.device l.device;
  count : g.D.Device.failed l.device ≡ g.D.Device.failed l.initial.device;
  prints : g.P.Printer.failures l.out ≡ g.P.Printer.failures l.initial.out;
  heard : g.G.Progress.heard l.progress ≡ g.G.Progress.heard l.initial.progress;
  paired : g.G.Progress.paired l.progress ≡ g.G.Progress.paired l.initial.progress;
  enough : 8192 ≤ length l.block;
  few : l.listed.found ≤ l.listed.at;
  told : g.D.Device.tells → ListsTo l.telling (g.D.Device.bytes l.initial.device) 0 l.listed.at l.listed.found (g.P.Printer.printed l.initial.out) (g.P.Printer.printed l.out);
}

abbrev pub decreases-loop-further : goal.decreases-loop-further
decreases-loop-further g l = g.D.Device.size l.device - l.listed.at
