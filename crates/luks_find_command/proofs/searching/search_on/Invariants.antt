use Rattle.std.proofs.Common.{◌≡◌, ◌-◌, ◌*◌, ◌≤◌}
use Rattle.luks_area.specs.Device.{IsUnchanged}
use Rattle.luks_finding.specs.Finding.{looks_from}
use Rattle.luks_find_command.specs.Searches.{told_of}
use Rattle.luks_find_command.proofs.GoingOnFacts.{IsGoing}
use Rattle.luks_find_command.proofs.searching.search_on.Given as goal

-- the volumes of which a sign can be read before where the search looks were told, and the device is as it was
abbrev pub invariant-loop-alloc : goal.invariant-loop-alloc
invariant-loop-alloc g l = record {
  unchanged : IsUnchanged g.D.Device.tells g.D.Device.size g.D.Device.bytes g.D.Device.unsettled l.fn.device l.device;
  failing : g.D.Device.failed l.fn.device ≤ g.D.Device.failed l.device;
  prints : g.P.Printer.failures l.out ≡ g.P.Printer.failures l.fn.out;
  going : IsGoing g.D.Device.tells l.file.offset (g.D.Device.size l.fn.device) (g.D.Device.bytes l.fn.device) l.fn.searching.told.items l.searching.told.items
      (looks_from l.searching.finding) (g.D.Device.failed l.fn.device) (g.D.Device.failed l.device) (g.G.Progress.heard l.fn.progress) (g.G.Progress.heard l.progress)
      (told_of (g.P.Printer.printed l.fn.out) l.fn.searching.met.items (g.G.Progress.paired l.fn.progress)) (told_of (g.P.Printer.printed l.out) l.searching.met.items (g.G.Progress.paired l.progress));
}

abbrev pub decreases-loop-alloc : goal.decreases-loop-alloc
decreases-loop-alloc g l = g.D.Device.size l.device - 512 * looks_from l.searching.finding
