use Rattle.std.proofs.Common.{◌≡◌, ◌-◌, ◌*◌, []}
use Rattle.luks_area.specs.Device.{IsUnchanged}
use Rattle.luks_finding.specs.Finding.{looks_from}
use Rattle.luks_find_command.specs.Searches.{told_of}
use Rattle.luks_find_command.proofs.SearchFacts.{IsCalm}
use Rattle.luks_find_command.proofs.searching.search_calmly.Given as goal

-- the volumes before where the search looks were told, no read failed, and the device is as it was
abbrev pub invariant-loop-device : goal.invariant-loop-device
invariant-loop-device g l = record {
  unchanged : IsUnchanged g.D.Device.tells g.D.Device.size g.D.Device.bytes g.D.Device.unsettled l.fn.device l.device;
  count : g.D.Device.failed l.device ≡ g.D.Device.failed l.fn.device;
  prints : g.P.Printer.failures l.out ≡ g.P.Printer.failures l.fn.out;
  silent : g.G.Progress.heard l.progress ≡ g.G.Progress.heard l.fn.progress;
  told : g.D.Device.tells → IsCalm l.file.offset (g.D.Device.bytes l.fn.device) (looks_from l.searching.finding) l.searching.told.items
      (told_of (g.P.Printer.printed l.fn.out) [] (g.G.Progress.paired l.fn.progress)) (told_of (g.P.Printer.printed l.out) l.searching.met.items (g.G.Progress.paired l.progress));
}

abbrev pub decreases-loop-device : goal.decreases-loop-device
decreases-loop-device g l = g.D.Device.size l.device - 512 * looks_from l.searching.finding
