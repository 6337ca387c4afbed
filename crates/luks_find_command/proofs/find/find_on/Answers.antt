use Rattle.luks_find_command.proofs.SearchFacts.{find-run}
use Rattle.luks_find_command.proofs.find.find_on.Goals as goal

pub returns-clause-answers : goal.returns-clause-answers
returns-clause-answers g c =
    find-run g.D.Device.tells c.args.file.now.offset (g.D.Device.size c.args.device) (g.D.Device.bytes c.args.device) c.search-device.result.1
    (g.D.Device.failed c.args.device) (g.D.Device.failed c.search-device.result.0) (g.P.Printer.failures c.args.out.now) (g.P.Printer.failures c.search-device.new.out) (g.P.Printer.failures c.finish-status.new.out)
    (g.G.Progress.heard c.args.progress.now) (g.G.Progress.heard c.search-device.new.progress)
    (g.P.Printer.printed c.args.out.now) (g.P.Printer.printed c.search-device.new.out) (g.P.Printer.printed c.finish-status.new.out)
    (g.G.Progress.paired c.args.progress.now) (g.G.Progress.paired c.search-device.new.progress) c.finish-status.result
    c.search-device.ensures.counts c.search-device.ensures.count c.search-device.ensures.all c.search-device.ensures.first c.search-device.ensures.on c.finish-status.ensures
