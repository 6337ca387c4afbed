use Rattle.luks_find_command.proofs.FragmentFacts.{run-of-fragments}
use Rattle.luks_find_command.proofs.fragments.list_on.Goals as goal

pub returns-clause-answers : goal.returns-clause-answers
returns-clause-answers g c =
    run-of-fragments g.D.Device.tells c.args.telling (g.D.Device.bytes c.args.device.now) c.list-ended.result
    (g.D.Device.failed c.args.device.now) (g.D.Device.failed c.list-ended.new.device)
    (g.P.Printer.failures c.args.out.now) (g.P.Printer.failures c.list-ended.new.out) (g.P.Printer.failures c.finish.new.out)
    (g.P.Printer.printed c.args.out.now) (g.P.Printer.printed c.list-ended.new.out) (g.P.Printer.printed c.finish.new.out) c.finish.result
    c.list-ended.ensures.counts c.list-ended.ensures.count c.list-ended.ensures.all c.list-ended.ensures.some c.finish.ensures
