use Rattle.luks_find_command.specs.declared.stop.Stop.TheVariants as stop
use Rattle.luks_find_command.proofs.FragmentFacts.{lists-nothing}
use Rattle.luks_find_command.proofs.fragments.list.Goals as goal

pub returns-in-Err-clause-some : goal.returns-in-Err-clause-some
returns-in-Err-clause-some g c = λ t.
    lists-nothing stop.Memory c.args.telling (g.D.Device.bytes c.args.device.now) (g.P.Printer.printed c.args.out.now)
