use Rattle.std.proofs.Common.{subst, sym}
use Rattle.luks_main.specs.Statuses.{MayEnd}
use Rattle.luks_main.proofs.OutcomeFacts.{fault_ends, timed_ends}
use Rattle.luks_main.proofs.running.run_timed.Goals as goal

pub returns-in-Ok-clause-ends : goal.returns-in-Ok-clause-ends
returns-in-Ok-clause-ends g c =
    timed_ends c.args.line.now.command c.in-Ok.timed.command c.run_read.result c.in-Ok.ensures.command c.run_read.ensures.ends

pub returns-in-Err-clause-ends : goal.returns-in-Err-clause-ends
returns-in-Err-clause-ends g c = subst (MayEnd c.args.line.now.command) (sym c.tell_untimed.ensures) (fault_ends c.args.line.now.command)
