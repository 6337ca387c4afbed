use Rattle.luks_wide_keeping.proofs.RestoredFacts.{barred_there, clear_there}
use Rattle.luks_wide_keeping.proofs.restoring.judge_standing.Goals as goal

pub returns-in-Ok-clause-barred : goal.returns-in-Ok-clause-barred
returns-in-Ok-clause-barred g c = λ source tells.
    barred_there (g.B.Device.bytes c.args.backup.now) (g.T.Device.bytes c.args.target.now) c.args.over c.in-Ok.standing c.judge_over.result (c.in-Ok.ensures.stands source tells) c.judge_over.ensures.barred

pub returns-in-Ok-clause-clear : goal.returns-in-Ok-clause-clear
returns-in-Ok-clause-clear g c = λ source tells.
    clear_there (g.B.Device.bytes c.args.backup.now) (g.T.Device.bytes c.args.target.now) c.args.over c.in-Ok.standing c.judge_over.result (c.in-Ok.ensures.stands source tells) c.judge_over.ensures.clear
