use Rattle.luks_main.proofs.OutcomeFacts.{executed_ends}
use Rattle.luks_main.proofs.outcome.outcome_of.Goals as goal

pub returns : goal.returns
returns g c = executed_ends _ _ _ c.args.line.now.command _ _ _ c.execute-answer.result c.execute-answer.ensures.executes
