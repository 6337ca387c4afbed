use Rattle.luks_commands.specs.Answer.{answer_status}
use Rattle.luks_main.specs.Outcomes.{IsLinesOf}
use Rattle.luks_main.proofs.OutcomeFacts.{told_ends, told_exits}
use Rattle.luks_main.proofs.running.print_lines.Goals as goal

pub returns-clause-ends : goal.returns-clause-ends
returns-clause-ends g c =
    told_ends c.args.line.now.command c.args.outcome.now.answer c.requires.outcome (IsLinesOf c.args.outcome.now.answer) _ _ _ _ c.print_lines.result c.print_lines.ensures

pub returns-clause-status : goal.returns-clause-status
returns-clause-status g c =
    let a = c.args.outcome.now.answer in
    told_exits (IsLinesOf a) (answer_status a) _ _ _ _ c.print_lines.result c.print_lines.ensures
