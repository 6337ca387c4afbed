use Rattle.std.proofs.Common.{subst, sym}
use Rattle.luks_commands.specs.Answer.{answer_status}
use Rattle.luks_commands.specs.declared.answers.Answer.{Answer}
use Rattle.luks_main.specs.Outcomes.{IsObjectOf}
use Rattle.luks_main.specs.Statuses.{EndsWith}
use Rattle.luks_main.proofs.OutcomeFacts.{told_ends, told_exits}
use Rattle.luks_main.proofs.StatusFacts.{own}
use Rattle.luks_main.proofs.running.run_read.Goals as goal

pub returns-clause-ends : goal.returns-clause-ends
returns-clause-ends g c =
    let a : Answer = c.note_ended.new.outcome.answer in
    told_ends c.args.line.now.command a
    (subst (λ (x : Answer). EndsWith c.args.line.now.command x (own x)) (sym c.note_ended.ensures.answer) c.outcome_told-outcome.ensures)
    (IsObjectOf a) _ _ _ _ c.print_object.result c.print_object.ensures

pub returns-clause-status : goal.returns-clause-status
returns-clause-status g c =
    let a : Answer = c.note_ended.new.outcome.answer in
    told_exits (IsObjectOf a) (answer_status a) _ _ _ _ c.print_object.result c.print_object.ensures
