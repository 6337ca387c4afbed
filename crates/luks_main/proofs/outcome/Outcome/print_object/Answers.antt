use Rattle.std.proofs.Common.{ℕ, subst, string_bytes}
use Rattle.luks_main.specs.Outcomes.{EndsTold, IsObjectOf, IsMade}
use Rattle.luks_main.proofs.OutcomeFacts.{made_as, told_as}
use Rattle.luks_main.proofs.outcome.Outcome.print_object.Goals as goal

pub returns : goal.returns
returns g c =
    told_as (IsMade string_bytes c.object-text.result) (IsObjectOf c.args.self.now.answer)
    (made_as string_bytes c.object-text.result (IsObjectOf c.args.self.now.answer) c.object-text.ensures) _ _ _ _ _ _
    (subst (λ (own : ℕ). EndsTold (IsMade string_bytes c.object-text.result) own (g.P.Printer.failures c.args.out.now) (g.P.Printer.failures c.print_text.new.out)
    (g.P.Printer.printed c.args.out.now) (g.P.Printer.printed c.print_text.new.out) c.print_text.result) c.status.ensures c.print_text.ensures)
