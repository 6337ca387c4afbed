use Rattle.std.proofs.Common.{ℕ, List, IfOk, subst, sym, ◌∙◌}
use Rattle.luks_signatures.specs.Signatures.{Finds, table}
use Rattle.luks_signatures.proofs.FrontFacts.{take-within}
use Rattle.luks_signatures.proofs.first.first_use.Goals as goal

-- the program's rows are those of the definition's table
pub returns-clause-found : goal.returns-clause-found
returns-clause-found g c = λ t.
    let F : List ℕ → Type 0 = λ v. IfOk c.first_of.result (Finds table v) in
    let sized = g.met.D.Device.sized c.args.device.now t ∙ sym c.len.ensures in
    subst F (take-within (g.D.Device.bytes c.args.device.now) c.min-end.result c.args.len c.len.result sized c.min-end.ensures)
    (c.first_of.ensures.found t)
