use Rattle.std.proofs.Common.{ℕ, List, IfOk, take, sym, subst, ◌∙◌, ap}
use Rattle.std.proofs.Math.Seq.{take-length}
use Rattle.luks_signatures.specs.Signatures.{Finds, table}
use Rattle.luks_commands.proofs.standing.standing_use_of.Goals as goal

pub returns-clause-found : goal.returns-clause-found
returns-clause-found g c = λ tells.
    let v : List ℕ = g.D.Device.bytes c.args.device.now in
    subst (λ (w : List ℕ). IfOk c.first_use.result (Finds table w))
    (ap (λ n. take n v) (c.len-all.ensures ∙ sym (g.met.D.Device.sized c.args.device.now tells)) ∙ take-length v)
    (c.first_use.ensures.found tells)
