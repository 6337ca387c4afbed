use Rattle.std.proofs.Common.{◌≡◌, ℕ, ◌*◌, List, ap, sym, ◌∙◌, subst}
use Rattle.luks_finding.specs.Readable.{told_by_step, untold_of, AreUntoldAt}
use Rattle.luks_finding.specs.Telling.{starts_of}
use Rattle.luks_finding.proofs.AllSignsFacts.{by-step, untold-at}
use Rattle.luks_finding.proofs.readable.judge.Goals as goal

pub returns-in-Ok-clause-judged : goal.returns-in-Ok-clause-judged
returns-in-Ok-clause-judged g c = λ t.
    let v : List ℕ = g.D.Device.bytes c.args.device.now in
    let told : List ℕ = c.args.told.now in
    let is : told_by_step c.from.result ≡ untold_of told (starts_of c.in-Ok.signs) =
    ap told_by_step c.from.ensures ∙ (by-step c.untold.result ∙ c.untold.ensures) in
    subst (AreUntoldAt v (512 * c.args.sector) told) (sym is) (untold-at v (512 * c.args.sector) told c.in-Ok.signs (c.in-Ok.ensures.all t))
