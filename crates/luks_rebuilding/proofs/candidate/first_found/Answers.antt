use Rattle.std.proofs.Common.{IfOk, subst, sym}
use Rattle.luks_rebuilding.specs.Found.{FindsFirst}
use Rattle.luks_rebuilding.specs.declared.place.Copies.{Copies}
use Rattle.luks_rebuilding.proofs.SearchFacts.{second_result}
use Rattle.luks_rebuilding.proofs.candidate.first_found.Goals as goal

pub returns-in-Second-clause-found : goal.returns-in-Second-clause-found
returns-in-Second-clause-found g c = λ t.
    subst (λ (w : Copies). IfOk c.least_of.result (FindsFirst (g.D.Device.bytes c.args.source.now) w)) (sym c.in-Second.is)
    (second_result (g.D.Device.bytes c.args.source.now) c.least_of.result (c.least_of.ensures.found t))
