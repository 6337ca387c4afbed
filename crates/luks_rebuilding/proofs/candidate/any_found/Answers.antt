use Rattle.std.proofs.Common.{ℕ, List, IfOk, IfErr, subst}
use Rattle.std.proofs.lemmas.Result.{err_from_is_err_and}
use Rattle.luks_rebuilding.specs.Found.{BreaksFirst, BreaksHalf, FindsHalf}
use Rattle.luks_rebuilding.specs.declared.place.Half.TheVariants.{Second}
use Rattle.luks_rebuilding.specs.declared.place.Copies.TheVariants.{Any}
use Rattle.luks_rebuilding.proofs.SearchFacts.{after_broken, after_result, broken_so, first_broken, first_taken}
use Rattle.luks_rebuilding.proofs.candidate.any_found.Goals as goal

pub returns-in-Some-clause-found : goal.returns-in-Some-clause-found
returns-in-Some-clause-found g c = λ t.
    first_taken (g.D.Device.bytes c.args.source.now) c.in-Some.first (rw c.in-Some.is at c.in_ok-first.ensures.found t)

pub returns-in-None-clause-found : goal.returns-in-None-clause-found
returns-in-None-clause-found g c = λ t.
    after_result (g.D.Device.bytes c.args.source.now) c.least_of-in-None.result (rw c.in-None.is at c.in_ok-first.ensures.found t)
    (subst (λ (v : List ℕ). IfOk c.least_of-in-None.result (FindsHalf v Second)) (c.in_ok-first.ensures.unchanged.same t) (c.least_of-in-None.ensures.found t))

pub returns-in_err-first-clause-broken : goal.returns-in_err-first-clause-broken
returns-in_err-first-clause-broken g c = λ t.
    let p = err_from_is_err_and c.from_residual.result c.from_residual.ensures.1 in
    rw (p.1, p.2) (first_broken (g.D.Device.bytes c.args.source.now) c.in_err-first.field-0.0 (c.in_err-first.ensures.broken t))

pub returns-in-None-clause-broken : goal.returns-in-None-clause-broken
returns-in-None-clause-broken g c = λ t.
    let v : List ℕ = g.D.Device.bytes c.args.source.now in
    broken_so v c.least_of-in-None.result (BreaksHalf v Second) (BreaksFirst v Any) (after_broken v (rw c.in-None.is at c.in_ok-first.ensures.found t))
    (subst (λ (u : List ℕ). IfErr c.least_of-in-None.result (BreaksHalf u Second)) (c.in_ok-first.ensures.unchanged.same t) (c.least_of-in-None.ensures.broken t))
