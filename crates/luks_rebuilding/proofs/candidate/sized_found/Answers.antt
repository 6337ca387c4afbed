use Rattle.std.proofs.Common.{ℕ, List, IfOk, IfErr, subst}
use Rattle.luks_rebuilding.specs.Found.{place_of, BreaksAt, BreaksFirst, FindsAt}
use Rattle.luks_rebuilding.specs.declared.place.Half.TheVariants.{Second}
use Rattle.luks_rebuilding.specs.declared.place.Copies.TheVariants.{OfSize}
use Rattle.luks_rebuilding.proofs.SearchFacts.{broken_so}
use Rattle.luks_rebuilding.proofs.SizedFacts.{after_broken, sized_first, sized_result}
use Rattle.luks_rebuilding.proofs.candidate.sized_found.Goals as goal

pub returns-in-Some-clause-found : goal.returns-in-Some-clause-found
returns-in-Some-clause-found g c = λ t.
    sized_first (g.D.Device.bytes c.args.source.now) c.args.size c.in-Some.first (rw c.in-Some.is at c.in_ok-first.ensures.place) (rw c.in-Some.is at c.in_ok-first.ensures.found t)

pub returns-in-None-clause-found : goal.returns-in-None-clause-found
returns-in-None-clause-found g c = λ t.
    sized_result (g.D.Device.bytes c.args.source.now) c.args.size c.found_of-in-None.result (rw c.in-None.is at c.in_ok-first.ensures.found t) c.found_of-in-None.ensures.place
    (subst (λ (v : List ℕ). IfOk c.found_of-in-None.result (FindsAt v (place_of Second c.args.size))) (c.in_ok-first.ensures.unchanged.same t) (c.found_of-in-None.ensures.found t))

pub returns-in-None-clause-broken : goal.returns-in-None-clause-broken
returns-in-None-clause-broken g c = λ t.
    let v : List ℕ = g.D.Device.bytes c.args.source.now in
    broken_so v c.found_of-in-None.result (BreaksAt v (place_of Second c.args.size)) (BreaksFirst v (OfSize c.args.size))
    (after_broken v c.args.size (rw c.in-None.is at c.in_ok-first.ensures.found t))
    (subst (λ (u : List ℕ). IfErr c.found_of-in-None.result (BreaksAt u (place_of Second c.args.size))) (c.in_ok-first.ensures.unchanged.same t) (c.found_of-in-None.ensures.broken t))
