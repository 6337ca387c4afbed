use Rattle.std.proofs.Common.{List, ℕ, arith, ◌∙◌, subst, get_or, Some}
use Rattle.std.proofs.lemmas.Result.{err_from_is_err_and}
use Rattle.luks_area.specs.Device.{unchanged-then}
use Rattle.luks2_header.proofs.SecondCopyFacts.{among_all, none_left, rising_later}
use Rattle.luks_rebuilding.specs.Found.{place_of, BreaksAt, FindsAt, IsWholeAt}
use Rattle.luks_rebuilding.proofs.SearchFacts.{broken_half, least_found, whole_later}
use Rattle.luks_rebuilding.proofs.search.least_of.Goals as goal

pub returns-in-Some-clause-found : goal.returns-in-Some-clause-found
returns-in-Some-clause-found g c = λ t.
    let F : List ℕ → Type 0 = λ v. FindsAt v (place_of c.args.half (get_or c.loop-left.left.now 0 0)) (Some c.in-Some.found) in
    let found = rw c.place_of.ensures at (rw c.in-Some.is at c.in_ok-found.ensures.found t) in
    least_found _ c.args.half c.loop-left.left.now c.in-Some.found c.in-len1-up.len_at_least c.loop-left.invariant.rising
    (c.loop-left.invariant.left t) (rw c.place_of.ensures at (rw c.in-Some.is at c.in_ok-found.ensures.place)) (subst F (c.loop-left.invariant.unchanged.same t) found)

pub returns-in_err-found-clause-broken : goal.returns-in_err-found-clause-broken
returns-in_err-found-clause-broken g c = λ t.
    let p = err_from_is_err_and c.from_residual.result c.from_residual.ensures.1 in
    let B : List ℕ → Type 0 = λ v. BreaksAt v (place_of c.args.half (get_or c.loop-left.left.now 0 0)) c.in_err-found.field-0.0 in
    let broken = rw c.place_of.ensures at (c.in_err-found.ensures.broken t) in
    rw (p.1, p.2) (broken_half _ c.args.half c.loop-left.left.now c.loop-left.invariant.rising (c.loop-left.invariant.left t) c.in_err-found.field-0.0
    (subst B (c.loop-left.invariant.unchanged.same t) broken))

pub returns-clause-found : goal.returns-clause-found
returns-clause-found g c = λ t p listed whole. none_left c.loop-left.left.now p (omega arith) (c.loop-left.invariant.left t p listed whole)

pub loop-left-preserved : goal.loop-left-preserved
loop-left-preserved g c = record {
  unchanged = unchanged-then c.loop-left.invariant.unchanged c.in_ok-found.ensures.unchanged;
  count = c.in_ok-found.ensures.count ∙ c.loop-left.invariant.count;
  rising = rising_later c.loop-left.left.now c.loop-left.invariant.rising;
  listed = λ p among. c.loop-left.invariant.listed p (among_all c.loop-left.left.now p among);
  left = λ t p listed whole.
      let N : List ℕ → Type 0 = λ v. IsWholeAt v (place_of c.args.half (get_or c.loop-left.left.now 0 0)) → ⊥ in
      let none = rw c.place_of.ensures at (rw c.in-None.is at c.in_ok-found.ensures.found t) in
      whole_later _ c.args.half c.loop-left.left.now p (subst N (c.loop-left.invariant.unchanged.same t) none) whole (c.loop-left.invariant.left t p listed whole);
}
