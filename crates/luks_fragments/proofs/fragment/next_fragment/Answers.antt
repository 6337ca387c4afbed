use Rattle.std.proofs.Common.{◌≡◌, arith, inl, inr, subst}
use Rattle.std.proofs.lemmas.Bool.{cases_lt}
use Rattle.luks_fragments.specs.Fragments.{HasFragmentAt}
use Rattle.luks_fragments.proofs.fragment.next_fragment.Goals as goal

pub returns-in-Some-clause-some : goal.returns-in-Some-clause-some
returns-in-Some-clause-some c =
    let here = rw c.in-Some.is at c.in_ok-fragment.ensures.start in
    let low = c.loop-start.auto.start in
    record {
      behind = omega (arith, here, low);
      is = rw c.in-Some.is at c.in_ok-fragment.ensures.some;
      first = λ p from below. c.loop-start.invariant p from (omega (arith, below, here));
    }

pub loop-start-preserved : goal.loop-start-preserved
loop-start-preserved c = λ p from below x.
    elim (cases_lt p c.loop-start.start) [
      | inl before ↦ c.loop-start.invariant p from before x
      | inr past ↦
          let here : p ≡ c.loop-start.start = omega (arith, below, past) in
          let none = rw c.in_default.is at c.in_ok-fragment.ensures.none in
          none (subst (HasFragmentAt c.args.area.now) here x)
    ]

pub returns-clause-none : goal.returns-clause-none
returns-clause-none c = λ p from x.
    let inside = x.fragment.object.inside in
    let some = x.fragment.object.some in
    let ended = c.loop-start-test.false in
    c.loop-start.invariant p from (omega (arith, inside, some, ended)) x
