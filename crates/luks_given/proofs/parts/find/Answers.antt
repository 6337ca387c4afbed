use Rattle.std.proofs.Common.{◌≡◌, ℕ, ◌+◌, ◌-◌, List, [], drop, slice_index_or, inl, inr, subst, sym, ap, refl, arith}
use Rattle.std.proofs.lemmas.List.{drop_all, drop_more}
use Rattle.luks_given.specs.declared.parts.Part.{Part}
use Rattle.luks_given.specs.Parts.{parts_length, AreApart, HasPlace, IsPlaced}
use Rattle.luks_given.proofs.PartFacts.{apart-weaker, no_place-at_end, no_place-before}
use Rattle.luks_given.proofs.parts.find.Goals as goal

pub returns-then-at-part-clause-missing : goal.returns-then-at-part-clause-missing
returns-then-at-part-clause-missing c =
    let parts : List Part = c.args.parts.now in
    let i : ℕ = c.loop-part.part-index in
    let e = drop_more parts i (record { at = 0; len = 0 }) c.loop-part-test.true in (
      omega arith,
      c.requires.some,
      λ has. no_place-before c.args.at _ _ (subst (AreApart 0) e c.loop-part.invariant.apart) c.if-at-part.true
          (subst (λ l. HasPlace l c.args.at) e (c.loop-part.invariant.behind c.args.at (omega arith) has)),
    )

pub overflow_add-result : goal.overflow_add-result
unfolding parts_length
overflow_add-result c =
    let parts : List Part = c.args.parts.now in
    let i : ℕ = c.loop-part.part-index in
    let all = ap parts_length (drop_more parts i (record { at = 0; len = 0 }) c.loop-part-test.true) in
    let counted = c.loop-part.invariant.counted in
    let held = c.requires.held in
    let here = c.if-at-part-2.true in
    omega (arith, all, counted, held, here)

pub returns-then-end-part-clause-there : goal.returns-then-end-part-clause-there
unfolding IsPlaced
returns-then-end-part-clause-there c =
    let parts : List Part = c.args.parts.now in
    let i : ℕ = c.loop-part.part-index in
    let d : Part = record { at = 0; len = 0 } in
    let e = drop_more parts i d c.loop-part-test.true in
    let k : ℕ = c.loop-part.before + (c.args.at - (slice_index_or parts i d).at) in
    let low = c.if-at-part.false in
    let high = c.if-end-part.true in
    let some = c.requires.some in
    c.loop-part.invariant.placed k (subst (λ l. IsPlaced l c.loop-part.before c.args.at c.args.end k) (sym e) (inl (omega (arith, low), omega (arith, low, high, some), refl)))

pub returns-then-at-part-2-clause-missing : goal.returns-then-at-part-2-clause-missing
returns-then-at-part-2-clause-missing c =
    let parts : List Part = c.args.parts.now in
    let i : ℕ = c.loop-part.part-index in
    let d : Part = record { at = 0; len = 0 } in
    let r : Part = slice_index_or parts i d in
    let e = drop_more parts i d c.loop-part-test.true in
    let low = c.if-at-part.false in
    let here = c.if-at-part-2.true in
    let beyond = c.if-end-part.false in (
      omega (arith, low, here),
      omega (arith, low, beyond),
      λ has. no_place-at_end r _ (subst (AreApart 0) e c.loop-part.invariant.apart)
          (subst (λ l. HasPlace l (r.at + r.len)) e (c.loop-part.invariant.behind (r.at + r.len) (omega (arith, low, here)) has)),
    )

pub overflow_add-before : goal.overflow_add-before
unfolding parts_length
overflow_add-before c =
    let parts : List Part = c.args.parts.now in
    let i : ℕ = c.loop-part.part-index in
    let all = ap parts_length (drop_more parts i (record { at = 0; len = 0 }) c.loop-part-test.true) in
    let counted = c.loop-part.invariant.counted in
    let held = c.requires.held in
    omega (arith, all, counted, held)

pub loop-part-preserved : goal.loop-part-preserved
unfolding parts_length AreApart HasPlace IsPlaced
loop-part-preserved c =
    let parts : List Part = c.args.parts.now in
    let i : ℕ = c.loop-part.part-index in
    let e = drop_more parts i (record { at = 0; len = 0 }) c.loop-part-test.true in
    let all = ap parts_length e in
    let counted = c.loop-part.invariant.counted in
    let low = c.if-at-part.false in
    let past = c.if-at-part-2.false in
    record {
      placed = λ k is. c.loop-part.invariant.placed k (subst (λ l. IsPlaced l c.loop-part.before c.args.at c.args.end k) (sym e) (inr is));
      apart = apart-weaker _ 0 _ (omega arith) (subst (AreApart 0) e c.loop-part.invariant.apart).1;
      behind = λ p least has. elim (subst (λ l. HasPlace l p) e (c.loop-part.invariant.behind p least has)) [
        | inl here ↦ (let first = here.0 in let last = here.1 in absurd (omega (arith, least, first, last, low, past)))
        | inr later ↦ later
      ];
      counted = omega (arith, all, counted);
    }

pub returns-clause-missing : goal.returns-clause-missing
unfolding HasPlace
returns-clause-missing c =
    let parts : List Part = c.args.parts.now in
    let i : ℕ = c.loop-part.part-index in
    let e : drop i parts ≡ [] = drop_all i parts (omega (arith, c.loop-part-test.false)) in
    (omega arith, c.requires.some, λ has. subst (λ l. HasPlace l c.args.at) e (c.loop-part.invariant.behind c.args.at (omega arith) has))
