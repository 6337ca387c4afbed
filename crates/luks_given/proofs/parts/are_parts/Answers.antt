use Rattle.std.proofs.Common.{◌≡◌, List, [], drop, rules, refl, subst, sym, ap, arith}
use Rattle.std.proofs.lemmas.List.{drop_all, drop_more}
use Rattle.luks_given.specs.declared.parts.Part.{Part}
use Rattle.luks_given.specs.Parts.{parts_length, free_behind, AreApart, AreInside, ArePartsOf}
use Rattle.luks_given.proofs.PartFacts.{given-volume_of}
use Rattle.luks_given.proofs.parts.are_parts.Goals as goal

pub returns-then-not-is_next-clause-are : goal.returns-then-not-is_next-clause-are
unfolding parts_length AreApart AreInside
returns-then-not-is_next-clause-are c =
    let parts : List Part = c.args.parts.now in
    let e = drop_more parts c.loop-part.part-index (record { at = 0; len = 0 }) c.loop-part-test.true in
    let all = ap parts_length e in
    let counted = c.loop-part.invariant.counted in (
      λ no. absurd (cc),
      λ (are : ArePartsOf parts c.args.held.now c.args.total).
          let whole = are.counted in
          let behind = (subst (AreApart (free_behind c.loop-part.last)) e (c.loop-part.invariant.apart.0 are.apart)).0 in
          let ends = (subst (AreInside c.args.total) e (c.loop-part.invariant.inside.0 are.inside)).0 in
          let yes = c.is_next.ensures.1 (behind, omega (arith, all, counted, whole), ends) in
          let no = c.if-not-is_next.true in
          absurd (cc),
    )

pub loop-part-preserved : goal.loop-part-preserved
unfolding parts_length AreApart AreInside
loop-part-preserved c =
    let parts : List Part = c.args.parts.now in
    let e = drop_more parts c.loop-part.part-index (record { at = 0; len = 0 }) c.loop-part-test.true in
    let all = ap parts_length e in
    let counted = c.loop-part.invariant.counted in
    let next = c.if-not-is_next.ensures.0 refl in
    let small = next.1 in
    record {
      apart = (
        λ whole. (subst (AreApart (free_behind c.loop-part.last)) e (c.loop-part.invariant.apart.0 whole)).1,
        λ rest. c.loop-part.invariant.apart.1 (subst (AreApart (free_behind c.loop-part.last)) (sym e) (next.0, rest)),
      );
      inside = (
        λ whole. (subst (AreInside c.args.total) e (c.loop-part.invariant.inside.0 whole)).1,
        λ rest. c.loop-part.invariant.inside.1 (subst (AreInside c.args.total) (sym e) (next.2, rest)),
      );
      counted = omega (arith, all, counted, small);
    }

pub returns-clause-are : goal.returns-clause-are
unfolding parts_length AreApart AreInside
returns-clause-are c =
    let parts : List Part = c.args.parts.now in
    let e : drop c.loop-part.part-index parts ≡ [] = drop_all c.loop-part.part-index parts (omega (arith, c.loop-part-test.false)) in
    let none : parts_length (drop c.loop-part.part-index parts) ≡ 0 = ap parts_length e in
    let counted = c.loop-part.invariant.counted in (
      λ yes. let zero : c.loop-part.left ≡ 0 = search rules in record {
        apart = c.loop-part.invariant.apart.1 (subst (AreApart (free_behind c.loop-part.last)) (sym e) tt);
        inside = c.loop-part.invariant.inside.1 (subst (AreInside c.args.total) (sym e) tt);
        counted = omega (arith, none, counted, zero);
      },
      λ (are : ArePartsOf parts c.args.held.now c.args.total). let whole = are.counted in let zero : c.loop-part.left ≡ 0 = omega (arith, none, counted, whole) in (search rules),
    )

pub returns-clause-given : goal.returns-clause-given
returns-clause-given c = λ yes. given-volume_of c.args.parts.now c.args.held.now c.args.total ((returns-clause-are c).0 yes)
