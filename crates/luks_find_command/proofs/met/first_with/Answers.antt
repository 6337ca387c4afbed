use Rattle.std.proofs.Common.{◌≡◌, ◌<◌, Some, slice_get, slice_index_or, length, inl, inr, refl, sym, ap, ◌∙◌, subst, arith, []}
use Rattle.std.proofs.lemmas.Bool.{cases_lt, false≢true}
use Rattle.std.proofs.lemmas.Option.{get_or_from_slice_get, slice_get-get_or, slice_get_within}
use Rattle.luks_find_command.specs.declared.met.Met.{Met}
use Rattle.luks_find_command.proofs.met.first_with.Goals as goal

pub returns-then-has_uuid-clause-some : goal.returns-then-has_uuid-clause-some
returns-then-has_uuid-clause-some c =
    let d : Met = record { uuid = []; start = 0 } in
    let inside : c.loop-n.n < length c.args.met.now = omega arith in
    (c.loop-n.n, slice_index_or c.args.met.now c.loop-n.n d, slice_get-get_or c.args.met.now c.loop-n.n d inside, sym (c.has_uuid.ensures.0 c.if-has_uuid.true), refl)

pub loop-n-preserved : goal.loop-n-preserved
loop-n-preserved c = λ k m below is same. elim (cases_lt k c.loop-n.n) [
  | inl low ↦ c.loop-n.invariant k m low is same
  | inr not ↦
      let d : Met = record { uuid = []; start = 0 } in
      let at : k ≡ c.loop-n.n = omega (arith, below, not) in
      let here : slice_get c.args.met.now c.loop-n.n ≡ Some m = subst (λ i. slice_get c.args.met.now i ≡ Some m) at is in
      let found : slice_index_or c.args.met.now c.loop-n.n d ≡ m = get_or_from_slice_get c.args.met.now c.loop-n.n m d here in
      absurd (false≢true (sym c.if-has_uuid.false ∙ c.has_uuid.ensures.1 (sym (ap (λ (x : Met). x.uuid) found ∙ same))))
]

pub returns-clause-none : goal.returns-clause-none
returns-clause-none c = λ none first x.
    let inside : x.0 < length c.args.met.now = slice_get_within c.args.met.now x.0 x.1 x.2 in
    c.loop-n.invariant x.0 x.1 (omega (arith, inside, c.loop-n-test.false)) x.2 x.3
