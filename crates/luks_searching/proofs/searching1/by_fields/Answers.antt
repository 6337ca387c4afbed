use Rattle.std.proofs.Common.{ℕ, ◌<◌, ◌∙◌, slice_index_or, lit<, subst, sym, arith, below_more}
use Rattle.luks_area.specs.Device.{unchanged-then}
use Rattle.luks_searching.specs.Found1.{OpensNoneIn}
use Rattle.luks_searching.specs.declared.fields1.Field.{Field}
use Rattle.luks_searching.specs.declared.fields1.Field.TheVariants.{KeyBytes, DigestSalt, State, SaltAndArea, DigestIterations, Iterations}
use Rattle.luks_searching.specs.declared.searching1.TheConstants.{FIELDS}
use Rattle.luks_trials.proofs.OptionFacts.{none_where}
use Rattle.luks_trials.proofs.TallyFacts.{counts_then}
use Rattle.luks_searching.proofs.searching1.by_fields.Goals as goal

-- each field is in the list
by_place : (P : Field → Type 0) → ((k : ℕ) → k < 6 → P (slice_index_or FIELDS k KeyBytes)) → (field : Field) → P field
by_place P all KeyBytes = all 0 (lit< tt)
by_place P all DigestSalt = all 1 (lit< tt)
by_place P all State = all 2 (lit< tt)
by_place P all SaltAndArea = all 3 (lit< tt)
by_place P all DigestIterations = all 4 (lit< tt)
by_place P all Iterations = all 5 (lit< tt)

pub loop-field-preserved : goal.loop-field-preserved
loop-field-preserved g c = record {
  unchanged = unchanged-then c.loop-field.invariant.unchanged c.by_field.ensures.unchanged;
  count = c.in_ok-found.ensures.count ∙ c.loop-field.invariant.count;
  counts = counts_then c.loop-field.invariant.counts c.by_field.ensures.counts;
  shut = λ tells k n below low.
      let v = g.D.Device.bytes c.args.source.now in
      let h = c.args.sought.now.header.now in
      let given = c.args.sought.now.given.now in
      let p = c.args.sought.now.passphrase.now in
      let same = c.loop-field.invariant.unchanged.same tells in
      let none = none_where c.in_ok-found.found _ (sym c.is_some.ensures ∙ c.if-is_some.false) (c.in_ok-found.ensures.none tells) in
      below_more (λ m. (i : ℕ) → i < 8 → OpensNoneIn v h given p i (slice_index_or FIELDS m KeyBytes)) c.loop-field.field-index
      (λ m lt i few. c.loop-field.invariant.shut tells m i lt few)
      (λ i few. subst (λ w. OpensNoneIn w h given p i (slice_index_or FIELDS c.loop-field.field-index KeyBytes)) same (none i few)) k below n low;
}

pub returns-clause-none : goal.returns-clause-none
returns-clause-none g c = λ tells n field low.
    let v = g.D.Device.bytes c.args.source.now in
    let h = c.args.sought.now.header.now in
    let given = c.args.sought.now.given.now in
    let p = c.args.sought.now.passphrase.now in
    by_place (λ f. OpensNoneIn v h given p n f) (λ k lt. c.loop-field.invariant.shut tells k n (let ended = c.loop-field-test.false in omega (arith, lt, ended)) low) field
