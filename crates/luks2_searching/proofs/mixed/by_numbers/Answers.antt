use Rattle.std.proofs.Common.{◌∙◌, ◌^◌, ◌≤◌, length, refl, ap, subst, sym, arith, below_more}
use Rattle.std.proofs.Math.Pow.{pow_mono}
use Rattle.luks_area.specs.Device.{unchanged-then}
use Rattle.luks_trials.specs.Metadata.{AddsNone, IsMetaOf, OpensAt}
use Rattle.luks_trials.proofs.OptionFacts.{none_of}
use Rattle.luks_trials.proofs.TallyFacts.{counts_then}
use Rattle.luks2_searching.specs.Mixed.{mixed, IsMixed}
use Rattle.luks2_searching.proofs.MixedFacts.{mixed_first, mixed_is}
use Rattle.luks2_searching.proofs.ResultFacts.{some_of}
use Rattle.luks2_searching.proofs.mixed.by_numbers.Goals as goal

pub loop-number-preserved : goal.loop-number-preserved
loop-number-preserved g c = record {
  unchanged = unchanged-then c.loop-number.invariant.unchanged c.first_anew.ensures.unchanged;
  count = c.in_ok-slot.ensures.count ∙ c.loop-number.invariant.count;
  counts = counts_then c.loop-number.invariant.counts c.first_anew.ensures.counts;
  shut = λ tells.
      let allowed = c.args.trying.now.allowed in
      let p = c.args.trying.now.passphrase.now in
      let first = c.args.first.now in
      let second = c.args.second.now in
      let places = c.args.places.now in
      let same = c.loop-number.invariant.unchanged.same tells in
      let meta = subst (λ j. IsMetaOf j c.in_ok-meta.meta) (c.deref.ensures.value ∙ c.in_ok-json.ensures) c.in_ok-meta.ensures.meta in
      let none = none_of c.in_ok-slot.slot _ c.in_default.is (c.in_ok-slot.ensures.none tells first (mixed second places c.loop-number.number first) c.requires.standing meta) in
      below_more (λ m. AddsNone allowed (g.D.Device.bytes c.args.source.now) p first (mixed second places m first)) c.loop-number.number (c.loop-number.invariant.shut tells)
      (subst (λ w. AddsNone allowed w p first (mixed second places c.loop-number.number first)) same none);
}

pub returns-in-Some-clause-found : goal.returns-in-Some-clause-found
returns-in-Some-clause-found g c = λ tells.
    let allowed = c.args.trying.now.allowed in
    let p = c.args.trying.now.passphrase.now in
    let first = c.args.first.now in
    let second = c.args.second.now in
    let meta = subst (λ j. IsMetaOf j c.in_ok-meta.meta) c.deref.ensures.value c.in_ok-meta.ensures.meta in
    let opens = some_of c.in_ok-slot.slot c.in-Some.slot (OpensAt allowed (g.D.Device.bytes c.loop-number.source) p c.in_ok-json.json.items) c.in-Some.is
    (c.in_ok-slot.ensures.opens tells c.in_ok-json.json.items meta) in
    record {
      changed = refl;
      composed = record {
        few = c.requires.few;
        mixed = subst (λ j. IsMixed first second j) (sym c.in_ok-json.ensures) (mixed_is first second c.args.places.now first c.loop-number.number (mixed_first first second));
      };
      opens = subst (λ w. OpensAt allowed w p c.in_ok-json.json.items c.in-Some.slot) (c.loop-number.invariant.unchanged.same tells) opens;
    }

pub returns-in-Some-clause-there : goal.returns-in-Some-clause-there
returns-in-Some-clause-there g c =
    let first = c.args.first.now in
    let second = c.args.second.now in
    record { at = refl; long = ap length c.in_ok-json.ensures ∙ (mixed_is first second c.args.places.now first c.loop-number.number (mixed_first first second)).long }

pub returns-clause-none : goal.returns-clause-none
returns-clause-none g c = λ tells n below.
    let most : 2 ^ length c.args.places.now ≤ 2 ^ 16 = pow_mono c.requires.short in
    let ended = c.loop-number-test.false in
    c.loop-number.invariant.shut tells n (omega (arith, most, ended, below))
