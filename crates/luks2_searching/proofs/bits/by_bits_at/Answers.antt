use Rattle.std.proofs.Common.{◌∙◌, ap, subst, sym, arith, below_more}
use Rattle.luks_area.specs.Device.{unchanged-then}
use Rattle.luks_trials.specs.Metadata.{AddsNone, IsMetaOf, OpensAt}
use Rattle.luks_trials.specs.Turned.{turned}
use Rattle.luks_trials.proofs.OptionFacts.{none_of}
use Rattle.luks_trials.proofs.TallyFacts.{counts_then}
use Rattle.luks2_searching.proofs.ResultFacts.{some_of}
use Rattle.luks2_searching.proofs.bits.by_bits_at.Goals as goal

pub loop-bit-preserved : goal.loop-bit-preserved
loop-bit-preserved g c = record {
  unchanged = unchanged-then c.loop-bit.invariant.unchanged c.first_anew.ensures.unchanged;
  count = c.in_ok-slot.ensures.count ∙ c.loop-bit.invariant.count;
  counts = counts_then c.loop-bit.invariant.counts c.first_anew.ensures.counts;
  same = c.turned_meta.ensures.same ∙ c.loop-bit.invariant.same;
  shut = λ tells.
      let allowed = c.args.trying.now.allowed in
      let p = c.args.trying.now.passphrase.now in
      let v = g.D.Device.bytes c.args.source.now in
      let json = c.args.json.now in
      let at = c.args.at in
      let same = c.loop-bit.invariant.unchanged.same tells in
      let meta = subst (λ j. IsMetaOf (turned j at c.loop-bit.bit) c.in_ok-meta.meta) c.loop-bit.invariant.same c.in_ok-meta.ensures.meta in
      let none = none_of c.in_ok-slot.slot _ c.in_default.is (c.in_ok-slot.ensures.none tells json (turned json at c.loop-bit.bit) c.requires.standing meta) in
      below_more (λ m. AddsNone allowed v p json (turned json at m)) c.loop-bit.bit (c.loop-bit.invariant.shut tells)
      (subst (λ w. AddsNone allowed w p json (turned json at c.loop-bit.bit)) same none);
}

pub returns-clause-none : goal.returns-clause-none
returns-clause-none g c = λ tells bit low. c.loop-bit.invariant.shut tells bit (let ended = c.loop-bit-test.false in omega (arith, low, ended))

pub returns-in-Some-clause-found : goal.returns-in-Some-clause-found
returns-in-Some-clause-found g c = λ tells.
    let allowed = c.args.trying.now.allowed in
    let p = c.args.trying.now.passphrase.now in
    let json = c.args.json.now in
    let at = c.args.at in
    let is = c.in_ok-turned.ensures ∙ ap (λ j. turned j c.args.at c.loop-bit.bit) (c.turned_meta.ensures.same ∙ c.loop-bit.invariant.same) in
    let meta = subst (λ j. IsMetaOf (turned j at c.loop-bit.bit) c.in_ok-meta.meta) c.loop-bit.invariant.same c.in_ok-meta.ensures.meta in
    let opens = some_of c.in_ok-slot.slot c.in-Some.slot (OpensAt allowed (g.D.Device.bytes c.loop-bit.source) p (turned json at c.loop-bit.bit)) c.in-Some.is
    (c.in_ok-slot.ensures.opens tells (turned json at c.loop-bit.bit) meta) in
    record {
      changed = record { inside = c.requires.inside; low = c.loop-bit-test.true; is = is };
      opens = subst (λ j. OpensAt allowed (g.D.Device.bytes c.args.source.now) p j c.in-Some.slot) (sym is)
          (subst (λ w. OpensAt allowed w p (turned json at c.loop-bit.bit) c.in-Some.slot) (c.loop-bit.invariant.unchanged.same tells) opens);
    }
