use Rattle.std.proofs.Common.{◌∙◌, ℕ, ◌<◌, subst, sym, arith, below_more}
use Rattle.luks_area.specs.Device.{unchanged-then}
use Rattle.luks_trials.specs.Metadata.{AddsNone, IsMetaOf}
use Rattle.luks_trials.specs.Turned.{turned}
use Rattle.luks_trials.proofs.OptionFacts.{none_where}
use Rattle.luks_trials.proofs.TallyFacts.{counts_then}
use Rattle.luks2_searching.proofs.bits.by_bits_to.Goals as goal

pub loop-at-preserved : goal.loop-at-preserved
loop-at-preserved g c = record {
  unchanged = unchanged-then c.loop-at.invariant.unchanged c.by_bits_at.ensures.unchanged;
  count = c.in_ok-found.ensures.count ∙ c.loop-at.invariant.count;
  counts = counts_then c.loop-at.invariant.counts c.by_bits_at.ensures.counts;
  same = c.by_bits_at.ensures.same ∙ c.loop-at.invariant.same;
  shut = λ tells at bit below low.
      let allowed = c.args.trying.now.allowed in
      let p = c.args.trying.now.passphrase.now in
      let v = g.D.Device.bytes c.args.source.now in
      let json = c.args.json.now in
      let same = c.loop-at.invariant.unchanged.same tells in
      let none = none_where c.in_ok-found.found _ (sym c.is_some.ensures ∙ c.if-is_some.false) (c.in_ok-found.ensures.none tells) in
      below_more (λ m. (b : ℕ) → b < 8 → AddsNone allowed v p json (turned json m b)) c.loop-at.at (λ m lt b few. c.loop-at.invariant.shut tells m b lt few)
      (λ b few. subst (λ j. AddsNone allowed v p j (turned j c.loop-at.at b)) c.loop-at.invariant.same
      (subst (λ w. AddsNone allowed w p c.loop-at.json (turned c.loop-at.json c.loop-at.at b)) same (none b few))) at below bit low;
}

pub returns-clause-none : goal.returns-clause-none
returns-clause-none g c = λ tells at bit below low.
    let ended = c.loop-at-test.false in
    let end = c.requires.end in
    c.loop-at.invariant.shut tells at bit (omega (arith, below, ended, end)) low

pub by_bits_at-requires-clause-standing : goal.by_bits_at-requires-clause-standing
by_bits_at-requires-clause-standing g c = subst (λ j. IsMetaOf j c.args.standing.now) (sym c.loop-at.invariant.same) c.requires.standing
