use Rattle.std.proofs.Common.{◌∙◌, subst, sym, arith, below_more}
use Rattle.luks_area.specs.Device.{unchanged-then}
use Rattle.luks_trials.specs.Metadata.{OpensAt}
use Rattle.luks_trials.proofs.OptionFacts.{none_where}
use Rattle.luks_trials.proofs.TallyFacts.{counts_then}
use Rattle.luks2_searching.proofs.standing.as_it_stands.Goals as goal

pub loop-n-preserved : goal.loop-n-preserved
loop-n-preserved g c = record {
  unchanged = unchanged-then c.loop-n.invariant.unchanged c.slot_as_it_stands.ensures.unchanged;
  count = c.in_ok-found.ensures.count ∙ c.loop-n.invariant.count;
  counts = counts_then c.loop-n.invariant.counts c.slot_as_it_stands.ensures.counts;
  shut = λ tells.
      let allowed = c.args.trying.now.allowed in
      let p = c.args.trying.now.passphrase.now in
      let same = c.loop-n.invariant.unchanged.same tells in
      let none = none_where c.in_ok-found.found _ (sym c.is_some.ensures ∙ c.if-is_some.false) (c.in_ok-found.ensures.none tells) in
      below_more (λ m. OpensAt allowed (g.D.Device.bytes c.args.source.now) p c.args.json.now m → ⊥) c.loop-n.n (c.loop-n.invariant.shut tells)
      (subst (λ w. OpensAt allowed w p c.args.json.now c.loop-n.n → ⊥) same none);
}

pub returns-clause-none : goal.returns-clause-none
returns-clause-none g c = λ tells n x.
    let low = x.is.numbered in
    let ended = c.loop-n-test.false in
    c.loop-n.invariant.shut tells n (omega (arith, low, ended)) x
