use Rattle.std.proofs.Common.{◌∙◌, subst, sym, arith, below_more}
use Rattle.luks_area.specs.Device.{unchanged-then}
use Rattle.luks_trials.proofs.OptionFacts.{none_where}
use Rattle.luks_trials.proofs.TallyFacts.{counts_then}
use Rattle.luks_searching.specs.Found1.{OpensNoneBut}
use Rattle.luks_searching.proofs.searching1.as_it_stands.Goals as goal

pub loop-n-preserved : goal.loop-n-preserved
loop-n-preserved g c = record {
  unchanged = unchanged-then c.loop-n.invariant.unchanged c.slot_as_it_stands.ensures.unchanged;
  count = c.in_ok-found.ensures.count ∙ c.loop-n.invariant.count;
  counts = counts_then c.loop-n.invariant.counts c.slot_as_it_stands.ensures.counts;
  shut = λ tells.
      let h = c.args.sought.now.header.now in
      let given = c.args.sought.now.given.now in
      let p = c.args.sought.now.passphrase.now in
      let same = c.loop-n.invariant.unchanged.same tells in
      let none = none_where c.in_ok-found.found _ (sym c.is_some.ensures ∙ c.if-is_some.false) (c.in_ok-found.ensures.none tells) in
      below_more (λ m. OpensNoneBut (g.D.Device.bytes c.args.source.now) h given p m) c.loop-n.n (c.loop-n.invariant.shut tells)
      (subst (λ w. OpensNoneBut w h given p c.loop-n.n) same none);
}

pub returns-clause-none : goal.returns-clause-none
returns-clause-none g c = λ tells n low. c.loop-n.invariant.shut tells n (let ended = c.loop-n-test.false in omega (arith, low, ended))
