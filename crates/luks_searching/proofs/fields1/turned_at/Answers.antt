use Rattle.std.proofs.Common.{◌∙◌, subst, sym, arith, rules, below_more}
use Rattle.luks_area.specs.Device.{unchanged-then}
use Rattle.luks_searching.specs.Headed.{OpensHeaded}
use Rattle.luks_trials.specs.Turned.{turned}
use Rattle.luks_trials.proofs.TallyFacts.{counts_then}
use Rattle.luks_searching.proofs.fields1.turned_at.Goals as goal

pub returns-then-branch-clause-opens : goal.returns-then-branch-clause-opens
returns-then-branch-clause-opens g c = λ tells.
    let h = c.args.sought.now.header.now in
    let same = c.loop-bit.invariant.unchanged.same tells in
    let opened = c.in_ok-is_opened.ensures.opens tells in
    subst (λ v. OpensHeaded v (turned h c.args.place c.loop-bit.bit) c.args.sought.now.given.now c.args.sought.now.passphrase.now c.args.n) same (opened.0 (search rules))

pub loop-bit-preserved : goal.loop-bit-preserved
loop-bit-preserved g c = record {
  unchanged = unchanged-then c.loop-bit.invariant.unchanged c.is_opened.ensures.unchanged;
  count = c.in_ok-is_opened.ensures.count ∙ c.loop-bit.invariant.count;
  counts = counts_then c.loop-bit.invariant.counts c.is_opened.ensures.counts;
  shut = λ tells.
      let v = g.D.Device.bytes c.args.source.now in
      let h = c.args.sought.now.header.now in
      let given = c.args.sought.now.given.now in
      let p = c.args.sought.now.passphrase.now in
      let same = c.loop-bit.invariant.unchanged.same tells in
      let opened = c.in_ok-is_opened.ensures.opens tells in
      below_more (λ m. OpensHeaded v (turned h c.args.place m) given p c.args.n → ⊥) c.loop-bit.bit (c.loop-bit.invariant.shut tells)
      (λ x. (let yes = opened.1 (subst (λ w. OpensHeaded w (turned h c.args.place c.loop-bit.bit) given p c.args.n) (sym same) x) in let no = c.if-branch.false in absurd (cc)));
}

pub returns-clause-none : goal.returns-clause-none
returns-clause-none g c = λ tells bit low x. c.loop-bit.invariant.shut tells bit (let ended = c.loop-bit-test.false in omega (arith, low, ended)) x

pub returns-in_err-is_opened-clause-unchanged : goal.returns-in_err-is_opened-clause-unchanged
returns-in_err-is_opened-clause-unchanged g c = unchanged-then c.loop-bit.invariant.unchanged c.is_opened.ensures.unchanged

pub returns-in_err-is_opened-clause-counts : goal.returns-in_err-is_opened-clause-counts
returns-in_err-is_opened-clause-counts g c = counts_then c.loop-bit.invariant.counts c.is_opened.ensures.counts

pub returns-then-branch-clause-unchanged : goal.returns-then-branch-clause-unchanged
returns-then-branch-clause-unchanged g c = unchanged-then c.loop-bit.invariant.unchanged c.is_opened.ensures.unchanged

pub returns-then-branch-clause-counts : goal.returns-then-branch-clause-counts
returns-then-branch-clause-counts g c = counts_then c.loop-bit.invariant.counts c.is_opened.ensures.counts
