use Rattle.std.proofs.Common.{length, ◌∙◌, subst, sym, arith, rules, below_more}
use Rattle.luks_area.specs.Device.{unchanged-then}
use Rattle.luks1_mending.proofs.KeptFacts.{sound_of}
use Rattle.luks1_rebuilding.specs.KeyAreas.{header_of, key_of}
use Rattle.luks1_rebuilding.specs.Openings.{OpensBy}
use Rattle.luks1_rebuilding.specs.Tried.{IsMadeOf}
use Rattle.luks1_rebuilding.proofs.trial.opening.first_slot.Goals as goal

pub returns-then-branch-clause-opens : goal.returns-then-branch-clause-opens
returns-then-branch-clause-opens g c = λ tells given made.
    let same = c.loop-n.invariant.unchanged.same tells in
    let opened = c.in_ok-is_opened.ensures.opens tells given (subst (λ v. IsMadeOf v given c.args.made.now) (sym same) made) in
    record {
      opens = subst (λ v. OpensBy v given c.args.passphrase.now c.loop-n.n) same (opened.0 (search rules));
      first = c.loop-n.invariant.shut tells given made;
    }

pub loop-n-preserved : goal.loop-n-preserved
loop-n-preserved g c = record {
  unchanged = unchanged-then c.loop-n.invariant.unchanged c.is_opened.ensures.unchanged;
  count = c.in_ok-is_opened.ensures.count ∙ c.loop-n.invariant.count;
  shut = λ tells given made.
      let v = g.D.Device.bytes c.args.source.now in
      let p = c.args.passphrase.now in
      let same = c.loop-n.invariant.unchanged.same tells in
      let opened = c.in_ok-is_opened.ensures.opens tells given (subst (λ w. IsMadeOf w given c.args.made.now) (sym same) made) in
      below_more (λ m. OpensBy v given p m → ⊥) c.loop-n.n (c.loop-n.invariant.shut tells given made)
      (λ x. (let yes = opened.1 (subst (λ w. OpensBy w given p c.loop-n.n) (sym same) x) in let no = c.if-branch.false in absurd (cc)));
}

pub returns-clause-none : goal.returns-clause-none
returns-clause-none g c = λ tells given made. record {
  none = λ n x.
      let v = g.D.Device.bytes c.args.source.now in
      let low = (sound_of (header_of v) (key_of v given) (length v) n x.in_use.kept).numbered in
      c.loop-n.invariant.shut tells given made n (let ended = c.loop-n-test.false in omega (arith, low)) x;
}

pub returns-in_err-is_opened-clause-unchanged : goal.returns-in_err-is_opened-clause-unchanged
returns-in_err-is_opened-clause-unchanged g c = unchanged-then c.loop-n.invariant.unchanged c.is_opened.ensures.unchanged

pub returns-then-branch-clause-unchanged : goal.returns-then-branch-clause-unchanged
returns-then-branch-clause-unchanged g c = unchanged-then c.loop-n.invariant.unchanged c.is_opened.ensures.unchanged
