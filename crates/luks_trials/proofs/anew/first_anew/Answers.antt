use Rattle.std.proofs.Common.{◌∙◌, subst, arith, below_more}
use Rattle.luks_area.specs.Device.{unchanged-then}
use Rattle.luks_trials.specs.Metadata.{IsMetaOf, OpensAt}
use Rattle.luks_trials.proofs.TallyFacts.{counts_then}
use Rattle.luks_trials.proofs.anew.first_anew.Goals as goal

pub loop-n-preserved : goal.loop-n-preserved
loop-n-preserved g c = record {
  unchanged = unchanged-then c.loop-n.invariant.unchanged c.opens_anew.ensures.unchanged;
  count = c.in_ok-opens_anew.ensures.count ∙ c.loop-n.invariant.count;
  counts = counts_then c.loop-n.invariant.counts c.opens_anew.ensures.counts;
  shut = λ tells old new stands is.
      let allowed = c.args.trying.now.allowed in
      let p = c.args.trying.now.passphrase.now in
      let same = c.loop-n.invariant.unchanged.same tells in
      let none = c.in_ok-opens_anew.ensures.none tells old new stands is in
      below_more (λ m. OpensAt allowed (g.D.Device.bytes c.args.source.now) p new m → OpensAt allowed (g.D.Device.bytes c.args.source.now) p old m) c.loop-n.n
      (c.loop-n.invariant.shut tells old new stands is)
      (subst (λ w. OpensAt allowed w p new c.loop-n.n → OpensAt allowed w p old c.loop-n.n) same
      (λ x. none x (λ yes. (let no = c.if-branch.false in absurd (cc)))));
}

pub returns-clause-none : goal.returns-clause-none
returns-clause-none g c = λ tells old new stands is n x.
    let low = x.is.numbered in
    let ended = c.loop-n-test.false in
    c.loop-n.invariant.shut tells old new stands (subst (IsMetaOf new) c.in-Some.is is) n (omega (arith, low, ended)) x

pub returns-in_default-clause-none : goal.returns-in_default-clause-none
returns-in_default-clause-none g c = λ tells old new stands is n x.
    let fault = subst (IsMetaOf new) c.in_default.is is in
    absurd (x.faultless fault.0 fault.1)
