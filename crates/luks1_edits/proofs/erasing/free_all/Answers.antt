use Rattle.std.proofs.Common.{◌≡◌, ◌∙◌, arith, subst, sym}
use Rattle.luks1_edits.specs.Accepted.{IsAcceptedAt}
use Rattle.luks1_edits.specs.Edited.{AreRemoved}
use Rattle.luks1_edits.proofs.erasing.free_all.Goals as goal

pub loop-n-preserved : goal.loop-n-preserved
loop-n-preserved g c = record {
  size = c.in_ok-free_next.ensures.size ∙ c.loop-n.invariant.size;
  count = c.in_ok-free_next.ensures.count ∙ c.loop-n.invariant.count;
  settled = λ tells. c.in_ok-free_next.ensures.settled tells c.in_ok-free_next.ensures.count;
  removed = λ tells x. c.in_ok-free_next.ensures.removed tells (g.D.Device.bytes c.args.device.now) x (c.loop-n.invariant.removed tells x);
}

pub free_next-requires-clause-accepted : goal.free_next-requires-clause-accepted
free_next-requires-clause-accepted g c = subst (λ k. IsAcceptedAt c.args.header.now k) (sym c.loop-n.invariant.size) c.requires.accepted

pub returns-clause-removed : goal.returns-clause-removed
returns-clause-removed g c = λ tells x.
    let low = c.loop-n.auto.n-end in
    let past = c.loop-n-test.false in
    let all : c.loop-n.n ≡ 8 = omega (arith, low, past) in
    subst (λ k. AreRemoved k (g.D.Device.bytes c.args.device.now) (g.D.Device.bytes c.loop-n.device)) all (c.loop-n.invariant.removed tells x)
