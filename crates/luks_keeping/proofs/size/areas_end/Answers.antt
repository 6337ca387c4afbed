use Rattle.std.proofs.Common.{◌≡◌, ℕ, rules, subst, arith}
use Rattle.luks_keeping.specs.Laid.{HoldsBelow}
use Rattle.luks_keeping.proofs.EndFacts.{next_below, none_below}
use Rattle.luks_keeping.proofs.size.areas_end.Goals as goal

pub loop-n-init : goal.loop-n-init
loop-n-init c = λ h is. none_below h

pub loop-n-preserved : goal.loop-n-preserved
loop-n-preserved c = λ h is.
    next_below h c.args.header.now is c.loop-n.n (omega arith) _ (is.slots.each c.loop-n.n _ (omega arith)) c.area_end.result c.area_end.ensures c.loop-n.end _ (c.loop-n.invariant h is) (search rules)

pub returns : goal.returns
returns c = λ h is. (
    let past = c.loop-n-test.false in
    let low = c.loop-n.auto.n-end in
    let eight : c.loop-n.n ≡ 8 = omega (arith, past, low) in
    subst (λ (n : ℕ). HoldsBelow h n c.loop-n.end) eight (c.loop-n.invariant h is))
