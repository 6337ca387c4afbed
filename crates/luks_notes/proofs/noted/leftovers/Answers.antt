use Rattle.std.proofs.Common.{rules, [], ap, sym, subst, ◌∙◌}
use Rattle.luks_notes.specs.Leftovers.{IsLeft}
use Rattle.luks_notes.specs.Noted.{AreThose, ended, looked_for}
use Rattle.luks_notes.proofs.ThoseFacts.{next_passed, next_taken, not_both, those_of_all}
use Rattle.luks_notes.proofs.noted.leftovers.Goals as goal
use Rattle.luks_notes.proofs.noted.leftovers.Goals.{then-branch+in_ok-push, else-branch}

pub loop-leftover-init : goal.loop-leftover-init
loop-leftover-init c = subst (AreThose (IsLeft c.args.front.now c.args.own) []) (sym c.new-found.ensures.items) ended

pub loop-leftover-preserved : goal.loop-leftover-preserved
loop-leftover-preserved c = elim c.if-branch.branch [
  | then-branch+in_ok-push w ↦ next_taken (IsLeft c.args.front.now c.args.own) _ c.loop-leftover.leftover-index _ _ _ c.loop-leftover-test.true c.loop-leftover.invariant
      (c.in_ok-is_left.ensures.0 (search rules)) (ap (λ v. v.items) w.found-is ∙ w.in_ok-push.ensures.items)
  | else-branch w ↦ next_passed (IsLeft c.args.front.now c.args.own) _ c.loop-leftover.leftover-index _ _ _ c.loop-leftover-test.true c.loop-leftover.invariant
      (λ held. not_both c.in_ok-is_left.field-0 (c.in_ok-is_left.ensures.1 held) w.if-branch.false) (ap (λ v. v.items) w.found-is)
]

pub returns : goal.returns
returns c = those_of_all (IsLeft c.args.front.now c.args.own) looked_for c.loop-leftover.leftover-index _ c.loop-leftover-test.false c.loop-leftover.invariant
