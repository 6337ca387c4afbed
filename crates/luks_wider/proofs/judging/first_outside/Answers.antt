use Rattle.std.proofs.Common.{◌≡◌, false, below_more, sym}
use Rattle.serde_json.specs.View.{view}
use Rattle.luks_rules.specs.Sizes.{has_slot_outside}
use Rattle.luks_wider.proofs.judging.first_outside.Goals as goal

pub loop-number-preserved : goal.loop-number-preserved
loop-number-preserved c =
    below_more (λ k. has_slot_outside c.args.content.len (view c.args.content.value.now) k ≡ false) c.loop-number.number c.loop-number.invariant (sym c.if-has_slot_outside.ensures)
