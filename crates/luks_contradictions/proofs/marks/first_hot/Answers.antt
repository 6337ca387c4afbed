use Rattle.std.proofs.Common.{◌≡◌, false, below_more, sym}
use Rattle.serde_json.specs.View.{view}
use Rattle.luks_contradictions.specs.Hot.{is_in_hand}
use Rattle.luks_contradictions.proofs.marks.first_hot.Goals as goal

pub loop-number-preserved : goal.loop-number-preserved
loop-number-preserved c =
    below_more (λ k. is_in_hand (view c.args.value.now) k ≡ false) c.loop-number.number c.loop-number.invariant (sym c.if-has_marked.ensures)
