use Rattle.std.proofs.Common.{◌≡◌, false, below_more, sym}
use Rattle.serde_json.specs.View.{view}
use Rattle.luks_wider.specs.WideFaults.{has_small_key_area}
use Rattle.luks_wider.proofs.judging.first_small_area.Goals as goal

pub loop-number-preserved : goal.loop-number-preserved
loop-number-preserved c =
    below_more (λ k. has_small_key_area (view c.args.value.now) k ≡ false) c.loop-number.number c.loop-number.invariant (sym c.if-has_small_key_area.ensures)
