use Rattle.std.proofs.Common.{◌≡◌, false, below_more, sym}
use Rattle.serde_json.specs.View.{view}
use Rattle.luks_underway.specs.Sides.{has_flagged}
use Rattle.luks_underway.proofs.sides.first_flagged.Goals as goal

pub loop-number-preserved : goal.loop-number-preserved
loop-number-preserved c =
    below_more (λ k. has_flagged (view c.args.value.now) c.args.flag.now k ≡ false) c.loop-number.number c.loop-number.invariant (sym c.if-has_flagged.ensures)
