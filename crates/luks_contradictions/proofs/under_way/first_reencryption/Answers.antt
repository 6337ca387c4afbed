use Rattle.std.proofs.Common.{◌≡◌, false, below_more, sym}
use Rattle.serde_json.specs.View.{view}
use Rattle.luks_underway.specs.Kinds.{has_reencrypt}
use Rattle.luks_contradictions.proofs.under_way.first_reencryption.Goals as goal

pub loop-number-preserved : goal.loop-number-preserved
loop-number-preserved c =
    below_more (λ k. has_reencrypt (view c.args.value.now) k ≡ false) c.loop-number.number c.loop-number.invariant (sym c.if-has_reencrypt.ensures)
