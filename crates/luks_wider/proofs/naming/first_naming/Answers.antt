use Rattle.std.proofs.Common.{◌≡◌, codes, false, below_more, sym}
use Rattle.serde_json.specs.View.{view}
use Rattle.luks_underway.specs.Sides.{is_named}
use Rattle.luks_wider.proofs.naming.first_naming.Goals as goal

pub loop-digest-preserved : goal.loop-digest-preserved
loop-digest-preserved c =
    below_more (λ k. is_named (view c.args.value.now) (codes "keyslots") c.args.number k ≡ false) c.loop-digest.digest c.loop-digest.invariant (sym c.if-is_named.ensures)
