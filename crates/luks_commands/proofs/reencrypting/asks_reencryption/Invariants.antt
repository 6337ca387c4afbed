use Rattle.std.proofs.Common.{◌≡◌, drop}
use Rattle.serde_json.specs.View.{items_view}
use Rattle.luks_commands.specs.Reencrypting.{asks_reencryption}
use Rattle.luks_commands.proofs.reencrypting.asks_reencryption.Given as goal

abbrev pub invariant-loop-item : goal.invariant-loop-item
invariant-loop-item l = asks_reencryption (items_view l.items) ≡ asks_reencryption (items_view (drop l.item-index l.items))
