use Rattle.std.proofs.Common.{◌≡◌, drop}
use Rattle.serde_json.specs.View.{items_view}
use Rattle.luks_contradictions.specs.Consistent.{has_online}
use Rattle.luks_contradictions.proofs.contradictions.has_online.Given as goal

abbrev pub invariant-loop-item : goal.invariant-loop-item
invariant-loop-item l = has_online (items_view l.items) ≡ has_online (items_view (drop l.item-index l.items))
