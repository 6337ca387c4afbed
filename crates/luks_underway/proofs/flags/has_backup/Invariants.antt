use Rattle.std.proofs.Common.{◌≡◌, drop}
use Rattle.serde_json.specs.View.{items_view}
use Rattle.luks_underway.specs.Segments.{has_backup}
use Rattle.luks_underway.proofs.flags.has_backup.Given as goal

abbrev pub invariant-loop-item : goal.invariant-loop-item
invariant-loop-item l = has_backup (items_view l.items) ≡ has_backup (items_view (drop l.item-index l.items))
