use Rattle.std.proofs.Common.{◌≡◌, drop}
use Rattle.std.specs.Option.{is_some}
use Rattle.serde_json.specs.View.{items_view}
use Rattle.luks_json.specs.Values.{item_texts}
use Rattle.luks_json.proofs.values.are_texts.Given as goal

abbrev pub invariant-loop-item : goal.invariant-loop-item
invariant-loop-item l = is_some (item_texts (items_view l.items.items)) ≡ is_some (item_texts (items_view (drop l.item-index l.item-items)))
