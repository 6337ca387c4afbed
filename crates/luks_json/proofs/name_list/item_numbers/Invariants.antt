use Rattle.std.proofs.Common.{◌≡◌, ◌++◌, drop, length, option_map}
use Rattle.serde_json.specs.View.{items_view}
use Rattle.luks_json.specs.Names.{item_numbers}
use Rattle.luks_json.proofs.name_list.item_numbers.Given as goal

abbrev pub invariant-loop-item : goal.invariant-loop-item
invariant-loop-item l =
    (length l.numbers.items ≡ l.item-index)
    × (item_numbers (items_view l.items.items) ≡ option_map (λ ns. l.numbers.items ++ ns) (item_numbers (items_view (drop l.item-index l.item-items))))
