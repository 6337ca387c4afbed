use Rattle.std.proofs.Common.{◌≡◌, drop}
use Rattle.serde_json.specs.View.{items_view, view}
use Rattle.std.specs.Prelude.{option_map}
use Rattle.luks_json.specs.Arrays.{all_there}
use Rattle.luks_json.proofs.arrays.all_there.Given as goal

abbrev pub invariant-loop-item : goal.invariant-loop-item
invariant-loop-item l = all_there (option_map (λ v. view v.now) l.map) (items_view l.items.items) ≡ all_there (option_map (λ v. view v.now) l.map) (items_view (drop l.item-index l.item-items))
