use Rattle.std.proofs.Common.{◌≤◌, ◌↔◌, drop}
use Rattle.serde_json.specs.Data.{items_depth, members_depth}
use Rattle.serde_json.specs.View.{items_view, members_view}
use Rattle.luks_rules.proofs.nesting.+nesting.Given as goal

abbrev pub invariant-items_nest_within-loop-item : goal.invariant-items_nest_within-loop-item
invariant-items_nest_within-loop-item l = items_depth (items_view l.items.items) ≤ l.levels ↔ items_depth (items_view (drop l.item-index l.item-items)) ≤ l.levels

abbrev pub invariant-members_nest_within-loop-member : goal.invariant-members_nest_within-loop-member
invariant-members_nest_within-loop-member l = members_depth (members_view l.members.entries) ≤ l.levels ↔ members_depth (members_view l.member-iterator) ≤ l.levels
