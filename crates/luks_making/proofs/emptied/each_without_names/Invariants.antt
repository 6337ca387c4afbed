use Rattle.std.proofs.Common.{◌≡◌, List, ◌++◌}
use Rattle.serde_json.specs.View.{members_view}
use Rattle.serde_json.proofs.Views.{Entry}
use Rattle.luks_making.specs.Changing.{each_member}
use Rattle.luks_making.specs.Without.{without_names}
use Rattle.luks_making.proofs.emptied.each_without_names.Given as goal

abbrev pub invariant-loop-key : goal.invariant-loop-key
invariant-loop-key l =
    (done : List Entry) × (l.fn.members.entries ≡ done ++ l.key-iterator) × (members_view l.changed.entries ≡ each_member without_names (members_view done))
