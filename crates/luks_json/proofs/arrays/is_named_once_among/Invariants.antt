use Rattle.std.proofs.Common.{◌≡◌, ◌+◌}
use Rattle.std.specs.Prelude.{if◌then◌else◌}
use Rattle.serde_json.specs.View.{members_view}
use Rattle.luks_json.specs.Arrays.{naming_members}
use Rattle.luks_json.proofs.arrays.is_named_once_among.Given as goal

abbrev pub invariant-loop-member : goal.invariant-loop-member
invariant-loop-member l = naming_members l.list l.text (members_view l.members.entries)
    ≡ (if l.found then 1 else 0) + naming_members l.list l.text (members_view l.member-iterator)
