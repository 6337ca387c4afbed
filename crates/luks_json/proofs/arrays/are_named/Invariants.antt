use Rattle.std.proofs.Common.{◌≡◌}
use Rattle.serde_json.specs.View.{members_view}
use Rattle.luks_json.specs.Arrays.{all_named}
use Rattle.luks_json.proofs.arrays.are_named.Given as goal

abbrev pub invariant-loop-name : goal.invariant-loop-name
invariant-loop-name l = all_named (members_view l.members.entries) ≡ all_named (members_view l.name-iterator)
