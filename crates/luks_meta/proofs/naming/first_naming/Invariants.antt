use Rattle.std.proofs.Common.{◌≡◌}
use Rattle.serde_json.specs.View.{members_view}
use Rattle.luks_meta.specs.Naming.{first_naming}
use Rattle.luks_meta.proofs.naming.first_naming.Given as goal

abbrev pub invariant-loop-key : goal.invariant-loop-key
invariant-loop-key l = first_naming l.name (members_view l.digests.entries) ≡ first_naming l.name (members_view l.key-iterator)
