use Rattle.std.proofs.Common.{◌≡◌, ◌≤◌}
use Rattle.serde_json.specs.View.{view}
use Rattle.luks_underway.specs.Sides.{is_named}
use Rattle.luks_contradictions.specs.Counts.{count_below}
use Rattle.luks_wider.proofs.object_faults.digests_of.Given as goal

abbrev pub invariant-loop-digest : goal.invariant-loop-digest
invariant-loop-digest l = (l.count ≡ count_below (is_named (view l.value) l.list l.number) l.digest) × (l.count ≤ l.digest)
