use Rattle.std.proofs.Common.{◌≡◌, ◌≤◌}
use Rattle.serde_json.specs.View.{view}
use Rattle.luks_contradictions.specs.Contradictions.{has_marked}
use Rattle.luks_contradictions.specs.Counts.{count_below}
use Rattle.luks_contradictions.proofs.marks.count_marked.Given as goal

abbrev pub invariant-loop-number : goal.invariant-loop-number
invariant-loop-number l = (l.count ≡ count_below (has_marked l.mark (view l.value)) l.number) × (l.count ≤ l.number)
