use Rattle.std.proofs.Common.{◌≡◌, true}
use Rattle.serde_json.specs.View.{view}
use Rattle.luks_contradictions.specs.Contradictions.{all_below, has_marked}
use Rattle.luks_contradictions.proofs.marks.all_marked.Given as goal

abbrev pub invariant-loop-number : goal.invariant-loop-number
invariant-loop-number l = all_below (has_marked l.mark (view l.value)) l.number ≡ true
