use Rattle.std.proofs.Common.{◌≡◌, false}
use Rattle.serde_json.specs.View.{view}
use Rattle.luks_contradictions.specs.Contradictions.{any_below, has_beside}
use Rattle.luks_contradictions.proofs.marks.any_beside.Given as goal

abbrev pub invariant-loop-number : goal.invariant-loop-number
invariant-loop-number l = any_below (has_beside l.beside (view l.value) (view l.segment)) l.number ≡ false
