use Rattle.std.proofs.Common.{◌≡◌, false}
use Rattle.serde_json.specs.View.{view}
use Rattle.luks_underway.specs.Kinds.{has_opal}
use Rattle.luks_contradictions.specs.Contradictions.{any_below}
use Rattle.luks_contradictions.proofs.contradictions.any_opal.Given as goal

abbrev pub invariant-loop-number : goal.invariant-loop-number
invariant-loop-number l = any_below (has_opal (view l.value)) l.number ≡ false
