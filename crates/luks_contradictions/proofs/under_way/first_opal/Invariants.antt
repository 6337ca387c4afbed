use Rattle.std.proofs.Common.{◌≡◌, ℕ, ◌<◌, false}
use Rattle.serde_json.specs.View.{view}
use Rattle.luks_underway.specs.Kinds.{has_opal}
use Rattle.luks_contradictions.proofs.under_way.first_opal.Given as goal

abbrev pub invariant-loop-number : goal.invariant-loop-number
invariant-loop-number l = (k : ℕ) → k < l.number → has_opal (view l.value) k ≡ false
