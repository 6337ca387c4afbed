use Rattle.std.proofs.Common.{◌≡◌, ℕ, ◌<◌, false}
use Rattle.serde_json.specs.View.{view}
use Rattle.luks_underway.specs.Sides.{has_flagged}
use Rattle.luks_underway.proofs.sides.first_flagged.Given as goal

abbrev pub invariant-loop-number : goal.invariant-loop-number
invariant-loop-number l = (k : ℕ) → k < l.number → has_flagged (view l.value) l.flag k ≡ false
