use Rattle.std.proofs.Common.{◌≡◌, ℕ, ◌<◌, false}
use Rattle.serde_json.specs.View.{view}
use Rattle.luks_wider.specs.WideFaults.{has_small_key_area}
use Rattle.luks_wider.proofs.judging.first_small_area.Given as goal

abbrev pub invariant-loop-number : goal.invariant-loop-number
invariant-loop-number l = (k : ℕ) → k < l.number → has_small_key_area (view l.value) k ≡ false
