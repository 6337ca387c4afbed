use Rattle.std.proofs.Common.{◌≡◌, ℕ, ◌<◌, false}
use Rattle.serde_json.specs.View.{view}
use Rattle.luks_contradictions.specs.Hot.{is_in_hand}
use Rattle.luks_contradictions.proofs.marks.first_hot.Given as goal

abbrev pub invariant-loop-number : goal.invariant-loop-number
invariant-loop-number l = (k : ℕ) → k < l.number → is_in_hand (view l.value) k ≡ false
