use Rattle.std.proofs.Common.{◌≡◌, ℕ, ◌<◌, false}
use Rattle.serde_json.specs.View.{view}
use Rattle.luks_rules.specs.Sizes.{has_slot_outside}
use Rattle.luks_wider.proofs.judging.first_outside.Given as goal

abbrev pub invariant-loop-number : goal.invariant-loop-number
invariant-loop-number l = (k : ℕ) → k < l.number → has_slot_outside l.content.len (view l.content.value.now) k ≡ false
