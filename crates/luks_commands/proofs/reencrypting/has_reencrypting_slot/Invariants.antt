use Rattle.std.proofs.Common.{◌≡◌, ℕ, ◌<◌, true}
use Rattle.serde_json.specs.View.{view}
use Rattle.luks_commands.specs.Reencrypting.{is_reencrypting_slot}
use Rattle.luks_commands.proofs.reencrypting.has_reencrypting_slot.Given as goal

abbrev pub invariant-loop-n : goal.invariant-loop-n
invariant-loop-n l = (k : ℕ) → k < l.n → is_reencrypting_slot (view l.value) k ≡ true → ⊥
