use Rattle.std.proofs.Common.{◌≡◌, ℕ, ◌<◌, false}
use Rattle.serde_json.specs.View.{view}
use Rattle.luks_underway.specs.Kinds.{has_reencrypt}
use Rattle.luks_contradictions.proofs.under_way.first_reencryption.Given as goal

abbrev pub invariant-loop-number : goal.invariant-loop-number
invariant-loop-number l = (k : ℕ) → k < l.number → has_reencrypt (view l.value) k ≡ false
