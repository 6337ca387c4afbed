use Rattle.std.proofs.Common.{◌≡◌, ℕ, ◌<◌, false}
use Rattle.serde_json.specs.View.{view}
use Rattle.luks_rules.specs.Sizes.{has_size_fault}
use Rattle.luks_rules.proofs.sizes.first_size_fault.Given as goal

abbrev pub invariant-loop-number : goal.invariant-loop-number
invariant-loop-number l = (k : ℕ) → k < l.number → has_size_fault l.test l.content.len (view l.content.value.now) k ≡ false
