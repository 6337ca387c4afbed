use Rattle.std.proofs.Common.{ℕ, ◌<◌}
use Rattle.luks1_mending.specs.Signs.{IsPlausible}
use Rattle.luks1_mending.proofs.signs.has_plausible_entry.Given as goal

-- no keyslot before this one is plausible
abbrev pub invariant-loop-n : goal.invariant-loop-n
invariant-loop-n l = (k : ℕ) → k < l.n → IsPlausible l.header l.total k → ⊥
