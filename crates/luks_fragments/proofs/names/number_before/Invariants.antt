use Rattle.std.proofs.Common.{ℕ, ◌<◌}
use Rattle.luks_fragments.specs.Fragments.{IsNamedAt}
use Rattle.luks_fragments.proofs.names.number_before.Given as goal

-- no number before this one is there
abbrev pub invariant-loop-n : goal.invariant-loop-n
invariant-loop-n l = (n : ℕ) → n < l.n → IsNamedAt l.area l.start n → ⊥
