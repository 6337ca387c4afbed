use Rattle.std.proofs.Common.{ℕ, ◌<◌}
use Rattle.luks_keeping.specs.SameKeys.{HasNumbered}
use Rattle.luks_keeping.proofs.identity.has_digest.Given as goal

-- none before this one is it
abbrev pub invariant-loop-n : goal.invariant-loop-n
invariant-loop-n l = (k : ℕ) → k < l.n → HasNumbered l.identity k l.salt l.bytes → ⊥
