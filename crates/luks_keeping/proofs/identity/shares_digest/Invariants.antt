use Rattle.std.proofs.Common.{ℕ, ◌<◌}
use Rattle.luks_keeping.specs.SameKeys.{SharesAt}
use Rattle.luks_keeping.proofs.identity.shares_digest.Given as goal

-- none before this one is it
abbrev pub invariant-loop-n : goal.invariant-loop-n
invariant-loop-n l = (k : ℕ) → k < l.n → SharesAt l.here l.there k → ⊥
