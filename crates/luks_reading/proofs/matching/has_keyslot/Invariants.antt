use Rattle.std.proofs.Common.{ℕ, ◌<◌}
use Rattle.luks_meta.specs.Content.{content}
use Rattle.luks_meta.specs.Naming.{IsDigestOf}
use Rattle.luks_reading.proofs.matching.has_keyslot.Given as goal

-- none before this one is named
abbrev pub invariant-loop-n : goal.invariant-loop-n
invariant-loop-n l = (k : ℕ) → k < l.n → IsDigestOf (content l.meta) k l.digest → ⊥
