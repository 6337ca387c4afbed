use Rattle.std.proofs.Common.{ℕ, ◌<◌}
use Rattle.luks_making.specs.Naming.{IsDigestOf}
use Rattle.luks_meta.specs.Content.{content}
use Rattle.luks_reading.specs.Plans.{HasLuks2KeyBytes}
use Rattle.luks2_judging.proofs.keys.like_of.Given as goal

-- no keyslot before this one is the digest's with a key of so many bytes
abbrev pub invariant-loop-n : goal.invariant-loop-n
invariant-loop-n l = (k : ℕ) → k < l.n → IsDigestOf (content l.meta) k l.digest → HasLuks2KeyBytes (content l.meta) k l.len → ⊥
