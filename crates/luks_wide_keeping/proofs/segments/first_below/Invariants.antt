use Rattle.std.proofs.Common.{ℕ, ◌<◌}
use Rattle.luks_wider.specs.Underways.{content}
use Rattle.luks_wide_keeping.specs.Layout.{IsSegmentBelow}
use Rattle.luks_wide_keeping.proofs.segments.first_below.Given as goal

-- none before this one is it
abbrev pub invariant-loop-n : goal.invariant-loop-n
invariant-loop-n l = (k : ℕ) → k < l.n → IsSegmentBelow l.copy.header.hdr_size (content l.copy.meta) k → ⊥
