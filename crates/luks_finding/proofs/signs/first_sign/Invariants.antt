use Rattle.std.proofs.Common.{ℕ, ◌<◌}
use Rattle.luks_finding.specs.Blocks.{BeginsAt}
use Rattle.luks_finding.proofs.signs.first_sign.Given as goal

-- at no sector before this one a header begins
abbrev pub invariant-loop-index : goal.invariant-loop-index
invariant-loop-index l = (k : ℕ) → k < l.index → BeginsAt l.block k → ⊥
