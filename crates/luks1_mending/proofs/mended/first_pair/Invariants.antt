use Rattle.std.proofs.Common.{ℕ, ◌<◌}
use Rattle.luks1_mending.specs.Judging.{set_of, IsPairAmong}
use Rattle.luks1_mending.proofs.mended.first_pair.Given as goal

-- no pair begins before this keyslot
abbrev pub invariant-loop-a : goal.invariant-loop-a
invariant-loop-a l = (b : ℕ) → b < l.a → IsPairAmong l.header (set_of l.kept) b → ⊥
