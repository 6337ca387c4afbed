use Rattle.std.proofs.Common.{ℕ, ◌<◌}
use Rattle.luks1_mending.specs.Judging.{set_of, MeetsOne}
use Rattle.luks1_mending.proofs.kept.meets_kept.Given as goal

-- it meets no kept keyslot before this one
abbrev pub invariant-loop-m : goal.invariant-loop-m
invariant-loop-m l = (j : ℕ) → j < l.m → MeetsOne l.header l.key_bytes (set_of l.kept) l.area j → ⊥
