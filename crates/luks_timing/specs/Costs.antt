-- How much work takes a wanted time on a machine, by a sample: `count` units of it took `took` there. The
-- time of more or less work is taken in proportion. Both times are in one unit.
use Rattle.std.specs.Prelude.{ℕ, ◌*◌, ◌<◌, ◌≤◌, ◌-◌, ◌^◌, ◌⊎◌, ◌≡◌, min}

-- `n` units take no longer than is wanted
abbrev pub IsWithin : (count took wanted n : ℕ) → Type 0
IsWithin count took wanted n = n * took ≤ wanted * count

-- Of the numbers from `least` to `greatest`, of which each stands for `unit` units of work, `n` is the
-- greatest that takes no longer than is wanted, or the least where none does.
pub record IsMost (least greatest unit count took wanted n : ℕ) : Type 0 where
  pub bounds : (least ≤ n) × (n ≤ greatest)
  pub within : (n ≡ least) ⊎ IsWithin count took wanted (n * unit)
  pub above : (m : ℕ) → n < m → m ≤ greatest → IsWithin count took wanted (m * unit) → ⊥

-- The costs of Argon2 with at most `most` KiB of memory; work is KiB times passes. Time is spent on
-- passes first, with all of the memory, but at least on four; where four take longer, the memory is
-- less, but 64 MiB or all that is asked for.
pub record AreCosts (most count took wanted passes memory : ℕ) : Type 0 where
  pub passes_most : IsMost 4 (2 ^ 32 - 1) most count took wanted passes
  pub memory_most : IsMost (min 65536 most) most passes count took wanted memory
