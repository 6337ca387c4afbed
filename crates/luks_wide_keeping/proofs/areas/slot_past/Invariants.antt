use Rattle.std.proofs.Common.{ℕ, ◌<◌}
use Rattle.luks_wider.specs.Underways.{content}
use Rattle.luks_wide_keeping.specs.Layout.{IsSlotPast}
use Rattle.luks_wide_keeping.proofs.areas.slot_past.Given as goal

-- none before this one is it
abbrev pub invariant-loop-n : goal.invariant-loop-n
invariant-loop-n l = (k : ℕ) → k < l.n → IsSlotPast (content l.meta) l.total k → ⊥
