-- When two areas share a byte.
use Rattle.std.proofs.Common.{◌+◌, ◌<◌, inl, inr, arith}
use Rattle.std.proofs.lemmas.Bool.{cases_lt}
use Rattle.luks_area.specs.Area.{Meet}
use Rattle.luks_area.specs.declared.area.Area.{Area}

-- neither is empty, and each begins before the other ends
pub meet_of : (a b : Area) → 0 < a.len → 0 < b.len → a.start < b.start + b.len → b.start < a.start + a.len → Meet a b
meet_of a b some other first second = elim (cases_lt a.start b.start) [
  | inl before ↦ (b.start, ((omega (arith, before), second), (omega arith, omega (arith, other))))
  | inr behind ↦ (a.start, ((omega arith, omega (arith, some)), (behind, first)))
]

pub meet_second : (a b : Area) → Meet a b → b.start < a.start + a.len
meet_second a b m = (let low = m.1.1.0 in let high = m.1.0.1 in omega (arith, low, high))
