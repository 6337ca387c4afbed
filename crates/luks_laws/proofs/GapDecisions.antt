-- Areas are disjoint, or they aren't.
use Rattle.std.proofs.Common.{◌+◌, ◌≤◌, arith, inl, inr}
use Rattle.std.proofs.lemmas.Bool.{cases_lt}
use Rattle.luks_area.specs.declared.area.Area.{Area}
use Rattle.luks_area.specs.declared.area.AreaName.{AreaName}
use Rattle.luks_area.specs.Area.{AreDisjoint}
use Rattle.luks_laws.proofs.DecidedFacts.{alike_decided, Decided}

-- of areas in order it is the second one's first byte that may lie in both
in_order_decided : (a b : Area) → a.start ≤ b.start → Decided (AreDisjoint a b)
in_order_decided a b order = elim (cases_lt b.start (a.start + a.len)) [
  | inl reached ↦ elim (cases_lt b.start (b.start + b.len)) [
    | inl some ↦ inr (λ apart. apart b.start (order, reached) (omega arith, some))
    | inr none ↦ inl (λ p in_a in_b. let low = in_b.0 in let high = in_b.1 in omega (arith, none, low, high))
  ]
  | inr past ↦ inl (λ p in_a in_b. let high = in_a.1 in let low = in_b.0 in omega (arith, past, low, high))
]

-- two areas are disjoint, or they meet
pub disjoint_decided : (a b : Area) → Decided (AreDisjoint a b)
disjoint_decided a b = elim (cases_lt b.start a.start) [
  | inl first ↦ alike_decided (AreDisjoint b a) (AreDisjoint a b) (λ apart p in_a in_b. apart p in_b in_a) (λ apart p in_b in_a. apart p in_a in_b)
      (in_order_decided b a (omega (arith, first)))
  | inr second ↦ in_order_decided a b second
]

-- no area of the set meets the area `x`
abbrev pub IsBeside : (AreaName → Area → Type 0) → Area → Type 0
IsBeside areas x = (n : AreaName) (a : Area) → areas n a → AreDisjoint a x
