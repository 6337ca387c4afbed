-- A set of named areas has a fault or none.
use Rattle.std.proofs.Common.{◌≡◌, ◌⊎◌, ℕ, ◌+◌, ◌<◌, List, [], ◌∷◌, ◌++◌, map, sym, subst, arith, inl, inr}
use Rattle.std.proofs.lemmas.Bool.{cases_eq, cases_lt}
use Rattle.luks_area.specs.declared.area.Area.{Area}
use Rattle.luks_area.specs.declared.area.AreaFault.{AreaFault}
use Rattle.luks_area.specs.declared.area.AreaFault.TheVariants.{Outside, Overlap}
use Rattle.luks_area.specs.declared.area.AreaName.{AreaName}
use Rattle.luks_area.specs.Area.{IsAreaFault, IsBefore, Meet, name_kind, name_number}
use Rattle.luks_rules.specs.Faults.{Among}
use Rattle.luks_laws.proofs.DecidedFacts.{Decided, among_left, among_map, among_right, at_most_decided, both_decided, less_decided}

meet_decided : (a b : Area) → Decided (Meet a b)
meet_decided a b = elim (cases_lt a.start b.start) [
  | inl first ↦ elim (cases_lt b.start (a.start + a.len)) [
    | inl reached ↦ elim (cases_lt b.start (b.start + b.len)) [
      | inl some ↦ inl (b.start, ((omega (arith, first), reached), (omega arith, some)))
      | inr none ↦ inr (λ x. let low = x.1.1.0 in let high = x.1.1.1 in absurd (omega (arith, none, low, high)))
    ]
    | inr past ↦ inr (λ x. let low = x.1.1.0 in let high = x.1.0.1 in absurd (omega (arith, past, low, high)))
  ]
  | inr second ↦ elim (cases_lt a.start (b.start + b.len)) [
    | inl reached ↦ elim (cases_lt a.start (a.start + a.len)) [
      | inl some ↦ inl (a.start, ((omega arith, some), (second, reached)))
      | inr none ↦ inr (λ x. let low = x.1.0.0 in let high = x.1.0.1 in absurd (omega (arith, none, low, high)))
    ]
    | inr past ↦ inr (λ x. let low = x.1.0.0 in let high = x.1.1.1 in absurd (omega (arith, past, low, high)))
  ]
]

before_decided : (m n : AreaName) → Decided (IsBefore m n)
before_decided m n = elim (at_most_decided (name_kind m) (name_kind n)) [
  | inl low ↦ elim (cases_eq (name_kind m) (name_kind n)) [
    | inl same ↦ elim (less_decided (name_number m) (name_number n)) [
      | inl less ↦ inl (low, λ _. less)
      | inr more ↦ inr (λ x. more (x.1 same))
    ]
    | inr other ↦ inl (low, λ same. absurd (other same))
  ]
  | inr high ↦ inr (λ x. high x.0)
]

-- a name has one area, or none
module _ (areas : AreaName → Area → Type 0) (total : ℕ) (find : (n : AreaName) → ((a : Area) × areas n a) ⊎ ((a : Area) → areas n a → ⊥))
    (one : (n : AreaName) (a b : Area) → areas n a → areas n b → a ≡ b) where
  pub area_fault_decided : (f : AreaFault) → Decided (IsAreaFault areas total f)
  area_fault_decided (Outside n) = elim (find n) [
    | inl found ↦ elim (less_decided total (found.0.start + found.0.len)) [
      | inl past ↦ inl (found.0, (found.1, past))
      | inr within ↦ inr (λ x. within (subst (λ a. total < a.start + a.len) (one n x.0 found.0 x.1.0 found.1) x.1.1))
    ]
    | inr none ↦ inr (λ x. none x.0 x.1.0)
  ]
  area_fault_decided (Overlap m n) = elim (find m) [
    | inl first ↦ elim (find n) [
      | inl second ↦ elim (both_decided (IsBefore m n) (Meet first.0 second.0) (before_decided m n) (meet_decided first.0 second.0)) [
        | inl meet ↦ inl (first.0, (second.0, (first.1, second.1, meet.0, meet.1)))
        | inr apart ↦ inr (λ x. apart (
          x.1.1.2,
          subst (λ a. Meet a second.0) (one m x.0 first.0 x.1.1.0 first.1) (subst (λ b. Meet x.0 b) (one n x.1.0 second.0 x.1.1.1 second.1) x.1.1.3),
        ))
      ]
      | inr none ↦ inr (λ x. none x.1.0 x.1.1.1)
    ]
    | inr none ↦ inr (λ x. none x.0 x.1.1.0)
  ]

-- ---- the faults that may stand, by the names that may have an area

pairs : List AreaName → List AreaName → List AreaFault
pairs [] ns = []
pairs (m ∷ ms) ns = map (Overlap m) ns ++ pairs ms ns

among_pairs : (m n : AreaName) (ms ns : List AreaName) → Among m ms → Among n ns → Among (Overlap m n) (pairs ms ns)
unfolding pairs
among_pairs m n [] ns at there = absurd at
among_pairs m n (k ∷ ms) ns (inl here) there =
    among_left (Overlap m n) (map (Overlap k) ns) (pairs ms ns) (subst (λ i. Among (Overlap i n) (map (Overlap k) ns)) (sym here) (among_map (Overlap k) n ns there))
among_pairs m n (k ∷ ms) ns (inr later) there = among_right (Overlap m n) (map (Overlap k) ns) (pairs ms ns) (among_pairs m n ms ns later there)

pub area_candidates : List AreaName → List AreaFault
area_candidates ns = map Outside ns ++ pairs ns ns

pub among_areas : (areas : AreaName → Area → Type 0) (total : ℕ) (ns : List AreaName) → ((n : AreaName) (a : Area) → areas n a → Among n ns)
    → (f : AreaFault) → IsAreaFault areas total f → Among f (area_candidates ns)
unfolding area_candidates
among_areas areas total ns known (Outside n) bad = among_left (Outside n) (map Outside ns) (pairs ns ns) (among_map Outside n ns (known n bad.0 bad.1.0))
among_areas areas total ns known (Overlap m n) bad =
    among_right (Overlap m n) (map Outside ns) (pairs ns ns) (among_pairs m n ns ns (known m bad.0 bad.1.1.0) (known n bad.1.0 bad.1.1.1))
