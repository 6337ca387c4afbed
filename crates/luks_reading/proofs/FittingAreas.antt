-- A set of areas without a fault fits.
use Rattle.std.proofs.Common.{◌≡◌, ◌≢◌, ℕ, ◌+◌, ◌⊎◌, inl, inr, refl, ap, arith}
use Rattle.std.proofs.lemmas.Bool.{cases_lt, cases_order}
use Rattle.luks_area.specs.declared.area.Area.{Area}
use Rattle.luks_area.specs.declared.area.AreaName.{AreaName}
use Rattle.luks_area.specs.declared.area.AreaName.TheVariants.{Head1, Head2, Slot, Segment}
use Rattle.luks_area.specs.declared.area.AreaFault.{AreaFault}
use Rattle.luks_area.specs.declared.area.AreaFault.TheVariants.{Outside, Overlap}
use Rattle.luks_area.specs.Area.{IsBefore, name_kind, name_number, Fit, IsAreaFault}

-- names of one kind and number are one name
same_name : (m n : AreaName) → name_kind m ≡ name_kind n → name_number m ≡ name_number n → m ≡ n
same_name Head1 Head1 k e = refl
same_name Head2 Head2 k e = refl
same_name (Slot i) (Slot j) k e = ap Slot e
same_name (Segment i) (Segment j) k e = ap Segment e
same_name Head1 Head2 k e = absurd (omega (arith, k))
same_name Head1 (Slot j) k e = absurd (omega (arith, k))
same_name Head1 (Segment j) k e = absurd (omega (arith, k))
same_name Head2 Head1 k e = absurd (omega (arith, k))
same_name Head2 (Slot j) k e = absurd (omega (arith, k))
same_name Head2 (Segment j) k e = absurd (omega (arith, k))
same_name (Slot i) Head1 k e = absurd (omega (arith, k))
same_name (Slot i) Head2 k e = absurd (omega (arith, k))
same_name (Slot i) (Segment j) k e = absurd (omega (arith, k))
same_name (Segment i) Head1 k e = absurd (omega (arith, k))
same_name (Segment i) Head2 k e = absurd (omega (arith, k))
same_name (Segment i) (Slot j) k e = absurd (omega (arith, k))

-- of two names one comes before the other
before_or_after : (m n : AreaName) → m ≢ n → IsBefore m n ⊎ IsBefore n m
before_or_after m n differ =
    elim (cases_order (name_kind m) (name_kind n)) [
      | inl k ↦ elim (cases_order (name_number m) (name_number n)) [
        | inl e ↦ absurd (differ (same_name m n k e))
        | inr (inl lt) ↦ inl (omega (arith, k), λ _. lt)
        | inr (inr gt) ↦ inr (omega (arith, k), λ _. gt)
      ]
      | inr (inl lt) ↦ inl (omega (arith, lt), λ e. absurd (omega (arith, lt, e)))
      | inr (inr gt) ↦ inr (omega (arith, gt), λ e. absurd (omega (arith, gt, e)))
    ]

pub fit-no_fault : (areas : AreaName → Area → Type 0) (total : ℕ) → ((f : AreaFault) → IsAreaFault areas total f → ⊥) → Fit areas total
fit-no_fault areas total faultless = record {
  inside = λ n a g. elim (cases_lt total (a.start + a.len)) [
    | inl past ↦ absurd (faultless (Outside n) (a, (g, past)))
    | inr within ↦ within
  ];
  disjoint = λ m n a b gm gn differ p in_a in_b. elim (before_or_after m n differ) [
    | inl before ↦ faultless (Overlap m n) (a, (b, (gm, gn, before, (p, (in_a, in_b)))))
    | inr after ↦ faultless (Overlap n m) (b, (a, (gn, gm, after, (p, (in_b, in_a)))))
  ];
}
