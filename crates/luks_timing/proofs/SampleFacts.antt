-- What a sample says of more or less of its work.
use Rattle.std.proofs.Common.{◌≡◌, ℕ, ◌*◌, ◌/◌, ◌<◌, ◌≤◌, sym, subst, ap, ◌∙◌, inl, inr, max, min, arith}
use Rattle.std.proofs.lemmas.Bool.{cases_lt}
use Rattle.std.specs.Prelude.{◌↔◌}
use Rattle.std.proofs.Math.Nat.{le-div_iff_mul-le, mul_assoc, mul-zero}
use Rattle.luks_timing.specs.Costs.{IsMost}

-- the numbers whose work is within the time are those up to the quotient
within_iff : (m unit took room : ℕ) → 0 < unit * took → (m ≤ room / (unit * took)) ↔ (m * unit * took ≤ room)
within_iff m unit took room some = subst (λ x. (m ≤ room / (unit * took)) ↔ (x ≤ room)) (sym (mul_assoc m unit took)) (le-div_iff_mul-le some)

-- where the work takes no time, all of it is within the time
pub no_time : (least greatest unit count took wanted : ℕ) → least ≤ greatest → unit * took ≡ 0 → IsMost least greatest unit count took wanted greatest
no_time least greatest unit count took wanted order zero =
    let none : greatest * unit * took ≡ 0 = mul_assoc greatest unit took ∙ ap (λ x. greatest * x) zero ∙ mul-zero greatest in
    record {
      bounds = (order, omega arith);
      within = inr (subst (λ x. x ≤ wanted * count) (sym none) (omega arith));
      above = λ m over under is. absurd (omega (arith, over, under));
    }

-- else it is the quotient, between the bounds
pub quotient : (least greatest unit count took wanted : ℕ) → least ≤ greatest → (unit * took ≡ 0 → ⊥)
    → IsMost least greatest unit count took wanted (max (min (wanted * count / (unit * took)) greatest) least)
quotient least greatest unit count took wanted order other =
    let some : 0 < unit * took = omega (arith, other) in
    let q : ℕ = wanted * count / (unit * took) in
    record {
      bounds = (omega arith, omega (arith, order));
      within = elim (cases_lt q least) [
        | inl few ↦ inl (omega (arith, few, order))
        | inr enough ↦ elim (cases_lt q greatest) [
          | inl under ↦
              let is : max (min q greatest) least ≡ q = omega (arith, enough, under) in
              inr (subst (λ n. n * unit * took ≤ wanted * count) (sym is) ((within_iff q unit took (wanted * count) some).0 (omega arith)))
          | inr over ↦
              let is : max (min q greatest) least ≡ greatest = omega (arith, over, order) in
              inr (subst (λ n. n * unit * took ≤ wanted * count) (sym is) ((within_iff greatest unit took (wanted * count) some).0 over))
        ]
      ];
      above = λ m over under is. let most = (within_iff m unit took (wanted * count) some).1 is in absurd (omega (arith, over, under, most));
    }
