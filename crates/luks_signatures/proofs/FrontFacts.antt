-- Bytes that are read of a disk, and those of its first ones.
use Rattle.std.proofs.Common.{◌≡◌, ◌≢◌, ℕ, ◌+◌, ◌*◌, ◌<◌, ◌≤◌, List, [], ◌∷◌, Bool, Result, Ok, Err, IfOk, IsTrue, ◌⊎◌, inl, inr, length, min, take, refl, sym, ap, ◌∙◌, arith, subst, zero-add, ◌↔◌}
use Rattle.std.proofs.lemmas.Grind.{common_steps}
use Rattle.luks_area.specs.Ranges.{part}
use Rattle.luks_area.proofs.RangeFacts.{length-part, length-part_inside, part-part}
use Rattle.luks_signatures.specs.Signatures.{BeginsEntry, HasEmptyTable, HasPartition, IsPartition, Stands}

-- a part that lies inside the first bytes is the same part of them
pub part-front : (v : List ℕ) (n p len : ℕ) → p + len ≤ n → part (take n v) p len ≡ part v p len
part-front v n p len inside = part-part v 0 n p len inside ∙ ap (λ q. part v q len) (zero-add p)

-- bytes that would run past the end of others don't are there
pub stands-inside : (v : List ℕ) (p : ℕ) (b : List ℕ) → 1 ≤ length b → Stands v p b → p + length b ≤ length v
stands-inside v p b some stands = omega (arith, length-part v p (length b), ap length stands)

-- the first sector decides of partitions
pub partition-front : (v : List ℕ) (n : ℕ) → 512 ≤ n → HasPartition (take n v) ↔ HasPartition (part v 0 512)
partition-front v n long = (
  λ has. (sym (same 510 2 (omega arith)) ∙ has.0, (has.1.0, has.1.1, subst IsPartition (same (446 + 16 * has.1.0) 16 (let low = has.1.1 in omega (arith, low))) has.1.2)),
  λ has. (same 510 2 (omega arith) ∙ has.0, (has.1.0, has.1.1, subst IsPartition (sym (same (446 + 16 * has.1.0) 16 (let low = has.1.1 in omega (arith, low)))) has.1.2)),
)
  where
    same : (p len : ℕ) → p + len ≤ 512 → part (take n v) p len ≡ part (part v 0 512) p len
    same p len inside = part-front v n p len (omega (arith, inside, long)) ∙ sym (part-front v 512 p len inside)

-- and of a table without one
pub empty-front : (v : List ℕ) (n : ℕ) → 512 ≤ n → HasEmptyTable (take n v) ↔ HasEmptyTable (part v 0 512)
empty-front v n long = (
  λ has. (
    sym (same 510 2 (omega arith)) ∙ has.0,
    λ zeros. has.1 (same 440 4 (omega arith) ∙ zeros),
    λ k low. subst BeginsEntry (same (446 + 16 * k) 16 (omega (arith, low))) (has.2 k low),
  ),
  λ has. (
    same 510 2 (omega arith) ∙ has.0,
    λ zeros. has.1 (sym (same 440 4 (omega arith)) ∙ zeros),
    λ k low. subst BeginsEntry (sym (same (446 + 16 * k) 16 (omega (arith, low)))) (has.2 k low),
  ),
)
  where
    same : (p len : ℕ) → p + len ≤ 512 → part (take n v) p len ≡ part (part v 0 512) p len
    same p len inside = part-front v n p len (omega (arith, inside, long)) ∙ sym (part-front v 512 p len inside)

-- where the first of two doesn't hold, the second decides
pub either-second : (E P Q : Type 0) (result : Result Bool E) → (P → ⊥) → IfOk result (λ is. IsTrue is ↔ Q) → IfOk result (λ is. IsTrue is ↔ (P ⊎ Q))
either-second E P Q (Ok b) none second = (λ e. inr (second.0 e), λ either. elim either [ inl p ↦ absurd (none p) | inr q ↦ second.1 q ])
either-second E P Q (Err e) none second = second

-- the first bytes, of as many as there are
pub take-within : (v : List ℕ) (n len size : ℕ) → length v ≡ size → n ≡ min len size → take n v ≡ take len v
take-within v n len size sized is = grind (arith, common_steps)
