-- A test that holds at every number below n, and what it gives at one of them.
use Rattle.std.proofs.Common.{◌≡◌, ℕ, zero, suc, ◌<◌, Bool, true, ◌&&◌, List, eqb, slice_index_or, subst, sym, arith, ⊎_elim}
use Rattle.std.proofs.lemmas.Bool.{and_parts, cases_eq, eqb-true}

-- the test holds at every number below n
abbrev pub all_below : (ℕ → Bool) → ℕ → Bool
all_below t zero = true
all_below t (suc n) = t n && all_below t n

-- and at one of them
pub all_below-at : (t : ℕ → Bool) (n k : ℕ) → all_below t n ≡ true → k < n → t k ≡ true
all_below-at t zero k e h = absurd (omega arith)
all_below-at t (suc n) k e h =
    let both = and_parts (t n) (all_below t n) e in
    ⊎_elim (λ (same : k ≡ n). subst (λ (j : ℕ). t j ≡ true) (sym same) both.0)
    (λ (other : k ≡ n → ⊥). all_below-at t n k both.1 (omega arith))
    (cases_eq k n)

-- the table equals f at k
abbrev pub agrees : List ℕ → (ℕ → ℕ) → ℕ → Bool
agrees table f k = eqb (slice_index_or table k 0) (f k)

-- a table that equals f at every number below n
pub table_at : (table : List ℕ) (f : ℕ → ℕ) (n k : ℕ) → all_below (agrees table f) n ≡ true → k < n → slice_index_or table k 0 ≡ f k
table_at table f n k e h = eqb-true _ _ (all_below-at (agrees table f) n k e h)
