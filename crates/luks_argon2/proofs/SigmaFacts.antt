-- The table of the code is SIGMA.
use Rattle.std.proofs.Common.{◌≡◌, ℕ, zero, suc, ◌<◌, Bool, true, ◌&&◌, eqb, bit_and, slice_index, subst, sym, arith, ⊎_elim, refl}
use Rattle.std.proofs.lemmas.Bool.{and_parts, cases_eq, eqb-true}
use Rattle.luks_argon2.specs.Blake2b.{sigma}
use Rattle.luks_argon2.specs.declared.blake2b_compression.TheConstants.{SIGMA}

-- whether all numbers below n pass a test
abbrev all_below : (ℕ → Bool) → ℕ → Bool
all_below t zero = true
all_below t (suc n) = t n && all_below t n

-- each of them passes
all_below-at : (t : ℕ → Bool) (n k : ℕ) → all_below t n ≡ true → k < n → t k ≡ true
all_below-at t zero k e h = absurd (omega arith)
all_below-at t (suc n) k e h =
    let both = and_parts (t n) (all_below t n) e in
    ⊎_elim (λ (same : k ≡ n). subst (λ (j : ℕ). t j ≡ true) (sym same) both.0)
    (λ (other : k ≡ n → ⊥). all_below-at t n k both.1 (omega arith))
    (cases_eq k n)

-- whether the code's table agrees with SIGMA at a place
abbrev agrees : ℕ → Bool
agrees k = eqb (bit_and (slice_index SIGMA k) 15) (slice_index sigma k)

-- it agrees at each of the 160 places
sigma_test : all_below agrees 160 ≡ true
unfolding sigma
sigma_test = refl

-- the code's table at a place
pub sigma_at : (k : ℕ) → k < 160 → bit_and (slice_index SIGMA k) 15 ≡ slice_index sigma k
sigma_at k h = eqb-true _ _ (all_below-at agrees 160 k sigma_test h)
