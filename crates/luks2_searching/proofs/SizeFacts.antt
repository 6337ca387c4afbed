-- The sizes of a list, one by one.
use Rattle.std.proofs.Common.{◌≡◌, ℕ, zero, suc, ◌<◌, ◌==◌, List, [], ◌∷◌, length, get_or, true, inl, inr, refl, subst, arith}
use Rattle.std.proofs.lemmas.Bool.{eq-eqb, eqb-true, false≢true, or_cases, or_left, or_right}
use Rattle.luks2_header.specs.Sizes.{is_among}

-- what holds of each by its place holds of each that is among them
pub each_among : (P : ℕ → Type 0) (xs : List ℕ) → ((k : ℕ) → k < length xs → P (get_or xs k 0)) → (p : ℕ) → is_among p xs ≡ true → P p
each_among P [] all p among = absurd (false≢true among)
each_among P (x ∷ xs) all p among = elim (or_cases (x == p) (is_among p xs) among) [
  | inl here ↦ subst P (eqb-true x p here) (all 0 (omega arith))
  | inr after ↦ each_among P xs (λ k lt. all (suc k) (omega (arith, lt))) p after
]

pub among_at : (xs : List ℕ) (k : ℕ) → k < length xs → is_among (get_or xs k 0) xs ≡ true
among_at [] k lt = absurd (omega (arith, lt))
among_at (x ∷ xs) zero lt = or_left (x == x) (is_among x xs) (eq-eqb x x refl)
among_at (x ∷ xs) (suc k) lt = or_right (x == get_or xs k 0) (is_among (get_or xs k 0) xs) (among_at xs k (omega (arith, lt)))
