-- An element that was set.
use Rattle.std.proofs.Common.{◌≡◌, ℕ, zero, suc, List, [], ◌∷◌, slice_index_or, slice_set, refl}

-- what was set at a place is there, or the place is past the end
pub set_own : {A : Type 0} (xs : List A) (n : ℕ) (x : A) → slice_index_or (slice_set xs n x) n x ≡ x
set_own [] n x = refl
set_own (y ∷ ys) zero x = refl
set_own (y ∷ ys) (suc n) x = set_own ys n x
