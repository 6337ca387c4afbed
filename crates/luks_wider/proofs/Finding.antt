-- The first row among several lists of rows.
use Rattle.std.proofs.Common.{◌≡◌, Bool, false, List, [], ◌∷◌, ◌++◌, Option, Some, None, refl, inl, inr}
use Rattle.std.specs.Prelude.{find}
use Rattle.std.proofs.lemmas.Bool.{cases_Bool}
use Rattle.luks_wider.specs.WideWalk.{or_else}

-- of two lists, the first of the first one, else that of the second
pub find-append : {A : Type 0} (f : A → Bool) (xs ys : List A) → find f (xs ++ ys) ≡ or_else (find f xs) (find f ys)
find-append f [] ys = refl
find-append f (x ∷ xs) ys = elim (cases_Bool (f x)) [
  | inl is ↦ rw is refl
  | inr other ↦ rw other (find-append f xs ys)
]

-- the first of one row, else of the others
pub find-cons : {A : Type 0} (f : A → Bool) (x : A) (xs : List A) → find f (x ∷ xs) ≡ or_else (find f (x ∷ [])) (find f xs)
find-cons f x xs = elim (cases_Bool (f x)) [ inl is ↦ rw is refl | inr other ↦ rw other refl ]

-- behind a first one of which the test doesn't hold: the second, else the first of the others
pub found-second : {A : Type 0} (f : A → Bool) (x y : A) (zs : List A) (r : A) → f x ≡ false → Some r ≡ find f (y ∷ []) → Some r ≡ find f (x ∷ y ∷ zs)
found-second f x y zs r off is = elim (cases_Bool (f y)) [
  | inl here ↦ rw (off, here) (rw here at is)
  | inr away ↦ absurd (let lost : Some r ≡ None = rw away at is in cc)
]

pub found-later : {A : Type 0} (f : A → Bool) (x y : A) (zs : List A) (o : Option A) → f x ≡ false → None ≡ find f (y ∷ []) → o ≡ find f zs → o ≡ find f (x ∷ y ∷ zs)
found-later f x y zs o off is e = elim (cases_Bool (f y)) [
  | inl here ↦ absurd (let lost : None ≡ Some y = rw here at is in cc)
  | inr away ↦ rw (off, away) e
]
