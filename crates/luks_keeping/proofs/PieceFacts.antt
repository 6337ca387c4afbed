-- Pieces of a volume, and the volume with zeros in them.
use Rattle.std.proofs.Common.{◌≡◌, ◌⊎◌, ℕ, ◌+◌, ◌-◌, ◌≤◌, ◌++◌, List, [], ◌∷◌, All, length, replicate, get_or, inl, inr, refl, sym, ap, subst, ◌∙◌, arith}
use Rattle.std.proofs.lemmas.Bool.{cases_lt}
use Rattle.std.proofs.lemmas.List.{get_or-replicate, length-replicate}
use Rattle.std.proofs.lemmas.List.Elements.{All-head, All-tail}
use Rattle.luks_area.specs.Ranges.{written, IsAt, SameBut}
use Rattle.luks_area.proofs.RangeFacts.{get_or-part, length-written, part-written, same_but-same, same_but-same_outside, same_but-then, same_but-wider, same_outside-written}
use Rattle.luks_area.specs.declared.area.Area.{Area}
use Rattle.luks_keeping.specs.Unread.{zeroed, HasOne, IsOfPieces}

-- ---- several pieces

pub of_front : (xs ys : List Area) (p : ℕ) → IsOfPieces xs p → IsOfPieces (xs ++ ys) p
of_front [] ys p is = absurd is
of_front (x ∷ xs) ys p (inl at) = inl at
of_front (x ∷ xs) ys p (inr later) = inr (of_front xs ys p later)

pub of_back : (xs ys : List Area) (p : ℕ) → IsOfPieces ys p → IsOfPieces (xs ++ ys) p
of_back [] ys p is = is
of_back (x ∷ xs) ys p is = inr (of_back xs ys p is)

pub of_either : (xs ys : List Area) (p : ℕ) → IsOfPieces (xs ++ ys) p → IsOfPieces xs p ⊎ IsOfPieces ys p
of_either [] ys p is = inr is
of_either (x ∷ xs) ys p (inl at) = inl (inl at)
of_either (x ∷ xs) ys p (inr later) = elim (of_either xs ys p later) [
  | inl front ↦ inl (inr front)
  | inr back ↦ inr back
]

pub one_front : (P : Area → Type 0) (xs ys : List Area) → HasOne P xs → HasOne P (xs ++ ys)
one_front P [] ys is = absurd is
one_front P (x ∷ xs) ys (inl this) = inl this
one_front P (x ∷ xs) ys (inr later) = inr (one_front P xs ys later)

pub one_back : (P : Area → Type 0) (xs ys : List Area) → HasOne P ys → HasOne P (xs ++ ys)
one_back P [] ys is = is
one_back P (x ∷ xs) ys is = inr (one_back P xs ys is)

pub one_wider : (P Q : Area → Type 0) → ((x : Area) → P x → Q x) → (xs : List Area) → HasOne P xs → HasOne Q xs
one_wider P Q step [] is = absurd is
one_wider P Q step (x ∷ xs) (inl this) = inl (step x this)
one_wider P Q step (x ∷ xs) (inr later) = inr (one_wider P Q step xs later)

-- where there are some, and all are so, one is
pub one_of_all : (P : Area → Type 0) (xs : List Area) → 1 ≤ length xs → All P xs → HasOne P xs
one_of_all P [] some all = absurd (omega (arith, some))
one_of_all P (x ∷ xs) some all = inl (All-head P x xs all)

-- what holds of each place of each piece holds of each of their places
pub each_place : (P : Area → Type 0) (Q : ℕ → Type 0) → ((x : Area) → P x → (p : ℕ) → IsAt x.start x.len p → Q p) → (xs : List Area) → All P xs → (p : ℕ) → IsOfPieces xs p → Q p
each_place P Q step [] all p is = absurd is
each_place P Q step (x ∷ xs) all p (inl at) = step x (All-head P x xs all) p at
each_place P Q step (x ∷ xs) all p (inr later) = each_place P Q step xs (All-tail P x xs all) p later

-- a place is of a range, or it isn't
pub at_or_not : (start len p : ℕ) → IsAt start len p ⊎ (IsAt start len p → ⊥)
at_or_not start len p = elim (cases_lt p start) [
  | inl before ↦ inr (λ at. (let low = at.0 in absurd (omega (arith, low, before))))
  | inr past ↦ elim (cases_lt p (start + len)) [
    | inl within ↦ inl (past, within)
    | inr behind ↦ inr (λ at. (let high = at.1 in absurd (omega (arith, high, behind))))
  ]
]

pub of_pieces_or_not : (xs : List Area) (p : ℕ) → IsOfPieces xs p ⊎ (IsOfPieces xs p → ⊥)
of_pieces_or_not [] p = inr (λ is. is)
of_pieces_or_not (x ∷ xs) p = elim (at_or_not x.start x.len p) [
  | inl at ↦ inl (inl at)
  | inr other ↦ elim (of_pieces_or_not xs p) [
    | inl later ↦ inl (inr later)
    | inr none ↦ inr (λ is. elim is [ inl at ↦ other at | inr later ↦ none later ])
  ]
]

-- ---- a byte of what was written

module _ (u bytes : List ℕ) (at : ℕ) (inside : at + length bytes ≤ length u) where
  pub written_but : SameBut (IsAt at (length bytes)) u (written u at bytes)
  written_but = same_but-same_outside (same_outside-written u at bytes inside)

  pub written_in : (p : ℕ) → IsAt at (length bytes) p → get_or (written u at bytes) p 0 ≡ get_or bytes (p - at) 0
  written_in p here =
      let low = here.0 in
      let high = here.1 in
      let back : at + (p - at) ≡ p = omega (arith, low) in
      ap (λ k. get_or (written u at bytes) k 0) (sym back)
      ∙ sym (get_or-part (written u at bytes) at (length bytes) (p - at) (omega (arith, low, high)))
      ∙ ap (λ l. get_or l (p - at) 0) (part-written u at bytes inside)

-- ---- zeros in pieces

module _ (v : List ℕ) where
  pub zeroed_long : (xs : List Area) → All (λ x. x.start + x.len ≤ length v) xs → length (zeroed xs v) ≡ length v
  zeroed_long [] all = refl
  zeroed_long (x ∷ xs) all =
      let before = zeroed_long xs (All-tail (λ x. x.start + x.len ≤ length v) x xs all) in
      let here = All-head (λ x. x.start + x.len ≤ length v) x xs all in
      let zeros : length (replicate {A = ℕ} x.len 0) ≡ x.len = length-replicate {A = ℕ} x.len 0 in
      length-written (zeroed xs v) x.start (replicate x.len 0) (omega (arith, here, before, zeros)) ∙ before

  -- the last piece that was written
  module _ (x : Area) (xs : List Area) (all : All (λ x. x.start + x.len ≤ length v) (x ∷ xs)) where
    zeros_long : length (replicate {A = ℕ} x.len 0) ≡ x.len
    zeros_long = length-replicate {A = ℕ} x.len 0

    last_inside : x.start + length (replicate {A = ℕ} x.len 0) ≤ length (zeroed xs v)
    last_inside =
        let before = zeroed_long xs (All-tail (λ x. x.start + x.len ≤ length v) x xs all) in
        let here = All-head (λ x. x.start + x.len ≤ length v) x xs all in
        let zeros = zeros_long in
        omega (arith, here, before, zeros)

    last_but : SameBut (IsAt x.start x.len) (zeroed xs v) (written (zeroed xs v) x.start (replicate x.len 0))
    last_but = subst (λ (n : ℕ). SameBut (IsAt x.start n) (zeroed xs v) (written (zeroed xs v) x.start (replicate x.len 0))) zeros_long (written_but (zeroed xs v) (replicate x.len 0) x.start last_inside)

    last_zero : (p : ℕ) → IsAt x.start x.len p → get_or (written (zeroed xs v) x.start (replicate x.len 0)) p 0 ≡ 0
    last_zero p at =
        let zeros = zeros_long in
        let low = at.0 in
        let high = at.1 in
        written_in (zeroed xs v) (replicate x.len 0) x.start last_inside p (low, omega (arith, high, zeros))
        ∙ get_or-replicate x.len (p - x.start) 0 0 (omega (arith, low, high))

  -- no other byte has changed
  pub zeroed_but : (xs : List Area) → All (λ x. x.start + x.len ≤ length v) xs → SameBut (IsOfPieces xs) v (zeroed xs v)
  zeroed_but [] all = same_but-same (IsOfPieces []) v
  zeroed_but (x ∷ xs) all =
      same_but-then (same_but-wider (λ p is. inr is) (zeroed_but xs (All-tail (λ x. x.start + x.len ≤ length v) x xs all)))
      (same_but-wider (λ p at. inl at) (last_but x xs all))

  -- and these are zeros
  pub zeroed_zero : (xs : List Area) → All (λ x. x.start + x.len ≤ length v) xs → (p : ℕ) → IsOfPieces xs p → get_or (zeroed xs v) p 0 ≡ 0
  zeroed_zero [] all p is = absurd is
  zeroed_zero (x ∷ xs) all p is = elim (at_or_not x.start x.len p) [
    | inl at ↦ last_zero x xs all p at
    | inr other ↦ elim is [
      | inl at ↦ absurd (other at)
      | inr later ↦ (last_but x xs all).each p other ∙ zeroed_zero xs (All-tail (λ x. x.start + x.len ≤ length v) x xs all) p later
    ]
  ]
