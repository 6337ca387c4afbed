-- What the front of a list says of the whole list.
use Rattle.std.proofs.Common.{◌≡◌, ℕ, ◌≤◌, ◌<◌, List, length, take, Option, None, Some, IfSome, inl, inr, ap, ◌∙◌, arith}
use Rattle.std.proofs.lemmas.List.{length-take-le, take_all}
use Rattle.std.proofs.lemmas.Bool.{cases_lt}

-- a front that is shorter than was asked for is the whole list
short_front : (n : ℕ) (xs ys : List ℕ) → ys ≡ take n xs → length ys < n → ys ≡ xs
short_front n xs ys is short =
    elim (cases_lt (length xs) n) [
      | inl lt ↦ is ∙ take_all n xs (omega (arith, lt))
      | inr ge ↦
          let full : length ys ≡ n = ap length is ∙ length-take-le n xs ge in
          absurd (omega (arith, full, short))
    ]

pub whole_of : (known : Option (List ℕ)) (ys : List ℕ) → IfSome known (λ xs. ys ≡ take 65537 xs) → length ys ≤ 65536
    → IfSome known (λ xs. ys ≡ xs)
whole_of None ys front short = front
whole_of (Some xs) ys front short = short_front 65537 xs ys front (omega (arith, short))

-- a front that is longer than the most comes of a list that is
pub long_of : (known : Option (List ℕ)) (ys : List ℕ) → IfSome known (λ xs. ys ≡ take 65537 xs) → 65536 < length ys
    → IfSome known (λ xs. 65536 < length xs)
long_of None ys front long = front
long_of (Some xs) ys front long =
    elim (cases_lt (length xs) 65537) [
      | inl lt ↦ let same : length ys ≡ length xs = ap length (front ∙ take_all 65537 xs (omega (arith, lt))) in omega (arith, same, long)
      | inr ge ↦ omega (arith, ge)
    ]
