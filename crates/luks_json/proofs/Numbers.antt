-- Names and numbers.
use Rattle.std.proofs.Common.{◌≡◌, ℕ, ◌+◌, ◌-◌, ◌*◌, ◌/◌, ◌%◌, ◌<◌, ◌≤◌, Bool, true, false, cond, List, [], ◌∷◌, Some, None, inl, inr, refl, ap, arith}
use Rattle.std.proofs.lemmas.Bool.{cases_lt, lt-ltb, le-ltb, le-leb, and_parts, or_cases, leb-true, eqb-true}
use Rattle.luks_json.specs.Number.{number_text, number_of, is_digit, are_two}

some_if : (b : Bool) (n m : ℕ) → cond b (Some n) None ≡ Some m → (b ≡ true) × (n ≡ m)
some_if true n m e = (refl, cc)
some_if false n m e = absurd (cc)

low_test : (a b : ℕ) → 49 ≤ a → a ≤ 50 → 48 ≤ b → b ≤ 57 → are_two a b ≡ true
low_test a b h i j k = rw (le-leb 49 a h, le-leb a 50 i, le-leb 48 b j, le-leb b 57 k)

high_test : (a b : ℕ) → a ≡ 51 → 48 ≤ b → b ≤ 49 → are_two a b ≡ true
high_test a b h j k = rw (h, le-leb 48 b j, le-leb b 49 k)

of_two : (n : ℕ) → 10 ≤ n → n < 32 → are_two (48 + n / 10) (48 + n % 10) ≡ true
of_two n low small = elim (cases_lt n 30) [
  | inl under ↦ low_test (48 + n / 10) (48 + n % 10) (omega arith) (omega arith) (omega arith) (omega arith)
  | inr over ↦ high_test (48 + n / 10) (48 + n % 10) (omega arith) (omega arith) (omega arith)
]

pub number_of_text : (n : ℕ) → n < 32 → number_of (number_text n) ≡ Some n
number_of_text n small = elim (cases_lt n 10) [
  | inl one ↦ rw (lt-ltb n 10 one, le-leb 48 (48 + n) (omega arith), le-leb (48 + n) 57 (omega arith)) (ap Some (omega arith))
  | inr two ↦ rw (le-ltb n 10 two, of_two n two small) (ap Some (omega arith))
]

one_named : (a n : ℕ) → is_digit a ≡ true → a - 48 ≡ n → (a ∷ [] ≡ number_text n) × (n < 32)
one_named a n digit is =
    let parts = and_parts _ _ digit in
    let low : 48 ≤ a = leb-true 48 a parts.0 in
    let high : a ≤ 57 = leb-true a 57 parts.1 in
    let one : n < 10 = omega arith in
    let same : a ≡ 48 + n = omega arith in
    (rw (lt-ltb n 10 one) (ap (λ c. c ∷ []) same), omega arith)

two_text : (a b n : ℕ) → 49 ≤ a → 48 ≤ b → b ≤ 57 → 10 * (a - 48) + (b - 48) ≡ n → a ∷ b ∷ [] ≡ number_text n
two_text a b n i j k is =
    let two : 10 ≤ n = omega arith in
    let tens : a ≡ 48 + n / 10 = omega arith in
    let ones : b ≡ 48 + n % 10 = omega arith in
    rw (le-ltb n 10 two, ← tens, ← ones) refl

two_named : (a b n : ℕ) → are_two a b ≡ true → 10 * (a - 48) + (b - 48) ≡ n → (a ∷ b ∷ [] ≡ number_text n) × (n < 32)
two_named a b n both is = elim (or_cases _ _ both) [
  | inl under ↦
      let p = and_parts _ _ under in
      let q = and_parts _ _ p.0 in
      let r = and_parts _ _ p.1 in
      let i : 49 ≤ a = leb-true 49 a q.0 in
      let j : a ≤ 50 = leb-true a 50 q.1 in
      let k : 48 ≤ b = leb-true 48 b r.0 in
      let l : b ≤ 57 = leb-true b 57 r.1 in
      (two_text a b n i k l is, omega arith)
  | inr over ↦
      let p = and_parts _ _ over in
      let q = and_parts _ _ p.0 in
      let i : a ≡ 51 = eqb-true a 51 q.0 in
      let k : 48 ≤ b = leb-true 48 b q.1 in
      let l : b ≤ 49 = leb-true b 49 p.1 in
      (two_text a b n (omega arith) k (omega arith) is, omega arith)
]

pub text_of_named : (text : List ℕ) (n : ℕ) → number_of text ≡ Some n → (text ≡ number_text n) × (n < 32)
text_of_named [] n e = absurd (cc)
text_of_named (a ∷ []) n e = let p = some_if (is_digit a) (a - 48) n e in one_named a n p.0 p.1
text_of_named (a ∷ b ∷ []) n e = let p = some_if (are_two a b) (10 * (a - 48) + (b - 48)) n e in two_named a b n p.0 p.1
text_of_named (a ∷ b ∷ c ∷ rest) n e = absurd (cc)
