-- What the code does with bytes is what the definitions say, tried at each byte.
use Rattle.std.proofs.Common.{◌≡◌, ℕ, zero, suc, ◌+◌, ◌*◌, ◌/◌, ◌%◌, ◌^◌, ◌<◌, Bool, true, ◌&&◌, List, [], ◌∷◌, eqb, bit_or, bit_xor, subst, sym, arith, ⊎_elim, refl}
use Rattle.std.proofs.lemmas.Bool.{and_parts, cases_eq, eqb-true}
use Rattle.luks_older_hashes.specs.Whirlpool.{inverse_below, product, product_by, sbox, times_power, times_x}
use Rattle.luks_older_hashes.specs.declared.whirlpool.sbox.TheConstants.{MINI_E, MINI_E_INVERSE, MINI_R}

-- whether all numbers below n pass a test
abbrev pub all_below : (ℕ → Bool) → ℕ → Bool
all_below t zero = true
all_below t (suc n) = t n && all_below t n

-- each of them passes
pub all_below-at : (t : ℕ → Bool) (n k : ℕ) → all_below t n ≡ true → k < n → t k ≡ true
all_below-at t zero k e h = absurd (omega arith)
all_below-at t (suc n) k e h =
    let both = and_parts (t n) (all_below t n) e in
    ⊎_elim (λ (same : k ≡ n). subst (λ (j : ℕ). t j ≡ true) (sym same) both.0)
    (λ (other : k ≡ n → ⊥). all_below-at t n k both.1 (omega arith))
    (cases_eq k n)

-- two functions that agree at each byte, at one of them
at_byte : (f g : ℕ → ℕ) (x : ℕ) → all_below (λ k. eqb (f k) (g k)) 256 ≡ true → x < 256 → f x ≡ g x
at_byte f g x e h = eqb-true _ _ (all_below-at (λ k. eqb (f k) (g k)) 256 x e h)

-- a digit of a mini-box
abbrev pub digit_of : ℕ → ℕ → ℕ
digit_of digits x = digits / 2 ^ (4 * (x % 16)) % 16

-- the S-box by the digits
abbrev upper_of : ℕ → ℕ
upper_of x = digit_of MINI_E (x / 16)

abbrev lower_of : ℕ → ℕ
lower_of x = digit_of MINI_E_INVERSE x

abbrev middle_of : ℕ → ℕ
middle_of x = digit_of MINI_R (bit_xor (upper_of x) (lower_of x))

abbrev pub sbox_by_digits : ℕ → ℕ
sbox_by_digits x =
    bit_or (digit_of MINI_E (bit_xor (upper_of x) (middle_of x)) * 16 % 2 ^ 8) (digit_of MINI_E_INVERSE (bit_xor (lower_of x) (middle_of x)))

-- at each byte
sbox_test : all_below (λ x. eqb (sbox_by_digits x) (sbox x)) 256 ≡ true
unfolding sbox inverse_below
sbox_test = refl

-- at a byte
pub sbox_at : (x : ℕ) → x < 256 → sbox_by_digits x ≡ sbox x
sbox_at x h = at_byte sbox_by_digits sbox x sbox_test h

-- x times a byte, by the code
abbrev pub doubled : ℕ → ℕ
doubled a = bit_xor (a * 2 % 2 ^ 8) (a / 128 * 0x1D % 2 ^ 8)

-- at each byte
doubled_test : all_below (λ a. eqb (doubled a) (times_x a)) 256 ≡ true
unfolding times_x
doubled_test = refl

-- at a byte
pub doubled_at : (a : ℕ) → a < 256 → doubled a ≡ times_x a
doubled_at a h = at_byte doubled times_x a doubled_test h

-- the products with 1, 2, 4, 5, 8 and 9 by times_x
abbrev four_times : ℕ → ℕ
four_times a = times_x (times_x a)

abbrev eight_times : ℕ → ℕ
eight_times a = times_x (times_x (times_x a))

one_test : all_below (λ a. eqb (product 1 a) a) 256 ≡ true
unfolding product product_by times_power times_x
one_test = refl

two_test : all_below (λ a. eqb (product 2 a) (times_x a)) 256 ≡ true
unfolding product product_by times_power times_x
two_test = refl

four_test : all_below (λ a. eqb (product 4 a) (four_times a)) 256 ≡ true
unfolding product product_by times_power times_x
four_test = refl

five_test : all_below (λ a. eqb (product 5 a) (bit_xor a (four_times a))) 256 ≡ true
unfolding product product_by times_power times_x
five_test = refl

eight_test : all_below (λ a. eqb (product 8 a) (eight_times a)) 256 ≡ true
unfolding product product_by times_power times_x
eight_test = refl

nine_test : all_below (λ a. eqb (product 9 a) (bit_xor a (eight_times a))) 256 ≡ true
unfolding product product_by times_power times_x
nine_test = refl

-- all of them at a byte
pub multiples_at : (a : ℕ) → a < 256
    → a ∷ times_x a ∷ times_x (times_x a) ∷ bit_xor a (times_x (times_x a)) ∷ times_x (times_x (times_x a)) ∷ bit_xor a (times_x (times_x (times_x a))) ∷ []
    ≡ product 1 a ∷ product 2 a ∷ product 4 a ∷ product 5 a ∷ product 8 a ∷ product 9 a ∷ []
multiples_at a h =
    rw (
      at_byte (product 1) (λ k. k) a one_test h,
      at_byte (product 2) times_x a two_test h,
      at_byte (product 4) four_times a four_test h,
      at_byte (product 5) (λ k. bit_xor k (four_times k)) a five_test h,
      at_byte (product 8) eight_times a eight_test h,
      at_byte (product 9) (λ k. bit_xor k (eight_times k)) a nine_test h,
    ) refl
