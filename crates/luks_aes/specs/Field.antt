-- The field of 256 elements of FIPS 197, section 4, and the S-box over it, section 5.1.1.
use Rattle.std.specs.Prelude.{ℕ, zero, suc, ◌+◌, ◌*◌, ◌/◌, ◌%◌, ◌^◌, ◌==◌, if◌then◌else◌}
use Rattle.luks_aes.specs.Polynomial.{poly_mul, poly_rem}

-- the product: that of the polynomials, modulo x^8 + x^4 + x^3 + x + 1 (4.2)
unfoldable pub gmul : ℕ → ℕ → ℕ
gmul a b = poly_rem 0x11B 8 7 (poly_mul 8 a b)

-- x, which is 02, to the power n
unfoldable pub gpower : ℕ → ℕ
gpower zero = 1
gpower (suc n) = gmul 2 (gpower n)

-- the element below n whose product with b is 1; 0 where there is none
unfoldable pub inverse_below : ℕ → ℕ → ℕ
inverse_below zero b = 0
inverse_below (suc n) b = if gmul n b == 1 then n else inverse_below n b

-- the inverse, and 0 for 0 (4.2)
unfoldable pub inverse : ℕ → ℕ
inverse b = inverse_below 256 b

-- the number whose bits below n are f 0, f 1, ..
unfoldable pub number_of_bits : (ℕ → ℕ) → ℕ → ℕ
number_of_bits f zero = 0
number_of_bits f (suc n) = number_of_bits f n + f n * 2 ^ n

-- bit i of b, the places taken modulo 8
unfoldable pub bit : ℕ → ℕ → ℕ
bit b i = b / 2 ^ (i % 8) % 2

-- the affine map of the S-box (5.1.1)
unfoldable pub affine : ℕ → ℕ
affine b =
    let sum = λ (i : ℕ). bit b i + bit b (i + 4) + bit b (i + 5) + bit b (i + 6) + bit b (i + 7) in
    number_of_bits (λ i. (sum i + bit 0x63 i) % 2) 8

-- its inverse (5.3.2)
unfoldable pub inverse_affine : ℕ → ℕ
inverse_affine b =
    let sum = λ (i : ℕ). bit b (i + 2) + bit b (i + 5) + bit b (i + 7) in
    number_of_bits (λ i. (sum i + bit 0x05 i) % 2) 8

-- the S-box (5.1.1)
unfoldable pub sbox : ℕ → ℕ
sbox b = affine (inverse b)

-- the inverse of the S-box (5.3.2)
unfoldable pub inverse_sbox : ℕ → ℕ
inverse_sbox b = inverse (inverse_affine b)
