-- Products in the field of 256 elements.
use Rattle.std.proofs.Common.{◌≡◌, ℕ, ◌<◌, ◌∙◌, ap, lit<}
use Rattle.std.specs.Int.Bits.{bit_xor}
use Rattle.luks_aes.specs.Polynomial.{poly_mul, poly_rem}
use Rattle.luks_aes.specs.Field.{gmul}
use Rattle.luks_aes.proofs.PolynomialFacts.{poly_mul-xor, poly_rem-xor, poly_mul-lt, poly_rem-lt}

-- the product by a sum
pub gmul-xor : (a x y : ℕ) → gmul a (bit_xor x y) ≡ bit_xor (gmul a x) (gmul a y)
unfolding gmul
gmul-xor a x y = ap (poly_rem 0x11B 8 7) (poly_mul-xor 8 a x y) ∙ poly_rem-xor 0x11B 8 7 (poly_mul 8 a x) (poly_mul 8 a y)

-- a product is a byte
pub gmul-lt : (a b : ℕ) → b < 256 → gmul a b < 256
unfolding gmul
gmul-lt a b h = poly_rem-lt 0x1B 8 7 (poly_mul 8 a b) (lit< tt) (poly_mul-lt 7 a b 8 h)
