-- Polynomials over two elements: products and remainders are linear, and a remainder is small.
use Rattle.std.proofs.Common.{◌≡◌, ℕ, zero, suc, ◌+◌, ◌*◌, ◌/◌, ◌%◌, ◌^◌, ◌<◌, ◌≤◌, refl, sym, ◌∙◌, ap, arith, add-zero}
use Rattle.std.proofs.Math.Nat.{mod-lt, zero-mul, one-mul, mul-lt-mul_of_pos_right, div-add-mod', div-lt_iff_lt-mul, zero-add, pow-suc}
use Rattle.std.proofs.Math.Pow.{pow_pos, pow_mono}
use Rattle.std.proofs.lemmas.Nat.{pow-add}
use Rattle.std.specs.Int.Bits.{bit_xor, xor_block, xor_assoc, xor_comm, xor_self, xor_zero_l, xor_zero_r, xor_lt}
use Rattle.std.proofs.lemmas.Nat.Bits.{bit_at_xor}
use Rattle.luks_aes.specs.Polynomial.{poly_mul, poly_rem}

-- a sum of four, the middle two exchanged
pub interchange : (a b c d : ℕ) → bit_xor (bit_xor a b) (bit_xor c d) ≡ bit_xor (bit_xor a c) (bit_xor b d)
interchange a b c d =
    xor_assoc a b (bit_xor c d)
    ∙ ap (bit_xor a) (sym (xor_assoc b c d) ∙ ap (λ (x : ℕ). bit_xor x d) (xor_comm b c) ∙ xor_assoc c b d)
    ∙ sym (xor_assoc a c (bit_xor b d))

-- x, added twice, is gone
pub xor_twice : (a x : ℕ) → bit_xor (bit_xor a x) x ≡ a
xor_twice a x = xor_assoc a x x ∙ ap (bit_xor a) (xor_self x) ∙ xor_zero_r a

-- a sum, times a power of x
pub xor_shift : (k x y : ℕ) → bit_xor x y * 2 ^ k ≡ bit_xor (x * 2 ^ k) (y * 2 ^ k)
xor_shift k x y =
    let b = xor_block k x y 0 0 (pow_pos k) (pow_pos k) in
    sym (add-zero (bit_xor x y * 2 ^ k)) ∙ sym b ∙ ap (bit_xor (x * 2 ^ k + 0)) (add-zero (y * 2 ^ k)) ∙ ap (λ (z : ℕ). bit_xor z (y * 2 ^ k)) (add-zero (x * 2 ^ k))

-- a coefficient times a sum
bit_times : (c x y : ℕ) → c < 2 → c * bit_xor x y ≡ bit_xor (c * x) (c * y)
bit_times zero x y h = rw (zero-mul, zero-mul, zero-mul) refl
bit_times (suc zero) x y h = rw (one-mul, one-mul, one-mul) refl
bit_times (suc (suc c)) x y h = absurd (omega arith)

-- a sum of coefficients times a polynomial
sum_times : (p q m : ℕ) → p < 2 → q < 2 → (p + q) % 2 * m ≡ bit_xor (p * m) (q * m)
sum_times zero zero m h k = rw (zero-mul) refl
sum_times zero (suc zero) m h k = rw (zero-mul, one-mul) (sym (xor_zero_l m))
sum_times (suc zero) zero m h k = rw (zero-mul, one-mul) (sym (xor_zero_r m))
sum_times (suc zero) (suc zero) m h k = rw (zero-mul, one-mul) (sym (xor_self m))
sum_times (suc (suc p)) q m h k = absurd (omega arith)
sum_times p (suc (suc q)) m h k = absurd (omega arith)

-- the product by a sum
pub poly_mul-xor : (n a x y : ℕ) → poly_mul n a (bit_xor x y) ≡ bit_xor (poly_mul n a x) (poly_mul n a y)
unfolding poly_mul
poly_mul-xor zero a x y = refl
poly_mul-xor (suc n) a x y =
    ap (λ (z : ℕ). bit_xor (a % 2 * bit_xor x y) (poly_mul n (a / 2) z)) (xor_shift 1 x y)
    ∙ ap (bit_xor (a % 2 * bit_xor x y)) (poly_mul-xor n (a / 2) (x * 2) (y * 2))
    ∙ ap (λ (z : ℕ). bit_xor z (bit_xor (poly_mul n (a / 2) (x * 2)) (poly_mul n (a / 2) (y * 2)))) (bit_times (a % 2) x y (mod-lt a (omega arith)))
    ∙ interchange (a % 2 * x) (a % 2 * y) (poly_mul n (a / 2) (x * 2)) (poly_mul n (a / 2) (y * 2))

-- the remainder of a sum
pub poly_rem-xor : (m d n x y : ℕ) → poly_rem m d n (bit_xor x y) ≡ bit_xor (poly_rem m d n x) (poly_rem m d n y)
unfolding poly_rem
poly_rem-xor m d zero x y = refl
poly_rem-xor m d (suc n) x y =
    let taken : ℕ → ℕ = λ z. z / 2 ^ (d + n) % 2 * (m * 2 ^ n) in
    let both : taken (bit_xor x y) ≡ bit_xor (taken x) (taken y) =
    ap (λ (b : ℕ). b * (m * 2 ^ n)) (bit_at_xor x y (d + n))
    ∙ sum_times (x / 2 ^ (d + n) % 2) (y / 2 ^ (d + n) % 2) (m * 2 ^ n) (mod-lt (x / 2 ^ (d + n)) (omega arith)) (mod-lt (y / 2 ^ (d + n)) (omega arith)) in
    ap (λ (z : ℕ). poly_rem m d n (bit_xor (bit_xor x y) z)) both
    ∙ ap (poly_rem m d n) (interchange x y (taken x) (taken y))
    ∙ poly_rem-xor m d n (bit_xor x (taken x)) (bit_xor y (taken y))

-- b, of degree below k, times a coefficient
bit_times-lt : (c b k : ℕ) → c < 2 → b < 2 ^ k → c * b < 2 ^ k
bit_times-lt zero b k h hb = rw (zero-mul) (pow_pos k)
bit_times-lt (suc zero) b k h hb = rw (one-mul) hb
bit_times-lt (suc (suc c)) b k h hb = absurd (omega arith)

-- b, of degree below k, times a, of degree below suc n
pub poly_mul-lt : (n a b k : ℕ) → b < 2 ^ k → poly_mul (suc n) a b < 2 ^ (k + n)
unfolding poly_mul
poly_mul-lt zero a b k h =
    rw (add-zero, xor_zero_r) (bit_times-lt (a % 2) b k (mod-lt a (omega arith)) h)
poly_mul-lt (suc n) a b k h =
    let twice : b * 2 < 2 ^ (k + 1) = rw pow-add (omega arith) in
    let rest : poly_mul (suc n) (a / 2) (b * 2) < 2 ^ ((k + 1) + n) = poly_mul-lt n (a / 2) (b * 2) (k + 1) twice in
    let places : (k + 1) + n ≡ k + suc n = omega arith in
    let wide : 2 ^ k ≤ 2 ^ (k + suc n) = pow_mono (omega arith) in
    let first : a % 2 * b < 2 ^ k = bit_times-lt (a % 2) b k (mod-lt a (omega arith)) h in
    xor_lt (k + suc n) (a % 2 * b) (poly_mul (suc n) (a / 2) (b * 2)) (omega arith) (rw places at rest)

-- two polynomials with the same coefficient at x^k have a sum of degree below k
top_gone : (k h a r : ℕ) → h < 2 → a < 2 ^ k → r < 2 ^ k → bit_xor (h * 2 ^ k + a) (h % 2 * (2 ^ k + r)) < 2 ^ k
top_gone k zero a r hh ha hr = rw (zero-mul, zero-mul, xor_zero_r, zero-add) ha
top_gone k (suc zero) a r hh ha hr =
    let none : 0 * 2 ^ k + bit_xor a r ≡ bit_xor a r = omega arith in
    let same : bit_xor (1 * 2 ^ k + a) (1 * (2 ^ k + r)) ≡ bit_xor a r =
    ap (bit_xor (1 * 2 ^ k + a)) (omega arith) ∙ xor_block k 1 1 a r ha hr ∙ none in
    rw same (xor_lt k a r ha hr)
top_gone k (suc (suc h)) a r hh ha hr = absurd (omega arith)

-- the step of a remainder takes away the highest term
step-lt : (l d n p : ℕ) → l < 2 ^ d → p < 2 ^ (d + suc n) → bit_xor p (p / 2 ^ (d + n) % 2 * ((2 ^ d + l) * 2 ^ n)) < 2 ^ (d + n)
step-lt l d n p hl hp =
    let k : ℕ = d + n in
    let places : d + suc n ≡ suc (d + n) = omega arith in
    let below : p < 2 ^ suc (d + n) = rw places at hp in
    let twice : p < 2 ^ k * 2 = rw pow-suc at below in
    let top : p / 2 ^ k < 2 = (div-lt_iff_lt-mul (pow_pos k)).1 (omega arith) in
    let low : l * 2 ^ n < 2 ^ d * 2 ^ n = mul-lt-mul_of_pos_right hl (pow_pos n) in
    let split : p / 2 ^ k * 2 ^ k + p % 2 ^ k ≡ p = div-add-mod' p (2 ^ k) in
    let multiple : (2 ^ d + l) * 2 ^ n ≡ 2 ^ k + l * 2 ^ n = rw pow-add (omega arith) in
    let small : l * 2 ^ n < 2 ^ k = rw pow-add low in
    let gone = top_gone k (p / 2 ^ k) (p % 2 ^ k) (l * 2 ^ n) top (mod-lt p (pow_pos k)) small in
    rw multiple (rw split at gone)

-- a remainder is of lower degree
pub poly_rem-lt : (l d n p : ℕ) → l < 2 ^ d → p < 2 ^ (d + n) → poly_rem (2 ^ d + l) d n p < 2 ^ d
unfolding poly_rem
poly_rem-lt l d zero p hl hp = rw add-zero at hp
poly_rem-lt l d (suc n) p hl hp = poly_rem-lt l d n _ hl (step-lt l d n p hl hp)
