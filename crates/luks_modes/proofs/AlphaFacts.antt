-- The powers of alpha, one doubling at a time.
use Rattle.std.proofs.Common.{◌≡◌, ℕ, zero, suc, ◌+◌, ◌*◌, ◌/◌, ◌%◌, ◌^◌, ◌<◌, sym, ap, ap₂, ◌∙◌, refl, arith}
use Rattle.std.proofs.Math.Nat.{zero-mul, pow-suc, mul-div-mul_right, zero-add}
use Rattle.std.specs.Int.Bits.{bit_xor, xor_zero_l, xor_zero_r, xor_block}
use Rattle.luks_aes.specs.Polynomial.{poly_mul, poly_rem}
use Rattle.luks_modes.specs.Xts.{alpha_times}
use Rattle.luks_aes.proofs.PolynomialFacts.{xor_shift}

-- x^j times t
power_times : (j t : ℕ) → poly_mul (suc j) (2 ^ j) t ≡ t * 2 ^ j
unfolding poly_mul
power_times zero t = xor_zero_r (1 * t) ∙ omega arith
power_times (suc j) t =
    let odd : 2 ^ suc j % 2 ≡ 0 = rw pow-suc (omega arith) in
    let half : 2 ^ suc j / 2 ≡ 2 ^ j = rw pow-suc (omega arith) in
    let twice : t * 2 * 2 ^ j ≡ t * 2 ^ suc j = rw pow-suc (omega arith) in
    ap₂ (λ (o h : ℕ). bit_xor (o * t) (poly_mul (suc j) h (t * 2))) odd half
    ∙ ap (λ (z : ℕ). bit_xor z (poly_mul (suc j) (2 ^ j) (t * 2))) (zero-mul t)
    ∙ xor_zero_l _
    ∙ power_times j (t * 2)
    ∙ twice

-- the remainder of twice a polynomial is that of twice its remainder
rem_twice : (m d n p : ℕ) → poly_rem m d (suc n) (p * 2) ≡ poly_rem m d 1 (poly_rem m d n p * 2)
unfolding poly_rem
rem_twice m d zero p = refl
rem_twice m d (suc n) p =
    let b = p / 2 ^ (d + n) % 2 in
    let places : d + suc n ≡ suc (d + n) = omega arith in
    let same : p * 2 / 2 ^ (d + suc n) ≡ p / 2 ^ (d + n) =
    rw (places, pow-suc) (mul-div-mul_right p (2 ^ (d + n)) (omega arith)) in
    let twice : b * (m * 2 ^ suc n) ≡ b * (m * 2 ^ n) * 2 = rw pow-suc (omega arith) in
    ap (λ (h : ℕ). poly_rem m d (suc n) (bit_xor (p * 2) (h % 2 * (m * 2 ^ suc n)))) same
    ∙ ap (λ (z : ℕ). poly_rem m d (suc n) (bit_xor (p * 2) z)) twice
    ∙ ap (poly_rem m d (suc n)) (sym (xor_shift 1 p (b * (m * 2 ^ n))))
    ∙ rem_twice m d n (bit_xor p (b * (m * 2 ^ n)))

-- the power 0 of alpha is 1
pub alpha_times-zero : (t : ℕ) → alpha_times 0 t ≡ t
unfolding alpha_times poly_rem
alpha_times-zero t = power_times 0 t ∙ omega arith

-- one power more
pub alpha_times_more : (j t : ℕ) → poly_rem (2 ^ 128 + 0x87) 128 1 (alpha_times j t * 2) ≡ alpha_times (j + 1) t
unfolding alpha_times
alpha_times_more j t =
    let m : ℕ = 2 ^ 128 + 0x87 in
    let next_is : j + 1 ≡ suc j = omega arith in
    let twice : t * 2 ^ suc j ≡ t * 2 ^ j * 2 = rw pow-suc (omega arith) in
    let now : poly_mul (j + 1) (2 ^ j) t ≡ t * 2 ^ j = ap (λ (n : ℕ). poly_mul n (2 ^ j) t) next_is ∙ power_times j t in
    let next : poly_mul (j + 1 + 1) (2 ^ (j + 1)) t ≡ t * 2 ^ j * 2 =
    ap (λ (n : ℕ). poly_mul (n + 1) (2 ^ n) t) next_is ∙ ap (λ (n : ℕ). poly_mul n (2 ^ suc j) t) (omega arith) ∙ power_times (suc j) t ∙ twice in
    ap (λ (p : ℕ). poly_rem m 128 1 (poly_rem m 128 j p * 2)) now
    ∙ sym (rem_twice m 128 j (t * 2 ^ j))
    ∙ ap (poly_rem m 128 (suc j)) (sym next)
    ∙ ap (λ (n : ℕ). poly_rem m 128 n (poly_mul (j + 1 + 1) (2 ^ (j + 1)) t)) (sym next_is)

-- a shift to the left, and 0x87 where a bit falls out
shifted : (h s : ℕ) → h < 2 → s < 2 ^ 128 → bit_xor s (h * 0x87) ≡ bit_xor (h * 2 ^ 128 + s) (h % 2 * (2 ^ 128 + 0x87))
shifted zero s hh hs = ap (λ (z : ℕ). bit_xor z 0) (sym (zero-add s))
shifted (suc zero) s hh hs = sym (xor_block 128 1 1 s 0x87 hs (omega arith) ∙ zero-add (bit_xor s 0x87))
shifted (suc (suc h)) s hh hs = absurd (omega arith)

-- the doubling of the code is a product by alpha
pub doubled_is : (t : ℕ) → t < 2 ^ 128 → bit_xor (t * 2 % 2 ^ 128) (t / 2 ^ 127 * 0x87) ≡ poly_rem (2 ^ 128 + 0x87) 128 1 (t * 2)
unfolding poly_rem
doubled_is t ht =
    let top : t * 2 / 2 ^ 128 ≡ t / 2 ^ 127 = omega arith in
    let below : t / 2 ^ 127 < 2 = omega arith in
    let split : t / 2 ^ 127 * 2 ^ 128 + t * 2 % 2 ^ 128 ≡ t * 2 = omega arith in
    shifted (t / 2 ^ 127) (t * 2 % 2 ^ 128) below (omega arith)
    ∙ ap₂ (λ (q h : ℕ). bit_xor q (h % 2 * (2 ^ 128 + 0x87))) split (sym top)
