-- The mask of a block: the bytes of its tweak, lowest first.
use Rattle.std.proofs.Common.{◌≡◌, ℕ, zero, suc, ◌+◌, ◌*◌, ◌/◌, ◌%◌, ◌^◌, List, [], ◌∷◌, ap, ap₂, ◌∙◌, sym, refl, arith}
use Rattle.std.proofs.Math.Nat.{div-div-eq-div-mul, pow-suc}
use Rattle.std.specs.Int.{w128, to_le_bytes, bytes_low_first, byte_at}
use Rattle.std.specs.Simd.Lanes.{number_l, digits_l}

-- a byte of a number
digit_is : (x i : ℕ) → x / 256 ^ i % 256 ≡ byte_at i x
digit_is x zero = omega arith
digit_is x (suc i) = refl

-- n bytes of a number, from byte i on
digits_are : (x i n : ℕ) → digits_l 256 n (x / 256 ^ i) ≡ bytes_low_first i n x
digits_are x i zero = refl
digits_are x i (suc n) =
    ap₂ (λ (b : ℕ) (bs : List ℕ). b ∷ bs) (digit_is x i)
    (ap (digits_l 256 n) (div-div-eq-div-mul x (256 ^ i) 256 ∙ ap (λ (k : ℕ). x / k) (sym (pow-suc 256 i))) ∙ digits_are x (suc i) n)

-- the bytes of both halves
pub mask_is : (t low high : ℕ) → low ≡ t % 2 ^ 64 → high ≡ t / 2 ^ 64 → digits_l 256 16 (number_l (2 ^ 64) (low ∷ high ∷ [])) ≡ to_le_bytes w128 t
mask_is t low high l h =
    let whole : low + 2 ^ 64 * (high + 2 ^ 64 * 0) ≡ t / 256 ^ 0 = omega (arith, l, h) in
    ap (digits_l 256 16) whole ∙ digits_are t 0 16
