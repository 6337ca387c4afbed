-- Lists of bytes of one length differ in no bit exactly where they are equal.
use Rattle.std.proofs.Common.{◌≡◌, ◌≢◌, ℕ, List, [], ◌∷◌, length, refl, ap, sym, ◌∙◌, arith, true, false, bytes_eq}
use Rattle.std.specs.Prelude.{bit_xor, count_ones, sum_by}
use Rattle.std.specs.Int.Bits.{xor_assoc, xor_self, xor_zero_l}
use Rattle.std.proofs.lemmas.List.Sums.{sum_by-cons}
use Rattle.std.proofs.lemmas.Bool.{false_from_ne_true}
use Rattle.std.proofs.lemmas.Nat.{ones_le_self, zero_from_ones, xor_comm}
use Rattle.std.proofs.lemmas.Slice.Eq.{bytes_eq-Decides}
use Rattle.luks_kdf.specs.Xor.{xor_bytes}
use Rattle.luks_slot.specs.Distance.{differing_bits}

-- bytes whose exclusive or is 0 are equal
xor_equal : (x y : ℕ) → bit_xor x y ≡ 0 → x ≡ y
xor_equal x y none =
    xor_comm 0 x ∙ ap (bit_xor x) (sym none) ∙ sym (xor_assoc x x y) ∙ ap (λ n. bit_xor n y) (xor_self x) ∙ xor_zero_l y

-- lists that differ in no bit are equal
no_bits : (xs ys : List ℕ) → length xs ≡ length ys → differing_bits xs ys ≡ 0 → xs ≡ ys
unfolding differing_bits xor_bytes
no_bits [] [] same none = refl
no_bits [] (y ∷ ys) same none = absurd (omega (arith, same))
no_bits (x ∷ xs) [] same none = absurd (omega (arith, same))
no_bits (x ∷ xs) (y ∷ ys) same none =
    let both = sum_by-cons count_ones (bit_xor x y) (xor_bytes xs ys) in
    let first : count_ones (bit_xor x y) ≡ 0 = omega (arith, both, none) in
    let rest : sum_by count_ones (xor_bytes xs ys) ≡ 0 = omega (arith, both, none) in
    rw (xor_equal x y (zero_from_ones (bit_xor x y) first), no_bits xs ys (omega (arith, same)) rest) refl

-- a list differs from itself in no bit
same_bits : (xs : List ℕ) → differing_bits xs xs ≡ 0
unfolding differing_bits xor_bytes
same_bits [] = refl
same_bits (x ∷ xs) =
    let both = sum_by-cons count_ones (bit_xor x x) (xor_bytes xs xs) in
    omega (arith, both, ones_le_self (bit_xor x x), xor_self x, same_bits xs)

-- lists that differ in no bit are told to be equal
pub met_bits : (xs ys : List ℕ) → length xs ≡ length ys → differing_bits xs ys ≡ 0 → bytes_eq xs ys ≡ true
met_bits xs ys same none = (bytes_eq-Decides xs ys).1 (no_bits xs ys same none)

-- and no others
pub unmet_bits : (xs ys : List ℕ) → differing_bits xs ys ≢ 0 → bytes_eq xs ys ≡ false
unmet_bits xs ys some = false_from_ne_true (bytes_eq xs ys) (λ met. some (ap (differing_bits xs) (sym ((bytes_eq-Decides xs ys).0 met)) ∙ same_bits xs))
