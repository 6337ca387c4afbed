-- Facts about the exclusive or of two lists.
use Rattle.std.proofs.Common.{◌≡◌, ℕ, suc, ◌+◌, ◌<◌, List, [], ◌∷◌, ◌++◌, length, get_or, take, drop, refl, ap, sym, ◌∙◌, arith, add-one}
use Rattle.std.specs.Prelude.{bit_xor}
use Rattle.std.specs.Int.Bits.{xor_assoc, xor_self, xor_zero_l}
use Rattle.std.proofs.Math.Seq.{drop-cons}
use Rattle.std.proofs.Math.ListN.{set}
use Rattle.std.proofs.lemmas.List.{take_more, take_more_set, drop-set-lt, length-take-le}
use Rattle.luks_kdf.specs.Xor.{xor_bytes}

pub length-xor_bytes : (xs ys : List ℕ) → length xs ≡ length ys → length (xor_bytes xs ys) ≡ length xs
unfolding xor_bytes
length-xor_bytes [] ys same = refl
length-xor_bytes (x ∷ xs) [] same = sym same
length-xor_bytes (x ∷ xs) (y ∷ ys) same =
    let rest = length-xor_bytes xs ys (omega (arith, same)) in omega (arith, rest)

-- one place more
xor_bytes-append : (xs ys : List ℕ) (x y : ℕ) → length xs ≡ length ys
    → xor_bytes (xs ++ x ∷ []) (ys ++ y ∷ []) ≡ xor_bytes xs ys ++ bit_xor x y ∷ []
unfolding xor_bytes
xor_bytes-append [] [] x y same = refl
xor_bytes-append [] (b ∷ ys) x y same = absurd (omega (arith, same))
xor_bytes-append (a ∷ xs) [] x y same = absurd (omega (arith, same))
xor_bytes-append (a ∷ xs) (b ∷ ys) x y same =
    ap (λ l. bit_xor a b ∷ l) (xor_bytes-append xs ys x y (omega (arith, same)))

-- a mask that is applied twice is gone
pub xor_bytes-twice : (xs ys : List ℕ) → length xs ≡ length ys → xor_bytes xs (xor_bytes xs ys) ≡ ys
unfolding xor_bytes
xor_bytes-twice [] [] same = refl
xor_bytes-twice [] (b ∷ ys) same = absurd (omega (arith, same))
xor_bytes-twice (a ∷ xs) [] same = absurd (omega (arith, same))
xor_bytes-twice (a ∷ xs) (b ∷ ys) same =
    let head : bit_xor a (bit_xor a b) ≡ b =
    sym (xor_assoc a a b) ∙ ap (λ n. bit_xor n b) (xor_self a) ∙ xor_zero_l b in
    let rest = xor_bytes-twice xs ys (omega (arith, same)) in
    rw (head, rest) refl

-- the loop that xors a mask into a list, one place further
pub xor_step : (old now mask : List ℕ) (i : ℕ) → length old ≡ length mask → length now ≡ length old
    → i < length old → take i now ≡ xor_bytes (take i old) (take i mask) → drop i now ≡ drop i old
    → let byte = bit_xor (get_or now i 0) (get_or mask i 0) in
    (take (i + 1) (set now i byte) ≡ xor_bytes (take (i + 1) old) (take (i + 1) mask))
    × (drop (i + 1) (set now i byte) ≡ drop (i + 1) old)
xor_step old now mask i same long below front back =
    let in_now : i < length now = omega arith in
    let in_mask : i < length mask = omega arith in
    let fronts : length (take i old) ≡ length (take i mask) =
    length-take-le i old (omega arith) ∙ sym (length-take-le i mask (omega arith)) in
    let split_now = drop-cons now i 0 in_now in
    let split_old = drop-cons old i 0 below in
    let head : get_or now i 0 ≡ get_or old i 0 = cc in
    let tail : drop (suc i) now ≡ drop (suc i) old = cc in (
      rw (
        take_more_set now i _ in_now,
        take_more old i 0 below,
        take_more mask i 0 in_mask,
        xor_bytes-append _ _ _ _ fronts,
        front,
        head,
      ) refl,
      rw (drop-set-lt (i + 1) now i _ (omega arith), add-one) tail,
    )
