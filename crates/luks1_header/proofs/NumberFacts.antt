-- The bytes of a number are the only ones that say it.
use Rattle.std.proofs.Common.{◌≡◌, ℕ, zero, suc, ◌+◌, ◌*◌, ◌^◌, ◌<◌, ◌≤◌, List, [], ◌∷◌, ◌++◌, length, get_or, slice_index, refl, sym, ap, ◌∙◌, arith, inl, inr}
use Rattle.std.proofs.Math.Nat.{add-mul, mul-le-mul_right}
use Rattle.std.proofs.lemmas.Bool.{cases_order, cases_lt}
use Rattle.std.proofs.lemmas.List.{get_or_past}
use Rattle.byteorder.specs.Endian.{big_from}
use Rattle.byteorder.specs.Numbers.{big_from-cons, big_from-lt}
use Rattle.luks_area.specs.Ranges.{part}
use Rattle.luks_area.proofs.RangeFacts.{get_or-part, length-part_inside, part-add}
use Rattle.luks1_header.specs.Bytes.{number_at}
use Rattle.luks1_header.specs.Written.{AreBytes}

-- a number's high digit, where the low ones don't reach the place p
below_next : (x y p a b : ℕ) → x < y → a < p → x * p + a < y * p + b
below_next x y p a b less low =
    let up : (x + 1) * p ≤ y * p = mul-le-mul_right p (omega arith) in
    let expand : (x + 1) * p ≡ x * p + 1 * p = add-mul x 1 p in
    omega (arith, up, expand, low)

high_agree : (x y p a b : ℕ) → a < p → b < p → x * p + a ≡ y * p + b → x ≡ y
high_agree x y p a b low other same = elim (cases_order x y) [
  | inl equal ↦ equal
  | inr differ ↦ elim differ [
    | inl under ↦ (let less : x * p + a < y * p + b = below_next x y p a b under low in absurd (omega (arith, less, same)))
    | inr over ↦ (let less : y * p + b < x * p + a = below_next y x p b a over other in absurd (omega (arith, less, same)))
  ]
]

-- two lists of bytes that say one number are one
big_agree : (n : ℕ) (xs ys : List ℕ) → length xs ≡ n → length ys ≡ n → ((k : ℕ) → slice_index xs k < 256) → ((k : ℕ) → slice_index ys k < 256)
    → big_from 0 n xs ≡ big_from 0 n ys → xs ≡ ys
big_agree zero [] [] e f small also same = refl
big_agree zero [] (y ∷ ys) e f small also same = absurd (omega (arith, f))
big_agree zero (x ∷ xs) ys e f small also same = absurd (omega (arith, e))
big_agree (suc n) [] ys e f small also same = absurd (omega (arith, e))
big_agree (suc n) (x ∷ xs) [] e f small also same = absurd (omega (arith, f))
big_agree (suc n) (x ∷ xs) (y ∷ ys) e f small also same =
    let p : ℕ = 256 ^ n in
    let low : big_from 0 n xs < 256 ^ n = big_from-lt 0 n xs (λ k. small (suc k)) in
    let other : big_from 0 n ys < 256 ^ n = big_from-lt 0 n ys (λ k. also (suc k)) in
    let moved : big_from 1 n (x ∷ xs) ≡ big_from 0 n xs = big_from-cons 0 n x xs in
    let moves : big_from 1 n (y ∷ ys) ≡ big_from 0 n ys = big_from-cons 0 n y ys in
    let equal : x * 256 ^ n + big_from 0 n xs ≡ y * 256 ^ n + big_from 0 n ys =
    ap (λ r. x * 256 ^ n + r) (sym moved) ∙ same ∙ ap (λ r. y * 256 ^ n + r) moves in
    let first : x ≡ y = high_agree x y (256 ^ n) (big_from 0 n xs) (big_from 0 n ys) low other equal in
    let heads : x * 256 ^ n ≡ y * 256 ^ n = ap (λ z. z * 256 ^ n) first in
    let rest : big_from 0 n xs ≡ big_from 0 n ys = omega (arith, equal, heads) in
    let later : xs ≡ ys = big_agree n xs ys (omega (arith, e)) (omega (arith, f)) (λ k. small (suc k)) (λ k. also (suc k)) rest in
    cc

-- the bytes of a part
part_small : (v : List ℕ) (at l : ℕ) → at + l ≤ length v → AreBytes v at (at + l) → (k : ℕ) → slice_index (part v at l) k < 256
part_small v at l inside bytes k = elim (cases_lt k l) [
  | inl under ↦ (let here : get_or (part v at l) k 0 ≡ get_or v (at + k) 0 = get_or-part v at l k under in rw here (bytes (at + k) (omega arith) (omega (arith, under))))
  | inr over ↦ (let long : length (part v at l) ≡ l = length-part_inside v at l inside in rw (get_or_past (part v at l) k 0 (omega (arith, long, over))) (omega arith))
]

-- where two volumes say one number in bytes, they have the same bytes there
pub number_agrees : (v w : List ℕ) (at l : ℕ) → at + l ≤ length v → at + l ≤ length w → AreBytes v at (at + l) → AreBytes w at (at + l)
    → number_at v at l ≡ number_at w at l → part v at l ≡ part w at l
number_agrees v w at l here there small also same =
    big_agree l (part v at l) (part w at l) (length-part_inside v at l here) (length-part_inside w at l there)
    (part_small v at l here small) (part_small w at l there also) same

-- bytes of a wider range are those of a narrower one
pub bytes_within : (v : List ℕ) (from end o p : ℕ) → from ≤ o → p ≤ end → AreBytes v from end → AreBytes v o p
bytes_within v from end o p low high bytes = λ k past before. bytes k (omega (arith, low, past)) (omega (arith, high, before))

-- parts that are the same in two volumes, joined
pub parts_join : (v w : List ℕ) (o m n : ℕ) → part v o m ≡ part w o m → part v (o + m) n ≡ part w (o + m) n → part v o (m + n) ≡ part w o (m + n)
parts_join v w o m n first second =
    part-add v o m n ∙ ap (λ front. front ++ part v (o + m) n) first ∙ ap (λ back. part w o m ++ back) second ∙ sym (part-add w o m n)
