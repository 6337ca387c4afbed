-- Planes whose bytes change places, and sums of planes, as bytes and as blocks.
use Rattle.std.proofs.Common.{◌≡◌, ℕ, zero, suc, ◌<◌, ◌+◌, ◌*◌, ◌/◌, ◌%◌, ◌^◌, ◌∙◌, sym, ap, ap₂, Bool, true, ◌&&◌, eqb, ltb, List, [], ◌∷◌, ◌++◌, length, map, slice_index, arith, refl}
use Rattle.std.specs.Prelude.{slice_index_or}
use Rattle.std.specs.List.{range_with_len}
use Rattle.std.specs.Int.Bits.{bit_xor, xor_block, xor_assoc, xor_comm, xor_zero_l, xor_zero_r}
use Rattle.std.proofs.Math.Nat.{mod-lt, pow-suc}
use Rattle.std.proofs.lemmas.Bool.{and_parts, eqb-true, ltb-true}
use Rattle.std.proofs.lemmas.List.{get_or-map, get_or_append_left}
use Rattle.std.proofs.lemmas.Nat.Bits.{bit_at_xor, same_from_bits}
use Rattle.luks_aes.specs.Polynomial.{poly_mul, poly_rem}
use Rattle.luks_aes.specs.Field.{gmul, number_of_bits, sbox, inverse_sbox}
use Rattle.luks_aes.specs.Aes.{byte_in, state_by, add_round_key, sub_bytes, inverse_sub_bytes, circulant, entry_of_product, mix_matrix, mix_columns, inverse_mix_matrix, inverse_mix_columns}
use Rattle.luks_aes.proofs.TableFacts.{all_below, all_below-at}
use Rattle.luks_aes.proofs.FieldFacts.{gmul-xor}
use Rattle.luks_aes.proofs.StepFacts.{quad, through, product_of_products}
use Rattle.luks_aes.specs.Planes.{IsPlane, bit_of, byte_of, block_of, rotated_place}
use Rattle.luks_aes.specs.Gates.{Gate, xor_of, outcome}
use Rattle.luks_aes.proofs.CircuitFacts.{number-lt, computes}
use Rattle.luks_aes.proofs.PackingFacts.{same_number}

-- ---- places

-- the places of a swizzle are those of a function
abbrev pub takes : List ℕ → (ℕ → ℕ) → Bool
takes ks place = all_below (λ k. eqb (slice_index ks k) (place k) && ltb (place k) 16) 16

module _ (ks : List ℕ) (place : ℕ → ℕ) (long : length ks ≡ 16) (test : takes ks place ≡ true) (x : List ℕ) (p : IsPlane x) where
  -- the vector whose bytes come from the places ks
  abbrev swizzled : List ℕ
  swizzled = map (λ j. slice_index_or (x ++ x) j 0) ks

  -- each place is one of 16
  place-lt : (k : ℕ) → k < 16 → place k < 16
  place-lt k h = ltb-true _ _ (and_parts _ _ (all_below-at (λ k. eqb (slice_index ks k) (place k) && ltb (place k) 16) 16 k test h)).1

  -- a byte of it
  pub moved : (k : ℕ) → k < 16 → slice_index swizzled k ≡ slice_index x (place k)
  moved k h =
      let same = eqb-true _ _ (and_parts _ _ (all_below-at (λ k. eqb (slice_index ks k) (place k) && ltb (place k) 16) 16 k test h)).0 in
      get_or-map (λ j. slice_index_or (x ++ x) j 0) ks k 0 0 (omega (arith, long))
      ∙ ap (λ (j : ℕ). slice_index_or (x ++ x) j 0) same
      ∙ get_or_append_left x x 0 (place k) (omega (arith, p.long, place-lt k h))

  -- and that it is one
  pub moved-byte : (k : ℕ) → k < 16 → slice_index swizzled k < 256
  moved-byte k h = rw (moved k h) (p.bytes (place k) (place-lt k h))

-- bytes that change places in each plane change places in each block
pub moved_bytes : (x y : List (List ℕ)) (k j : ℕ)
    → ((i : ℕ) → i < 8 → slice_index (slice_index_or y i []) k ≡ slice_index (slice_index_or x i []) j) → (b : ℕ) → byte_of k b y ≡ byte_of j b x
moved_bytes x y k j h b =
    same_number (λ i. bit_of k b (slice_index_or y i [])) (λ i. bit_of j b (slice_index_or x i [])) (λ i low. ap (λ (v : ℕ). v / 2 ^ b % 2) (h i low))

-- lists with equal heads and equal tails
pub cons : {x y : ℕ} {xs ys : List ℕ} → x ≡ y → xs ≡ ys → x ∷ xs ≡ y ∷ ys
cons h i = ap₂ (λ (y : ℕ) (ys : List ℕ). y ∷ ys) h i

-- equal bytes, equal blocks
pub same_block : (f g : ℕ → ℕ) → ((k : ℕ) → k < 16 → f k ≡ g k) → map f (range_with_len 0 16) ≡ map g (range_with_len 0 16)
same_block f g h =
    cons (h 0 (omega arith)) (cons (h 1 (omega arith)) (cons (h 2 (omega arith)) (cons (h 3 (omega arith))
    (cons (h 4 (omega arith)) (cons (h 5 (omega arith)) (cons (h 6 (omega arith)) (cons (h 7 (omega arith))
    (cons (h 8 (omega arith)) (cons (h 9 (omega arith)) (cons (h 10 (omega arith)) (cons (h 11 (omega arith))
    (cons (h 12 (omega arith)) (cons (h 13 (omega arith)) (cons (h 14 (omega arith)) (cons (h 15 (omega arith)) refl)))))))))))))))

-- a bit is 0 or 1
pub bit-lt : (k b : ℕ) (x : List ℕ) → bit_of k b x < 2
bit-lt k b x = mod-lt (slice_index x k / 2 ^ b) (omega arith)

-- a byte of a block is one
pub byte-lt : (k b : ℕ) (x : List (List ℕ)) → byte_of k b x < 256
byte-lt k b x = number-lt (λ i. bit_of k b (slice_index_or x i [])) (λ i. bit-lt k b (slice_index_or x i []))

-- ---- sums

-- a number of n bits and a bit above it
one_more : (d n p : ℕ) → d < 2 → n < p → n + d * p < p * 2
one_more zero n p h low = omega arith
one_more (suc zero) n p h low = omega arith
one_more (suc (suc d)) n p h low = absurd (omega arith)

-- the number of n bits
below_pow : (f : ℕ → ℕ) → ((i : ℕ) → f i < 2) → (n : ℕ) → number_of_bits f n < 2 ^ n
unfolding number_of_bits
below_pow f h zero = omega arith
below_pow f h (suc n) = rw (pow-suc 2 n) (one_more (f n) (number_of_bits f n) (2 ^ n) (h n) (below_pow f h n))

-- a sum the other way round
swapped : (a b : ℕ) → a + b ≡ b + a
swapped a b = omega arith

-- the number of sums of bits is the sum of the numbers
pub number-xor : (f g : ℕ → ℕ) → ((i : ℕ) → f i < 2) → ((i : ℕ) → g i < 2) → (n : ℕ)
    → number_of_bits (λ i. bit_xor (f i) (g i)) n ≡ bit_xor (number_of_bits f n) (number_of_bits g n)
unfolding number_of_bits
number-xor f g hf hg zero = sym (xor_zero_l 0)
number-xor f g hf hg (suc n) =
    let p : ℕ = number_of_bits f n in
    let q : ℕ = number_of_bits g n in
    swapped (number_of_bits (λ i. bit_xor (f i) (g i)) n) (bit_xor (f n) (g n) * 2 ^ n)
    ∙ ap (λ (v : ℕ). bit_xor (f n) (g n) * 2 ^ n + v) (number-xor f g hf hg n)
    ∙ sym (xor_block n (f n) (g n) p q (below_pow f hf n) (below_pow g hg n))
    ∙ ap₂ bit_xor (swapped (f n * 2 ^ n) p) (swapped (g n * 2 ^ n) q)

-- a byte of planes that are sums
pub sum_byte : (x y z : List (List ℕ)) (k b : ℕ)
    → ((i : ℕ) → i < 8 → bit_of k b (slice_index_or z i []) ≡ bit_xor (bit_of k b (slice_index_or x i [])) (bit_of k b (slice_index_or y i [])))
    → byte_of k b z ≡ bit_xor (byte_of k b x) (byte_of k b y)
sum_byte x y z k b h =
    let f : ℕ → ℕ = λ i. bit_of k b (slice_index_or x i []) in
    let g : ℕ → ℕ = λ i. bit_of k b (slice_index_or y i []) in
    same_number (λ i. bit_of k b (slice_index_or z i [])) (λ i. bit_xor (f i) (g i)) h
    ∙ number-xor f g (λ i. bit-lt k b (slice_index_or x i [])) (λ i. bit-lt k b (slice_index_or y i [])) 8

-- ---- 02 times a byte

-- the gates of 02 times a byte
abbrev pub doubled_gates : List Gate
doubled_gates = xor_of 0 7 ∷ xor_of 3 8 ∷ xor_of 5 9 ∷ []

-- and the wires that leave them
abbrev pub doubled_ends : List ℕ
doubled_ends = 10 ∷ 2 ∷ 4 ∷ 1 ∷ 0 ∷ 7 ∷ 8 ∷ 9 ∷ []

-- they give 02 times each byte
pub doubled_test : all_below (computes (outcome doubled_gates doubled_ends) (gmul 2)) 256 ≡ true
unfolding number_of_bits poly_mul poly_rem gmul
doubled_test = refl

-- ---- MixColumns

-- functions that a test found equal at each byte
pub equal_at : (f g : ℕ → ℕ) → all_below (λ v. eqb (f v) (g v)) 256 ≡ true → (v : ℕ) → v < 256 → f v ≡ g v
equal_at f g test v h = eqb-true _ _ (all_below-at (λ v. eqb (f v) (g v)) 256 v test h)

-- 01 times each byte
one_test : all_below (λ v. eqb (gmul 1 v) v) 256 ≡ true
unfolding poly_mul poly_rem gmul
one_test = refl

-- 03 times each byte
three_test : all_below (λ v. eqb (gmul 3 v) (bit_xor (gmul 2 v) v)) 256 ≡ true
unfolding poly_mul poly_rem gmul
three_test = refl

-- 01 times a byte
one : (v : ℕ) → v < 256 → gmul 1 v ≡ v
one v h = equal_at (gmul 1) (λ v. v) one_test v h

-- 03 times a byte
three : (v : ℕ) → v < 256 → gmul 3 v ≡ bit_xor (gmul 2 v) v
three v h = equal_at (gmul 3) (λ v. bit_xor (gmul 2 v) v) three_test v h

-- the same five terms, summed in other orders
sum_0 : (p q b c d : ℕ) → bit_xor (bit_xor p q) (bit_xor b (bit_xor c d)) ≡ bit_xor (bit_xor p (bit_xor q b)) (bit_xor c d)
sum_0 p q b c d = same_from_bits _ _ (λ i.
    rw (bit_at_xor (bit_xor p q) (bit_xor b (bit_xor c d)) i, bit_at_xor p q i, bit_at_xor b (bit_xor c d) i, bit_at_xor (bit_xor p (bit_xor q b)) (bit_xor c d) i, bit_at_xor p (bit_xor q b) i, bit_at_xor q b i, bit_at_xor c d i) (omega arith))

-- as they are in row 1
sum_1 : (p q c d a : ℕ) → bit_xor (bit_xor p q) (bit_xor c (bit_xor d a)) ≡ bit_xor (bit_xor a p) (bit_xor (bit_xor q c) d)
sum_1 p q c d a = same_from_bits _ _ (λ i.
    rw (bit_at_xor (bit_xor p q) (bit_xor c (bit_xor d a)) i, bit_at_xor p q i, bit_at_xor c (bit_xor d a) i, bit_at_xor d a i, bit_at_xor (bit_xor a p) (bit_xor (bit_xor q c) d) i, bit_at_xor a p i, bit_at_xor (bit_xor q c) d i, bit_at_xor q c i) (omega arith))

-- in row 2
sum_2 : (p q d a b : ℕ) → bit_xor (bit_xor p q) (bit_xor d (bit_xor a b)) ≡ bit_xor (bit_xor a b) (bit_xor p (bit_xor q d))
sum_2 p q d a b = same_from_bits _ _ (λ i.
    rw (bit_at_xor (bit_xor p q) (bit_xor d (bit_xor a b)) i, bit_at_xor p q i, bit_at_xor d (bit_xor a b) i, bit_at_xor (bit_xor a b) (bit_xor p (bit_xor q d)) i, bit_at_xor a b i, bit_at_xor p (bit_xor q d) i, bit_at_xor q d i) (omega arith))

-- in row 3
sum_3 : (p q a b c : ℕ) → bit_xor (bit_xor p q) (bit_xor a (bit_xor b c)) ≡ bit_xor (bit_xor (bit_xor q a) b) (bit_xor c p)
sum_3 p q a b c = same_from_bits _ _ (λ i.
    rw (bit_at_xor (bit_xor p q) (bit_xor a (bit_xor b c)) i, bit_at_xor p q i, bit_at_xor a (bit_xor b c) i, bit_at_xor b c i, bit_at_xor (bit_xor (bit_xor q a) b) (bit_xor c p) i, bit_at_xor (bit_xor q a) b i, bit_at_xor q a i, bit_at_xor c p i) (omega arith))

module _ (a b c d : ℕ) (ha : a < 256) (hb : b < 256) (hc : c < 256) (hd : d < 256) where
  -- row 0 of a mixed column
  row_0 : bit_xor (gmul 2 (bit_xor a b)) (bit_xor b (bit_xor c d)) ≡ bit_xor (bit_xor (gmul 2 a) (gmul 3 b)) (bit_xor (gmul 1 c) (gmul 1 d))
  row_0 = rw (three b hb, one c hc, one d hd, gmul-xor 2 a b) (sum_0 (gmul 2 a) (gmul 2 b) b c d)

  -- row 1
  row_1 : bit_xor (gmul 2 (bit_xor b c)) (bit_xor c (bit_xor d a)) ≡ bit_xor (bit_xor (gmul 1 a) (gmul 2 b)) (bit_xor (gmul 3 c) (gmul 1 d))
  row_1 = rw (three c hc, one a ha, one d hd, gmul-xor 2 b c) (sum_1 (gmul 2 b) (gmul 2 c) c d a)

  -- row 2
  row_2 : bit_xor (gmul 2 (bit_xor c d)) (bit_xor d (bit_xor a b)) ≡ bit_xor (bit_xor (gmul 1 a) (gmul 1 b)) (bit_xor (gmul 2 c) (gmul 3 d))
  row_2 = rw (three d hd, one a ha, one b hb, gmul-xor 2 c d) (sum_2 (gmul 2 c) (gmul 2 d) d a b)

  -- row 3
  row_3 : bit_xor (gmul 2 (bit_xor d a)) (bit_xor a (bit_xor b c)) ≡ bit_xor (bit_xor (gmul 3 a) (gmul 1 b)) (bit_xor (gmul 1 c) (gmul 2 d))
  row_3 = rw (three a ha, one b hb, one c hc, gmul-xor 2 d a) (sum_3 (gmul 2 d) (gmul 2 a) a b c)

-- byte k of the mixed state whose bytes are f 0, f 1, ..
abbrev pub mixed : (ℕ → ℕ) → ℕ → ℕ
mixed f k =
    bit_xor (gmul 2 (bit_xor (f k) (f (rotated_place 1 k))))
    (bit_xor (f (rotated_place 1 k)) (bit_xor (f (rotated_place 2 k)) (f (rotated_place 1 (rotated_place 2 k)))))

-- the mixed state by its bytes
pub mixed_is : (f : ℕ → ℕ) → ((k : ℕ) → f k < 256) → map (mixed f) (range_with_len 0 16) ≡ mix_columns (map f (range_with_len 0 16))
unfolding mix_columns state_by byte_in entry_of_product mix_matrix circulant
mixed_is f h =
    cons (row_0 (f 0) (f 1) (f 2) (f 3) (h 0) (h 1) (h 2) (h 3)) (cons (row_1 (f 0) (f 1) (f 2) (f 3) (h 0) (h 1) (h 2) (h 3)) (cons (row_2 (f 0) (f 1) (f 2) (f 3) (h 0) (h 1) (h 2) (h 3)) (cons (row_3 (f 0) (f 1) (f 2) (f 3) (h 0) (h 1) (h 2) (h 3))
    (cons (row_0 (f 4) (f 5) (f 6) (f 7) (h 4) (h 5) (h 6) (h 7)) (cons (row_1 (f 4) (f 5) (f 6) (f 7) (h 4) (h 5) (h 6) (h 7)) (cons (row_2 (f 4) (f 5) (f 6) (f 7) (h 4) (h 5) (h 6) (h 7)) (cons (row_3 (f 4) (f 5) (f 6) (f 7) (h 4) (h 5) (h 6) (h 7))
    (cons (row_0 (f 8) (f 9) (f 10) (f 11) (h 8) (h 9) (h 10) (h 11)) (cons (row_1 (f 8) (f 9) (f 10) (f 11) (h 8) (h 9) (h 10) (h 11)) (cons (row_2 (f 8) (f 9) (f 10) (f 11) (h 8) (h 9) (h 10) (h 11)) (cons (row_3 (f 8) (f 9) (f 10) (f 11) (h 8) (h 9) (h 10) (h 11))
    (cons (row_0 (f 12) (f 13) (f 14) (f 15) (h 12) (h 13) (h 14) (h 15)) (cons (row_1 (f 12) (f 13) (f 14) (f 15) (h 12) (h 13) (h 14) (h 15)) (cons (row_2 (f 12) (f 13) (f 14) (f 15) (h 12) (h 13) (h 14) (h 15)) (cons (row_3 (f 12) (f 13) (f 14) (f 15) (h 12) (h 13) (h 14) (h 15)) refl)))))))))))))))

-- a byte of the mixed state, from the steps: the byte in place a, the next one in b, the next two in c and d
pub mixed_byte : (f : ℕ → ℕ) (next sum twice last others all : ℕ) (k : ℕ) → k < 16
    → next ≡ f (rotated_place 1 k) → sum ≡ bit_xor (f k) next → twice ≡ gmul 2 sum
    → last ≡ bit_xor (f (rotated_place 2 k)) (f (rotated_place 1 (rotated_place 2 k)))
    → others ≡ bit_xor next last → all ≡ bit_xor twice others → all ≡ mixed f k
mixed_byte f next sum twice last others all k h e0 e1 e2 e3 e4 e5 =
    e5 ∙ ap₂ bit_xor (e2 ∙ ap (gmul 2) (e1 ∙ ap (bit_xor (f k)) e0)) (e4 ∙ ap₂ bit_xor e0 e3)

-- a rotated place is one of 16
pub rotated-lt : (n k : ℕ) → k < 16 → rotated_place n k < 16
rotated-lt n k h = omega arith

-- ---- InvMixColumns

-- the matrix that, times that of MixColumns, is the inverse one
abbrev five_four : ℕ → ℕ → ℕ
five_four = circulant (5 ∷ 0 ∷ 4 ∷ 0 ∷ [])

-- an entry of the product of the matrices, times each byte
abbrev product_row : ℕ → ℕ → Bool
product_row r j = all_below (λ v. eqb (through mix_matrix five_four r j v) (gmul (inverse_mix_matrix r j) v)) 256

-- each entry
product_test : all_below (λ r. all_below (product_row r) 4) 4 ≡ true
unfolding poly_mul poly_rem gmul circulant mix_matrix inverse_mix_matrix quad through
product_test = refl

-- an entry times a byte
product_at : (r j v : ℕ) → r < 4 → j < 4 → v < 256 → through mix_matrix five_four r j v ≡ gmul (inverse_mix_matrix r j) v
product_at r j v hr hj hv =
    equal_at (through mix_matrix five_four r j) (gmul (inverse_mix_matrix r j)) (all_below-at (product_row r) 4 j (all_below-at (λ r. all_below (product_row r) 4) 4 r product_test hr) hj) v hv

-- 05 times each byte
five_test : all_below (λ v. eqb (gmul 5 v) (bit_xor v (gmul 2 (gmul 2 v)))) 256 ≡ true
unfolding poly_mul poly_rem gmul
five_test = refl

-- 04 times each byte
four_test : all_below (λ v. eqb (gmul 4 v) (gmul 2 (gmul 2 v))) 256 ≡ true
unfolding poly_mul poly_rem gmul
four_test = refl

-- 00 times each byte
none_test : all_below (λ v. eqb (gmul 0 v) 0) 256 ≡ true
unfolding poly_mul poly_rem gmul
none_test = refl

-- what is mixed in place of a byte: 05 times it and 04 times the opposite one
abbrev pub with_opposite : ℕ → ℕ → ℕ
with_opposite x y = bit_xor x (gmul 2 (gmul 2 (bit_xor x y)))

-- 05 times a byte and 04 times another
five_four_sum : (x y : ℕ) → x < 256 → y < 256 → with_opposite x y ≡ bit_xor (gmul 5 x) (gmul 4 y)
five_four_sum x y hx hy =
    rw (
      equal_at (gmul 5) (λ v. bit_xor v (gmul 2 (gmul 2 v))) five_test x hx,
      equal_at (gmul 4) (λ v. gmul 2 (gmul 2 v)) four_test y hy,
      gmul-xor 2 x y,
      gmul-xor 2 (gmul 2 x) (gmul 2 y),
    ) (sym (xor_assoc x (gmul 2 (gmul 2 x)) (gmul 2 (gmul 2 y))))

-- 00 times a byte
none : (v : ℕ) → v < 256 → gmul 0 v ≡ 0
none v h = equal_at (gmul 0) (λ v. 0) none_test v h

module _ (x : ℕ → ℕ) (h : (k : ℕ) → x k < 256) where
  -- an entry of five_four times a column, in the first two rows
  entry_even : (k j m n : ℕ) → bit_xor (bit_xor (gmul 5 (x k)) (gmul 0 (x m))) (bit_xor (gmul 4 (x j)) (gmul 0 (x n))) ≡ with_opposite (x k) (x j)
  entry_even k j m n =
      rw (none (x m) (h m), none (x n) (h n), xor_zero_r (gmul 5 (x k)), xor_zero_r (gmul 4 (x j))) (sym (five_four_sum (x k) (x j) (h k) (h j)))

  -- the same where the odd places count
  entry_odd : (k j m n : ℕ) → bit_xor (bit_xor (gmul 0 (x m)) (gmul 5 (x k))) (bit_xor (gmul 0 (x n)) (gmul 4 (x j))) ≡ with_opposite (x k) (x j)
  entry_odd k j m n =
      rw (none (x m) (h m), none (x n) (h n), xor_zero_l (gmul 5 (x k)), xor_zero_l (gmul 4 (x j))) (sym (five_four_sum (x k) (x j) (h k) (h j)))

  -- the other way round, for the last two rows
  entry_even' : (k j m n : ℕ) → bit_xor (bit_xor (gmul 4 (x j)) (gmul 0 (x m))) (bit_xor (gmul 5 (x k)) (gmul 0 (x n))) ≡ with_opposite (x k) (x j)
  entry_even' k j m n = xor_comm (bit_xor (gmul 4 (x j)) (gmul 0 (x m))) (bit_xor (gmul 5 (x k)) (gmul 0 (x n))) ∙ entry_even k j n m

  -- the same for the odd places
  entry_odd' : (k j m n : ℕ) → bit_xor (bit_xor (gmul 0 (x m)) (gmul 4 (x j))) (bit_xor (gmul 0 (x n)) (gmul 5 (x k))) ≡ with_opposite (x k) (x j)
  entry_odd' k j m n = xor_comm (bit_xor (gmul 0 (x m)) (gmul 4 (x j))) (bit_xor (gmul 0 (x n)) (gmul 5 (x k))) ∙ entry_odd k j n m

  -- an entry of the inverse, from the bytes with their opposites
  inverse_entry : (r : ℕ) → r < 4 → quad (gmul (mix_matrix r 0) (with_opposite (x 0) (x 2))) (gmul (mix_matrix r 1) (with_opposite (x 1) (x 3)))
      (gmul (mix_matrix r 2) (with_opposite (x 2) (x 0))) (gmul (mix_matrix r 3) (with_opposite (x 3) (x 1)))
      ≡ entry_of_product inverse_mix_matrix x r
  unfolding quad circulant entry_of_product
  inverse_entry r hr =
      let at : (j : ℕ) → j < 4 → through mix_matrix five_four r j (x j) ≡ gmul (inverse_mix_matrix r j) (x j) = λ j hj. product_at r j (x j) hr hj (h j) in
      sym (ap₂ bit_xor
      (ap₂ bit_xor (ap (gmul (mix_matrix r 0)) (entry_even 0 2 1 3)) (ap (gmul (mix_matrix r 1)) (entry_odd 1 3 0 2)))
      (ap₂ bit_xor (ap (gmul (mix_matrix r 2)) (entry_even' 2 0 1 3)) (ap (gmul (mix_matrix r 3)) (entry_odd' 3 1 0 2))))
      ∙ product_of_products mix_matrix five_four x r
      ∙ ap₂ bit_xor (ap₂ bit_xor (at 0 (omega arith)) (at 1 (omega arith))) (ap₂ bit_xor (at 2 (omega arith)) (at 3 (omega arith)))

-- byte k of the state that is mixed in place of the one whose bytes are f 0, f 1, ..
abbrev pub opposed : (ℕ → ℕ) → ℕ → ℕ
opposed f k = with_opposite (f k) (f (rotated_place 2 k))

-- InvMixColumns by its bytes
pub opposed_is : (f : ℕ → ℕ) → ((k : ℕ) → f k < 256) → mix_columns (map (opposed f) (range_with_len 0 16)) ≡ inverse_mix_columns (map f (range_with_len 0 16))
unfolding mix_columns inverse_mix_columns state_by byte_in entry_of_product quad
opposed_is f h =
    let entry : (c r : ℕ) → r < 4 → quad (gmul (mix_matrix r 0) (with_opposite (f (c + 0)) (f (c + 2)))) (gmul (mix_matrix r 1) (with_opposite (f (c + 1)) (f (c + 3))))
    (gmul (mix_matrix r 2) (with_opposite (f (c + 2)) (f (c + 0)))) (gmul (mix_matrix r 3) (with_opposite (f (c + 3)) (f (c + 1))))
    ≡ entry_of_product inverse_mix_matrix (λ k. f (c + k)) r = λ c. inverse_entry (λ k. f (c + k)) (λ k. h (c + k)) in
    cons (entry 0 0 (omega arith)) (cons (entry 0 1 (omega arith)) (cons (entry 0 2 (omega arith)) (cons (entry 0 3 (omega arith))
    (cons (entry 4 0 (omega arith)) (cons (entry 4 1 (omega arith)) (cons (entry 4 2 (omega arith)) (cons (entry 4 3 (omega arith))
    (cons (entry 8 0 (omega arith)) (cons (entry 8 1 (omega arith)) (cons (entry 8 2 (omega arith)) (cons (entry 8 3 (omega arith))
    (cons (entry 12 0 (omega arith)) (cons (entry 12 1 (omega arith)) (cons (entry 12 2 (omega arith)) (cons (entry 12 3 (omega arith)) refl)))))))))))))))

-- ---- steps on blocks

-- a block whose bytes are sums
pub sum_block : (x y z : List (List ℕ)) (b : ℕ) → ((k : ℕ) → k < 16 → byte_of k b z ≡ bit_xor (byte_of k b x) (byte_of k b y))
    → block_of b z ≡ add_round_key (block_of b x) (block_of b y)
unfolding add_round_key state_by byte_in
sum_block x y z b h = same_block (λ k. byte_of k b z) (λ k. bit_xor (byte_of k b x) (byte_of k b y)) h

-- a block whose bytes went through the S-box
pub sub_block : (x z : List (List ℕ)) (b : ℕ) → ((k : ℕ) → k < 16 → byte_of k b z ≡ sbox (byte_of k b x))
    → block_of b z ≡ sub_bytes (block_of b x)
unfolding sub_bytes state_by byte_in
sub_block x z b h = same_block (λ k. byte_of k b z) (λ k. sbox (byte_of k b x)) h

-- and through its inverse
pub inverse_sub_block : (x z : List (List ℕ)) (b : ℕ) → ((k : ℕ) → k < 16 → byte_of k b z ≡ inverse_sbox (byte_of k b x))
    → block_of b z ≡ inverse_sub_bytes (block_of b x)
unfolding inverse_sub_bytes state_by byte_in
inverse_sub_block x z b h = same_block (λ k. byte_of k b z) (λ k. inverse_sbox (byte_of k b x)) h
