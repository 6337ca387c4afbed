-- Look-ups in tables of 16 bytes, lane by lane, and the S-box by them.
use Rattle.std.proofs.Common.{◌≡◌, ◌⊎◌, ℕ, ◌+◌, ◌*◌, ◌/◌, ◌%◌, ◌<◌, ◌≤◌, ◌∙◌, sym, ap, ap₂, Bool, true, cond, ◌&&◌, ◌||◌, eqb, ltb, List, length, map, slice_index, arith, refl, inl, inr, ⊎_elim, w8}
use Rattle.std.specs.List.{range_with_len}
use Rattle.std.specs.Prelude.{replicate}
use Rattle.std.specs.Int.Bits.{bit_and, bit_xor}
use Rattle.std.specs.Simd.Lanes.{zip2}
use Rattle.std.proofs.Math.Dec.{T, leb}
use Rattle.std.proofs.Math.Bool.{or-false}
use Rattle.std.proofs.lemmas.Bool.{and_parts, eqb-true, ltb-true, lt-ltb, le-leb, lt-leb}
use Rattle.std.proofs.lemmas.Bool.Decides.{leb_tells}
use Rattle.std.proofs.lemmas.List.{get_or_past}
use Rattle.std.proofs.lemmas.List.FromFn.{fill_by_all}
use Rattle.std.proofs.lemmas.Nat.{and_mask}
use Rattle.std.proofs.lemmas.Simd.{swz_l, SwzOk, SwzOk-from_Each1, Each1-from_get_or, get_or-swz_l}
use Rattle.luks_aes.specs.declared.lookups.TheConstants.{RECIPROCALS, QUOTIENTS, PARTS_LOW, PARTS_HIGH, SBOX_FIRST, SBOX_SECOND, INVERSE_PARTS_LOW, INVERSE_PARTS_HIGH, INVERSE_FIRST, INVERSE_SECOND}
use Rattle.luks_aes.specs.Polynomial.{poly_mul, poly_rem}
use Rattle.luks_aes.specs.Field.{gmul, inverse_below, inverse, number_of_bits, bit, affine, inverse_affine, sbox, inverse_sbox}
use Rattle.luks_aes.specs.Aes.{byte_in, state_by, sub_bytes, inverse_sub_bytes}
use Rattle.luks_aes.specs.Nibbles.{ArePlaces, small_product, reciprocal_below, reciprocal, quotient, place, joined, parts_by}
use Rattle.luks_aes.specs.Planes.{IsPlane}
use Rattle.luks_aes.proofs.TableFacts.{all_below, all_below-at}
use Rattle.luks_aes.proofs.PackingFacts.{lane_with, down}
use Rattle.luks_aes.proofs.LinearFacts.{same_block, equal_at}

-- ---- halves

-- a lower half
pub low_lane : (x : List ℕ) → length x ≡ 16 → (k : ℕ) → k < 16 → slice_index (zip2 bit_and x (replicate 16 15)) k ≡ slice_index x k % 16
low_lane x l k h = lane_with bit_and x l 15 k h ∙ and_mask (slice_index x k) 4

-- an upper half
pub high_lane : (x : List ℕ) → length x ≡ 16 → (k : ℕ) → k < 16 → slice_index (zip2 down x (replicate 16 4)) k ≡ slice_index x k / 16
high_lane x l k h = lane_with down x l 4 k h

-- ---- places

-- one place
abbrev pub IsPlace : ℕ → Type 0
IsPlace j = (j < 16) ⊎ (128 ≤ j)

-- what `swizzle_dyn` asks of a place
place_fits : (j : ℕ) → IsPlace j → T (leb 128 j || ltb j 16)
place_fits j p =
    ⊎_elim
    (λ (h : j < 16). rw (lt-leb 128 j (omega arith), lt-ltb j 16 h) tt)
    (λ (h : 128 ≤ j). rw (le-leb 128 j h) tt)
    p

-- and of all
pub places_fit : (js : List ℕ) → length js ≡ 16 → ArePlaces js → SwzOk w8 16 16 0 js
places_fit js l p =
    SwzOk-from_Each1 w8 16 1 16 0 js refl (omega (arith, l))
    (Each1-from_get_or (λ (j : ℕ). T (leb 128 j || ltb j 16)) js 0 (λ k h. place_fits (slice_index js k) (p k (omega (arith, l)))))

-- what is at a place
at_place : (table : List ℕ) (j k : ℕ) → length table ≡ 16 → k < 16 → IsPlace j
    → cond (leb 128 j) 0 (slice_index table (16 * ((0 + k) / 16) + j)) ≡ slice_index table j
at_place table j k l low p =
    ⊎_elim
    (λ (h : j < 16).
    let first : 16 * ((0 + k) / 16) + j ≡ j = omega arith in
    rw (lt-leb 128 j (omega arith)) (ap (slice_index table) first))
    (λ (h : 128 ≤ j). rw (le-leb 128 j h) (sym (get_or_past table j 0 (omega (arith, l)))))
    p

-- in each lane
pub looked_up : (table js : List ℕ) → length table ≡ 16 → length js ≡ 16 → ArePlaces js → (k : ℕ) → k < 16
    → slice_index (swz_l w8 16 table 0 js) k ≡ slice_index table (slice_index js k)
looked_up table js l lj p k h =
    get_or-swz_l w8 16 table 0 js k (omega (arith, lj)) ∙ at_place table (slice_index js k) k l h (p k h)

-- a test of a place
abbrev is_place : ℕ → Bool
is_place j = ltb j 16 || leb 128 j

-- that holds
place_is : (j : ℕ) → is_place j ≡ true → IsPlace j
place_is j e =
    ⊎_elim (λ far. inr far.1)
    (λ near. inl (ltb-true j 16 (sym (or-false (ltb j 16)) ∙ ap (λ (b : Bool). ltb j 16 || b) (sym near.0) ∙ e)))
    (leb_tells 128 j)

-- ---- the places that the parts of a byte lead to

-- the sum of the parts
abbrev pub both : ℕ → ℕ
both x = bit_xor (x / 16) (x % 16)

-- the reciprocal of a part and the quotient, by the tables
abbrev pub sum_by : ℕ → ℕ → ℕ
sum_by i k = bit_xor (slice_index RECIPROCALS i) (slice_index QUOTIENTS k)

-- the place, by the tables
abbrev pub place_by : ℕ → ℕ → ℕ → ℕ
place_by i j k = bit_xor (slice_index RECIPROCALS (sum_by i k)) j

-- each is a place
abbrev are_places : ℕ → Bool
are_places x =
    is_place (both x) && ((is_place (sum_by (x / 16) (x % 16)) && is_place (sum_by (both x) (x % 16)))
    && (is_place (place_by (x / 16) (both x) (x % 16)) && is_place (place_by (both x) (x / 16) (x % 16))))

-- at each byte
places_test : all_below are_places 256 ≡ true
places_test = refl

-- and the last two are those of the definition
abbrev are_those : ℕ → Bool
are_those x =
    eqb (place_by (x / 16) (both x) (x % 16)) (place (x / 16) (both x) (x % 16))
    && eqb (place_by (both x) (x / 16) (x % 16)) (place (both x) (x / 16) (x % 16))

-- at each byte
those_test : all_below are_those 256 ≡ true
unfolding poly_mul poly_rem small_product reciprocal_below reciprocal quotient place
those_test = refl

module _ (x : ℕ) (h : x < 256) where
  -- the tests at a byte
  tests : are_places x ≡ true
  tests = all_below-at are_places 256 x places_test h

  -- the sum of the parts is a place
  pub both_place : IsPlace (both x)
  both_place = place_is _ (and_parts _ _ tests).0

  -- so is the sum for the upper place
  pub upper_sum_place : IsPlace (sum_by (x / 16) (x % 16))
  upper_sum_place = place_is _ (and_parts _ _ (and_parts _ _ (and_parts _ _ tests).1).0).0

  -- and for the lower one
  pub lower_sum_place : IsPlace (sum_by (both x) (x % 16))
  lower_sum_place = place_is _ (and_parts _ _ (and_parts _ _ (and_parts _ _ tests).1).0).1

  -- the upper place is one
  pub upper_place : IsPlace (place_by (x / 16) (both x) (x % 16))
  upper_place = place_is _ (and_parts _ _ (and_parts _ _ (and_parts _ _ tests).1).1).0

  -- and the lower one
  pub lower_place : IsPlace (place_by (both x) (x / 16) (x % 16))
  lower_place =
      let sums = is_place (sum_by (x / 16) (x % 16)) && is_place (sum_by (both x) (x % 16)) in
      let upper = is_place (place_by (x / 16) (both x) (x % 16)) in
      let lower = is_place (place_by (both x) (x / 16) (x % 16)) in
      place_is (place_by (both x) (x / 16) (x % 16)) (and_parts upper lower (and_parts sums (upper && lower) (and_parts (is_place (both x)) (sums && (upper && lower)) tests).1).1).1

  -- the upper place is that of the definition
  pub upper_is : place_by (x / 16) (both x) (x % 16) ≡ place (x / 16) (both x) (x % 16)
  upper_is = eqb-true _ _ (and_parts _ _ (all_below-at are_those 256 x those_test h)).0

  -- and the lower one
  pub lower_is : place_by (both x) (x / 16) (x % 16) ≡ place (both x) (x / 16) (x % 16)
  lower_is = eqb-true _ _ (and_parts _ _ (all_below-at are_those 256 x those_test h)).1

-- what two tables give
pub joined_is : (first second : List ℕ) (x u v : ℕ) → u ≡ place (x / 16) (both x) (x % 16) → v ≡ place (both x) (x / 16) (x % 16)
    → bit_xor (slice_index first u) (slice_index second v) ≡ joined first second x
unfolding joined
joined_is first second x u v hu hv = ap₂ bit_xor (ap (slice_index first) hu) (ap (slice_index second) hv)

-- ---- the S-box

-- the S-box by the tables, at each byte
sbox_by_test : all_below (λ x. eqb (bit_xor (joined SBOX_FIRST SBOX_SECOND (parts_by PARTS_LOW PARTS_HIGH x)) 0x63) (sbox x)) 256 ≡ true
unfolding poly_mul poly_rem gmul inverse_below inverse number_of_bits bit affine sbox small_product reciprocal_below reciprocal quotient place joined parts_by
sbox_by_test = refl

-- its inverse by the tables, at each byte
inverse_by_test : all_below (λ x. eqb (joined INVERSE_FIRST INVERSE_SECOND (parts_by INVERSE_PARTS_LOW INVERSE_PARTS_HIGH x)) (inverse_sbox x)) 256 ≡ true
unfolding poly_mul poly_rem gmul inverse_below inverse number_of_bits bit inverse_affine inverse_sbox small_product reciprocal_below reciprocal quotient place joined parts_by
inverse_by_test = refl

-- the S-box at a byte
pub sbox_by : (x : ℕ) → x < 256 → bit_xor (joined SBOX_FIRST SBOX_SECOND (parts_by PARTS_LOW PARTS_HIGH x)) 0x63 ≡ sbox x
sbox_by x h = equal_at (λ x. bit_xor (joined SBOX_FIRST SBOX_SECOND (parts_by PARTS_LOW PARTS_HIGH x)) 0x63) sbox sbox_by_test x h

-- its inverse at a byte
pub inverse_by : (x : ℕ) → x < 256 → joined INVERSE_FIRST INVERSE_SECOND (parts_by INVERSE_PARTS_LOW INVERSE_PARTS_HIGH x) ≡ inverse_sbox x
inverse_by x h = equal_at (λ x. joined INVERSE_FIRST INVERSE_SECOND (parts_by INVERSE_PARTS_LOW INVERSE_PARTS_HIGH x)) inverse_sbox inverse_by_test x h

-- ---- vectors as states

-- a vector by its bytes
pub vector_is : (z : List ℕ) → IsPlane z → map (slice_index z) (range_with_len 0 16) ≡ z
vector_is z p = sym (fill_by_all (slice_index z) z 16 0 p.long (λ k low. refl))

-- a vector whose bytes went through the S-box
pub sub_vector : (x z : List ℕ) → IsPlane z → ((k : ℕ) → k < 16 → slice_index z k ≡ sbox (slice_index x k)) → z ≡ sub_bytes x
unfolding sub_bytes state_by byte_in
sub_vector x z p h = sym (vector_is z p) ∙ same_block (slice_index z) (λ k. sbox (slice_index x k)) h

-- and through its inverse
pub inverse_sub_vector : (x z : List ℕ) → IsPlane z → ((k : ℕ) → k < 16 → slice_index z k ≡ inverse_sbox (slice_index x k)) → z ≡ inverse_sub_bytes x
unfolding inverse_sub_bytes state_by byte_in
inverse_sub_vector x z p h = sym (vector_is z p) ∙ same_block (slice_index z) (λ k. inverse_sbox (slice_index x k)) h
