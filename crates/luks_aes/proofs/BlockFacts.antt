-- The steps of AES on one block, a vector of 16 bytes.
use Rattle.std.proofs.Common.{◌≡◌, ℕ, ◌+◌, ◌*◌, ◌/◌, ◌%◌, ◌^◌, ◌<◌, ◌∙◌, sym, ap, ap₂, true, eqb, List, length, slice_index, arith, refl, ⊎_elim}
use Rattle.std.specs.Prelude.{replicate}
use Rattle.std.specs.Int.Bits.{bit_and, bit_xor}
use Rattle.std.specs.Simd.Lanes.{zip2}
use Rattle.std.proofs.lemmas.Bool.Decides.{leb_tells}
use Rattle.std.proofs.lemmas.List.{get_or_past}
use Rattle.std.proofs.lemmas.Simd.{get_or-replicate, length-zip2}
use Rattle.luks_aes.specs.Polynomial.{poly_mul, poly_rem}
use Rattle.luks_aes.specs.Field.{gmul}
use Rattle.luks_aes.specs.Aes.{byte_in, state_by, add_round_key, shift_rows, inverse_shift_rows, mix_columns, inverse_mix_columns}
use Rattle.luks_aes.specs.Planes.{IsPlane}
use Rattle.luks_aes.proofs.TableFacts.{all_below}
use Rattle.luks_aes.proofs.GateFacts.{lane_zip}
use Rattle.luks_aes.proofs.PackingFacts.{lane_with, down, minus}
use Rattle.luks_aes.proofs.LinearFacts.{same_block, equal_at, mixed, mixed_is, opposed, opposed_is}
use Rattle.luks_aes.proofs.NibbleFacts.{vector_is}

-- every element is a byte; past the end it counts as 0
pub bytes_of : (x : List ℕ) → IsPlane x → (k : ℕ) → slice_index x k < 256
bytes_of x p k =
    ⊎_elim (λ far. rw (get_or_past x k 0 (omega (arith, p.long, far.1))) (omega arith)) (λ near. p.bytes k near.1) (leb_tells 16 k)

-- ---- sums and places

-- a vector of sums
pub sum_vector : (x y z : List ℕ) → IsPlane z → ((k : ℕ) → k < 16 → slice_index z k ≡ bit_xor (slice_index x k) (slice_index y k)) → z ≡ add_round_key x y
unfolding add_round_key state_by byte_in
sum_vector x y z p h = sym (vector_is z p) ∙ same_block (slice_index z) (λ k. bit_xor (slice_index x k) (slice_index y k)) h

-- a vector whose rows are shifted
pub shift_vector : (x z : List ℕ) → IsPlane z → ((k : ℕ) → k < 16 → slice_index z k ≡ slice_index x ((k + 4 * (k % 4)) % 16)) → z ≡ shift_rows x
unfolding shift_rows state_by byte_in
shift_vector x z p h = sym (vector_is z p) ∙ same_block (slice_index z) (λ k. slice_index x ((k + 4 * (k % 4)) % 16)) h

-- and shifted back
pub shift_back_vector : (x z : List ℕ) → IsPlane z → ((k : ℕ) → k < 16 → slice_index z k ≡ slice_index x ((k + 12 * (k % 4)) % 16)) → z ≡ inverse_shift_rows x
unfolding inverse_shift_rows state_by byte_in
shift_back_vector x z p h = sym (vector_is z p) ∙ same_block (slice_index z) (λ k. slice_index x ((k + 12 * (k % 4)) % 16)) h

-- ---- 02 times a byte

-- what is carried, at each byte
carried_test : all_below (λ v. eqb (bit_and (minus 0 (down v 7)) 27) (v / 128 * 27)) 256 ≡ true
carried_test = refl

-- in each lane
pub carried_lane : (x : List ℕ) → IsPlane x → (k : ℕ) → k < 16
    → slice_index (zip2 bit_and (zip2 minus (replicate 16 0) (zip2 down x (replicate 16 7))) (replicate 16 27)) k ≡ slice_index x k / 128 * 27
carried_lane x p k h =
    let top = zip2 down x (replicate 16 7) in
    let lt : length top ≡ 16 = length-zip2 down x (replicate 16 7) p.long ∙ p.long in
    let all = zip2 minus (replicate 16 0) top in
    let la : length all ≡ 16 = length-zip2 minus (replicate 16 0) top (sym lt) ∙ refl in
    lane_with bit_and all la 27 k h
    ∙ ap (λ (v : ℕ). bit_and v 27) (lane_zip minus (replicate 16 0) top refl lt k h ∙ ap₂ minus (get_or-replicate {A = ℕ} 16 k 0 0 h) (lane_with down x p.long 7 k h))
    ∙ equal_at (λ v. bit_and (minus 0 (down v 7)) 27) (λ v. v / 128 * 27) carried_test (slice_index x k) (p.bytes k h)

-- the sum of two bytes, modulo 2^8
abbrev pub plus : ℕ → ℕ → ℕ
plus a b = (a + b) % 2 ^ 8

-- twice a byte, in each lane
pub twice_lane : (x : List ℕ) → length x ≡ 16 → (k : ℕ) → k < 16 → slice_index (zip2 plus x x) k ≡ slice_index x k * 2 % 256
twice_lane x l k h = lane_zip plus x x l l k h ∙ omega arith

-- 02 times each byte
two_test : all_below (λ v. eqb (bit_xor (v * 2 % 256) (v / 128 * 27)) (gmul 2 v)) 256 ≡ true
unfolding poly_mul poly_rem gmul
two_test = refl

-- 02 times a byte
pub two_times : (v : ℕ) → v < 256 → bit_xor (v * 2 % 256) (v / 128 * 27) ≡ gmul 2 v
two_times v h = equal_at (λ v. bit_xor (v * 2 % 256) (v / 128 * 27)) (gmul 2) two_test v h

-- ---- the columns

-- a vector whose bytes are mixed
pub mixed_vector : (x z : List ℕ) → IsPlane x → IsPlane z → ((k : ℕ) → k < 16 → slice_index z k ≡ mixed (slice_index x) k) → z ≡ mix_columns x
mixed_vector x z p q h =
    sym (vector_is z q) ∙ same_block (slice_index z) (mixed (slice_index x)) h ∙ mixed_is (slice_index x) (bytes_of x p) ∙ ap mix_columns (vector_is x p)

-- and unmixed, from the one that is mixed in its place
pub unmixed_vector : (x z : List ℕ) → IsPlane x → IsPlane z → ((k : ℕ) → k < 16 → slice_index z k ≡ opposed (slice_index x) k) → mix_columns z ≡ inverse_mix_columns x
unmixed_vector x z p q h =
    ap mix_columns (sym (vector_is z q) ∙ same_block (slice_index z) (opposed (slice_index x)) h)
    ∙ opposed_is (slice_index x) (bytes_of x p) ∙ ap inverse_mix_columns (vector_is x p)
