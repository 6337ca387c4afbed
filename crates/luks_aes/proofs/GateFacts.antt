-- The bits of vectors of 16 bytes that were made lane by lane.
use Rattle.std.proofs.Common.{◌≡◌, ℕ, zero, suc, ◌<◌, ◌/◌, ◌%◌, ◌^◌, ◌∙◌, sym, ap, List, length, slice_index, arith, refl, Fits, w8}
use Rattle.std.specs.Int.Bits.{bit_and, bit_xor}
use Rattle.std.specs.Simd.Lanes.{zip2, Each1}
use Rattle.std.proofs.lemmas.Simd.{get_or-zip2, Each1-get_or, length-zip2, get_or-replicate}
use Rattle.std.proofs.lemmas.Nat.{xor_shr, and_shr, xor_mod, and_mod, xor_lt, and_le_l}
use Rattle.std.proofs.lemmas.Nat.Bits.{bit_at_ones}
use Rattle.std.specs.Prelude.{replicate}
use Rattle.luks_aes.specs.Planes.{IsPlane, bit_of}

-- a vector of 16 bytes
abbrev pub IsVector : List ℕ → Type 0
IsVector x = (length x ≡ 16) × Each1 (Fits w8) x

-- a lane of what a function makes of two vectors
pub lane_zip : (f : ℕ → ℕ → ℕ) (x y : List ℕ) → length x ≡ 16 → length y ≡ 16 → (k : ℕ) → k < 16
    → slice_index (zip2 f x y) k ≡ f (slice_index x k) (slice_index y k)
lane_zip f x y lx ly k h = get_or-zip2 f x y k 0 0 0 (omega arith) (omega arith)

-- a bit of a sum of vectors
pub bit_of_xor : (x y : List ℕ) → length x ≡ 16 → length y ≡ 16 → (k b : ℕ) → k < 16
    → bit_of k b (zip2 bit_xor x y) ≡ bit_xor (bit_of k b x) (bit_of k b y)
bit_of_xor x y lx ly k b h =
    ap (λ (v : ℕ). v / 2 ^ b % 2) (lane_zip bit_xor x y lx ly k h)
    ∙ ap (λ (v : ℕ). v % 2) (xor_shr (slice_index x k) (slice_index y k) b)
    ∙ xor_mod (slice_index x k / 2 ^ b) (slice_index y k / 2 ^ b) 1

-- a bit of what two vectors have in common
pub bit_of_and : (x y : List ℕ) → length x ≡ 16 → length y ≡ 16 → (k b : ℕ) → k < 16
    → bit_of k b (zip2 bit_and x y) ≡ bit_and (bit_of k b x) (bit_of k b y)
bit_of_and x y lx ly k b h =
    ap (λ (v : ℕ). v / 2 ^ b % 2) (lane_zip bit_and x y lx ly k h)
    ∙ ap (λ (v : ℕ). v % 2) (and_shr (slice_index x k) (slice_index y k) b)
    ∙ and_mod (slice_index x k / 2 ^ b) (slice_index y k / 2 ^ b) 1

-- a vector whose bits are all 1
pub bit_of_ones : (k b : ℕ) → k < 16 → b < 8 → bit_of k b (replicate 16 255) ≡ 1
bit_of_ones k b h low =
    ap (λ (v : ℕ). v / 2 ^ b % 2) (get_or-replicate 16 k 255 0 h) ∙ bit_at_ones 8 b low

-- a vector of bytes is a plane
pub vector_plane : (x : List ℕ) → IsVector x → IsPlane x
vector_plane x p = record { long = p.0; bytes = λ k h. (Each1-get_or (Fits w8) x k 0 (omega (arith, p.0)) p.1).fits }

-- so is the sum of two
pub xor_plane : (x y : List ℕ) → IsVector x → IsVector y → IsPlane (zip2 bit_xor x y)
xor_plane x y p q = record {
  long = length-zip2 bit_xor x y (p.0 ∙ sym q.0) ∙ p.0;
  bytes = λ k h. rw (lane_zip bit_xor x y p.0 q.0 k h) (xor_lt 8 (slice_index x k) (slice_index y k) ((vector_plane x p).bytes k h) ((vector_plane y q).bytes k h));
}

-- and what two have in common
pub and_plane : (x y : List ℕ) → IsVector x → IsVector y → IsPlane (zip2 bit_and x y)
and_plane x y p q = record {
  long = length-zip2 bit_and x y (p.0 ∙ sym q.0) ∙ p.0;
  bytes = λ k h. rw (lane_zip bit_and x y p.0 q.0 k h) (omega (arith, and_le_l (slice_index x k) (slice_index y k), (vector_plane x p).bytes k h));
}

-- and a complement
pub not_plane : (x : List ℕ) → IsVector x → IsPlane (zip2 bit_xor x (replicate 16 255))
not_plane x p = record {
  long = length-zip2 bit_xor x (replicate 16 255) p.0 ∙ p.0;
  bytes = λ k h.
      rw (lane_zip bit_xor x (replicate 16 255) p.0 refl k h, get_or-replicate {A = ℕ} 16 k 255 0 h) (xor_lt 8 (slice_index x k) 255 ((vector_plane x p).bytes k h) (omega arith));
}

-- each number below eight
pub below_eight : (P : ℕ → Type 0) → P 0 → P 1 → P 2 → P 3 → P 4 → P 5 → P 6 → P 7 → (j : ℕ) → j < 8 → P j
below_eight P p0 p1 p2 p3 p4 p5 p6 p7 zero h = p0
below_eight P p0 p1 p2 p3 p4 p5 p6 p7 (suc zero) h = p1
below_eight P p0 p1 p2 p3 p4 p5 p6 p7 (suc (suc zero)) h = p2
below_eight P p0 p1 p2 p3 p4 p5 p6 p7 (suc (suc (suc zero))) h = p3
below_eight P p0 p1 p2 p3 p4 p5 p6 p7 (suc (suc (suc (suc zero)))) h = p4
below_eight P p0 p1 p2 p3 p4 p5 p6 p7 (suc (suc (suc (suc (suc zero))))) h = p5
below_eight P p0 p1 p2 p3 p4 p5 p6 p7 (suc (suc (suc (suc (suc (suc zero)))))) h = p6
below_eight P p0 p1 p2 p3 p4 p5 p6 p7 (suc (suc (suc (suc (suc (suc (suc zero))))))) h = p7
below_eight P p0 p1 p2 p3 p4 p5 p6 p7 (suc (suc (suc (suc (suc (suc (suc (suc n)))))))) h = absurd (omega arith)
