-- The windows of the second block of a message of 96 bytes, and of the one block of 36 bytes.
use Rattle.std.proofs.Common.{◌≡◌, ℕ, zero, suc, ◌<◌, ◌+◌, ◌*◌, ◌/◌, ◌%◌, ◌^◌, List, [], ◌∷◌, slice_index, arith, refl, sym, subst}
use Rattle.std.proofs.lemmas.Nat.{from_be_bytes-to_be_bytes_4}
use Rattle.sha2.specs.Sha256.{IsWindow, schedule, digest_bytes}
use Rattle.sha2.proofs.Schedule256.{IsWindow_first}
use Rattle.luks_rounds.specs.Pair.{last_block, numbered_block}

-- each number below four
pub below_four : (P : ℕ → Type 0) → P 0 → P 1 → P 2 → P 3 → (j : ℕ) → j < 4 → P j
below_four P p0 p1 p2 p3 zero h = p0
below_four P p0 p1 p2 p3 (suc zero) h = p1
below_four P p0 p1 p2 p3 (suc (suc zero)) h = p2
below_four P p0 p1 p2 p3 (suc (suc (suc zero))) h = p3
below_four P p0 p1 p2 p3 (suc (suc (suc (suc n)))) h = absurd (omega arith)

-- each number below sixteen
pub below_sixteen : (P : ℕ → Type 0) → P 0 → P 1 → P 2 → P 3 → P 4 → P 5 → P 6 → P 7
    → P 8 → P 9 → P 10 → P 11 → P 12 → P 13 → P 14 → P 15 → (k : ℕ) → k < 16 → P k
below_sixteen P a0 a1 a2 a3 b0 b1 b2 b3 c0 c1 c2 c3 d0 d1 d2 d3 k h =
    let place : 4 * (k / 4) + k % 4 ≡ k = omega arith in
    subst P place (below_four (λ row. (col : ℕ) → col < 4 → P (4 * row + col))
    (below_four _ a0 a1 a2 a3) (below_four _ b0 b1 b2 b3) (below_four _ c0 c1 c2 c3) (below_four _ d0 d1 d2 d3)
    (k / 4) (omega arith) (k % 4) (omega arith))

-- eight words of a hash value, and the padding after them
pub first_window_is : (x0 x1 x2 x3 x4 x5 x6 x7 : ℕ)
    → x0 < 2 ^ 32 → x1 < 2 ^ 32 → x2 < 2 ^ 32 → x3 < 2 ^ 32 → x4 < 2 ^ 32 → x5 < 2 ^ 32 → x6 < 2 ^ 32 → x7 < 2 ^ 32
    → IsWindow (x0 ∷ x1 ∷ x2 ∷ x3 ∷ x4 ∷ x5 ∷ x6 ∷ x7 ∷ 0x80000000 ∷ 0 ∷ 0 ∷ 0 ∷ 0 ∷ 0 ∷ 0 ∷ 768 ∷ [])
    (schedule (last_block (x0 ∷ x1 ∷ x2 ∷ x3 ∷ x4 ∷ x5 ∷ x6 ∷ x7 ∷ [])) 48) 16
unfolding digest_bytes
first_window_is x0 x1 x2 x3 x4 x5 x6 x7 h0 h1 h2 h3 h4 h5 h6 h7 =
    IsWindow_first (last_block (x0 ∷ x1 ∷ x2 ∷ x3 ∷ x4 ∷ x5 ∷ x6 ∷ x7 ∷ []))
    (x0 ∷ x1 ∷ x2 ∷ x3 ∷ x4 ∷ x5 ∷ x6 ∷ x7 ∷ 0x80000000 ∷ 0 ∷ 0 ∷ 0 ∷ 0 ∷ 0 ∷ 0 ∷ 768 ∷ []) refl
    (below_sixteen _ (sym (from_be_bytes-to_be_bytes_4 x0 h0)) (sym (from_be_bytes-to_be_bytes_4 x1 h1))
    (sym (from_be_bytes-to_be_bytes_4 x2 h2)) (sym (from_be_bytes-to_be_bytes_4 x3 h3))
    (sym (from_be_bytes-to_be_bytes_4 x4 h4)) (sym (from_be_bytes-to_be_bytes_4 x5 h5))
    (sym (from_be_bytes-to_be_bytes_4 x6 h6)) (sym (from_be_bytes-to_be_bytes_4 x7 h7))
    refl refl refl refl refl refl refl refl)

-- eight words of a list end the same block
pub eight_words : (h : List ℕ)
    → last_block (slice_index h 0 ∷ slice_index h 1 ∷ slice_index h 2 ∷ slice_index h 3
    ∷ slice_index h 4 ∷ slice_index h 5 ∷ slice_index h 6 ∷ slice_index h 7 ∷ []) ≡ last_block h
unfolding digest_bytes
eight_words h = refl

-- a number, eight words of a hash value, and the padding after them
pub numbered_window_is : (n x0 x1 x2 x3 x4 x5 x6 x7 : ℕ)
    → n < 2 ^ 32 → x0 < 2 ^ 32 → x1 < 2 ^ 32 → x2 < 2 ^ 32 → x3 < 2 ^ 32 → x4 < 2 ^ 32 → x5 < 2 ^ 32 → x6 < 2 ^ 32 → x7 < 2 ^ 32
    → IsWindow (n ∷ x0 ∷ x1 ∷ x2 ∷ x3 ∷ x4 ∷ x5 ∷ x6 ∷ x7 ∷ 0x80000000 ∷ 0 ∷ 0 ∷ 0 ∷ 0 ∷ 0 ∷ 288 ∷ [])
    (schedule (numbered_block n (x0 ∷ x1 ∷ x2 ∷ x3 ∷ x4 ∷ x5 ∷ x6 ∷ x7 ∷ [])) 48) 16
unfolding digest_bytes
numbered_window_is n x0 x1 x2 x3 x4 x5 x6 x7 hn h0 h1 h2 h3 h4 h5 h6 h7 =
    IsWindow_first (numbered_block n (x0 ∷ x1 ∷ x2 ∷ x3 ∷ x4 ∷ x5 ∷ x6 ∷ x7 ∷ []))
    (n ∷ x0 ∷ x1 ∷ x2 ∷ x3 ∷ x4 ∷ x5 ∷ x6 ∷ x7 ∷ 0x80000000 ∷ 0 ∷ 0 ∷ 0 ∷ 0 ∷ 0 ∷ 288 ∷ []) refl
    (below_sixteen _ (sym (from_be_bytes-to_be_bytes_4 n hn))
    (sym (from_be_bytes-to_be_bytes_4 x0 h0)) (sym (from_be_bytes-to_be_bytes_4 x1 h1))
    (sym (from_be_bytes-to_be_bytes_4 x2 h2)) (sym (from_be_bytes-to_be_bytes_4 x3 h3))
    (sym (from_be_bytes-to_be_bytes_4 x4 h4)) (sym (from_be_bytes-to_be_bytes_4 x5 h5))
    (sym (from_be_bytes-to_be_bytes_4 x6 h6)) (sym (from_be_bytes-to_be_bytes_4 x7 h7))
    refl refl refl refl refl refl refl)
