-- Two words side by side in a vector.
use Rattle.std.proofs.Common.{◌≡◌, ℕ, zero, suc, ◌<◌, ◌+◌, ◌-◌, ◌*◌, ◌/◌, ◌%◌, ◌^◌, List, [], ◌∷◌, length, slice_index, bit_and, bit_or, bit_xor, arith, refl}
use Rattle.std.specs.Simd.Lanes.{zip2}
use Rattle.luks_argon2.specs.BlockCompression.{multiplied_sum, xor_rotate}
use Rattle.luks_argon2.proofs.BlockFacts.{multiplied_sum-is}

-- what holds of each of the two lanes
below_two : (P : ℕ → Type 0) → P 0 → P 1 → (j : ℕ) → j < 2 → P j
below_two P p0 p1 zero h = p0
below_two P p0 p1 (suc zero) h = p1
below_two P p0 p1 (suc (suc n)) h = absurd (omega arith)

-- what holds of each list of two words
two_lanes : (P : List ℕ → Type 0) → ((a b : ℕ) → P (a ∷ b ∷ [])) → (xs : List ℕ) → length xs ≡ 2 → P xs
two_lanes P p (a ∷ b ∷ []) h = p a b
two_lanes P p [] h = absurd (omega arith)
two_lanes P p (a ∷ []) h = absurd (omega arith)
two_lanes P p (a ∷ b ∷ c ∷ xs) h = absurd (omega arith)

-- the sums and the products of two lanes, with the carry dropped
abbrev sums : List ℕ → List ℕ → List ℕ
sums x y = zip2 (λ a b. (a + b) % 2 ^ 64) x y

-- the products of the low halves of two lanes, with the carry dropped
abbrev products : List ℕ → List ℕ → List ℕ
products x y =
    zip2 (λ a b. a * b % 2 ^ 64) (zip2 bit_and x (0xFFFFFFFF ∷ 0xFFFFFFFF ∷ [])) (zip2 bit_and y (0xFFFFFFFF ∷ 0xFFFFFFFF ∷ []))

-- in each lane, the sum of two words with twice the product of their low halves
abbrev Multiplies : List ℕ → List ℕ → Type 0
Multiplies x y = (j : ℕ) → j < 2
    → slice_index (sums (sums x y) (sums (products x y) (products x y))) j ≡ multiplied_sum (slice_index x j) (slice_index y j)

-- the sum with twice the product, in each lane
pub lanes_multiplied : (x : List ℕ) → length x ≡ 2 → (y : List ℕ) → length y ≡ 2 → Multiplies x y
lanes_multiplied =
    two_lanes (λ x. (y : List ℕ) → length y ≡ 2 → Multiplies x y) (λ a b.
    two_lanes (Multiplies (a ∷ b ∷ [])) (λ c d.
    below_two _ (multiplied_sum-is a c _ _ refl refl) (multiplied_sum-is b d _ _ refl refl)))

-- two shifts of each lane and an or are a rotation
abbrev Rotates : ℕ → List ℕ → List ℕ → Type 0
Rotates k x y = (j : ℕ) → j < 2
    → slice_index (zip2 bit_or
    (zip2 (λ a n. a / 2 ^ n) (zip2 bit_xor x y) (k ∷ k ∷ []))
    (zip2 (λ a n. a * 2 ^ n % 2 ^ 64) (zip2 bit_xor x y) ((64 - k) ∷ (64 - k) ∷ []))) j
    ≡ xor_rotate (slice_index x j) (slice_index y j) k

-- the exclusive or of two lanes, rotated
pub lanes_rotated : (k : ℕ) → 0 < k → k < 64 → (x : List ℕ) → length x ≡ 2 → (y : List ℕ) → length y ≡ 2 → Rotates k x y
unfolding xor_rotate
lanes_rotated k low high =
    let right : k % 64 ≡ k = omega arith in
    let left : (64 - k) % 64 ≡ 64 - k = omega arith in
    two_lanes (λ x. (y : List ℕ) → length y ≡ 2 → Rotates k x y) (λ a b.
    two_lanes (Rotates k (a ∷ b ∷ [])) (λ c d.
    below_two _ (rw (right, left) refl) (rw (right, left) refl)))
