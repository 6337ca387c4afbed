-- The compression function G of Argon2 (RFC 9106, 3.5 and 3.6), on blocks of 128 words of 64 bits.
use Rattle.std.specs.Prelude.{ℕ, ◌+◌, ◌*◌, ◌/◌, ◌%◌, ◌^◌, List, [], ◌∷◌, map, bit_xor, slice_index}
use Rattle.std.specs.Int.{w64, rotate_right}
use Rattle.std.specs.List.{range_with_len}

-- (x + y + 2 * trunc (x) * trunc (y)) mod 2 ^ 64 (3.6)
unfoldable pub multiplied_sum : ℕ → ℕ → ℕ
multiplied_sum x y = (x + y + 2 * ((x % 2 ^ 32) * (y % 2 ^ 32))) % 2 ^ 64

-- (x xor y) >>> k
unfoldable pub xor_rotate : ℕ → ℕ → ℕ → ℕ
xor_rotate x y k = rotate_right w64 (bit_xor x y) k

-- GB (3.6)
unfoldable pub mix : ℕ → ℕ → ℕ → ℕ → ℕ × ℕ × ℕ × ℕ
mix a b c d =
    let a1 = multiplied_sum a b in
    let d1 = xor_rotate d a1 32 in
    let c1 = multiplied_sum c d1 in
    let b1 = xor_rotate b c1 24 in
    let a2 = multiplied_sum a1 b1 in
    let d2 = xor_rotate d1 a2 16 in
    let c2 = multiplied_sum c1 d2 in
    let b2 = xor_rotate b1 c2 63 in
    (a2, b2, c2, d2)

abbrev pub mix_at : List ℕ → ℕ → ℕ → ℕ → ℕ → ℕ × ℕ × ℕ × ℕ
mix_at v a b c d = mix (slice_index v a) (slice_index v b) (slice_index v c) (slice_index v d)

-- GB on each column of the words, read as four rows of four
unfoldable pub columns_mixed : List ℕ → List ℕ
columns_mixed v =
    let q0 = mix_at v 0 4 8 12 in
    let q1 = mix_at v 1 5 9 13 in
    let q2 = mix_at v 2 6 10 14 in
    let q3 = mix_at v 3 7 11 15 in
    q0.0 ∷ q1.0 ∷ q2.0 ∷ q3.0
    ∷ q0.1 ∷ q1.1 ∷ q2.1 ∷ q3.1
    ∷ q0.2 ∷ q1.2 ∷ q2.2 ∷ q3.2
    ∷ q0.3 ∷ q1.3 ∷ q2.3 ∷ q3.3 ∷ []

-- GB on each diagonal
unfoldable pub diagonals_mixed : List ℕ → List ℕ
diagonals_mixed v =
    let q0 = mix_at v 0 5 10 15 in
    let q1 = mix_at v 1 6 11 12 in
    let q2 = mix_at v 2 7 8 13 in
    let q3 = mix_at v 3 4 9 14 in
    q0.0 ∷ q1.0 ∷ q2.0 ∷ q3.0
    ∷ q3.1 ∷ q0.1 ∷ q1.1 ∷ q2.1
    ∷ q2.2 ∷ q3.2 ∷ q0.2 ∷ q1.2
    ∷ q1.3 ∷ q2.3 ∷ q3.3 ∷ q0.3 ∷ []

-- P on 16 words, which are eight registers of 16 bytes, low word first (3.6)
abbrev pub permuted : List ℕ → List ℕ
permuted v = diagonals_mixed (columns_mixed v)

-- the block whose word at each place is f of the place
abbrev pub block_of : (ℕ → ℕ) → List ℕ
block_of f = map f (range_with_len 0 128)

unfoldable pub xor_blocks : List ℕ → List ℕ → List ℕ
xor_blocks x y = block_of (λ k. bit_xor (slice_index x k) (slice_index y k))

-- A block is a matrix of 8 rows of 8 registers (3.5): the words of row i, and those of column j.
unfoldable pub row : List ℕ → ℕ → List ℕ
row x i = map (λ n. slice_index x (16 * i + n)) (range_with_len 0 16)

unfoldable pub column : List ℕ → ℕ → List ℕ
column x j = map (λ n. slice_index x (16 * (n / 2) + 2 * j + n % 2)) (range_with_len 0 16)

-- P on each row, and P on each column (3.5)
unfoldable pub rows_permuted : List ℕ → List ℕ
rows_permuted x = block_of (λ k. slice_index (permuted (row x (k / 16))) (k % 16))

unfoldable pub columns_permuted : List ℕ → List ℕ
columns_permuted x = block_of (λ k. slice_index (permuted (column x (k % 16 / 2))) (2 * (k / 16) + k % 2))

-- G: R = X xor Y, Q from its rows, Z from the columns of Q, and R xor Z (3.5)
unfoldable pub compressed : List ℕ → List ℕ → List ℕ
compressed x y =
    let r = xor_blocks x y in
    xor_blocks r (columns_permuted (rows_permuted r))
