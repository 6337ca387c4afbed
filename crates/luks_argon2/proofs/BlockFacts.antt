-- Blocks place by place.
use Rattle.std.proofs.Common.{◌≡◌, ◌≢◌, ℕ, ◌+◌, ◌*◌, ◌/◌, ◌%◌, ◌^◌, ◌<◌, ◌≤◌, List, length, map, bit_xor, bit_and, slice_index, sym, ap, ◌∙◌, arith, inl, inr}
use Rattle.std.specs.List.{range_with_len}
use Rattle.std.proofs.lemmas.List.FromFn.{get_or-map-range_with_len, length-map-range_with_len}
use Rattle.std.proofs.lemmas.Grind.{same_number_lists}
use Rattle.std.proofs.lemmas.Bool.{cases_lt}
use Rattle.std.proofs.lemmas.Nat.{and_mask}
use Rattle.luks_argon2.specs.BlockCompression.{multiplied_sum, xor_blocks, row, column, rows_permuted, columns_permuted, permuted}

-- a list that agrees with f at each of its n places
pub same_as_map : (xs : List ℕ) (f : ℕ → ℕ) (n : ℕ) → length xs ≡ n → ((k : ℕ) → k < n → slice_index xs k ≡ f k)
    → xs ≡ map f (range_with_len 0 n)
same_as_map xs f n long at =
    let len : length (map f (range_with_len 0 n)) ≡ n = length-map-range_with_len f 0 n in
    same_number_lists xs (map f (range_with_len 0 n)) (omega (arith, long, len))
    (λ k lt.
    let below : k < n = omega (arith, long) in
    at k below ∙ sym (get_or-map-range_with_len f 0 n k k 0 below (omega arith)))

-- the code's sum with twice its product is the standard's
pub multiplied_sum-is : (x y s p : ℕ) → p ≡ bit_and x 0xFFFFFFFF * bit_and y 0xFFFFFFFF % 2 ^ 64
    → s ≡ ((x + y) % 2 ^ 64 + (p + p) % 2 ^ 64) % 2 ^ 64 → s ≡ multiplied_sum x y
unfolding multiplied_sum
multiplied_sum-is x y s p ep es =
    let mx : bit_and x 0xFFFFFFFF ≡ x % 2 ^ 32 = and_mask x 32 in
    let my : bit_and y 0xFFFFFFFF ≡ y % 2 ^ 32 = and_mask y 32 in
    let q : ℕ = (x % 2 ^ 32) * (y % 2 ^ 32) in
    let ep2 : p ≡ q % 2 ^ 64 = rw (mx, my) at ep in
    omega (arith, ep2, es)

-- sixteen words that are those of a row
pub row_is : (v x : List ℕ) (i : ℕ) → length v ≡ 16 → ((n : ℕ) → n < 16 → slice_index v n ≡ slice_index x (16 * i + n)) → v ≡ row x i
unfolding row
row_is v x i long at = same_as_map v (λ n. slice_index x (16 * i + n)) 16 long at

-- sixteen words that are those of a column
pub column_is : (v x : List ℕ) (j : ℕ) → length v ≡ 16
    → ((n : ℕ) → n < 16 → slice_index v n ≡ slice_index x (16 * (n / 2) + 2 * j + n % 2)) → v ≡ column x j
unfolding column
column_is v x j long at = same_as_map v (λ n. slice_index x (16 * (n / 2) + 2 * j + n % 2)) 16 long at

-- the words of a column
pub column_at : (x : List ℕ) (j : ℕ) → (length (column x j) ≡ 16)
    × ((n : ℕ) → n < 16 → slice_index (column x j) n ≡ slice_index x (16 * (n / 2) + 2 * j + n % 2))
unfolding column
column_at x j = (
  length-map-range_with_len (λ n. slice_index x (16 * (n / 2) + 2 * j + n % 2)) 0 16,
  λ n lt. get_or-map-range_with_len (λ n. slice_index x (16 * (n / 2) + 2 * j + n % 2)) 0 16 n n 0 lt (omega arith),
)

-- a column that is as it was
pub column_kept : (x y : List ℕ) (j : ℕ) → j < 8 → ((m : ℕ) → j ≤ m % 16 / 2 → slice_index x m ≡ slice_index y m) → column x j ≡ column y j
column_kept x y j few same =
    let at = column_at x j in
    column_is (column x j) y j at.0 (λ n lt. at.1 n lt ∙ same (16 * (n / 2) + 2 * j + n % 2) (omega arith))

-- every row permuted is all rows permuted
pub rows_done : (b x : List ℕ) → length b ≡ 128
    → ((h n : ℕ) → h < 8 → n < 16 → slice_index b (16 * h + n) ≡ slice_index (permuted (row x h)) n) → b ≡ rows_permuted x
unfolding rows_permuted
rows_done b x long at =
    same_as_map b (λ k. slice_index (permuted (row x (k / 16))) (k % 16)) 128 long
    (λ k lt.
    let e : 16 * (k / 16) + k % 16 ≡ k = omega arith in
    rw e at (at (k / 16) (k % 16) (omega arith) (omega arith)))

-- every column permuted is all columns permuted
pub columns_done : (b x : List ℕ) → length b ≡ 128
    → ((h n : ℕ) → h < 8 → n < 16 → slice_index b (16 * (n / 2) + 2 * h + n % 2) ≡ slice_index (permuted (column x h)) n) → b ≡ columns_permuted x
unfolding columns_permuted
columns_done b x long at =
    same_as_map b (λ k. slice_index (permuted (column x (k % 16 / 2))) (2 * (k / 16) + k % 2)) 128 long
    (λ k lt.
    let n : ℕ = 2 * (k / 16) + k % 2 in
    let e : 16 * (n / 2) + 2 * (k % 16 / 2) + n % 2 ≡ k = omega arith in
    rw e at (at (k % 16 / 2) n (omega arith) (omega arith)))

-- a block that is the exclusive or of two at each place
pub xored_is : (z x y : List ℕ) → length z ≡ 128
    → ((n : ℕ) → n < 128 → slice_index z n ≡ bit_xor (slice_index x n) (slice_index y n)) → z ≡ xor_blocks x y
unfolding xor_blocks
xored_is z x y long at = same_as_map z (λ n. bit_xor (slice_index x n) (slice_index y n)) 128 long at

-- a word of two blocks xored
xor_blocks-at : (x y : List ℕ) (n : ℕ) → n < 128 → slice_index (xor_blocks x y) n ≡ bit_xor (slice_index x n) (slice_index y n)
unfolding xor_blocks
xor_blocks-at x y n lt = get_or-map-range_with_len (λ k. bit_xor (slice_index x k) (slice_index y k)) 0 128 n n 0 lt (omega arith)

-- and of those with a third
pub xored_over_is : (z x y old : List ℕ) → length z ≡ 128
    → ((n : ℕ) → n < 128 → slice_index z n ≡ bit_xor (bit_xor (slice_index x n) (slice_index y n)) (slice_index old n))
    → z ≡ xor_blocks (xor_blocks x y) old
xored_over_is z x y old long at =
    xored_is z (xor_blocks x y) old long (λ n lt. rw (xor_blocks-at x y n lt) (at n lt))

-- the rows before i + 1 are permuted, where row i has just been
pub rows_next : (x now next v : List ℕ) (i : ℕ) → v ≡ permuted (row x i)
    → ((h n : ℕ) → h < i → n < 16 → slice_index now (16 * h + n) ≡ slice_index (permuted (row x h)) n)
    → ((n : ℕ) → n < 16 → slice_index next (16 * i + n) ≡ slice_index v n)
    → ((m : ℕ) → m / 16 ≢ i → slice_index next m ≡ slice_index now m)
    → (h n : ℕ) → h < i + 1 → n < 16 → slice_index next (16 * h + n) ≡ slice_index (permuted (row x h)) n
rows_next x now next v i whole before done kept h n lt small = elim (cases_lt h i) [
  | inl a ↦ kept (16 * h + n) (omega arith) ∙ before h n a small
  | inr b ↦
      let e : i ≡ h = omega arith in
      rw (← e) (done n small ∙ ap (λ w. slice_index w n) whole)
]

-- the columns before i + 1 are permuted, where column i has just been
pub columns_next : (x now next v : List ℕ) (i : ℕ) → i < 8 → v ≡ permuted (column now i)
    → ((h n : ℕ) → h < i → n < 16 → slice_index now (16 * (n / 2) + 2 * h + n % 2) ≡ slice_index (permuted (column x h)) n)
    → ((m : ℕ) → i ≤ m % 16 / 2 → slice_index now m ≡ slice_index x m)
    → ((n : ℕ) → n < 16 → slice_index next (16 * (n / 2) + 2 * i + n % 2) ≡ slice_index v n)
    → ((m : ℕ) → m % 16 / 2 ≢ i → slice_index next m ≡ slice_index now m)
    → ((h n : ℕ) → h < i + 1 → n < 16 → slice_index next (16 * (n / 2) + 2 * h + n % 2) ≡ slice_index (permuted (column x h)) n)
    × ((m : ℕ) → i + 1 ≤ m % 16 / 2 → slice_index next m ≡ slice_index x m)
columns_next x now next v i few is before after done kept =
    let whole : v ≡ permuted (column x i) = is ∙ ap permuted (column_kept now x i few after) in (
      λ h n lt small. elim (cases_lt h i) [
        | inl a ↦ kept (16 * (n / 2) + 2 * h + n % 2) (omega arith) ∙ before h n a small
        | inr b ↦
            let e : i ≡ h = omega arith in
            rw (← e) (done n small ∙ ap (λ w. slice_index w n) whole)
      ],
      λ m le. kept m (omega arith) ∙ after m (omega arith),
    )
