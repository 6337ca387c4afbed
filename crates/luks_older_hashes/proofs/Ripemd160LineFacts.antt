-- The tables of the code are those of the standard, and a step leads to the next state of a line.
use Rattle.std.proofs.Common.{◌≡◌, ℕ, zero, suc, ◌+◌, ◌-◌, ◌*◌, ◌/◌, ◌%◌, ◌<◌, Bool, true, ◌&&◌, List, eqb, bit_and, length, map, slice_index, subst, sym, ◌∙◌, arith, ⊎_elim, refl, add-one}
use Rattle.std.specs.List.{range_with_len}
use Rattle.std.proofs.lemmas.List.FromFn.{get_or-map-range_with_len, length-map-range_with_len}
use Rattle.std.proofs.lemmas.Grind.{same_number_lists}
use Rattle.std.proofs.lemmas.Bool.{and_parts, cases_eq, eqb-true}
use Rattle.luks_older_hashes.specs.Ripemd160.{block_words, boolean_of, left_constants, left_line, left_shift, left_word, rho_times, right_constants, right_line, right_shift, right_word, shifts, step, word_at}
use Rattle.luks_older_hashes.specs.declared.ripemd160.compression.TheConstants.{LEFT_ORDER, LEFT_SHIFTS, RIGHT_ORDER, RIGHT_SHIFTS}

-- whether all numbers below n pass a test
abbrev all_below : (ℕ → Bool) → ℕ → Bool
all_below t zero = true
all_below t (suc n) = t n && all_below t n

-- each of them passes
all_below-at : (t : ℕ → Bool) (n k : ℕ) → all_below t n ≡ true → k < n → t k ≡ true
all_below-at t zero k e h = absurd (omega arith)
all_below-at t (suc n) k e h =
    let both = and_parts (t n) (all_below t n) e in
    ⊎_elim (λ (same : k ≡ n). subst (λ (j : ℕ). t j ≡ true) (sym same) both.0)
    (λ (other : k ≡ n → ⊥). all_below-at t n k both.1 (omega arith))
    (cases_eq k n)

-- whether a table of words agrees with the standard's order at a step
abbrev in_order : List ℕ → (ℕ → ℕ) → ℕ → Bool
in_order table order j = eqb (bit_and (slice_index table j) 15) (order j)

-- whether a table of shifts agrees with the standard's shifts at a step
abbrev is_shifted : List ℕ → (ℕ → ℕ) → ℕ → Bool
is_shifted table shift j = eqb (slice_index table j) (shift j)

-- the tables agree at each step
left_order_test : all_below (in_order LEFT_ORDER left_word) 80 ≡ true
unfolding left_word rho_times
left_order_test = refl

right_order_test : all_below (in_order RIGHT_ORDER right_word) 80 ≡ true
unfolding right_word rho_times
right_order_test = refl

left_shift_test : all_below (is_shifted LEFT_SHIFTS left_shift) 80 ≡ true
unfolding left_shift left_word rho_times shifts
left_shift_test = refl

right_shift_test : all_below (is_shifted RIGHT_SHIFTS right_shift) 80 ≡ true
unfolding right_shift right_word rho_times shifts
right_shift_test = refl

-- at a step
pub left_word_at : (j : ℕ) → j < 80 → bit_and (slice_index LEFT_ORDER j) 15 ≡ left_word j
left_word_at j h = eqb-true _ _ (all_below-at (in_order LEFT_ORDER left_word) 80 j left_order_test h)

pub right_word_at : (j : ℕ) → j < 80 → bit_and (slice_index RIGHT_ORDER j) 15 ≡ right_word j
right_word_at j h = eqb-true _ _ (all_below-at (in_order RIGHT_ORDER right_word) 80 j right_order_test h)

pub left_shift_at : (j : ℕ) → j < 80 → slice_index LEFT_SHIFTS j ≡ left_shift j
left_shift_at j h = eqb-true _ _ (all_below-at (is_shifted LEFT_SHIFTS left_shift) 80 j left_shift_test h)

pub right_shift_at : (j : ℕ) → j < 80 → slice_index RIGHT_SHIFTS j ≡ right_shift j
right_shift_at j h = eqb-true _ _ (all_below-at (is_shifted RIGHT_SHIFTS right_shift) 80 j right_shift_test h)

-- a step of the left line, from what it reads
pub left_line_next : (h w v : List ℕ) (j f word constant shift : ℕ) → v ≡ left_line h w j
    → f ≡ boolean_of (j / 16) v → word ≡ slice_index w (left_word j) → constant ≡ slice_index left_constants (j / 16)
    → shift ≡ left_shift j → step v f word constant shift ≡ left_line h w (j + 1)
unfolding left_line
left_line_next h w v j f word constant shift at fn read added turned =
    rw (add-one, ← at, fn, read, added, turned) refl

-- and of the right line
pub right_line_next : (h w v : List ℕ) (j f word constant shift : ℕ) → v ≡ right_line h w j
    → f ≡ boolean_of (4 - j / 16) v → word ≡ slice_index w (right_word j) → constant ≡ slice_index right_constants (j / 16)
    → shift ≡ right_shift j → step v f word constant shift ≡ right_line h w (j + 1)
unfolding right_line
right_line_next h w v j f word constant shift at fn read added turned =
    rw (add-one, ← at, fn, read, added, turned) refl

-- sixteen words, each read at its place, are the words of a block
pub block_words_are : (w b : List ℕ) → length w ≡ 16 → ((k : ℕ) → k < 16 → slice_index w k ≡ word_at b (4 * k)) → w ≡ block_words b
unfolding block_words
block_words_are w b long at =
    let f : ℕ → ℕ = λ i. word_at b (4 * i) in
    let len : length (map f (range_with_len 0 16)) ≡ 16 = length-map-range_with_len f 0 16 in
    same_number_lists w (map f (range_with_len 0 16)) (omega (arith, long, len))
    (λ k lt.
    let below : k < 16 = omega (arith, long) in
    at k below ∙ sym (get_or-map-range_with_len f 0 16 k k 0 below (omega arith)))
