-- What the functions on two blocks do to the words of each.
use Rattle.std.proofs.Common.{sym, ◌≡◌, ℕ, zero, suc, ◌<◌, ◌≤◌, ◌+◌, ◌*◌, ◌/◌, ◌%◌, ◌^◌, List, [], ◌∷◌, length, slice_index, bit_xor, arith, refl}
use Rattle.std.proofs.lemmas.Nat.{xor_mod}
use Rattle.std.specs.Simd.Lanes.{zip2}
use Rattle.std.proofs.lemmas.List.{get_or-map}
use Rattle.std.specs.Prelude.{slice_index_or}
use Rattle.sha2.specs.Sha256.{initial_hash_256, add32, small_sigma0, small_sigma1, window_word}
use Rattle.luks_rounds.specs.Pair.{lane, word_of, window}
use Rattle.luks_rounds.proofs.Rotations.{rotated, doubled_shifted}
use Rattle.luks_rounds.proofs.VectorFacts.{Words, all_four, word_fits as words_fit}

-- a word is below 2 ^ 32
pub word_fits : (x : List ℕ) → Words x → (j : ℕ) → j < 2 → word_of j x < 2 ^ 32
word_fits x h j lt = words_fit x h (2 * j) (omega arith)

-- the shifts of a doubled word under xor, as a vector of two
abbrev pub shifted : List ℕ → ℕ → List ℕ
shifted d k = zip2 (λ x n. x / 2 ^ n) d (k ∷ k ∷ [])

-- each vector of two
two_lanes : (P : List ℕ → Type 0) → ((a b : ℕ) → P (a ∷ b ∷ [])) → (xs : List ℕ) → length xs ≡ 2 → P xs
two_lanes P p (a ∷ b ∷ []) h = p a b
two_lanes P p [] h = absurd (omega arith)
two_lanes P p (a ∷ []) h = absurd (omega arith)
two_lanes P p (a ∷ b ∷ c ∷ xs) h = absurd (omega arith)

-- each number below two
pub below_two : (P : ℕ → Type 0) → P 0 → P 1 → (j : ℕ) → j < 2 → P j
below_two P p0 p1 zero h = p0
below_two P p0 p1 (suc zero) h = p1
below_two P p0 p1 (suc (suc n)) h = absurd (omega arith)

-- a lane of two shifts under xor
slice_index-xor : (d : List ℕ) → length d ≡ 2 → (a b : ℕ) (j : ℕ) → j < 2
    → slice_index (zip2 bit_xor (shifted d a) (shifted d b)) j ≡ bit_xor (slice_index d j / 2 ^ a) (slice_index d j / 2 ^ b)
slice_index-xor d l a b = two_lanes (λ d. (j : ℕ) → j < 2
    → slice_index (zip2 bit_xor (shifted d a) (shifted d b)) j ≡ bit_xor (slice_index d j / 2 ^ a) (slice_index d j / 2 ^ b))
    (λ p q. below_two _ refl refl) d l

-- a lane of three
slice_index-xor3 : (d : List ℕ) → length d ≡ 2 → (a b c : ℕ) (j : ℕ) → j < 2
    → slice_index (zip2 bit_xor (zip2 bit_xor (shifted d a) (shifted d b)) (shifted d c)) j
    ≡ bit_xor (bit_xor (slice_index d j / 2 ^ a) (slice_index d j / 2 ^ b)) (slice_index d j / 2 ^ c)
slice_index-xor3 d l a b c = two_lanes (λ d. (j : ℕ) → j < 2
    → slice_index (zip2 bit_xor (zip2 bit_xor (shifted d a) (shifted d b)) (shifted d c)) j
    ≡ bit_xor (bit_xor (slice_index d j / 2 ^ a) (slice_index d j / 2 ^ b)) (slice_index d j / 2 ^ c))
    (λ p q. below_two _ refl refl) d l

-- two rotations of a word under xor, from the word written twice
pub two_rotated : (d : List ℕ) → length d ≡ 2 → (x a b j r : ℕ) → j < 2 → x < 2 ^ 32 → a ≤ 32 → b ≤ 32
    → slice_index d j ≡ x * (2 ^ 32 + 1)
    → r ≡ slice_index (zip2 bit_xor (shifted d a) (shifted d b)) j % 2 ^ 32
    → r ≡ bit_xor (rotated 32 x a) (rotated 32 x b)
two_rotated d l x a b j r lt fits ha hb e er =
    rw (
      er,
      slice_index-xor d l a b j lt,
      e,
      xor_mod (x * (2 ^ 32 + 1) / 2 ^ a) (x * (2 ^ 32 + 1) / 2 ^ b) 32,
      doubled_shifted x a ha fits,
      doubled_shifted x b hb fits,
    ) refl

-- three of them
pub three_rotated : (d : List ℕ) → length d ≡ 2 → (x a b c j r : ℕ) → j < 2 → x < 2 ^ 32 → a ≤ 32 → b ≤ 32 → c ≤ 32
    → slice_index d j ≡ x * (2 ^ 32 + 1)
    → r ≡ slice_index (zip2 bit_xor (zip2 bit_xor (shifted d a) (shifted d b)) (shifted d c)) j % 2 ^ 32
    → r ≡ bit_xor (bit_xor (rotated 32 x a) (rotated 32 x b)) (rotated 32 x c)
three_rotated d l x a b c j r lt fits ha hb hc e er =
    rw (
      er,
      slice_index-xor3 d l a b c j lt,
      e,
      xor_mod (bit_xor (x * (2 ^ 32 + 1) / 2 ^ a) (x * (2 ^ 32 + 1) / 2 ^ b)) (x * (2 ^ 32 + 1) / 2 ^ c) 32,
      xor_mod (x * (2 ^ 32 + 1) / 2 ^ a) (x * (2 ^ 32 + 1) / 2 ^ b) 32,
      doubled_shifted x a ha fits,
      doubled_shifted x b hb fits,
      doubled_shifted x c hc fits,
    ) refl

-- the words that the schedule takes, in a window of vectors
pub window_word_in : (j : ℕ) (w : List (List ℕ)) (place : ℕ) → length w ≡ 16 → place < 16
    → window_word (window j w) place
    ≡ add32 (add32 (add32 (small_sigma1 (word_of j (slice_index_or w ((place + 14) % 16) [])))
    (word_of j (slice_index_or w ((place + 9) % 16) [])))
    (small_sigma0 (word_of j (slice_index_or w ((place + 1) % 16) [])))) (word_of j (slice_index_or w place []))
window_word_in j w place l lt =
    let at : place % 16 ≡ place = omega arith in
    rw (
      at,
      get_or-map (word_of j) w ((place + 14) % 16) [] 0 (omega arith),
      get_or-map (word_of j) w ((place + 9) % 16) [] 0 (omega arith),
      get_or-map (word_of j) w ((place + 1) % 16) [] 0 (omega arith),
      get_or-map (word_of j) w place [] 0 (omega arith),
    ) refl

-- a word of the window
pub word_in_window : (j : ℕ) (w : List (List ℕ)) (k : ℕ) → k < length w → word_of j (slice_index_or w k []) ≡ slice_index (window j w) k
word_in_window j w k lt = sym (get_or-map (word_of j) w k [] 0 lt)

-- the initial hash value in lane j
abbrev starts : ℕ → Type 0
starts j = lane j (all_four 0x6A09E667 ∷ all_four 0xBB67AE85 ∷ all_four 0x3C6EF372 ∷ all_four 0xA54FF53A
    ∷ all_four 0x510E527F ∷ all_four 0x9B05688C ∷ all_four 0x1F83D9AB ∷ all_four 0x5BE0CD19 ∷ []) ≡ initial_hash_256

-- the initial hash value in each lane
pub start_words : (j : ℕ) → j < 2 → starts j
start_words = below_two starts refl refl
