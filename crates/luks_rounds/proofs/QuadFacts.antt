-- What the functions on four blocks do to the words of each.
use Rattle.std.proofs.Common.{sym, ◌≡◌, ℕ, ◌<◌, ◌+◌, ◌%◌, List, [], ◌∷◌, length, slice_index, bit_xor, arith, refl, w32}
use Rattle.std.specs.Int.{rotate_left}
use Rattle.std.proofs.lemmas.List.{get_or-map}
use Rattle.std.specs.Prelude.{slice_index_or}
use Rattle.sha1.specs.Sha1.{initial_hash, window_word}
use Rattle.luks_rounds.specs.Quad.{lane, window, word_of}
use Rattle.luks_rounds.proofs.FirstWindow.{below_four}
use Rattle.luks_rounds.proofs.VectorFacts.{all_four}

-- a word of a vector whose lanes are one word
pub word_all : (x j : ℕ) → j < 4 → word_of j (all_four x) ≡ x
word_all x = below_four (λ j. word_of j (all_four x) ≡ x) refl refl refl refl

-- the words that the schedule takes, in a window of vectors
pub window_word_in : (j : ℕ) (w : List (List ℕ)) (t : ℕ) → length w ≡ 16
    → window_word (window j w) t
    ≡ rotate_left w32 (bit_xor (bit_xor (bit_xor (word_of j (slice_index_or w ((t + 13) % 16) []))
    (word_of j (slice_index_or w ((t + 8) % 16) [])))
    (word_of j (slice_index_or w ((t + 2) % 16) []))) (word_of j (slice_index_or w (t % 16) []))) 1
window_word_in j w t l =
    rw (
      get_or-map (word_of j) w ((t + 13) % 16) [] 0 (omega arith),
      get_or-map (word_of j) w ((t + 8) % 16) [] 0 (omega arith),
      get_or-map (word_of j) w ((t + 2) % 16) [] 0 (omega arith),
      get_or-map (word_of j) w (t % 16) [] 0 (omega arith),
    ) refl

-- a word of the window
pub word_in_window : (j : ℕ) (w : List (List ℕ)) (k : ℕ) → k < length w → word_of j (slice_index_or w k []) ≡ slice_index (window j w) k
word_in_window j w k lt = sym (get_or-map (word_of j) w k [] 0 lt)

-- the initial hash value in lane j
abbrev starts : ℕ → Type 0
starts j = lane j (all_four 0x67452301 ∷ all_four 0xEFCDAB89 ∷ all_four 0x98BADCFE ∷ all_four 0x10325476 ∷ all_four 0xC3D2E1F0 ∷ []) ≡ initial_hash

-- the initial hash value in each lane
pub start_words : (j : ℕ) → j < 4 → starts j
start_words = below_four starts refl refl refl refl
