-- Two blocks side by side: a vector of four lanes holds a word of each, in its lanes 0 and 2.
use Rattle.std.specs.Prelude.{ℕ, ◌*◌, List, [], ◌∷◌, ◌++◌, map, slice_index, slice_index_or}
use Rattle.std.specs.Int.{w32, to_be_bytes}
use Rattle.sha2.specs.Sha256.{digest_bytes, padding}

-- the word of block j
abbrev pub word_of : ℕ → List ℕ → ℕ
word_of j x = slice_index x (2 * j)

-- the word of block j in vector k
abbrev pub word_in : List (List ℕ) → ℕ → ℕ → ℕ
word_in xs k j = word_of j (slice_index_or xs k [])

-- the eight words of block j
abbrev pub lane : ℕ → List (List ℕ) → List ℕ
lane j v =
    word_in v 0 j ∷ word_in v 1 j ∷ word_in v 2 j ∷ word_in v 3 j
    ∷ word_in v 4 j ∷ word_in v 5 j ∷ word_in v 6 j ∷ word_in v 7 j ∷ []

-- the window of block j
abbrev pub window : ℕ → List (List ℕ) → List ℕ
window j w = map (word_of j) w

-- the second block of a message of 96 bytes that ends with these words
abbrev pub last_block : List ℕ → List ℕ
last_block h = digest_bytes h 8 ++ padding 96

-- the one block of a message of 36 bytes: a number in 4 bytes, high byte first, and these words
abbrev pub numbered_block : ℕ → List ℕ → List ℕ
numbered_block n h = (to_be_bytes w32 n ++ digest_bytes h 8) ++ padding 36
