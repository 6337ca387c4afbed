-- Four blocks side by side: a vector of four lanes holds a word of each.
use Rattle.std.specs.Prelude.{ℕ, List, [], ◌∷◌, ◌++◌, map, slice_index, slice_index_or}
use Rattle.sha1.specs.Sha1.{digest_bytes, padding}

-- the word of block j
abbrev pub word_of : ℕ → List ℕ → ℕ
word_of j x = slice_index x j

-- the word of block j in vector k
abbrev pub word_in : List (List ℕ) → ℕ → ℕ → ℕ
word_in xs k j = word_of j (slice_index_or xs k [])

-- the five words of block j
abbrev pub lane : ℕ → List (List ℕ) → List ℕ
lane j v = word_in v 0 j ∷ word_in v 1 j ∷ word_in v 2 j ∷ word_in v 3 j ∷ word_in v 4 j ∷ []

-- the window of block j
abbrev pub window : ℕ → List (List ℕ) → List ℕ
window j w = map (word_of j) w

-- the second block of a message of 84 bytes that ends with these words
abbrev pub last_block : List ℕ → List ℕ
last_block h = digest_bytes h 5 ++ padding 84
