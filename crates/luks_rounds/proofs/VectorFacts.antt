-- Words of vectors of four lanes.
use Rattle.std.proofs.Common.{◌≡◌, ℕ, ◌<◌, ◌^◌, List, [], ◌∷◌, length, slice_index, bit_and, bit_xor, arith, ◌∙◌, Fits, w32}
use Rattle.std.proofs.lemmas.Simd.{get_or-zip2, Each1-get_or, length-zip2}
use Rattle.std.specs.Int.{bit_not}
use Rattle.std.specs.Simd.Lanes.{zip2, Each1}
use Rattle.luks_rounds.proofs.ChMaj.{ch_short, maj_short}

-- a vector of words
abbrev pub Words : List ℕ → Type 0
Words x = (length x ≡ 4) × Each1 (Fits w32) x

-- a word in each lane
abbrev pub all_four : ℕ → List ℕ
all_four x = x ∷ x ∷ x ∷ x ∷ []

-- a word is below 2 ^ 32
pub word_fits : (x : List ℕ) → Words x → (j : ℕ) → j < 4 → slice_index x j < 2 ^ 32
word_fits x h j lt = (Each1-get_or (Fits w32) x j 0 (omega (arith, h.0)) h.1).fits

-- a word of what a function makes of two vectors
pub word_zip : (f : ℕ → ℕ → ℕ) (x y : List ℕ) → length x ≡ 4 → length y ≡ 4 → (j : ℕ) → j < 4
    → slice_index (zip2 f x y) j ≡ f (slice_index x j) (slice_index y j)
word_zip f x y lx ly j h = get_or-zip2 f x y j 0 0 0 (omega arith) (omega arith)

-- Ch of each word
pub ch_words : (x y z : List ℕ) → Words x → Words y → Words z → (j : ℕ) → j < 4
    → slice_index (zip2 bit_xor z (zip2 bit_and x (zip2 bit_xor y z))) j
    ≡ bit_xor (bit_and (slice_index x j) (slice_index y j)) (bit_and (bit_not w32 (slice_index x j)) (slice_index z j))
ch_words x y z hx hy hz j lt =
    let lyz : length (zip2 bit_xor y z) ≡ 4 = length-zip2 bit_xor y z (omega (arith, hy.0, hz.0)) ∙ hy.0 in
    let lx : length (zip2 bit_and x (zip2 bit_xor y z)) ≡ 4 = length-zip2 bit_and x (zip2 bit_xor y z) (omega (arith, hx.0)) ∙ hx.0 in
    rw (word_zip bit_xor z (zip2 bit_and x (zip2 bit_xor y z)) hz.0 lx j lt, word_zip bit_and x (zip2 bit_xor y z) hx.0 lyz j lt, word_zip bit_xor y z hy.0 hz.0 j lt)
    (ch_short w32 (slice_index x j) (slice_index y j) (slice_index z j) (word_fits x hx j lt) (word_fits y hy j lt) (word_fits z hz j lt))

-- Maj of each word
pub maj_words : (x y z : List ℕ) → Words x → Words y → Words z → (j : ℕ) → j < 4
    → slice_index (zip2 bit_xor y (zip2 bit_and (zip2 bit_xor x y) (zip2 bit_xor y z))) j
    ≡ bit_xor (bit_xor (bit_and (slice_index x j) (slice_index y j)) (bit_and (slice_index x j) (slice_index z j))) (bit_and (slice_index y j) (slice_index z j))
maj_words x y z hx hy hz j lt =
    let lxy : length (zip2 bit_xor x y) ≡ 4 = length-zip2 bit_xor x y (omega (arith, hx.0, hy.0)) ∙ hx.0 in
    let lyz : length (zip2 bit_xor y z) ≡ 4 = length-zip2 bit_xor y z (omega (arith, hy.0, hz.0)) ∙ hy.0 in
    let la : length (zip2 bit_and (zip2 bit_xor x y) (zip2 bit_xor y z)) ≡ 4 = length-zip2 bit_and (zip2 bit_xor x y) (zip2 bit_xor y z) (omega arith) ∙ lxy in
    rw (
      word_zip bit_xor y (zip2 bit_and (zip2 bit_xor x y) (zip2 bit_xor y z)) hy.0 la j lt,
      word_zip bit_and (zip2 bit_xor x y) (zip2 bit_xor y z) lxy lyz j lt,
      word_zip bit_xor x y hx.0 hy.0 j lt,
      word_zip bit_xor y z hy.0 hz.0 j lt,
    )
    (maj_short (slice_index x j) (slice_index y j) (slice_index z j))
