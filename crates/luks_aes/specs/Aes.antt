-- AES (FIPS 197) over lists of 16 elements of the field. Section numbers are the standard's.
use Rattle.std.specs.Prelude.{ℕ, zero, suc, ◌+◌, ◌-◌, ◌*◌, ◌/◌, ◌%◌, ◌==◌, nat_lt, ◌&&◌, if◌then◌else◌, List, [], ◌∷◌, ◌++◌, length, take, drop, map, slice_index, bit_xor}
use Rattle.std.specs.List.{range_with_len}
use Rattle.luks_aes.specs.Field.{gmul, gpower, sbox, inverse_sbox}

-- the byte in row r and column c of a state (3.4)
unfoldable pub byte_in : List ℕ → ℕ → ℕ → ℕ
byte_in s r c = slice_index s (r + 4 * c)

-- the state whose byte in row r and column c is f r c
unfoldable pub state_by : (ℕ → ℕ → ℕ) → List ℕ
state_by f = map (λ k. f (k % 4) (k / 4)) (range_with_len 0 16)

-- each byte through the S-box (5.1.1)
unfoldable pub sub_bytes : List ℕ → List ℕ
sub_bytes s = state_by (λ r c. sbox (byte_in s r c))

-- row r rotated to the left by r (5.1.2)
unfoldable pub shift_rows : List ℕ → List ℕ
shift_rows s = state_by (λ r c. byte_in s r ((c + r) % 4))

-- entry (r, k) of the circulant matrix with this first row
unfoldable pub circulant : List ℕ → ℕ → ℕ → ℕ
circulant row r k = slice_index row ((k + 4 - r) % 4)

-- entry r of the product of a matrix and a column, both given by their entries
unfoldable pub entry_of_product : (ℕ → ℕ → ℕ) → (ℕ → ℕ) → ℕ → ℕ
entry_of_product m x r =
    bit_xor (bit_xor (gmul (m r 0) (x 0)) (gmul (m r 1) (x 1)))
    (bit_xor (gmul (m r 2) (x 2)) (gmul (m r 3) (x 3)))

-- the matrix of MixColumns (5.1.3), and its inverse (5.3.3)
unfoldable pub mix_matrix : ℕ → ℕ → ℕ
mix_matrix = circulant (2 ∷ 3 ∷ 1 ∷ 1 ∷ [])

unfoldable pub inverse_mix_matrix : ℕ → ℕ → ℕ
inverse_mix_matrix = circulant (14 ∷ 11 ∷ 13 ∷ 9 ∷ [])

-- each column multiplied by the matrix (5.1.3)
unfoldable pub mix_columns : List ℕ → List ℕ
mix_columns s = state_by (λ r c. entry_of_product mix_matrix (λ k. byte_in s k c) r)

-- the sum of a state and a round key (5.1.4)
unfoldable pub add_round_key : List ℕ → List ℕ → List ℕ
add_round_key s k = state_by (λ r c. bit_xor (byte_in s r c) (byte_in k r c))

-- the inverses of the steps (5.3.1 to 5.3.3); the sum with a round key is its own inverse
unfoldable pub inverse_sub_bytes : List ℕ → List ℕ
inverse_sub_bytes s = state_by (λ r c. inverse_sbox (byte_in s r c))

unfoldable pub inverse_shift_rows : List ℕ → List ℕ
inverse_shift_rows s = state_by (λ r c. byte_in s r ((c + 4 - r) % 4))

unfoldable pub inverse_mix_columns : List ℕ → List ℕ
inverse_mix_columns s = state_by (λ r c. entry_of_product inverse_mix_matrix (λ k. byte_in s k c) r)

-- word i of a key schedule, 4 bytes (5.2)
unfoldable pub word : List ℕ → ℕ → List ℕ
word w i = take 4 (drop (4 * i) w)

-- the word whose bytes are f 0 to f 3
unfoldable pub word_by : (ℕ → ℕ) → List ℕ
word_by f = map f (range_with_len 0 4)

-- RotWord, SubWord and Rcon (5.2)
unfoldable pub rot_word : List ℕ → List ℕ
rot_word t = word_by (λ k. slice_index t ((k + 1) % 4))

unfoldable pub sub_word : List ℕ → List ℕ
sub_word t = word_by (λ k. sbox (slice_index t k))

unfoldable pub round_constant : ℕ → List ℕ
round_constant j = gpower (j - 1) ∷ 0 ∷ 0 ∷ 0 ∷ []

unfoldable pub word_xor : List ℕ → List ℕ → List ℕ
word_xor t v = word_by (λ k. bit_xor (slice_index t k) (slice_index v k))

-- temp of word i, from word i - 1, before it is added to word i - nk, for a key of nk words (5.2)
unfoldable pub temp_word : ℕ → ℕ → List ℕ → List ℕ
temp_word nk i t =
    if i % nk == 0 then word_xor (sub_word (rot_word t)) (round_constant (i / nk))
    else (if nat_lt 6 nk && (i % nk == 4) then sub_word t else t)

-- the key's nk words and the n words after them (5.2)
unfoldable pub schedule : ℕ → List ℕ → ℕ → List ℕ
schedule nk key zero = key
schedule nk key (suc n) =
    let w = schedule nk key n in
    w ++ word_xor (word w n) (temp_word nk (nk + n) (word w (nk + n - 1)))

-- the round key of round i: words 4 i to 4 i + 3
unfoldable pub round_key : List ℕ → ℕ → List ℕ
round_key w i = take 16 (drop (16 * i) w)

-- the state after the first round key and n whole rounds (5.1)
unfoldable pub state_after : List ℕ → ℕ → List ℕ → List ℕ
state_after w zero s = add_round_key s (round_key w 0)
state_after w (suc n) s =
    add_round_key (mix_columns (shift_rows (sub_bytes (state_after w n s)))) (round_key w (suc n))

-- the cipher of n whole rounds and the last one, which mixes no columns (5.1)
unfoldable pub cipher : List ℕ → ℕ → List ℕ → List ℕ
cipher w n s = add_round_key (shift_rows (sub_bytes (state_after w n s))) (round_key w (n + 1))

-- n whole rounds and the first round key undone, from the last of them back (5.3)
unfoldable pub state_before : List ℕ → ℕ → List ℕ → List ℕ
state_before w zero s = add_round_key s (round_key w 0)
state_before w (suc n) s =
    let unmixed = inverse_mix_columns (add_round_key s (round_key w (suc n))) in
    state_before w n (inverse_sub_bytes (inverse_shift_rows unmixed))

-- the inverse cipher (5.3)
unfoldable pub inverse_cipher : List ℕ → ℕ → List ℕ → List ℕ
inverse_cipher w n s =
    let last = add_round_key s (round_key w (n + 1)) in
    state_before w n (inverse_sub_bytes (inverse_shift_rows last))

-- the words of a key, 4, 6 or 8 of them, and the whole schedule: 4 words for each of nk + 7 round keys
unfoldable pub key_words : List ℕ → ℕ
key_words key = length key / 4

unfoldable pub key_schedule : List ℕ → List ℕ
key_schedule key = schedule (key_words key) key (3 * key_words key + 28)

-- AES of a block under a key of 16, 24 or 32 bytes, 10, 12 or 14 rounds (5, 5.1), and its inverse (5.3)
unfoldable pub Aes : List ℕ → List ℕ → List ℕ
Aes key block = cipher (key_schedule key) (key_words key + 5) block

unfoldable pub AesInverse : List ℕ → List ℕ → List ℕ
AesInverse key block = inverse_cipher (key_schedule key) (key_words key + 5) block
