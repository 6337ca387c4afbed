-- Lists of bytes.
use Rattle.std.proofs.Common.{ℕ, zero, suc, ◌+◌, ◌-◌, ◌*◌, ◌/◌, ◌%◌, ◌<◌, Bool, true, false, cond, ◌&&◌, eqb, ltb, List, [], ◌∷◌, ◌++◌, take, drop, map, slice_index, lit<}
use Rattle.std.specs.List.{range_with_len}
use Rattle.std.specs.Int.Bits.{xor_lt}
use Rattle.luks_aes.specs.States.{AreBytes}
use Rattle.luks_aes.specs.Field.{gmul, gpower}
use Rattle.luks_aes.specs.Aes.{state_by, word_by, word, rot_word, sub_word, round_constant, word_xor, temp_word, schedule, round_key, key_schedule, entry_of_product}
use Rattle.luks_aes.proofs.FieldFacts.{gmul-lt}
use Rattle.luks_aes.proofs.SboxFacts.{sbox-lt}

-- an element of two lists joined
front : (xs ys : List ℕ) → ((k : ℕ) → slice_index xs k < 256) → ((k : ℕ) → slice_index ys k < 256) → (k : ℕ) → slice_index (xs ++ ys) k < 256
front [] ys h i k = i k
front (x ∷ xs) ys h i zero = h 0
front (x ∷ xs) ys h i (suc k) = front xs ys (λ j. h (suc j)) i k

-- lists of bytes joined
bytes-append : (xs ys : List ℕ) → AreBytes xs → AreBytes ys → AreBytes (xs ++ ys)
bytes-append xs ys h i = record { at = front xs ys h.at i.at }

-- an element of a front
part : (n : ℕ) (xs : List ℕ) → ((k : ℕ) → slice_index xs k < 256) → (k : ℕ) → slice_index (take n xs) k < 256
part zero xs h k = lit< tt
part (suc n) [] h k = lit< tt
part (suc n) (x ∷ xs) h zero = h 0
part (suc n) (x ∷ xs) h (suc k) = part n xs (λ j. h (suc j)) k

-- the front of a list of bytes
pub bytes-take : (n : ℕ) (xs : List ℕ) → AreBytes xs → AreBytes (take n xs)
bytes-take n xs h = record { at = part n xs h.at }

-- an element of a rest
back : (n : ℕ) (xs : List ℕ) → ((k : ℕ) → slice_index xs k < 256) → (k : ℕ) → slice_index (drop n xs) k < 256
back zero xs h k = h k
back (suc n) [] h k = lit< tt
back (suc n) (x ∷ xs) h k = back n xs (λ j. h (suc j)) k

-- the rest of a list of bytes
pub bytes-drop : (n : ℕ) (xs : List ℕ) → AreBytes xs → AreBytes (drop n xs)
bytes-drop n xs h = record { at = back n xs h.at }

-- an element of a mapped list
mapped : (f : ℕ → ℕ) (xs : List ℕ) → ((x : ℕ) → f x < 256) → (k : ℕ) → slice_index (map f xs) k < 256
mapped f [] h k = lit< tt
mapped f (x ∷ xs) h zero = h x
mapped f (x ∷ xs) h (suc k) = mapped f xs h k

-- a state by its bytes
pub bytes-state_by : (f : ℕ → ℕ → ℕ) → ((r c : ℕ) → f r c < 256) → AreBytes (state_by f)
unfolding state_by
bytes-state_by f h = record { at = mapped (λ k. f (k % 4) (k / 4)) (range_with_len 0 16) (λ k. h (k % 4) (k / 4)) }

-- a word by its bytes
bytes-word_by : (f : ℕ → ℕ) → ((k : ℕ) → f k < 256) → AreBytes (word_by f)
unfolding word_by
bytes-word_by f h = record { at = mapped f (range_with_len 0 4) h }

-- a power of 02 is a byte
gpower-lt : (n : ℕ) → gpower n < 256
unfolding gpower
gpower-lt zero = lit< tt
gpower-lt (suc n) = gmul-lt 2 (gpower n) (gpower-lt n)

-- a word of a list of bytes
bytes-word : (w : List ℕ) (i : ℕ) → AreBytes w → AreBytes (word w i)
unfolding word
bytes-word w i h = bytes-take 4 (drop (4 * i) w) (bytes-drop (4 * i) w h)

-- the sum of two words
bytes-word_xor : (t v : List ℕ) → AreBytes t → AreBytes v → AreBytes (word_xor t v)
unfolding word_xor
bytes-word_xor t v h i = bytes-word_by _ (λ k. xor_lt 8 (slice_index t k) (slice_index v k) (h.at k) (i.at k))

-- a word through the S-box
bytes-sub_word : (t : List ℕ) → AreBytes t → AreBytes (sub_word t)
unfolding sub_word
bytes-sub_word t h = bytes-word_by _ (λ k. sbox-lt (slice_index t k) (h.at k))

-- a word rotated
bytes-rot_word : (t : List ℕ) → AreBytes t → AreBytes (rot_word t)
unfolding rot_word
bytes-rot_word t h = bytes-word_by _ (λ k. h.at ((k + 1) % 4))

-- an element of a round constant
constant : (x : ℕ) → x < 256 → (k : ℕ) → slice_index (x ∷ 0 ∷ 0 ∷ 0 ∷ []) k < 256
constant x h zero = h
constant x h (suc zero) = lit< tt
constant x h (suc (suc zero)) = lit< tt
constant x h (suc (suc (suc zero))) = lit< tt
constant x h (suc (suc (suc (suc k)))) = lit< tt

-- a round constant
bytes-round_constant : (j : ℕ) → AreBytes (round_constant j)
unfolding round_constant
bytes-round_constant j = record { at = constant (gpower (j - 1)) (gpower-lt (j - 1)) }

-- one of two lists of bytes
either_way : (b : Bool) (xs ys : List ℕ) → AreBytes xs → AreBytes ys → AreBytes (cond b xs ys)
either_way true xs ys h i = h
either_way false xs ys h i = i

-- a temp word
bytes-temp_word : (nk i : ℕ) (t : List ℕ) → AreBytes t → AreBytes (temp_word nk i t)
unfolding temp_word
bytes-temp_word nk i t h =
    either_way (eqb (i % nk) 0) _ _
    (bytes-word_xor _ _ (bytes-sub_word _ (bytes-rot_word t h)) (bytes-round_constant (i / nk)))
    (either_way (ltb 6 nk && eqb (i % nk) 4) _ _ (bytes-sub_word t h) h)

-- a schedule of bytes
bytes-schedule : (nk : ℕ) (key : List ℕ) (n : ℕ) → AreBytes key → AreBytes (schedule nk key n)
unfolding schedule
bytes-schedule nk key zero h = h
bytes-schedule nk key (suc n) h =
    let w = schedule nk key n in
    let before = bytes-schedule nk key n h in
    bytes-append w _ before (bytes-word_xor _ _ (bytes-word w n before) (bytes-temp_word nk (nk + n) _ (bytes-word w (nk + n - 1) before)))

-- a key's whole schedule
pub bytes-key_schedule : (key : List ℕ) → AreBytes key → AreBytes (key_schedule key)
unfolding key_schedule
bytes-key_schedule key h = bytes-schedule _ key _ h

-- a round key
pub bytes-round_key : (w : List ℕ) (i : ℕ) → AreBytes w → AreBytes (round_key w i)
unfolding round_key
bytes-round_key w i h = bytes-take 16 (drop (16 * i) w) (bytes-drop (16 * i) w h)

-- an entry of a product is a byte
pub entry-lt : (m : ℕ → ℕ → ℕ) (x : ℕ → ℕ) (r : ℕ) → ((k : ℕ) → x k < 256) → entry_of_product m x r < 256
unfolding entry_of_product
entry-lt m x r h =
    let at : (k : ℕ) → gmul (m r k) (x k) < 256 = λ k. gmul-lt (m r k) (x k) (h k) in
    xor_lt 8 _ _ (xor_lt 8 _ _ (at 0) (at 1)) (xor_lt 8 _ _ (at 2) (at 3))
