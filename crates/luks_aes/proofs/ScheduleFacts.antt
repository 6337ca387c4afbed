-- The key schedule, one word at a time.
use Rattle.std.proofs.Common.{◌≡◌, ℕ, suc, ◌+◌, ◌-◌, ◌*◌, ◌/◌, ◌%◌, ◌<◌, ◌≤◌, Bool, cond, ◌&&◌, eqb, ltb, List, [], ◌∷◌, ◌++◌, length, take, drop, slice_index, sym, ap, ap₂, ◌∙◌, refl, arith}
use Rattle.std.proofs.lemmas.Bool.{eq-eqb, ne_eqb, lt-ltb, le-ltb}
use Rattle.std.proofs.Math.Seq.{drop-append_seam}
use Rattle.std.proofs.lemmas.List.{length-take, length-drop, take-take, drop-take, take_all}
use Rattle.std.proofs.lemmas.List.FromFn.{fill_by_all}
use Rattle.std.proofs.lemmas.Slice.{take-put_mid}
use borrow.Rule.Slice.PartMut.{put_mid}
use Rattle.std.specs.Int.Bits.{bit_xor, xor_zero_r}
use Rattle.luks_aes.specs.Field.{sbox, gpower}
use Rattle.luks_aes.specs.Aes.{word, word_by, rot_word, sub_word, round_constant, word_xor, temp_word, schedule}

-- at a multiple of nk: rotated, through the S-box, and the constant added
pub temp_word_at_multiple : (nk i : ℕ) (t : List ℕ) → i % nk ≡ 0
    → temp_word nk i t ≡ bit_xor (sbox (slice_index t 1)) (gpower (i / nk - 1)) ∷ sbox (slice_index t 2) ∷ sbox (slice_index t 3) ∷ sbox (slice_index t 0) ∷ []
unfolding temp_word word_xor word_by sub_word rot_word round_constant
temp_word_at_multiple nk i t h =
    ap (λ (b : Bool). cond b (word_xor (sub_word (rot_word t)) (round_constant (i / nk))) (cond (ltb 6 nk && eqb (i % nk) 4) (sub_word t) t)) (eq-eqb (i % nk) 0 h)
    ∙ rw (xor_zero_r (sbox (slice_index t 2)), xor_zero_r (sbox (slice_index t 3)), xor_zero_r (sbox (slice_index t 0))) refl

-- for a key of 8 words, in the middle between two multiples: through the S-box
pub temp_word_in_middle : (nk i : ℕ) (t : List ℕ) → 6 < nk → i % nk ≡ 4
    → temp_word nk i t ≡ sbox (slice_index t 0) ∷ sbox (slice_index t 1) ∷ sbox (slice_index t 2) ∷ sbox (slice_index t 3) ∷ []
unfolding temp_word word_by sub_word
temp_word_in_middle nk i t long h =
    let other : i % nk ≡ 0 → ⊥ = λ z. absurd (omega arith) in
    ap (λ (b : Bool). cond b (word_xor (sub_word (rot_word t)) (round_constant (i / nk))) (cond (ltb 6 nk && eqb (i % nk) 4) (sub_word t) t)) (ne_eqb (i % nk) 0 other)
    ∙ ap₂ (λ (a b : Bool). cond (a && b) (sub_word t) t) (lt-ltb 6 nk long) (eq-eqb (i % nk) 4 h)

-- elsewhere: left as it is
pub temp_word_elsewhere_short : (nk i : ℕ) (t : List ℕ) → (i % nk ≡ 0 → ⊥) → nk ≤ 6 → temp_word nk i t ≡ t
unfolding temp_word
temp_word_elsewhere_short nk i t other short =
    ap (λ (b : Bool). cond b (word_xor (sub_word (rot_word t)) (round_constant (i / nk))) (cond (ltb 6 nk && eqb (i % nk) 4) (sub_word t) t)) (ne_eqb (i % nk) 0 other)
    ∙ ap (λ (a : Bool). cond (a && eqb (i % nk) 4) (sub_word t) t) (le-ltb 6 nk short)

-- the same for a key of 8 words
pub temp_word_elsewhere_long : (nk i : ℕ) (t : List ℕ) → (i % nk ≡ 0 → ⊥) → 6 < nk → (i % nk ≡ 4 → ⊥) → temp_word nk i t ≡ t
unfolding temp_word
temp_word_elsewhere_long nk i t other long h =
    ap (λ (b : Bool). cond b (word_xor (sub_word (rot_word t)) (round_constant (i / nk))) (cond (ltb 6 nk && eqb (i % nk) 4) (sub_word t) t)) (ne_eqb (i % nk) 0 other)
    ∙ ap₂ (λ (a b : Bool). cond (a && b) (sub_word t) t) (lt-ltb 6 nk long) (ne_eqb (i % nk) 4 h)

-- a part of the schedule as a word
word_is : (w : List ℕ) (i a e : ℕ) → a ≡ 4 * i → e ≡ a + 4 → take (e - a) (drop a w) ≡ word w i
unfolding word
word_is w i a e start end =
    let len : e - a ≡ 4 = omega arith in
    ap₂ (λ (n m : ℕ). take n (drop m w)) len start

-- a list of four elements, one by one
four : (xs : List ℕ) → length xs ≡ 4 → slice_index xs 0 ∷ slice_index xs 1 ∷ slice_index xs 2 ∷ slice_index xs 3 ∷ [] ≡ xs
four xs h = sym (fill_by_all (slice_index xs) xs 4 0 h (λ k low. refl))

-- the words that a new one is made of
pub next_word_is : (w turn : List ℕ) (nk i : ℕ) → turn ≡ temp_word nk i (word w (i - 1))
    → word_xor (take (4 * (i - nk) + 4 - 4 * (i - nk)) (drop (4 * (i - nk)) w)) turn ≡ word_xor (word w (i - nk)) (temp_word nk i (word w (i - 1)))
next_word_is w turn nk i turns = ap₂ word_xor (word_is w (i - nk) (4 * (i - nk)) (4 * (i - nk) + 4) refl refl) turns

-- a word of the front
word_in_front : (w : List ℕ) (n i : ℕ) → n ≡ 4 * i + 4 → word (take n w) i ≡ word w i
unfolding word
word_in_front w n i h =
    ap (λ (k : ℕ). take 4 (drop (4 * i) (take k w))) h
    ∙ ap (take 4) (drop-take (4 * i) 4 w)
    ∙ take-take 4 4 (drop (4 * i) w) (omega arith)

-- the last word of the front, byte by byte
pub last_word_is : (w : List ℕ) (n : ℕ) → 1 ≤ n → 4 * n ≤ length w
    → (let t = take (4 * n - (4 * n - 4)) (drop (4 * n - 4) w) in slice_index t 0 ∷ slice_index t 1 ∷ slice_index t 2 ∷ slice_index t 3 ∷ []) ≡ word (take (4 * n) w) (n - 1)
last_word_is w n one room =
    let t = take (4 * n - (4 * n - 4)) (drop (4 * n - 4) w) in
    let long : length t ≡ 4 = simp (length-take, length-drop) (omega arith) in
    four t long
    ∙ word_is w (n - 1) (4 * n - 4) (4 * n) (omega arith) (omega arith)
    ∙ sym (word_in_front w (4 * n) (n - 1) (omega arith))

-- the word that was written last
pub word_written : (i : ℕ) (words next : List ℕ) → 4 * i + 4 ≤ length words → length next ≡ 4
    → next ≡ word (take (4 * (i + 1)) (put_mid (4 * i) (4 * i + 4 - 4 * i) words next)) (i + 1 - 1)
unfolding word
word_written i words next room long =
    let front = take (4 * i) words in
    let lf : length front ≡ 4 * i = simp (length-take) (omega arith) in
    let same : i + 1 - 1 ≡ i = omega arith in
    sym (
    ap (λ (k : ℕ). take 4 (drop (4 * k) (take (4 * (i + 1)) (put_mid (4 * i) (4 * i + 4 - 4 * i) words next)))) same
    ∙ ap (λ (xs : List ℕ). take 4 (drop (4 * i) xs)) (take-put_mid (4 * i) (4 * i + 4 - 4 * i) words next (4 * (i + 1)) (omega arith) (omega arith))
    ∙ ap (take 4) (ap (λ (k : ℕ). drop k (front ++ next)) (sym lf) ∙ drop-append_seam front next)
    ∙ take_all 4 next (omega arith)
    )

-- one word more
schedule_more : (nk n i : ℕ) (key w next : List ℕ) → i ≡ nk + n → w ≡ schedule nk key n
    → next ≡ word_xor (word w (i - nk)) (temp_word nk i (word w (i - 1))) → w ++ next ≡ schedule nk key (suc n)
unfolding schedule
schedule_more nk n i key w next hi hw hn =
    let made : ℕ → ℕ → List ℕ → List ℕ = λ j k v. word_xor (word v j) (temp_word nk k (word v (k - 1))) in
    let back : i - nk ≡ n = omega arith in
    ap₂ (λ (a b : List ℕ). a ++ b) hw
    (hn ∙ ap₂ (λ (j : ℕ) (v : List ℕ). made j i v) back hw ∙ ap (λ (k : ℕ). made n k (schedule nk key n)) hi)

-- the same after the front of a list of words is read from it
pub schedule_step : (nk i : ℕ) (key words next : List ℕ) → 1 ≤ nk → nk ≤ i → 4 * i ≤ length words → length next ≡ 4
    → take (4 * i) words ≡ schedule nk key (i - nk)
    → next ≡ word_xor (word (take (4 * i) words) (i - nk)) (temp_word nk i (word (take (4 * i) words) (i - 1)))
    → take (4 * (i + 1)) (put_mid (4 * i) (4 * i + 4 - 4 * i) words next) ≡ schedule nk key (i + 1 - nk)
schedule_step nk i key words next one first room long so_far made =
    let steps : i + 1 - nk ≡ suc (i - nk) = omega arith in
    take-put_mid (4 * i) (4 * i + 4 - 4 * i) words next (4 * (i + 1)) (omega arith) room
    ∙ schedule_more nk (i - nk) i key (take (4 * i) words) next (omega arith) so_far made
    ∙ ap (schedule nk key) (sym steps)
