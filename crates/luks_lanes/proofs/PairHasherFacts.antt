-- Blocks that follow those of a message.
use Rattle.std.proofs.Common.{◌≡◌, ℕ, zero, suc, ◌+◌, ◌*◌, ◌<◌, List, [], ◌∷◌, ◌++◌, length, take, drop, slice_index, slice_set, inl, inr, refl, ap, ap₂, sym, ◌∙◌, arith}
use Rattle.std.proofs.lemmas.List.{drop-drop, drop_at, get_or-set_same, get_or-set_other, map-set, length-map}
use Rattle.std.proofs.lemmas.Bool.{cases_lt}
use Rattle.luks_rounds.specs.Pair.{window, word_of}
use Rattle.sha2.specs.Sha256.{compress, hash_after, word_at}
use Rattle.sha2.proofs.Absorbing256.{hash_after-append}

-- the hash value of whole blocks, and of blocks behind them
pub hash_after_both : (ini p q : List ℕ) (k m : ℕ) → length p ≡ k * 64 → hash_after (hash_after ini p k) q m ≡ hash_after ini (p ++ q) (k + m)
unfolding hash_after
hash_after_both ini p q k zero lp = sym (ap (hash_after ini (p ++ q)) (omega arith) ∙ hash_after-append ini p q k (omega arith))
hash_after_both ini p q k (suc m) lp =
    let more : k + suc m ≡ suc (k + m) = omega arith in
    let place : (k + m) * 64 ≡ k * 64 + m * 64 = omega arith in
    let rest : drop ((k + m) * 64) (p ++ q) ≡ drop (m * 64) q =
    ap (λ n. drop n (p ++ q)) place ∙ sym (drop-drop (m * 64) (k * 64) (p ++ q)) ∙ ap (drop (m * 64)) (drop_at p q (k * 64) lp) in
    ap₂ compress (hash_after_both ini p q k m lp) (ap (take 64) (sym rest)) ∙ ap (hash_after ini (p ++ q)) (sym more)

-- a list of eight words
eight_words : (xs : List ℕ) → length xs ≡ 8 → slice_index xs 0 ∷ slice_index xs 1 ∷ slice_index xs 2 ∷ slice_index xs 3
    ∷ slice_index xs 4 ∷ slice_index xs 5 ∷ slice_index xs 6 ∷ slice_index xs 7 ∷ [] ≡ xs
eight_words (a ∷ b ∷ c ∷ d ∷ e ∷ f ∷ g ∷ h ∷ []) l = refl
eight_words [] l = absurd (omega arith)
eight_words (a ∷ []) l = absurd (omega arith)
eight_words (a ∷ b ∷ []) l = absurd (omega arith)
eight_words (a ∷ b ∷ c ∷ []) l = absurd (omega arith)
eight_words (a ∷ b ∷ c ∷ d ∷ []) l = absurd (omega arith)
eight_words (a ∷ b ∷ c ∷ d ∷ e ∷ []) l = absurd (omega arith)
eight_words (a ∷ b ∷ c ∷ d ∷ e ∷ f ∷ []) l = absurd (omega arith)
eight_words (a ∷ b ∷ c ∷ d ∷ e ∷ f ∷ g ∷ []) l = absurd (omega arith)
eight_words (a ∷ b ∷ c ∷ d ∷ e ∷ f ∷ g ∷ h ∷ i ∷ xs) l = absurd (omega arith)

-- eight words that are those of a list
pub eight_are : (xs : List ℕ) (a b c d e f g h : ℕ) → length xs ≡ 8
    → a ≡ slice_index xs 0 → b ≡ slice_index xs 1 → c ≡ slice_index xs 2 → d ≡ slice_index xs 3
    → e ≡ slice_index xs 4 → f ≡ slice_index xs 5 → g ≡ slice_index xs 6 → h ≡ slice_index xs 7
    → a ∷ b ∷ c ∷ d ∷ e ∷ f ∷ g ∷ h ∷ [] ≡ xs
eight_are xs a b c d e f g h l ea eb ec ed ee ef eg eh = rw (ea, eb, ec, ed, ee, ef, eg, eh) (eight_words xs l)

-- one word more of a lane's window
pub window_more : (j : ℕ) (block : List ℕ) (w : List (List ℕ)) (x : List ℕ) (i : ℕ) → length w ≡ 16 → i < 16
    → word_of j x ≡ word_at block (4 * i) → ((k : ℕ) → k < i → slice_index (window j w) k ≡ word_at block (4 * k))
    → (k : ℕ) → k < i + 1 → slice_index (window j (slice_set w i x)) k ≡ word_at block (4 * k)
window_more j block w x i long below this before k lk =
    let long_window = length-map w (word_of j) in
    rw (map-set (word_of j) w i x) (elim (cases_lt k i) [
      | inl a ↦ get_or-set_other (window j w) i k (word_of j x) 0 (omega arith) ∙ before k a
      | inr b ↦
          let e : i ≡ k = omega arith in
          rw (← e) (get_or-set_same (window j w) i (word_of j x) 0 (omega (arith, long_window)) ∙ this)
    ])
