-- What the words of a key give: AES under the key at their front.
use Rattle.std.proofs.Common.{◌≡◌, ◌⊎◌, ℕ, zero, suc, ◌+◌, ◌-◌, ◌*◌, ◌/◌, ◌≤◌, List, length, take, drop, sym, ap, ap₂, ◌∙◌, arith, ⊎_elim}
use Rattle.std.proofs.lemmas.List.{length-take-le, take-take, drop-take, take-append-le, take_all, length-append}
use Rattle.luks_aes.specs.Aes.{add_round_key, sub_bytes, shift_rows, mix_columns, inverse_sub_bytes, inverse_shift_rows, inverse_mix_columns, round_key, state_after, cipher, state_before, inverse_cipher, schedule, key_schedule, key_words, Aes, AesInverse}
use Rattle.luks_aes.specs.Keys.{IsExpanded, key_bytes}

-- a round key that lies in the front of the words
round_key-take : (w : List ℕ) (n i : ℕ) → 16 * i + 16 ≤ n → round_key (take n w) i ≡ round_key w i
unfolding round_key
round_key-take w n i h =
    let rest : n ≡ 16 * i + (n - 16 * i) = omega arith in
    ap (λ (k : ℕ). take 16 (drop (16 * i) (take k w))) rest
    ∙ ap (take 16) (drop-take (16 * i) (n - 16 * i) w)
    ∙ take-take 16 (n - 16 * i) (drop (16 * i) w) (omega arith)

-- rounds by the front of the words
state_after-take : (w : List ℕ) (n m : ℕ) (s : List ℕ) → 16 * m + 16 ≤ n → state_after (take n w) m s ≡ state_after w m s
unfolding state_after
state_after-take w n zero s h = ap (add_round_key s) (round_key-take w n 0 (omega arith))
state_after-take w n (suc m) s h =
    ap₂ (λ (t k : List ℕ). add_round_key (mix_columns (shift_rows (sub_bytes t))) k)
    (state_after-take w n m s (omega arith)) (round_key-take w n (suc m) h)

-- the cipher by the front of the words
cipher-take : (w : List ℕ) (n m : ℕ) (s : List ℕ) → 16 * m + 32 ≤ n → cipher (take n w) m s ≡ cipher w m s
unfolding cipher
cipher-take w n m s h =
    ap₂ (λ (t k : List ℕ). add_round_key (shift_rows (sub_bytes t)) k)
    (state_after-take w n m s (omega arith)) (round_key-take w n (m + 1) (omega arith))

-- rounds undone by the front of the words
state_before-take : (w : List ℕ) (n m : ℕ) (s : List ℕ) → 16 * m + 16 ≤ n → state_before (take n w) m s ≡ state_before w m s
unfolding state_before
state_before-take w n zero s h = ap (add_round_key s) (round_key-take w n 0 (omega arith))
state_before-take w n (suc m) s h =
    state_before-take w n m _ (omega arith)
    ∙ ap (λ (k : List ℕ). state_before w m (inverse_sub_bytes (inverse_shift_rows (inverse_mix_columns (add_round_key s k))))) (round_key-take w n (suc m) h)

-- the inverse cipher by the front of the words
inverse_cipher-take : (w : List ℕ) (n m : ℕ) (s : List ℕ) → 16 * m + 32 ≤ n → inverse_cipher (take n w) m s ≡ inverse_cipher w m s
unfolding inverse_cipher
inverse_cipher-take w n m s h =
    state_before-take w n m _ (omega arith)
    ∙ ap (λ (k : List ℕ). state_before w m (inverse_sub_bytes (inverse_shift_rows (add_round_key s k)))) (round_key-take w n (m + 1) (omega arith))

module _ (nk : ℕ) (words : List ℕ) (e : IsExpanded nk words) where
  -- the length of the key's bytes
  length-key : length (key_bytes nk words) ≡ 4 * nk
  length-key =
      let long = e.long in
      length-take-le (4 * nk) words (⊎_elim (λ (h : nk ≡ 4). omega arith) (λ (t : (nk ≡ 6) ⊎ (nk ≡ 8)). ⊎_elim (λ (h : nk ≡ 6). omega arith) (λ (h : nk ≡ 8). omega arith) t) e.known_size)

  -- how many words they are
  pub words_of_key : key_words (key_bytes nk words) ≡ nk
  unfolding key_words
  words_of_key = ap (λ (n : ℕ). n / 4) length-key ∙ omega arith

  -- the front of the words is the key's schedule
  schedule_of_key : take (16 * nk + 112) words ≡ key_schedule (key_bytes nk words)
  unfolding key_schedule
  schedule_of_key = e.expanded ∙ ap (λ (n : ℕ). schedule n (key_bytes nk words) (3 * n + 28)) (sym words_of_key)

  -- the cipher by the words is AES
  pub aes_of_words : (s : List ℕ) → cipher words (nk + 5) s ≡ Aes (key_bytes nk words) s
  unfolding Aes
  aes_of_words s =
      sym (cipher-take words (16 * nk + 112) (nk + 5) s (omega arith))
      ∙ ap₂ (λ (w : List ℕ) (n : ℕ). cipher w (n + 5) s) schedule_of_key (sym words_of_key)

  -- the inverse cipher by the words is its inverse
  pub inverse_of_words : (s : List ℕ) → inverse_cipher words (nk + 5) s ≡ AesInverse (key_bytes nk words) s
  unfolding AesInverse
  inverse_of_words s =
      sym (inverse_cipher-take words (16 * nk + 112) (nk + 5) s (omega arith))
      ∙ ap₂ (λ (w : List ℕ) (n : ℕ). inverse_cipher w (n + 5) s) schedule_of_key (sym words_of_key)

-- the key stays at the front of its schedule
long_schedule : (nk : ℕ) (key : List ℕ) (n : ℕ) → length key ≤ length (schedule nk key n)
unfolding schedule
long_schedule nk key zero = omega arith
long_schedule nk key (suc n) = omega (arith, long_schedule nk key n, length-append {A = ℕ})

-- the key, from its schedule
pub schedule-front : (nk : ℕ) (key : List ℕ) (n : ℕ) → take (length key) (schedule nk key n) ≡ key
unfolding schedule
schedule-front nk key zero = take_all (length key) key (omega arith)
schedule-front nk key (suc n) = take-append-le (length key) (schedule nk key n) _ (long_schedule nk key n) ∙ schedule-front nk key n
