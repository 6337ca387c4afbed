use Rattle.std.proofs.Common.{◌≡◌, ◌+◌, ◌*◌, ◌/◌, ◌⊎◌, List, ℕ, length, take, drop, ◌++◌, sym, ap, ◌∙◌, arith, inl, inr, ⊎_elim}
use Rattle.std.proofs.lemmas.List.{take-take, take_at}
use Rattle.luks_aes.specs.Aes.{schedule}
use Rattle.luks_aes.proofs.KeyFacts.{schedule-front}
use Rattle.luks_aes.proofs.key_schedule.expand_key.Goals as goal

-- the lengths of keys
abbrev IsKeySize : ℕ → Type 0
IsKeySize n = (n ≡ 16) ⊎ ((n ≡ 24) ⊎ (n ≡ 32))

-- the words of the key, and their bytes
whole_words : (key : List ℕ) → IsKeySize (length key) → 4 * (length key / 4) ≡ length key
whole_words key size =
    ⊎_elim (λ (h : length key ≡ 16). omega arith)
    (λ (t : (length key ≡ 24) ⊎ (length key ≡ 32)). ⊎_elim (λ (h : length key ≡ 24). omega arith) (λ (h : length key ≡ 32). omega arith) t) size

-- the key before its expansion
key_written : (key part rest : List ℕ) → IsKeySize (length key) → part ≡ key → take (4 * (length key / 4)) (part ++ rest) ≡ key
key_written key part rest size h =
    ap (λ (p : List ℕ). take (4 * (length key / 4)) (p ++ rest)) h ∙ take_at key rest (4 * (length key / 4)) (sym (whole_words key size))

-- and after it
key_in_front : (n : ℕ) (key words : List ℕ) → 4 * n ≡ length key
    → take (16 * n + 112) words ≡ schedule n key (3 * n + 28) → take (4 * n) words ≡ key
key_in_front n key words long e =
    sym (take-take (4 * n) (16 * n + 112) words (omega arith))
    ∙ ap (take (4 * n)) e
    ∙ ap (λ (m : ℕ). take m (schedule n key (3 * n + 28))) long
    ∙ schedule-front n key (3 * n + 28)

pub returns-clause-key : goal.returns-clause-key
returns-clause-key c =
    let key = c.args.key.now in
    let n = length key / 4 in
    let written = key_written key c.copy_from_slice.new.self (drop (length key) c.args.words.now) c.requires.key c.copy_from_slice.ensures.after in
    key_in_front n key c.add_words.new.words (whole_words key c.requires.key) (c.add_words.ensures ∙ ap (λ k. schedule n k (3 * n + 28)) written)

pub returns-clause-expanded : goal.returns-clause-expanded
returns-clause-expanded c =
    let key = c.args.key.now in
    let n = length key / 4 in
    let written = key_written key c.copy_from_slice.new.self (drop (length key) c.args.words.now) c.requires.key c.copy_from_slice.ensures.after in
    let made = c.add_words.ensures ∙ ap (λ k. schedule n k (3 * n + 28)) written in
    record {
      known_size =
          ⊎_elim (λ (h : length key ≡ 16). inl (omega arith))
          (λ (t : (length key ≡ 24) ⊎ (length key ≡ 32)). inr (⊎_elim (λ (h : length key ≡ 24). inl (omega arith)) (λ (h : length key ≡ 32). inr (omega arith)) t))
          c.requires.key;
      long = omega (arith, c.add_words.auto.words);
      bytes = λ k. (c.type_inv.words k).fits;
      expanded = made ∙ ap (λ k. schedule n k (3 * n + 28)) (sym (key_in_front n key c.add_words.new.words (whole_words key c.requires.key) made));
    }
