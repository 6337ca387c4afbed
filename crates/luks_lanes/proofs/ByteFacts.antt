-- Words and their bytes.
use Rattle.std.proofs.Common.{◌≡◌, ℕ, zero, suc, ◌+◌, ◌*◌, ◌<◌, ◌≤◌, List, [], ◌∷◌, ◌++◌, length, take, drop, get_or, slice_index, refl, ap, ap₂, sym, ◌∙◌, arith, add-one, w32}
use Rattle.std.specs.Int.{to_be_bytes}
use Rattle.std.proofs.Math.Seq.{drop-cons, take-add}
use Rattle.std.proofs.lemmas.Nat.{be_bytes_4}
use Rattle.std.proofs.lemmas.List.{drop-drop}
use Rattle.sha1.specs.Sha1 as Sha1
use Rattle.sha2.specs.Sha256.{digest_bytes, word_at}

-- a list from a place on
from : (xs : List ℕ) (i : ℕ) → i < length xs → drop i xs ≡ get_or xs i 0 ∷ drop (i + 1) xs
from xs i lt = rw add-one (drop-cons xs i 0 lt)

-- four of a list
pub four_at : (xs : List ℕ) (i : ℕ) → i + 4 ≤ length xs
    → take 4 (drop i xs) ≡ get_or xs i 0 ∷ get_or xs (i + 1) 0 ∷ get_or xs (i + 2) 0 ∷ get_or xs (i + 3) 0 ∷ []
four_at xs i le =
    let at : (k n : ℕ) → k ≡ n → drop k xs ≡ drop n xs = λ k n e. ap (λ m. drop m xs) e in
    let a = from xs i (omega arith) in
    let b = from xs (i + 1) (omega arith) in
    let c = from xs (i + 2) (omega arith) in
    let d = from xs (i + 3) (omega arith) in
    rw a (ap (λ l. get_or xs i 0 ∷ take 3 l) b
    ∙ ap (λ l. get_or xs i 0 ∷ get_or xs (i + 1) 0 ∷ take 2 l) (at (i + 1 + 1) (i + 2) (omega arith) ∙ c)
    ∙ ap (λ l. get_or xs i 0 ∷ get_or xs (i + 1) 0 ∷ get_or xs (i + 2) 0 ∷ take 1 l) (at (i + 2 + 1) (i + 3) (omega arith) ∙ d))

-- each of four bytes
below_256 : (a b c d : ℕ) → a < 256 → b < 256 → c < 256 → d < 256
    → (k : ℕ) → get_or (a ∷ b ∷ c ∷ d ∷ []) k 0 < 256
below_256 a b c d ha hb hc hd zero = ha
below_256 a b c d ha hb hc hd (suc zero) = hb
below_256 a b c d ha hb hc hd (suc (suc zero)) = hc
below_256 a b c d ha hb hc hd (suc (suc (suc zero))) = hd
below_256 a b c d ha hb hc hd (suc (suc (suc (suc k)))) = omega arith

-- the bytes of a word that was read
word_back : (bytes : List ℕ) (i : ℕ) → ((k : ℕ) → get_or bytes k 0 < 256) → i + 4 ≤ length bytes
    → to_be_bytes w32 (word_at bytes i) ≡ take 4 (drop i bytes)
word_back bytes i small le =
    let four = get_or bytes i 0 ∷ get_or bytes (i + 1) 0 ∷ get_or bytes (i + 2) 0 ∷ get_or bytes (i + 3) 0 ∷ [] in
    let fits : (k : ℕ) → get_or four k 0 < 256 = below_256 _ _ _ _ (small i) (small (i + 1)) (small (i + 2)) (small (i + 3)) in
    be_bytes_4 four _ refl fits refl ∙ sym (four_at bytes i le)

-- the bytes of the words that were read are those that they were read from
pub words_read : (bytes words : List ℕ) → ((i : ℕ) → get_or bytes i 0 < 256) → (at n : ℕ) → at + n * 4 ≤ length bytes
    → ((k : ℕ) → k < n → slice_index words k ≡ word_at bytes (at + k * 4)) → digest_bytes words n ≡ take (n * 4) (drop at bytes)
unfolding digest_bytes
words_read bytes words small at zero le read = refl
words_read bytes words small at (suc n) le read =
    let before = words_read bytes words small at n (omega arith) (λ k lt. read k (omega arith)) in
    let last = ap (to_be_bytes w32) (read n (omega arith)) ∙ word_back bytes (at + n * 4) small (omega arith)
    ∙ ap (take 4) (sym (drop-drop (n * 4) at bytes)) in
    let more : suc n * 4 ≡ n * 4 + 4 = omega arith in
    ap₂ (λ (s t : List ℕ). s ++ t) before last ∙ sym (take-add (n * 4) 4 (drop at bytes)) ∙ ap (λ k. take k (drop at bytes)) (sym more)

-- the two hashes' bytes of words are the same
pub same_bytes : (h : List ℕ) (n : ℕ) → Sha1.digest_bytes h n ≡ digest_bytes h n
unfolding Sha1.digest_bytes digest_bytes
same_bytes h zero = refl
same_bytes h (suc n) = ap (λ (l : List ℕ). l ++ to_be_bytes w32 (slice_index h n)) (same_bytes h n)
