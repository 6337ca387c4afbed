-- A turn on words is HMAC on their bytes.
use Rattle.std.proofs.Common.{◌≡◌, ℕ, zero, suc, ◌<◌, ◌≤◌, ◌+◌, ◌-◌, ◌*◌, ◌/◌, ◌^◌, List, [], ◌∷◌, ◌++◌, length, take, drop, map, slice_index, bit_xor, arith, refl, sym, ap, ap₂, ◌∙◌, length-append, w32}
use Rattle.std.specs.Int.{to_be_bytes}
use Rattle.std.proofs.lemmas.Nat.{xor_mod, xor_shr}
use Rattle.std.proofs.lemmas.List.{take-append-le, drop-append-le, take_all, drop_all, append_assoc, length-map}
use Rattle.sha2.specs.Sha256.{compress, digest_bytes, hash_after, initial_hash_256, padded_message, padding, sha256}
use Rattle.luks_rounds.specs.Pair.{last_block}
use Rattle.luks_lanes.specs.Turns.{hmac, turn, turns_xored, xor_bytes}

-- each word has four bytes
pub length-digest_bytes : (h : List ℕ) (n : ℕ) → length (digest_bytes h n) ≡ n * 4
unfolding digest_bytes
length-digest_bytes h zero = refl
length-digest_bytes h (suc n) =
    let last : length (to_be_bytes w32 (slice_index h n)) ≡ 4 = refl in
    omega (arith, length-digest_bytes h n, last, length-append (digest_bytes h n) (to_be_bytes w32 (slice_index h n)))

-- the hash value after two blocks
two_blocks : (ini p q : List ℕ) → length p ≡ 64 → length q ≡ 64 → hash_after ini (p ++ q) 2 ≡ compress (compress ini p) q
unfolding hash_after
two_blocks ini p q lp lq =
    let first : take 64 (p ++ q) ≡ p = take-append-le 64 p q (omega arith) ∙ take_all 64 p (omega arith) in
    let rest : drop 64 (p ++ q) ≡ q = drop-append-le 64 p q (omega arith) ∙ ap (λ (l : List ℕ). l ++ q) (drop_all 64 p (omega arith)) in
    let second : take 64 (drop 64 (p ++ q)) ≡ q = ap (take 64) rest ∙ take_all 64 q (omega arith) in
    ap₂ compress (ap (compress ini) first) second

-- the hash of a block and eight words
sha256_two : (p h : List ℕ) → length p ≡ 64
    → sha256 (p ++ digest_bytes h 8) ≡ digest_bytes (compress (compress initial_hash_256 p) (last_block h)) 8
unfolding sha256
sha256_two p h lp =
    let d = digest_bytes h 8 in
    let ld : length d ≡ 32 = length-digest_bytes h 8 in
    let lm : length (p ++ d) ≡ 96 = omega (arith, length-append p d) in
    let pads : length (padding 96) ≡ 32 = refl in
    let lq : length (last_block h) ≡ 64 = omega (arith, length-append d (padding 96)) in
    let whole : padded_message (p ++ d) ≡ p ++ last_block h =
    ap (λ n. (p ++ d) ++ padding n) lm ∙ append_assoc p d (padding 96) in
    let count : length (p ++ last_block h) / 64 ≡ 2 = omega (arith, length-append p (last_block h)) in
    ap (λ x. digest_bytes x 8) (ap (λ m. hash_after initial_hash_256 m (length m / 64)) whole
    ∙ ap (hash_after initial_hash_256 (p ++ last_block h)) count
    ∙ two_blocks initial_hash_256 p (last_block h) lp lq)

-- HMAC of eight words, from the states after the key's block
pub hmac_words : (key i o t : List ℕ) → length key ≡ 64
    → i ≡ compress initial_hash_256 (map (bit_xor 0x36) key)
    → o ≡ compress initial_hash_256 (map (bit_xor 0x5C) key)
    → hmac sha256 key (digest_bytes t 8) ≡ digest_bytes (compress o (last_block (compress i (last_block t)))) 8
hmac_words key i o t lk ei eo =
    let padded = λ (pad : ℕ). length-map key (bit_xor pad) ∙ lk in
    rw (ei, eo) (ap (λ (d : List ℕ). sha256 (map (bit_xor 0x5C) key ++ d)) (sha256_two (map (bit_xor 0x36) key) t (padded 0x36))
    ∙ sha256_two (map (bit_xor 0x5C) key) _ (padded 0x5C))

-- the exclusive or of lists that are joined
pub xor_append : (a b c d : List ℕ) → length a ≡ length b → xor_bytes (a ++ c) (b ++ d) ≡ xor_bytes a b ++ xor_bytes c d
unfolding xor_bytes
xor_append [] [] c d h = refl
xor_append [] (y ∷ ys) c d h = absurd (omega arith)
xor_append (x ∷ xs) [] c d h = absurd (omega arith)
xor_append (x ∷ xs) (y ∷ ys) c d h = ap (λ (l : List ℕ). bit_xor x y ∷ l) (xor_append xs ys c d (omega arith))

-- the bytes of an exclusive or
to_be_xor : (x y : ℕ) → to_be_bytes w32 (bit_xor x y) ≡ xor_bytes (to_be_bytes w32 x) (to_be_bytes w32 y)
unfolding xor_bytes
to_be_xor x y =
    rw (
      xor_shr x y 24,
      xor_shr x y 16,
      xor_shr x y 8,
      xor_mod (x / 2 ^ 24) (y / 2 ^ 24) 8,
      xor_mod (x / 2 ^ 16) (y / 2 ^ 16) 8,
      xor_mod (x / 2 ^ 8) (y / 2 ^ 8) 8,
      xor_mod x y 8,
    ) refl

-- the bytes of n words xored
pub digest_xor : (a b c : List ℕ) (n : ℕ) → ((k : ℕ) → k < n → slice_index c k ≡ bit_xor (slice_index a k) (slice_index b k))
    → digest_bytes c n ≡ xor_bytes (digest_bytes a n) (digest_bytes b n)
unfolding digest_bytes xor_bytes
digest_xor a b c zero h = refl
digest_xor a b c (suc n) h =
    let before = digest_xor a b c n (λ k lt. h k (omega arith)) in
    let word = ap (to_be_bytes w32) (h n (omega arith)) ∙ to_be_xor (slice_index a n) (slice_index b n) in
    let same : length (digest_bytes a n) ≡ length (digest_bytes b n) = length-digest_bytes a n ∙ sym (length-digest_bytes b n) in
    ap₂ (λ (s t : List ℕ). s ++ t) before word
    ∙ sym (xor_append (digest_bytes a n) (digest_bytes b n) (to_be_bytes w32 (slice_index a n)) (to_be_bytes w32 (slice_index b n)) same)

-- each number below eight
pub below_eight : (P : ℕ → Type 0) → P 0 → P 1 → P 2 → P 3 → P 4 → P 5 → P 6 → P 7 → (j : ℕ) → j < 8 → P j
below_eight P p0 p1 p2 p3 p4 p5 p6 p7 zero h = p0
below_eight P p0 p1 p2 p3 p4 p5 p6 p7 (suc zero) h = p1
below_eight P p0 p1 p2 p3 p4 p5 p6 p7 (suc (suc zero)) h = p2
below_eight P p0 p1 p2 p3 p4 p5 p6 p7 (suc (suc (suc zero))) h = p3
below_eight P p0 p1 p2 p3 p4 p5 p6 p7 (suc (suc (suc (suc zero)))) h = p4
below_eight P p0 p1 p2 p3 p4 p5 p6 p7 (suc (suc (suc (suc (suc zero))))) h = p5
below_eight P p0 p1 p2 p3 p4 p5 p6 p7 (suc (suc (suc (suc (suc (suc zero)))))) h = p6
below_eight P p0 p1 p2 p3 p4 p5 p6 p7 (suc (suc (suc (suc (suc (suc (suc zero))))))) h = p7
below_eight P p0 p1 p2 p3 p4 p5 p6 p7 (suc (suc (suc (suc (suc (suc (suc (suc n)))))))) h = absurd (omega arith)

-- one turn more
pub turns_step : (prf : List ℕ → List ℕ) (first last next before after : List ℕ) (count : ℕ) → 1 ≤ count
    → last ≡ turn prf first (count - 1) → before ≡ turns_xored prf first (count - 1)
    → next ≡ prf last → after ≡ xor_bytes before next
    → (next ≡ turn prf first (count + 1 - 1)) × (after ≡ turns_xored prf first (count + 1 - 1))
unfolding turn turns_xored
turns_step prf first last next before after count some is_last is_before is_next is_after =
    let more : count + 1 - 1 ≡ suc (count - 1) = omega arith in
    let made : next ≡ prf (turn prf first (count - 1)) = is_next ∙ ap prf is_last in
    rw more (made, is_after ∙ ap (λ l. xor_bytes l next) is_before ∙ ap (xor_bytes _) made)
