-- HMAC by SHA-1 on five words is HMAC on their bytes.
use Rattle.std.proofs.Common.{◌≡◌, ℕ, zero, suc, ◌<◌, ◌*◌, ◌/◌, List, ◌++◌, length, take, drop, map, slice_index, bit_xor, arith, refl, sym, ap, ap₂, ◌∙◌, length-append}
use Rattle.std.proofs.lemmas.List.{take-append-le, drop-append-le, take_all, drop_all, append_assoc, length-map}
use Rattle.sha1.specs.Sha1.{compress, digest_bytes, hash_after, initial_hash, padded_message, padding, sha1}
use Rattle.luks_rounds.specs.Quad.{last_block}
use Rattle.luks_lanes.specs.Turns.{hmac, xor_bytes}
use Rattle.luks_lanes.proofs.ByteFacts.{same_bytes}
use Rattle.luks_lanes.proofs.TurnFacts.{digest_xor, length-digest_bytes}

-- each word has four bytes
pub length-words : (h : List ℕ) (n : ℕ) → length (digest_bytes h n) ≡ n * 4
length-words h n = ap length (same_bytes h n) ∙ length-digest_bytes h n

-- the hash value after two blocks
two_blocks : (p q : List ℕ) → length p ≡ 64 → length q ≡ 64 → hash_after (p ++ q) 2 ≡ compress (compress initial_hash p) q
unfolding hash_after
two_blocks p q lp lq =
    let first : take 64 (p ++ q) ≡ p = take-append-le 64 p q (omega arith) ∙ take_all 64 p (omega arith) in
    let rest : drop 64 (p ++ q) ≡ q = drop-append-le 64 p q (omega arith) ∙ ap (λ (l : List ℕ). l ++ q) (drop_all 64 p (omega arith)) in
    let second : take 64 (drop 64 (p ++ q)) ≡ q = ap (take 64) rest ∙ take_all 64 q (omega arith) in
    ap₂ compress (ap (compress initial_hash) first) second

-- the hash of a block and five words
sha1_two : (p h : List ℕ) → length p ≡ 64
    → sha1 (p ++ digest_bytes h 5) ≡ digest_bytes (compress (compress initial_hash p) (last_block h)) 5
unfolding sha1
sha1_two p h lp =
    let d = digest_bytes h 5 in
    let ld : length d ≡ 20 = length-words h 5 in
    let lm : length (p ++ d) ≡ 84 = omega (arith, length-append p d) in
    let pads : length (padding 84) ≡ 44 = refl in
    let lq : length (last_block h) ≡ 64 = omega (arith, length-append d (padding 84)) in
    let whole : padded_message (p ++ d) ≡ p ++ last_block h =
    ap (λ n. (p ++ d) ++ padding n) lm ∙ append_assoc p d (padding 84) in
    let count : length (p ++ last_block h) / 64 ≡ 2 = omega (arith, length-append p (last_block h)) in
    ap (λ x. digest_bytes x 5) (ap (λ m. hash_after m (length m / 64)) whole
    ∙ ap (hash_after (p ++ last_block h)) count
    ∙ two_blocks p (last_block h) lp lq)

-- HMAC of five words, from the states after the key's block
pub hmac_five : (key i o t : List ℕ) → length key ≡ 64
    → i ≡ compress initial_hash (map (bit_xor 0x36) key)
    → o ≡ compress initial_hash (map (bit_xor 0x5C) key)
    → hmac sha1 key (digest_bytes t 5) ≡ digest_bytes (compress o (last_block (compress i (last_block t)))) 5
hmac_five key i o t lk ei eo =
    let padded = λ (pad : ℕ). length-map key (bit_xor pad) ∙ lk in
    rw (ei, eo) (ap (λ (d : List ℕ). sha1 (map (bit_xor 0x5C) key ++ d)) (sha1_two (map (bit_xor 0x36) key) t (padded 0x36))
    ∙ sha1_two (map (bit_xor 0x5C) key) _ (padded 0x5C))

-- the bytes of n words xored
pub words_xor : (a b c : List ℕ) (n : ℕ) → ((k : ℕ) → k < n → slice_index c k ≡ bit_xor (slice_index a k) (slice_index b k))
    → digest_bytes c n ≡ xor_bytes (digest_bytes a n) (digest_bytes b n)
words_xor a b c n each =
    same_bytes c n ∙ digest_xor a b c n each ∙ ap₂ xor_bytes (sym (same_bytes a n)) (sym (same_bytes b n))

-- each number below five
pub below_five : (P : ℕ → Type 0) → P 0 → P 1 → P 2 → P 3 → P 4 → (j : ℕ) → j < 5 → P j
below_five P p0 p1 p2 p3 p4 zero h = p0
below_five P p0 p1 p2 p3 p4 (suc zero) h = p1
below_five P p0 p1 p2 p3 p4 (suc (suc zero)) h = p2
below_five P p0 p1 p2 p3 p4 (suc (suc (suc zero))) h = p3
below_five P p0 p1 p2 p3 p4 (suc (suc (suc (suc zero)))) h = p4
below_five P p0 p1 p2 p3 p4 (suc (suc (suc (suc (suc n))))) h = absurd (omega arith)
