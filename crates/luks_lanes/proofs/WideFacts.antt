-- HMAC by SHA-512 on eight words is HMAC on their bytes.
use Rattle.std.proofs.Common.{◌≡◌, ℕ, zero, suc, ◌<◌, ◌≤◌, ◌+◌, ◌*◌, ◌/◌, ◌^◌, List, [], ◌∷◌, ◌++◌, length, take, drop, map, get_or, slice_index, bit_xor, arith, refl, sym, ap, ap₂, ◌∙◌, length-append, w64}
use Rattle.std.specs.Int.{to_be_bytes}
use Rattle.std.proofs.lemmas.List.{take-append-le, drop-append-le, take_all, drop_all, append_assoc, drop-drop, length-map}
use Rattle.std.proofs.lemmas.Nat.{be_bytes_8, xor_mod, xor_shr}
use Rattle.std.proofs.Math.Seq.{take-add}
use Rattle.sha2.specs.Sha512.{compress, digest_bytes, hash_after, initial_hash_512, padded_message, padding, sha512, word_at}
use Rattle.luks_rounds.specs.Wide.{last_block}
use Rattle.luks_lanes.specs.Turns.{hmac, xor_bytes}
use Rattle.luks_lanes.proofs.ByteFacts.{four_at}
use Rattle.luks_lanes.proofs.TurnFacts.{xor_append}

-- each word has eight bytes
pub length-wide : (h : List ℕ) (n : ℕ) → length (digest_bytes h n) ≡ n * 8
unfolding digest_bytes
length-wide h zero = refl
length-wide h (suc n) =
    let last : length (to_be_bytes w64 (slice_index h n)) ≡ 8 = refl in
    omega (arith, length-wide h n, last, length-append (digest_bytes h n) (to_be_bytes w64 (slice_index h n)))

-- the hash value after two blocks
two_blocks : (ini p q : List ℕ) → length p ≡ 128 → length q ≡ 128 → hash_after ini (p ++ q) 2 ≡ compress (compress ini p) q
unfolding hash_after
two_blocks ini p q lp lq =
    let first : take 128 (p ++ q) ≡ p = take-append-le 128 p q (omega arith) ∙ take_all 128 p (omega arith) in
    let rest : drop 128 (p ++ q) ≡ q = drop-append-le 128 p q (omega arith) ∙ ap (λ (l : List ℕ). l ++ q) (drop_all 128 p (omega arith)) in
    let second : take 128 (drop 128 (p ++ q)) ≡ q = ap (take 128) rest ∙ take_all 128 q (omega arith) in
    ap₂ compress (ap (compress ini) first) second

-- the hash of a block and eight words
sha512_two : (p h : List ℕ) → length p ≡ 128
    → sha512 (p ++ digest_bytes h 8) ≡ digest_bytes (compress (compress initial_hash_512 p) (last_block h)) 8
unfolding sha512
sha512_two p h lp =
    let d = digest_bytes h 8 in
    let ld : length d ≡ 64 = length-wide h 8 in
    let lm : length (p ++ d) ≡ 192 = omega (arith, length-append p d) in
    let pads : length (padding 192) ≡ 64 = refl in
    let lq : length (last_block h) ≡ 128 = omega (arith, length-append d (padding 192)) in
    let whole : padded_message (p ++ d) ≡ p ++ last_block h =
    ap (λ n. (p ++ d) ++ padding n) lm ∙ append_assoc p d (padding 192) in
    let count : length (p ++ last_block h) / 128 ≡ 2 = omega (arith, length-append p (last_block h)) in
    ap (λ x. digest_bytes x 8) (ap (λ m. hash_after initial_hash_512 m (length m / 128)) whole
    ∙ ap (hash_after initial_hash_512 (p ++ last_block h)) count
    ∙ two_blocks initial_hash_512 p (last_block h) lp lq)

-- HMAC of eight words, from the states after the key's block
pub hmac_wide : (key i o t : List ℕ) → length key ≡ 128
    → i ≡ compress initial_hash_512 (map (bit_xor 0x36) key)
    → o ≡ compress initial_hash_512 (map (bit_xor 0x5C) key)
    → hmac sha512 key (digest_bytes t 8) ≡ digest_bytes (compress o (last_block (compress i (last_block t)))) 8
hmac_wide key i o t lk ei eo =
    let padded = λ (pad : ℕ). length-map key (bit_xor pad) ∙ lk in
    rw (ei, eo) (ap (λ (d : List ℕ). sha512 (map (bit_xor 0x5C) key ++ d)) (sha512_two (map (bit_xor 0x36) key) t (padded 0x36))
    ∙ sha512_two (map (bit_xor 0x5C) key) _ (padded 0x5C))

-- the bytes of an exclusive or
to_be_xor : (x y : ℕ) → to_be_bytes w64 (bit_xor x y) ≡ xor_bytes (to_be_bytes w64 x) (to_be_bytes w64 y)
unfolding xor_bytes
to_be_xor x y =
    rw (
      xor_shr x y 56,
      xor_shr x y 48,
      xor_shr x y 40,
      xor_shr x y 32,
      xor_shr x y 24,
      xor_shr x y 16,
      xor_shr x y 8,
      xor_mod (x / 2 ^ 56) (y / 2 ^ 56) 8,
      xor_mod (x / 2 ^ 48) (y / 2 ^ 48) 8,
      xor_mod (x / 2 ^ 40) (y / 2 ^ 40) 8,
      xor_mod (x / 2 ^ 32) (y / 2 ^ 32) 8,
      xor_mod (x / 2 ^ 24) (y / 2 ^ 24) 8,
      xor_mod (x / 2 ^ 16) (y / 2 ^ 16) 8,
      xor_mod (x / 2 ^ 8) (y / 2 ^ 8) 8,
      xor_mod x y 8,
    ) refl

-- the bytes of n words xored
pub wide_xor : (a b c : List ℕ) (n : ℕ) → ((k : ℕ) → k < n → slice_index c k ≡ bit_xor (slice_index a k) (slice_index b k))
    → digest_bytes c n ≡ xor_bytes (digest_bytes a n) (digest_bytes b n)
unfolding digest_bytes xor_bytes
wide_xor a b c zero h = refl
wide_xor a b c (suc n) h =
    let before = wide_xor a b c n (λ k lt. h k (omega arith)) in
    let word = ap (to_be_bytes w64) (h n (omega arith)) ∙ to_be_xor (slice_index a n) (slice_index b n) in
    let same : length (digest_bytes a n) ≡ length (digest_bytes b n) = length-wide a n ∙ sym (length-wide b n) in
    ap₂ (λ (s t : List ℕ). s ++ t) before word
    ∙ sym (xor_append (digest_bytes a n) (digest_bytes b n) (to_be_bytes w64 (slice_index a n)) (to_be_bytes w64 (slice_index b n)) same)

-- eight of a list
eight_at : (xs : List ℕ) (i : ℕ) → i + 8 ≤ length xs
    → take 8 (drop i xs) ≡ get_or xs i 0 ∷ get_or xs (i + 1) 0 ∷ get_or xs (i + 2) 0 ∷ get_or xs (i + 3) 0
    ∷ get_or xs (i + 4) 0 ∷ get_or xs (i + 5) 0 ∷ get_or xs (i + 6) 0 ∷ get_or xs (i + 7) 0 ∷ []
eight_at xs i le =
    let same : (k n : ℕ) → k ≡ n → get_or xs k 0 ≡ get_or xs n 0 = λ k n e. ap (λ m. get_or xs m 0) e in
    let halves : take 8 (drop i xs) ≡ take 4 (drop i xs) ++ take 4 (drop (i + 4) xs) =
    take-add 4 4 (drop i xs) ∙ ap (λ l. take 4 (drop i xs) ++ take 4 l) (drop-drop 4 i xs) in
    halves ∙ rw (
      four_at xs i (omega arith),
      four_at xs (i + 4) (omega arith),
      same (i + 4 + 1) (i + 5) (omega arith),
      same (i + 4 + 2) (i + 6) (omega arith),
      same (i + 4 + 3) (i + 7) (omega arith),
    ) refl

-- each of eight bytes
below_256 : (xs : List ℕ) → ((k : ℕ) → get_or xs k 0 < 256) → (i : ℕ) (k : ℕ)
    → get_or (get_or xs i 0 ∷ get_or xs (i + 1) 0 ∷ get_or xs (i + 2) 0 ∷ get_or xs (i + 3) 0
    ∷ get_or xs (i + 4) 0 ∷ get_or xs (i + 5) 0 ∷ get_or xs (i + 6) 0 ∷ get_or xs (i + 7) 0 ∷ []) k 0 < 256
below_256 xs small i zero = small i
below_256 xs small i (suc zero) = small (i + 1)
below_256 xs small i (suc (suc zero)) = small (i + 2)
below_256 xs small i (suc (suc (suc zero))) = small (i + 3)
below_256 xs small i (suc (suc (suc (suc zero)))) = small (i + 4)
below_256 xs small i (suc (suc (suc (suc (suc zero))))) = small (i + 5)
below_256 xs small i (suc (suc (suc (suc (suc (suc zero)))))) = small (i + 6)
below_256 xs small i (suc (suc (suc (suc (suc (suc (suc zero))))))) = small (i + 7)
below_256 xs small i (suc (suc (suc (suc (suc (suc (suc (suc k)))))))) = omega arith

-- the bytes of a word that was read
word_back : (bytes : List ℕ) (i : ℕ) → ((k : ℕ) → get_or bytes k 0 < 256) → i + 8 ≤ length bytes
    → to_be_bytes w64 (word_at bytes i) ≡ take 8 (drop i bytes)
word_back bytes i small le =
    be_bytes_8 (get_or bytes i 0 ∷ get_or bytes (i + 1) 0 ∷ get_or bytes (i + 2) 0 ∷ get_or bytes (i + 3) 0
    ∷ get_or bytes (i + 4) 0 ∷ get_or bytes (i + 5) 0 ∷ get_or bytes (i + 6) 0 ∷ get_or bytes (i + 7) 0 ∷ [])
    _ refl (below_256 bytes small i) refl ∙ sym (eight_at bytes i le)

-- the bytes of the words that were read are those that they were read from
pub wide_read : (bytes words : List ℕ) → ((i : ℕ) → get_or bytes i 0 < 256) → (n : ℕ) → n * 8 ≤ length bytes
    → ((k : ℕ) → k < n → slice_index words k ≡ word_at bytes (k * 8)) → digest_bytes words n ≡ take (n * 8) bytes
unfolding digest_bytes
wide_read bytes words small zero le read = refl
wide_read bytes words small (suc n) le read =
    let before = wide_read bytes words small n (omega arith) (λ k lt. read k (omega arith)) in
    let last = ap (to_be_bytes w64) (read n (omega arith)) ∙ word_back bytes (n * 8) small (omega arith) in
    let more : suc n * 8 ≡ n * 8 + 8 = omega arith in
    ap₂ (λ (s t : List ℕ). s ++ t) before last ∙ sym (take-add (n * 8) 8 bytes) ∙ ap (λ k. take k bytes) (sym more)

-- the one number below one
pub below_one : (P : ℕ → Type 0) → P 0 → (j : ℕ) → j < 1 → P j
below_one P p0 zero h = p0
below_one P p0 (suc n) h = absurd (omega arith)
