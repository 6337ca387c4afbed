-- How a hasher follows a message that grows.
use Rattle.std.proofs.Common.{◌≡◌, ℕ, ◌+◌, ◌-◌, ◌*◌, ◌%◌, ◌^◌, ◌<◌, false, true, List, [], ◌∷◌, ◌++◌, length, take, drop, replicate, slice_set, refl, sym, ap, ◌∙◌, arith, length-drop}
use Rattle.std.proofs.lemmas.List.{take-append-le, drop-append-le, drop_all, take_all, length_push, take_more_set}
use Rattle.luks_argon2.specs.Blake2b.{blake2b, compress, digest_bytes, final_hash, hash_after, before_last, initial, last_block}
use Rattle.luks_argon2.specs.Hasher.{Holds}
use Rattle.luks_argon2.specs.declared.hasher.Blake2b.{Blake2b}
use Rattle.luks_argon2.proofs.Blake2bFacts.{hash_after-append, hash_after_next, compress-count}

-- a new hasher holds the empty message
pub Holds_none : (n : ℕ) (s : Blake2b) → s.total ≡ 0 → s.used ≡ 0 → s.h ≡ initial n → Holds n s []
unfolding Holds hash_after
Holds_none n s total used h = (total, omega (arith, used), h, rw used refl)

-- a byte goes into the last block
pub Holds_more : (n : ℕ) (s t : Blake2b) (m : List ℕ) (x : ℕ) → Holds n s m → length s.buffer ≡ 128 → s.used < 128
    → t.total ≡ (s.total + 1) % 2 ^ 128 → t.used ≡ s.used + 1 → t.h ≡ s.h → t.buffer ≡ slice_set s.buffer s.used x
    → Holds n t (m ++ x ∷ [])
unfolding Holds
Holds_more n s t m x held long room total used h buffer =
    let q : ℕ = before_last (length m) in
    let len : length (m ++ x ∷ []) ≡ length m + 1 = length_push m x in
    let count : length m ≡ s.used + q * 128 = sym held.1 in
    let same : before_last (length (m ++ x ∷ [])) ≡ q = omega arith in
    let held_total = held.0 in
    let tail : take (s.used + 1) (slice_set s.buffer s.used x) ≡ drop (q * 128) (m ++ x ∷ []) =
    take_more_set s.buffer s.used x (omega arith) ∙ ap (λ (b : List ℕ). b ++ x ∷ []) held.3 ∙ sym (drop-append-le (q * 128) m (x ∷ []) (omega arith)) in (
      omega (arith, held_total, total, len),
      rw (same, used) (omega (arith, len, count)),
      rw (same, h) (held.2 ∙ sym (hash_after-append n m (x ∷ []) q (omega arith))),
      rw (same, used, buffer) tail,
    )

-- a byte begins the next block
pub Holds_full : (n : ℕ) (s t : Blake2b) (m : List ℕ) (x : ℕ) → Holds n s m → length s.buffer ≡ 128 → s.used ≡ 128
    → t.total ≡ (s.total + 1) % 2 ^ 128 → t.used ≡ 1 → t.h ≡ compress s.h s.buffer s.total false → t.buffer ≡ slice_set s.buffer 0 x
    → Holds n t (m ++ x ∷ [])
unfolding Holds
Holds_full n s t m x held long full total used h buffer =
    let q : ℕ = before_last (length m) in
    let len : length (m ++ x ∷ []) ≡ length m + 1 = length_push m x in
    let count : length m ≡ 128 + q * 128 = omega (arith, held.1, full) in
    let next : before_last (length (m ++ x ∷ [])) ≡ q + 1 = omega arith in
    let held_total = held.0 in
    let last : s.buffer ≡ drop (q * 128) m = sym (take_all 128 s.buffer (omega arith)) ∙ rw full at held.3 in
    let ld : length (drop (q * 128) m) ≡ 128 = omega (arith, length-drop (q * 128) m) in
    let block : take 128 (drop (q * 128) (m ++ x ∷ [])) ≡ s.buffer =
    rw (drop-append-le (q * 128) m (x ∷ []) (omega arith), take-append-le 128 (drop (q * 128) m) (x ∷ []) (omega arith), take_all 128 (drop (q * 128) m) (omega arith)) (sym last) in
    let at : q * 128 + 128 ≡ length m = omega arith in
    let grown : hash_after n (m ++ x ∷ []) (q + 1) ≡ compress s.h s.buffer (length m) false =
    rw (hash_after_next n (m ++ x ∷ []) q, hash_after-append n m (x ∷ []) q (omega arith), block, at, ← held.2) refl in
    let counted : compress s.h s.buffer s.total false ≡ compress s.h s.buffer (length m) false =
    rw held_total (compress-count s.h s.buffer (length m) false) in
    let rest : drop ((q + 1) * 128) (m ++ x ∷ []) ≡ x ∷ [] =
    drop-append-le ((q + 1) * 128) m (x ∷ []) (omega arith) ∙ ap (λ (b : List ℕ). b ++ x ∷ []) (drop_all ((q + 1) * 128) m (omega arith)) in (
      omega (arith, held_total, total, len),
      rw (next, used) (omega (arith, len, count)),
      rw (next, h) (counted ∙ sym grown),
      rw (next, used, buffer) (take_more_set s.buffer 0 x (omega arith) ∙ sym rest),
    )

-- the digest, from the state that has taken in the last block
pub Holds_final : (n : ℕ) (s : Blake2b) (m block h : List ℕ) → Holds n s m → block ≡ take s.used s.buffer ++ replicate (128 - s.used) 0
    → h ≡ compress s.h block s.total true → take n (digest_bytes h 8) ≡ blake2b n m
unfolding Holds blake2b final_hash
Holds_final n s m block h held eb eh =
    let q : ℕ = before_last (length m) in
    let rest : List ℕ = drop (q * 128) m in
    let lr : s.used ≡ length rest = omega (arith, length-drop (q * 128) m, held.1) in
    let whole : block ≡ last_block m = eb ∙ rw (held.3, lr) refl in
    let state : h ≡ compress (hash_after n m q) (last_block m) (length m) true =
    eh ∙ rw (whole, held.2, held.0) (compress-count (hash_after n m q) (last_block m) (length m) true) in
    ap (λ (w : List ℕ). take n (digest_bytes w 8)) state
