-- Facts about H'.
use Rattle.std.proofs.Common.{◌≡◌, ℕ, ◌+◌, ◌-◌, ◌*◌, ◌<◌, ◌≤◌, List, [], ◌++◌, length, take, drop, refl, ap, ◌∙◌, arith, add-one, length-drop}
use Rattle.std.proofs.lemmas.Slice.{take-put_mid}
use Rattle.std.proofs.lemmas.List.{append-nil, drop_all, length-take-le}
use borrow.Rule.Slice.PartMut.{put_mid, post_of}
use Rattle.luks_argon2.specs.Blake2b.{blake2b}
use Rattle.luks_argon2.specs.VariableHash.{chain, half_count, halves, variable_hash}
use Rattle.std.specs.Int.{w32, to_le_bytes}
use Rattle.std.proofs.lemmas.Bool.{lt-ltb, le-ltb}

-- one digest more of the chain
pub chain_next : (first now next : List ℕ) (i : ℕ) → now ≡ chain first i → next ≡ blake2b 64 now → next ≡ chain first (i + 1)
unfolding chain
chain_next first now next i at made = rw add-one (made ∙ ap (blake2b 64) at)

-- one more half
pub halves_more : (first out ys now : List ℕ) (i k : ℕ) → take (32 * i) out ≡ halves first i → 32 * i ≤ length out
    → now ≡ chain first i → length now ≡ 64 → ys ≡ take 32 now → take (32 * (i + 1)) (put_mid (32 * i) k out ys) ≡ halves first (i + 1)
unfolding halves
halves_more first out ys now i k held fits at long ey =
    let short : length (take 32 now) ≡ 32 = length-take-le 32 now (omega arith) in
    let ly : length ys ≡ 32 = ap length ey ∙ short in
    let front : take (32 * (i + 1)) (put_mid (32 * i) k out ys) ≡ take (32 * i) out ++ ys =
    take-put_mid (32 * i) k out ys (32 * (i + 1)) (omega arith) fits in
    let ey2 : ys ≡ take 32 (chain first i) = ey ∙ ap (λ (v : List ℕ). take 32 v) at in
    rw (front, held, ey2, add-one) refl

-- the first half
pub halves_first : (first out : List ℕ) → take 32 out ≡ take 32 first → take 32 out ≡ halves first 1
unfolding halves chain
halves_first first out e = e

-- the bytes after the halves are the last whole digest
pub long_done : (first out turn ys : List ℕ) (n r i k : ℕ) → length out ≡ n → 64 < n → r ≡ half_count n → i + 1 ≡ r
    → take (32 * (i + 1)) out ≡ halves first (i + 1) → turn ≡ chain first i → k ≡ n - 32 * r
    → ys ≡ blake2b (length (take k (drop (32 * r) out))) turn
    → put_mid (32 * r) k out ys ≡ halves first (half_count n) ++ blake2b (n - 32 * half_count n) (chain first (half_count n - 1))
long_done first out turn ys n r i k long many er ei held at ek ey =
    let left : length (drop (32 * r) out) ≡ n - 32 * r = length-drop (32 * r) out ∙ ap (λ (l : ℕ). l - 32 * r) long in
    let room : length (take k (drop (32 * r) out)) ≡ n - 32 * r = length-take-le k (drop (32 * r) out) (omega arith) ∙ ek in
    let before : i ≡ r - 1 = omega arith in
    let rest : post_of (32 * r) k out ≡ [] = drop_all k (drop (32 * r) out) (omega arith) in
    let front : take (32 * r) out ≡ halves first r = rw ei at held in
    let last : ys ≡ blake2b (n - 32 * r) (chain first (r - 1)) = ey ∙ rw (room, at, before) refl in
    rw (rest, append-nil, front, last, ← er) refl

-- H' of more than 64 bytes
pub variable_hash-long : (n : ℕ) (m first ys : List ℕ) → 64 < n → first ≡ blake2b 64 (to_le_bytes w32 n ++ m)
    → ys ≡ halves first (half_count n) ++ blake2b (n - 32 * half_count n) (chain first (half_count n - 1)) → ys ≡ variable_hash n m
unfolding variable_hash
variable_hash-long n m first ys many ef ey = rw (lt-ltb 64 n many, ← ef) ey

-- H' of at most 64 bytes
pub variable_hash-short : (n : ℕ) (m ys : List ℕ) → n ≤ 64 → ys ≡ blake2b n (to_le_bytes w32 n ++ m) → ys ≡ variable_hash n m
unfolding variable_hash
variable_hash-short n m ys few ey = rw (le-ltb 64 n few) ey
