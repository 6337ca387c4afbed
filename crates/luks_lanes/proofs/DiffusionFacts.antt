-- A message of one block is hashed by one compression.
use Rattle.std.proofs.Common.{◌≡◌, ℕ, ◌/◌, List, ◌++◌, length, arith, refl, ap, ◌∙◌, length-append, w32}
use Rattle.std.specs.Int.{to_be_bytes}
use Rattle.std.proofs.lemmas.List.{take_all}
use Rattle.sha2.specs.Sha256.{compress, digest_bytes, hash_after, initial_hash_256, padded_message, padding, sha256}
use Rattle.luks_rounds.specs.Pair.{numbered_block}
use Rattle.luks_lanes.proofs.TurnFacts.{length-digest_bytes}

-- the hash value after one block
one_block : (ini p : List ℕ) → length p ≡ 64 → hash_after ini p 1 ≡ compress ini p
unfolding hash_after
one_block ini p lp = ap (compress ini) (take_all 64 p (omega arith))

-- the hash of a number and eight words
pub sha256_numbered : (n : ℕ) (h : List ℕ)
    → sha256 (to_be_bytes w32 n ++ digest_bytes h 8) ≡ digest_bytes (compress initial_hash_256 (numbered_block n h)) 8
unfolding sha256
sha256_numbered n h =
    let m = to_be_bytes w32 n ++ digest_bytes h 8 in
    let number : length (to_be_bytes w32 n) ≡ 4 = refl in
    let pads : length (padding 36) ≡ 28 = refl in
    let lm : length m ≡ 36 = omega (arith, number, length-append (to_be_bytes w32 n) (digest_bytes h 8), length-digest_bytes h 8) in
    let lb : length (numbered_block n h) ≡ 64 = omega (arith, lm, pads, length-append m (padding 36)) in
    let whole : padded_message m ≡ numbered_block n h = ap (λ k. m ++ padding k) lm in
    let count : length (numbered_block n h) / 64 ≡ 1 = omega (arith, lb) in
    ap (λ x. digest_bytes x 8) (ap (λ p. hash_after initial_hash_256 p (length p / 64)) whole
    ∙ ap (hash_after initial_hash_256 (numbered_block n h)) count
    ∙ one_block initial_hash_256 (numbered_block n h) lb)
