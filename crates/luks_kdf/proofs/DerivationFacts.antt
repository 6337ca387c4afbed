-- Facts about the definitions of HMAC and PBKDF2.
use Rattle.std.proofs.Common.{◌≡◌, ℕ, zero, suc, ◌+◌, ◌-◌, ◌*◌, ◌<◌, ◌≤◌, true, false, List, ◌++◌, length, take, drop, refl, ap, sym, ◌∙◌, arith, length-append, add_comm, add-zero, add-suc}
use Rattle.std.specs.Prelude.{replicate, nat_lt}
use Rattle.std.proofs.Math.Nat.{mul-le-mul_left}
use Rattle.std.proofs.lemmas.List.{drop-replicate, take-append-le}
use Rattle.std.proofs.lemmas.Bool.{lt-ltb, le-ltb}
use Rattle.luks_kdf.specs.Xor.{xor_bytes}
use Rattle.luks_kdf.specs.Derivation.{block_key, hmac, first_turn, turn, turns_xored, derived_block, derived_blocks}
use Rattle.luks_kdf.proofs.XorFacts.{length-xor_bytes}

-- a key that is longer than a block: its digest, written over zeros
pub block_key-long : (hash : List ℕ → List ℕ) (block : ℕ) (key digest zeros : List ℕ) (len : ℕ)
    → block < length key → digest ≡ hash key → zeros ≡ replicate block 0 → length digest ≡ len
    → digest ++ drop len zeros ≡ block_key hash block key
unfolding block_key
block_key-long hash block key digest zeros len long is_digest is_zeros is_len =
    let longer : nat_lt block (length key) ≡ true = lt-ltb block (length key) long in
    rw (longer, is_zeros, drop-replicate, ← is_len, is_digest) refl

-- any other key, written over zeros
pub block_key-short : (hash : List ℕ → List ℕ) (block : ℕ) (key copy zeros : List ℕ)
    → length key ≤ block → copy ≡ key → zeros ≡ replicate block 0
    → copy ++ drop (length key) zeros ≡ block_key hash block key
unfolding block_key
block_key-short hash block key copy zeros short is_copy is_zeros =
    let not_longer : nat_lt block (length key) ≡ false = le-ltb block (length key) short in
    rw (not_longer, is_zeros, drop-replicate, is_copy) refl

-- an HMAC is a digest
pub length-hmac : (hash : List ℕ → List ℕ) (len block : ℕ) → ((m : List ℕ) → length (hash m) ≡ len)
    → (key m : List ℕ) → length (hmac hash block key m) ≡ len
unfolding hmac
length-hmac hash len block digests key m = digests _

length-turn : (prf : List ℕ → List ℕ) (len : ℕ) → ((m : List ℕ) → length (prf m) ≡ len)
    → (first : List ℕ) → length first ≡ len → (k : ℕ) → length (turn prf first k) ≡ len
unfolding turn
length-turn prf len tags first is_first zero = is_first
length-turn prf len tags first is_first (suc k) = tags _

length-turns_xored : (prf : List ℕ → List ℕ) (len : ℕ) → ((m : List ℕ) → length (prf m) ≡ len)
    → (first : List ℕ) → length first ≡ len → (k : ℕ) → length (turns_xored prf first k) ≡ len
unfolding turns_xored
length-turns_xored prf len tags first is_first zero = is_first
length-turns_xored prf len tags first is_first (suc k) =
    let before = length-turns_xored prf len tags first is_first k in
    let next = length-turn prf len tags first is_first (suc k) in
    length-xor_bytes _ _ (before ∙ sym next) ∙ before

length-derived_block : (prf : List ℕ → List ℕ) (len : ℕ) → ((m : List ℕ) → length (prf m) ≡ len)
    → (salt : List ℕ) (c i : ℕ) → length (derived_block prf salt c i) ≡ len
unfolding derived_block first_turn
length-derived_block prf len tags salt c i = length-turns_xored prf len tags _ (tags _) (c - 1)

length-derived_blocks : (prf : List ℕ → List ℕ) (len : ℕ) → ((m : List ℕ) → length (prf m) ≡ len)
    → (salt : List ℕ) (c n : ℕ) → length (derived_blocks prf salt c n) ≡ n * len
unfolding derived_blocks
length-derived_blocks prf len tags salt c zero = omega arith
length-derived_blocks prf len tags salt c (suc n) =
    let before = length-derived_blocks prf len tags salt c n in
    let last = length-derived_block prf len tags salt c (suc n) in
    omega (
      arith,
      before,
      last,
      length-append (derived_blocks prf salt c n) (derived_block prf salt c (suc n)),
    )

-- more blocks don't change the front
derived_blocks-more : (prf : List ℕ → List ℕ) (len : ℕ) → ((m : List ℕ) → length (prf m) ≡ len)
    → (salt : List ℕ) (c n count more : ℕ) → n ≤ count * len
    → take n (derived_blocks prf salt c (count + more)) ≡ take n (derived_blocks prf salt c count)
unfolding derived_blocks
derived_blocks-more prf len tags salt c n count zero enough = rw add-zero refl
derived_blocks-more prf len tags salt c n count (suc more) enough =
    let before = derived_blocks-more prf len tags salt c n count more enough in
    let whole = length-derived_blocks prf len tags salt c (count + more) in
    let reaches : n ≤ length (derived_blocks prf salt c (count + more)) =
    omega (arith, whole, enough) in
    rw (add-suc, take-append-le) before

-- as many blocks as hold n bytes are enough
pub derived_blocks-enough : (prf : List ℕ → List ℕ) (len : ℕ) → ((m : List ℕ) → length (prf m) ≡ len)
    → 1 ≤ len → (salt : List ℕ) (c n count : ℕ) → n ≤ count * len
    → take n (derived_blocks prf salt c count) ≡ take n (derived_blocks prf salt c n)
derived_blocks-enough prf len tags some salt c n count enough =
    let all : n ≤ n * len = omega (arith, mul-le-mul_left n some) in
    let left = derived_blocks-more prf len tags salt c n count n enough in
    let right = derived_blocks-more prf len tags salt c n n count all in
    sym left ∙ ap (λ k. take n (derived_blocks prf salt c k)) (add_comm count n) ∙ right

-- one turn more
pub turns_step : (prf : List ℕ → List ℕ) (first last next before after : List ℕ) (count : ℕ) → 1 ≤ count
    → last ≡ turn prf first (count - 1) → before ≡ turns_xored prf first (count - 1)
    → next ≡ prf last → after ≡ xor_bytes before next
    → (next ≡ turn prf first (count + 1 - 1)) × (after ≡ turns_xored prf first (count + 1 - 1))
unfolding turn turns_xored
turns_step prf first last next before after count some is_last is_before is_next is_after =
    let more : count + 1 - 1 ≡ suc (count - 1) = omega arith in
    let made : next ≡ prf (turn prf first (count - 1)) = is_next ∙ ap prf is_last in
    rw more (made, is_after ∙ ap (λ l. xor_bytes l next) is_before ∙ ap (xor_bytes _) made)
