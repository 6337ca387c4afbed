-- The turns that luks_lanes runs are those of the definitions.
use Rattle.std.proofs.Common.{◌≡◌, ℕ, zero, suc, ◌-◌, ◌≤◌, false, List, [], ◌∷◌, ◌++◌, length, map, refl, ap, ap₂, sym, ◌∙◌, arith, inl, inr, length-append}
use Rattle.std.specs.Prelude.{nat_lt, bit_xor, replicate}
use Rattle.std.proofs.lemmas.Bool.{cases_lt, le-ltb, lt-ltb}
use Rattle.std.proofs.lemmas.List.{append-nil}
use Rattle.std.proofs.lemmas.Simd.{length-replicate}
use Rattle.luks_lanes.specs.Turns as L
use Rattle.luks_kdf.specs.Xor.{xor_bytes}
use Rattle.luks_kdf.specs.Derivation.{block_key, hmac, turn, turns_xored}
use Rattle.luks_kdf.specs.Splitter.{block_at}
use Rattle.luks_kdf.specs.Turns.{AreTurned}

-- a list that is filled up with zeros
filled : (block : ℕ) (s : List ℕ) → length s ≤ block → length (s ++ replicate (block - length s) 0) ≡ block
filled block s le = omega (arith, length-append s (replicate (block - length s) 0), length-replicate {A = ℕ} (block - length s) 0)

-- a key that is a whole block stands for itself
pub block_key-whole : (hash : List ℕ → List ℕ) (block : ℕ) (key : List ℕ) → length key ≡ block
    → block_key hash block key ≡ key
unfolding block_key
block_key-whole hash block key whole =
    let no_longer : nat_lt block (length key) ≡ false = le-ltb block (length key) (omega (arith, whole)) in
    let none : block - length key ≡ 0 = omega (arith, whole) in
    rw (no_longer, none, append-nil) refl

-- the block that a key is made
pub length-block_key : (hash : List ℕ → List ℕ) (block : ℕ) → ((m : List ℕ) → length (hash m) ≤ block) → (key : List ℕ)
    → length (block_key hash block key) ≡ block
unfolding block_key
length-block_key hash block short key = elim (cases_lt block (length key)) [
  | inl lt ↦ rw (lt-ltb block (length key) lt) (filled block (hash key) (short key))
  | inr ge ↦ rw (le-ltb block (length key) ge) (filled block key ge)
]

-- HMAC under a key is HMAC under its block
pub hmac-block_key : (hash : List ℕ → List ℕ) (block : ℕ) (key : List ℕ) → length (block_key hash block key) ≡ block
    → hmac hash block (block_key hash block key) ≡ hmac hash block key
unfolding hmac
hmac-block_key hash block key whole =
    let same = block_key-whole hash block (block_key hash block key) whole in
    λ i m. hash (map (bit_xor 0x5C) (same i) ++ hash (map (bit_xor 0x36) (same i) ++ m))

-- HMAC under a whole block is HMAC
hmac-lanes : (hash : List ℕ → List ℕ) (block : ℕ) (key : List ℕ) → length key ≡ block
    → L.hmac hash key ≡ hmac hash block key
unfolding hmac
hmac-lanes hash block key whole =
    let same = block_key-whole hash block key whole in
    λ i m. hash (map (bit_xor 0x5C) (sym same i) ++ hash (map (bit_xor 0x36) (sym same i) ++ m))

-- the exclusive or
xor_bytes-lanes : (a b : List ℕ) → L.xor_bytes a b ≡ xor_bytes a b
unfolding L.xor_bytes xor_bytes
xor_bytes-lanes [] b = refl
xor_bytes-lanes (x ∷ a) [] = refl
xor_bytes-lanes (x ∷ a) (y ∷ b) = ap (λ (l : List ℕ). bit_xor x y ∷ l) (xor_bytes-lanes a b)

-- a turn
turn-lanes : (prf : List ℕ → List ℕ) (first : List ℕ) (k : ℕ) → L.turn prf first k ≡ turn prf first k
unfolding L.turn turn
turn-lanes prf first zero = refl
turn-lanes prf first (suc k) = ap prf (turn-lanes prf first k)

-- the turns xored
turns_xored-lanes : (prf : List ℕ → List ℕ) (first : List ℕ) (k : ℕ) → L.turns_xored prf first k ≡ turns_xored prf first k
unfolding L.turns_xored turns_xored
turns_xored-lanes prf first zero = refl
turns_xored-lanes prf first (suc k) =
    xor_bytes-lanes _ _ ∙ ap₂ xor_bytes (turns_xored-lanes prf first k) (turn-lanes prf first (suc k))

-- the blocks that lanes have turned
pub are_turned : (hash : List ℕ → List ℕ) (size block : ℕ) (key : List ℕ) (c n : ℕ) (before after : List ℕ)
    → length key ≡ block → L.AreTurned hash size key c n before after
    → AreTurned hash size block key c n before after
unfolding block_at
are_turned hash size block key c n before after whole held =
    let same = hmac-lanes hash block key whole in record {
      turned = λ i lt. held.turned i lt ∙ turns_xored-lanes _ _ _ ∙ ap (λ prf. turns_xored prf (block_at size before i) (c - 1)) same;
      kept = held.kept;
    }
