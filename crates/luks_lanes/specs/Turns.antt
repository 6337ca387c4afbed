-- The turns of PBKDF2 (RFC 8018, 5.2) with HMAC (RFC 2104) under a key that is a whole block, on
-- blocks that lie in a row.
use Rattle.std.specs.Prelude.{◌≡◌, ℕ, zero, suc, ◌-◌, ◌*◌, ◌<◌, ◌≤◌, List, [], ◌∷◌, ◌++◌, take, drop, map, bit_xor}

-- H (K xor opad, H (K xor ipad, m)) (RFC 2104, 2)
abbrev pub hmac : (List ℕ → List ℕ) → List ℕ → List ℕ → List ℕ
hmac hash key m = hash (map (bit_xor 0x5C) key ++ hash (map (bit_xor 0x36) key ++ m))

-- what HMAC under a key starts from: what has taken in the key under the inner pad, 0x36 in each
-- byte, and under the outer pad, 0x5C (RFC 2104, 2)
abbrev pub HoldKey : {S : Type 0} → (S → List ℕ → Type 0) → S → S → List ℕ → Type 0
HoldKey has_taken inner outer key =
    has_taken inner (map (bit_xor 0x36) key) × has_taken outer (map (bit_xor 0x5C) key)

-- the exclusive or of two lists of one length, place by place
unfoldable pub xor_bytes : List ℕ → List ℕ → List ℕ
xor_bytes [] ys = []
xor_bytes (x ∷ xs) [] = []
xor_bytes (x ∷ xs) (y ∷ ys) = bit_xor x y ∷ xor_bytes xs ys

-- U_(k+1) from U_1: the function of the turn before it
unfoldable pub turn : (List ℕ → List ℕ) → List ℕ → ℕ → List ℕ
turn prf first zero = first
turn prf first (suc k) = prf (turn prf first k)

-- U_1 xor U_2 xor .. xor U_(k+1)
unfoldable pub turns_xored : (List ℕ → List ℕ) → List ℕ → ℕ → List ℕ
turns_xored prf first zero = first
turns_xored prf first (suc k) = xor_bytes (turns_xored prf first k) (turn prf first (suc k))

-- block i, from 0, of a row of blocks of a size
abbrev pub block_at : ℕ → List ℕ → ℕ → List ℕ
block_at size row i = take size (drop (i * size) row)

-- of a row of blocks U_1, the first n have become T, the exclusive or of their U_1 to U_c, and the
-- others are as before
pub record AreTurned (hash : List ℕ → List ℕ) (size : ℕ) (key : List ℕ) (c n : ℕ) (before after : List ℕ) : Type 0 where
  pub turned : (i : ℕ) → i < n → block_at size after i ≡ turns_xored (hmac hash key) (block_at size before i) (c - 1)
  pub kept : (i : ℕ) → n ≤ i → block_at size after i ≡ block_at size before i
