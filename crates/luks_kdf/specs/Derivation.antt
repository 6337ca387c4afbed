-- HMAC (RFC 2104) and PBKDF2 (RFC 8018) as functions on lists of bytes, for any hash with the size
-- of its block.
use Rattle.std.specs.Prelude.{ℕ, zero, suc, ◌-◌, nat_lt, List, [], ◌++◌, length, take, map, replicate, bit_xor, if◌then◌else◌}
use Rattle.std.specs.Int.{w32, to_be_bytes}
use Rattle.luks_kdf.specs.Xor.{xor_bytes}

-- the key as a whole block: its hash in place of a key that is longer than a block, then zeros
-- (RFC 2104, 2 and 3)
unfoldable pub block_key : (List ℕ → List ℕ) → ℕ → List ℕ → List ℕ
block_key hash block key =
    let short = if nat_lt block (length key) then hash key else key in
    short ++ replicate (block - length short) 0

-- the key's block under the inner pad, 0x36 in each byte, and under the outer pad, 0x5C (RFC 2104,
-- 2)
abbrev pub inner_block : (List ℕ → List ℕ) → ℕ → List ℕ → List ℕ
inner_block hash block key = map (bit_xor 0x36) (block_key hash block key)

abbrev pub outer_block : (List ℕ → List ℕ) → ℕ → List ℕ → List ℕ
outer_block hash block key = map (bit_xor 0x5C) (block_key hash block key)

-- H (K xor opad, H (K xor ipad, m)) (RFC 2104, 2)
unfoldable pub hmac : (List ℕ → List ℕ) → ℕ → List ℕ → List ℕ → List ℕ
hmac hash block key m =
    hash (outer_block hash block key ++ hash (inner_block hash block key ++ m))

-- two states of a hash that have taken in the key's block, one under each pad
abbrev pub HoldKey : {S : Type 0} → (S → List ℕ → Type 0) → (List ℕ → List ℕ) → ℕ
    → S → S → List ℕ → Type 0
HoldKey holds hash block inner outer key =
    holds inner (inner_block hash block key) × holds outer (outer_block hash block key)

-- U_1 of block i: the function of the salt and the number i in 4 bytes, high byte first (RFC 8018,
-- 5.2, step 3)
unfoldable pub first_turn : (List ℕ → List ℕ) → List ℕ → ℕ → List ℕ
first_turn prf salt i = prf (salt ++ to_be_bytes w32 i)

-- U_(k+1) from U_1: the function of the turn before it
unfoldable pub turn : (List ℕ → List ℕ) → List ℕ → ℕ → List ℕ
turn prf first zero = first
turn prf first (suc k) = prf (turn prf first k)

-- U_1 xor U_2 xor .. xor U_(k+1)
unfoldable pub turns_xored : (List ℕ → List ℕ) → List ℕ → ℕ → List ℕ
turns_xored prf first zero = first
turns_xored prf first (suc k) = xor_bytes (turns_xored prf first k) (turn prf first (suc k))

-- T_i, the exclusive or of U_1 to U_c
unfoldable pub derived_block : (List ℕ → List ℕ) → List ℕ → ℕ → ℕ → List ℕ
derived_block prf salt c i = turns_xored prf (first_turn prf salt i) (c - 1)

-- T_1, T_2, .. T_n, joined
unfoldable pub derived_blocks : (List ℕ → List ℕ) → List ℕ → ℕ → ℕ → List ℕ
derived_blocks prf salt c zero = []
derived_blocks prf salt c (suc n) = derived_blocks prf salt c n ++ derived_block prf salt c (suc n)

-- PBKDF2 with HMAC: the first n bytes of all T_i joined (RFC 8018, 5.2, step 4). No block is empty,
-- so n blocks are enough.
unfoldable pub pbkdf2 : (List ℕ → List ℕ) → ℕ → List ℕ → List ℕ → ℕ → ℕ → List ℕ
pbkdf2 hash block password salt c n = take n (derived_blocks (hmac hash block password) salt c n)
