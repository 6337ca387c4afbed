-- The turns of PBKDF2 (RFC 8018, 5.2) on blocks that lie in a row.
use Rattle.std.specs.Prelude.{◌≡◌, ℕ, ◌-◌, ◌<◌, ◌≤◌, List}
use Rattle.luks_kdf.specs.Derivation.{hmac, turns_xored}
use Rattle.luks_kdf.specs.Splitter.{block_at}

-- of a row of blocks that hold their U_1, the first n hold the exclusive or of their U_1 to U_c now,
-- and the others are as before
pub record AreTurned (hash : List ℕ → List ℕ) (size block : ℕ) (key : List ℕ) (c n : ℕ) (before after : List ℕ) : Type 0 where
  pub turned : (i : ℕ) → i < n
      → block_at size after i ≡ turns_xored (hmac hash block key) (block_at size before i) (c - 1)
  pub kept : (i : ℕ) → n ≤ i → block_at size after i ≡ block_at size before i
