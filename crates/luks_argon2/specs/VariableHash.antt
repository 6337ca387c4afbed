-- The hash of any length, H' (RFC 9106, 3.3), over BLAKE2b.
use Rattle.std.specs.Prelude.{ℕ, zero, suc, ◌+◌, ◌-◌, ◌*◌, ◌/◌, nat_lt, List, [], ◌++◌, take, if◌then◌else◌}
use Rattle.std.specs.Int.{w32, to_le_bytes}
use Rattle.luks_argon2.specs.Blake2b.{blake2b}

-- V_(i+1) from V_1: each is the hash of 64 bytes of the one before
unfoldable pub chain : List ℕ → ℕ → List ℕ
chain first zero = first
chain first (suc i) = blake2b 64 (chain first i)

-- W_1, .. W_i joined: the first 32 bytes of V_1, .. V_i
unfoldable pub halves : List ℕ → ℕ → List ℕ
halves first zero = []
halves first (suc i) = halves first i ++ take 32 (chain first i)

-- r = ceil (n / 32) - 2
abbrev pub half_count : ℕ → ℕ
half_count n = (n + 31) / 32 - 2

-- H'^n of a message
unfoldable pub variable_hash : ℕ → List ℕ → List ℕ
variable_hash n m =
    let counted = to_le_bytes w32 n ++ m in
    let r = half_count n in
    let first = blake2b 64 counted in
    if nat_lt 64 n then halves first r ++ blake2b (n - 32 * r) (chain first (r - 1)) else blake2b n counted
