-- One block of SHA-512.
use Rattle.std.specs.Prelude.{ℕ, List, ◌++◌}
use Rattle.sha2.specs.Sha512.{digest_bytes, padding}

-- the second block of a message of 192 bytes that ends with these words
abbrev pub last_block : List ℕ → List ℕ
last_block h = digest_bytes h 8 ++ padding 192
