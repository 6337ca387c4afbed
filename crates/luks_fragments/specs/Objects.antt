-- Objects that are whole in bytes that needn't be JSON, by their braces (LUKS2 On-Disk Format 1.1, 3.2 to 3.4). Strings aren't
-- looked at: neither keyslots, digests nor segments have braces in theirs, and where text is lost nothing tells which quotes are inside.
use Rattle.std.specs.Prelude.{ℕ, ◌+◌, ◌==◌, ◌<◌, ◌≤◌, List, length}
use Rattle.std.specs.List.{count_by}
use Rattle.luks_area.specs.Ranges.{part}

-- how many braces open, and how many close
abbrev pub opened : List ℕ → ℕ
opened bytes = count_by (λ b. b == 0x7B) bytes

abbrev pub closed : List ℕ → ℕ
closed bytes = count_by (λ b. b == 0x7D) bytes

-- an object has no more bytes, and nests no deeper: a keyslot's `kdf`, `af` and `area` are in it
abbrev pub longest : ℕ
longest = 4096

abbrev pub deepest : ℕ
deepest = 2

-- the `len` bytes from `start` on are an object: its first brace, with which it begins, is closed by its last byte, and not before
pub record IsObjectAt (area : List ℕ) (start len : ℕ) : Type 0 where
  pub some : 2 ≤ len
  pub short : len ≤ longest
  pub inside : start + len ≤ length area
  pub whole : opened (part area start len) ≤ closed (part area start len)
  pub unclosed : (k : ℕ) → 1 ≤ k → k < len → closed (part area start k) < opened (part area start k)
  pub shallow : (k : ℕ) → k ≤ len → opened (part area start k) ≤ closed (part area start k) + deepest
