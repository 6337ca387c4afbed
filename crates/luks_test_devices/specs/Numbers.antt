-- Bytes in place of random ones.
use Rattle.std.specs.Prelude.{ℕ, ◌+◌, ◌%◌, List, map}
use Rattle.std.specs.List.{range_with_len}

-- `len` bytes that count from a number on, modulo 251
unfoldable pub counted_from : ℕ → ℕ → List ℕ
counted_from first len = map (λ i. (first + i) % 251) (range_with_len 0 len)
