-- Bytes of which one bit is turned.
use Rattle.std.specs.Prelude.{ℕ, ◌^◌, List, bit_xor, slice_index, slice_set}

-- the bit of this number, 0 to 7 by its weight, of the byte at the place is turned
abbrev pub turned : List ℕ → ℕ → ℕ → List ℕ
turned bytes place bit = slice_set bytes place (bit_xor (slice_index bytes place) (2 ^ bit))
