-- Bytes by hexadecimal digits.
use Rattle.std.specs.Prelude.{ℕ, List, [], ◌∷◌, ◌/◌, ◌%◌, false}
use Rattle.std.specs.Fmt.{digit_glyph}
use Rattle.std.specs.List.{flat_map}

-- a byte by two lower hexadecimal digits
abbrev pub two_digits : ℕ → List ℕ
two_digits n = digit_glyph false (n / 16) ∷ digit_glyph false (n % 16) ∷ []

-- each byte so
abbrev pub hex : List ℕ → List ℕ
hex bytes = flat_map two_digits bytes
