-- A JSON text without the characters by which a terminal is steered.
use Rattle.std.specs.Prelude.{◌≡◌, ℕ, List, ◌∷◌, ◌++◌, ◌/◌, ◌%◌, ◌&&◌, ◌||◌, Bool, false, nat_le, chars, flat_map, encode_utf8, if◌then◌else◌}
use Rattle.luks_show.specs.Digits.{two_digits}

-- the delete character, the controls U+0080 to U+009F (ECMA-48), and the embeddings, overrides and isolates of the
-- bidirectional algorithm with what ends them (Unicode Standard Annex 9): U+202A to U+202E and U+2066 to U+2069
abbrev pub steers : ℕ → Bool
steers c = (nat_le 0x7F c && nat_le c 0x9F) || ((nat_le 0x202A c && nat_le c 0x202E) || (nat_le 0x2066 c && nat_le c 0x2069))

abbrev pub IsSteerless : ℕ → Type 0
IsSteerless c = steers c ≡ false

-- such a character is the escape `\u` with its four digits (RFC 8259, section 7), any other is itself
abbrev pub unsteering_letter : ℕ → List ℕ
unsteering_letter c = if steers c then 0x5C ∷ 0x75 ∷ (two_digits (c / 256 % 256) ++ two_digits (c % 256)) else encode_utf8 c

-- each character of a text so
abbrev pub unsteering : List ℕ → List ℕ
unsteering text = flat_map unsteering_letter (chars text)
