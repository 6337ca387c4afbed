-- The rule for texts in headers: a text ends before its field's first zero byte, or at the field's end.
use Rattle.std.specs.Prelude.{ℕ, List, Bool, ◌==◌, ◌&&◌, nat_le}
use Rattle.std.specs.List.{before_first, list_all}

-- the text of a field: what precedes its first zero byte, or the whole field
abbrev pub text_of : List ℕ → List ℕ
text_of field = before_first (λ c. c == 0) field

-- a byte from the space, 0x20, to the tilde, 0x7E
abbrev pub is_printable : ℕ → Bool
is_printable c = nat_le 0x20 c && nat_le c 0x7E

-- each byte of the text is printable
abbrev pub is_plain : List ℕ → Bool
is_plain text = list_all is_printable text
