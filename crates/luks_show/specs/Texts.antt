-- Texts, lines and names as they are shown.
use Rattle.std.specs.Prelude.{ℕ, List, [], ◌∷◌, ◌++◌, ◌/◌, ◌%◌, ◌==◌, ◌&&◌, codes, if◌then◌else◌, not, false}
use Rattle.std.specs.Fmt.{digit_glyph}
use Rattle.std.specs.List.{flat_map}
use Rattle.luks_area.specs.Text.{is_printable}
use Rattle.luks2_header.specs.declared.selection.Copies.{Copies}
use Rattle.luks2_header.specs.declared.selection.Copies.TheVariants.{InStep, FirstNewer, SecondNewer, FirstOnly, SecondOnly}

-- the text as a line
abbrev pub line : List ℕ → List ℕ
line text = text ++ 10 ∷ []

-- how the copies of a LUKS2 header stand to each other
abbrev pub copies_text : Copies → List ℕ
copies_text InStep = codes "in-step"
copies_text FirstNewer = codes "first-newer"
copies_text SecondNewer = codes "second-newer"
copies_text FirstOnly = codes "first-only"
copies_text SecondOnly = codes "second-only"

-- a byte of a text: itself from the space to the tilde, but the backslash; else a backslash and two lower
-- hexadecimal digits
abbrev pub escaped_byte : ℕ → List ℕ
escaped_byte c =
    if is_printable c && not (c == 0x5C) then c ∷ []
    else 0x5C ∷ digit_glyph false (c / 16) ∷ digit_glyph false (c % 16) ∷ []

-- each byte of a text so
abbrev pub escaped : List ℕ → List ℕ
escaped text = flat_map escaped_byte text
