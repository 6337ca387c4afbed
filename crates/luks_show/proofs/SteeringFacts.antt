-- No character that steers a terminal is in a text of which they are escaped.
use Rattle.std.proofs.Common.{◌≡◌, ℕ, zero, suc, ◌<◌, ◌/◌, ◌%◌, List, [], ◌∷◌, ◌++◌, All, Bool, true, false, cond, IsAscii, IsUtf8, chars, flat_map, encode_utf8, encode_utf8_all, refl, sym, ap₂, ◌∙◌, subst, arith, append-nil}
use Rattle.std.specs.Fmt.{digit_glyph}
use Rattle.std.proofs.lemmas.Grind.{common_steps}
use Rattle.std.proofs.lemmas.List.Elements.{All-append, All-cons, All-head, All-nil, All-tail, All-weaker}
use Rattle.std.proofs.lemmas.Str.{chars_from_encodes, encodes-append, encodes-IsAscii}
use Rattle.luks_show.specs.Digits.{two_digits}
use Rattle.luks_show.specs.Steering.{IsSteerless, steers, unsteering, unsteering_letter}

-- what stands for a character, in characters
abbrev escape : ℕ → List ℕ
escape c = 0x5C ∷ 0x75 ∷ (two_digits (c / 256 % 256) ++ two_digits (c % 256))

abbrev letters_as : Bool → ℕ → List ℕ
letters_as true c = escape c
letters_as false c = c ∷ []

abbrev letters : ℕ → List ℕ
letters c = letters_as (steers c) c

-- before the delete character
abbrev IsLow : ℕ → Type 0
IsLow x = x < 0x7F

low_steerless : (x : ℕ) → IsLow x → IsSteerless x
low_steerless x low = grind (arith, common_steps)

-- a digit is
glyph_low : (d : ℕ) → d < 16 → IsLow (digit_glyph false d)
glyph_low d small = grind (arith, common_steps)

escape_low : (c : ℕ) → All IsLow (escape c)
escape_low c =
    let a = digit_glyph false (c / 256 % 256 / 16) in
    let b = digit_glyph false (c / 256 % 256 % 16) in
    let d = digit_glyph false (c % 256 / 16) in
    let e = digit_glyph false (c % 256 % 16) in
    All-cons IsLow 0x5C (0x75 ∷ a ∷ b ∷ d ∷ e ∷ []) (omega arith)
    (All-cons IsLow 0x75 (a ∷ b ∷ d ∷ e ∷ []) (omega arith)
    (All-cons IsLow a (b ∷ d ∷ e ∷ []) (glyph_low (c / 256 % 256 / 16) (omega arith))
    (All-cons IsLow b (d ∷ e ∷ []) (glyph_low (c / 256 % 256 % 16) (omega arith))
    (All-cons IsLow d (e ∷ []) (glyph_low (c % 256 / 16) (omega arith))
    (All-cons IsLow e [] (glyph_low (c % 256 % 16) (omega arith)) (All-nil IsLow))))))

low_ascii : (xs : List ℕ) → All IsLow xs → IsAscii xs
low_ascii [] low i = omega arith
low_ascii (x ∷ xs) low zero = let is = All-head IsLow x xs low in omega (arith, is)
low_ascii (x ∷ xs) low (suc i) = low_ascii xs (All-tail IsLow x xs low) i

letter_encodes : (c : ℕ) (b : Bool) → steers c ≡ b → encode_utf8_all (letters_as b c) ≡ cond b (escape c) (encode_utf8 c)
letter_encodes c true is = encodes-IsAscii (escape c) (low_ascii (escape c) (escape_low c))
letter_encodes c false is = append-nil (encode_utf8 c)

letter_steerless : (c : ℕ) (b : Bool) → steers c ≡ b → All IsSteerless (letters_as b c)
letter_steerless c true is = All-weaker IsLow IsSteerless low_steerless (escape c) (escape_low c)
letter_steerless c false is = All-cons IsSteerless c [] is (All-nil IsSteerless)

encoded : (cs : List ℕ) → encode_utf8_all (flat_map letters cs) ≡ flat_map unsteering_letter cs
encoded [] = refl
encoded (c ∷ cs) = encodes-append (letters c) (flat_map letters cs) ∙ ap₂ (λ xs ys. xs ++ ys) (letter_encodes c (steers c) refl) (encoded cs)

steerless : (cs : List ℕ) → All IsSteerless (flat_map letters cs)
steerless [] = All-nil IsSteerless
steerless (c ∷ cs) = All-append IsSteerless (letters c) (flat_map letters cs) (letter_steerless c (steers c) refl) (steerless cs)

pub unsteering_steerless : (text made : List ℕ) → IsUtf8 made → made ≡ unsteering text → All IsSteerless (chars made)
unsteering_steerless text made utf8 is =
    subst (All IsSteerless) (chars_from_encodes (flat_map letters (chars text)) made utf8 (encoded (chars text) ∙ sym is)) (steerless (chars text))
