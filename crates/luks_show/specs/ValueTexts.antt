-- Texts and numbers of a header in the JSON object.
use Rattle.std.specs.Prelude.{◌≡◌, ℕ, List, IsUtf8}
use Rattle.serde_json.specs.Data.{Data, number, string, Members, member, unsigned}

-- a text is itself where it is UTF-8
abbrev pub IsTextValue : List ℕ → Data → Type 0
IsTextValue text d = IsUtf8 text → d ≡ string text

-- members that are a text and a number
abbrev pub text_member : List ℕ → List ℕ → Members → Members
text_member k t = member k (string t)

abbrev pub number_member : List ℕ → ℕ → Members → Members
number_member k n = member k (number (unsigned n))
