-- Sizes as a command line has them: a number, and behind it a letter for a power of 1024.
use Rattle.std.specs.Prelude.{◌≡◌, ◌≢◌, ◌⊎◌, ℕ, ◌*◌, ◌^◌, ◌<◌, List, ◌++◌, Option, codes, SomeIff}
use Rattle.std.specs.Str.Parse.{IsNumeral, digits_value, without_leading_plus}

-- what ends the text isn't this letter
abbrev pub Lacks : List ℕ → List ℕ → Type 0
Lacks text letter = (number : List ℕ) → text ≢ number ++ letter

-- no letter follows the number
abbrev pub HasNoLetter : List ℕ → Type 0
HasNoLetter text = Lacks text (codes "K") × Lacks text (codes "M") × Lacks text (codes "G") × Lacks text (codes "T")

-- the text is a number's and a letter for its factor, or the number's alone, which is then one of units
abbrev pub IsParted : List ℕ → ℕ → List ℕ → ℕ → Type 0
IsParted text unit number factor =
    ((text ≡ number ++ codes "K") × (factor ≡ 2 ^ 10))
    ⊎ ((text ≡ number ++ codes "M") × (factor ≡ 2 ^ 20))
    ⊎ ((text ≡ number ++ codes "G") × (factor ≡ 2 ^ 30))
    ⊎ ((text ≡ number ++ codes "T") × (factor ≡ 2 ^ 40))
    ⊎ (HasNoLetter text × (text ≡ number) × (factor ≡ unit))

-- the bytes that a text says, where it is such a number's and 64 bits hold them
pub record IsSize (text : List ℕ) (unit : ℕ) (bytes : Option ℕ) : Type 0 where
  pub number : List ℕ
  pub factor : ℕ
  pub parted : IsParted text unit number factor
  pub says : SomeIff bytes (IsNumeral 10 (without_leading_plus number) × (digits_value 10 (without_leading_plus number) * factor < 2 ^ 64)) (digits_value 10 (without_leading_plus number) * factor)
