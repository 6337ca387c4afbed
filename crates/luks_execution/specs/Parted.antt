-- A fault as it is printed, in its parts: `Overlap(Slot(0),Slot(1))` is `Overlap` at `Slot(0)` and `Slot(1)`.
use Rattle.std.specs.Prelude.{◌≡◌, ◌≢◌, ◌⊎◌, ℕ, List, [], ◌++◌, codes}
use Rattle.std.specs.List.{All, join_with_byte}

-- no bracket opens in the text
abbrev pub LacksBracket : List ℕ → Type 0
LacksBracket text = All (λ c. c ≢ 40) text

-- no comma is in the text
abbrev pub LacksComma : List ℕ → Type 0
LacksComma text = All (λ c. c ≢ 44) text

-- the name alone, or the name and in brackets this
abbrev pub IsBare : List ℕ → List ℕ → Type 0
IsBare text name = text ≡ name

abbrev pub IsBracketed : List ℕ → List ℕ → List ℕ → Type 0
IsBracketed text name inside = text ≡ name ++ (codes "(" ++ (inside ++ codes ")"))

-- the text ends with a bracket that closes
abbrev pub IsClosed : List ℕ → Type 0
IsClosed text = (inside : List ℕ) × (text ≡ inside ++ codes ")")

-- the text is a name, alone or with brackets behind it
pub record HasParts (text : List ℕ) : Type 0 where
  pub name : List ℕ
  pub plain : LacksBracket name
  pub is : IsBare text name ⊎ ((inside : List ℕ) × IsBracketed text name inside)

-- the text is this name alone, or the name and in brackets the places, which commas part
pub record IsParted (text name : List ℕ) (places : List (List ℕ)) : Type 0 where
  pub plain : LacksBracket name
  pub apart : All LacksComma places
  pub is : ((places ≡ []) × IsBare text name) ⊎ ((places ≢ []) × IsBracketed text name (join_with_byte 44 places))
