-- Pieces of a volume that couldn't be read, and what is in their place.
use Rattle.std.specs.Prelude.{◌⊎◌, ℕ, List, [], ◌∷◌, replicate}
use Rattle.luks_area.specs.Ranges.{written, IsAt}
use Rattle.luks_area.specs.declared.area.Area.{Area}

-- the byte place is of one of these pieces
abbrev pub IsOfPieces : List Area → ℕ → Type 0
IsOfPieces [] p = ⊥
IsOfPieces (x ∷ xs) p = IsAt x.start x.len p ⊎ IsOfPieces xs p

-- the volume `v` with zeros in these pieces
abbrev pub zeroed : List Area → List ℕ → List ℕ
zeroed [] v = v
zeroed (x ∷ xs) v = written (zeroed xs v) x.start (replicate x.len 0)

-- one of these pieces is so
abbrev pub HasOne : (Area → Type 0) → List Area → Type 0
HasOne P [] = ⊥
HasOne P (x ∷ xs) = P x ⊎ HasOne P xs
