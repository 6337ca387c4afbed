-- Where two volumes differ.
use Rattle.std.specs.Prelude.{◌≢◌, ℕ, List, slice_index}

-- the places at which the volumes have different bytes
abbrev pub differ : List ℕ → List ℕ → ℕ → Type 0
differ v w p = slice_index v p ≢ slice_index w p
