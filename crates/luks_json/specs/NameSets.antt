-- Arrays of names, said of the texts that they have.
use Rattle.std.specs.Prelude.{◌≡◌, ◌⊎◌, List, ℕ, Some}
use Rattle.serde_json.specs.Data.{Items, no_items, item}
use Rattle.serde_json.specs.Find.{as_str}

-- the text is in the array
abbrev pub HasName : Items → List ℕ → Type 0
HasName no_items t = ⊥
HasName (item d ds) t = (as_str d ≡ Some t) ⊎ HasName ds t

-- each text is in the array once at most
abbrev pub HasEachOnce : Items → Type 0
HasEachOnce no_items = Unit {0}
HasEachOnce (item d ds) = ((t : List ℕ) → as_str d ≡ Some t → HasName ds t → ⊥) × HasEachOnce ds
