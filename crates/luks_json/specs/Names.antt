-- Arrays of names.
use Rattle.std.specs.Prelude.{◌≡◌, ℕ, List, [], ◌∷◌, Bool, true, false, ◌&&◌, nat_le, if◌then◌else◌, Option, Some, None, option_map, option_and_then}
use Rattle.std.specs.Option.{option_map_or}
use Rattle.serde_json.specs.Data.{Data, Items, no_items, item}
use Rattle.serde_json.specs.Events.{items_len}
use Rattle.serde_json.specs.Find.{as_str, as_array}
use Rattle.luks_json.specs.Number.{number_of, is_name}
use Rattle.luks_json.specs.Arrays.{has_repeat}

-- the numbers that the items name, if each is a name
abbrev pub item_numbers : Items → Option (List ℕ)
item_numbers no_items = Some []
item_numbers (item d ds) = option_and_then (λ n. option_map (λ ns. n ∷ ns) (item_numbers ds)) (option_and_then number_of (as_str d))

abbrev pub few_numbers : Items → Option (List ℕ)
few_numbers items = if nat_le (items_len items) 32 then item_numbers items else None

-- the same of an array of at most 32 items
abbrev pub numbers_of_array : Option Data → Option (List ℕ)
numbers_of_array v = option_and_then few_numbers (option_and_then as_array v)

-- each item is a name
abbrev pub all_names : Items → Bool
all_names no_items = true
all_names (item d ds) = option_map_or is_name (as_str d) false && all_names ds

-- the value is an array of names, none of them twice
pub record IsNameList (v : Option Data) : Type 0 where
  pub items : Items
  pub array : option_and_then as_array v ≡ Some items
  pub named : all_names items ≡ true
  pub once : has_repeat items ≡ false
