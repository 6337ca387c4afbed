-- Arrays of names, and the members of maps: the steps over them. What they mean is said by the texts
-- that an array has, in NameSets, and the law `arrays_hold_texts` says that the steps find that.
use Rattle.std.specs.Prelude.{ℕ, ◌+◌, List, Bool, true, false, ◌&&◌, ◌||◌, if◌then◌else◌, Option, option_and_then, is_some}
use Rattle.std.specs.Option.{option_map_or}
use Rattle.std.specs.Str.{bytes_eq}
use Rattle.serde_json.specs.Data.{Data, Items, no_items, item, Members, no_members, member}
use Rattle.serde_json.specs.Find.{get, as_str, as_array, as_object}
use Rattle.luks_json.specs.Number.{is_name}

-- each member's name is a name
abbrev pub all_named : Members → Bool
all_named no_members = true
all_named (member k d ms) = is_name k && all_named ms

-- the item is the text
abbrev pub is_text : List ℕ → Data → Bool
is_text t d = option_map_or (λ s. bytes_eq s t) (as_str d) false

-- some item is the text
abbrev pub has_text : List ℕ → Items → Bool
has_text t no_items = false
has_text t (item d ds) = is_text t d || has_text t ds

-- the item is no text, or a member's name
abbrev pub is_there : Option Data → Data → Bool
is_there map d = option_map_or (λ t. is_some (option_and_then (get t) map)) (as_str d) true

-- each text among the items is a member's name
abbrev pub all_there : Option Data → Items → Bool
all_there map no_items = true
all_there map (item d ds) = is_there map d && all_there map ds

-- the item is a text that stands among the others
abbrev pub repeats : Data → Items → Bool
repeats d ds = option_map_or (λ t. has_text t ds) (as_str d) false

-- some text stands twice
abbrev pub has_repeat : Items → Bool
has_repeat no_items = false
has_repeat (item d ds) = repeats d ds || has_repeat ds

-- the value is an array that has the text
abbrev pub names : List ℕ → Option Data → Bool
names t v = option_map_or (has_text t) (option_and_then as_array v) false

-- how many members have the text in their array of that name
abbrev pub naming_members : List ℕ → List ℕ → Members → ℕ
naming_members list t no_members = 0
naming_members list t (member k d ms) = if names t (get list d) then naming_members list t ms + 1 else naming_members list t ms

abbrev pub naming_count : List ℕ → List ℕ → Option Data → ℕ
naming_count list t digests = option_map_or (naming_members list t) (option_and_then as_object digests) 0
