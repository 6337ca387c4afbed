-- Values that differ from another in named members alone.
use Rattle.std.specs.Prelude.{ℕ, List, if◌then◌else◌}
use Rattle.std.specs.Str.{bytes_eq}
use Rattle.serde_json.specs.Data.{Data, null, boolean, number, string, array, object, Items, no_items, item, Members, no_members, member}
use Rattle.luks_json.specs.Arrays.{is_text}

-- the members of an object changed by f; any other value as it is
abbrev pub in_object : (Members → Members) → Data → Data
in_object f null = null
in_object f (boolean b) = boolean b
in_object f (number n) = number n
in_object f (string s) = string s
in_object f (array ds) = array ds
in_object f (object ms) = object (f ms)

-- the items of an array changed by f; any other value as it is
abbrev pub in_array : (Items → Items) → Data → Data
in_array f null = null
in_array f (boolean b) = boolean b
in_array f (number n) = number n
in_array f (string s) = string s
in_array f (array ds) = array (f ds)
in_array f (object ms) = object ms

-- f of the value at the name; the other members as they are, and all in their order
abbrev pub change_member : List ℕ → (Data → Data) → Members → Members
change_member k f no_members = no_members
change_member k f (member l d ms) =
    if bytes_eq k l then member l (f d) ms else member l d (change_member k f ms)

-- f of each member's value
abbrev pub each_member : (Data → Data) → Members → Members
each_member f no_members = no_members
each_member f (member l d ms) = member l (f d) (each_member f ms)

-- the members of other names
abbrev pub drop_member : List ℕ → Members → Members
drop_member k no_members = no_members
drop_member k (member l d ms) =
    if bytes_eq k l then drop_member k ms else member l d (drop_member k ms)

-- the items that aren't the text
abbrev pub drop_text : List ℕ → Items → Items
drop_text t no_items = no_items
drop_text t (item d ds) = if is_text t d then drop_text t ds else item d (drop_text t ds)

-- the items with the text after them
abbrev pub add_text : List ℕ → Items → Items
add_text t no_items = item (string t) no_items
add_text t (item d ds) = item d (add_text t ds)

-- the object with f of the value at the name
abbrev pub at_member : List ℕ → (Data → Data) → Data → Data
at_member k f = in_object (change_member k f)

-- the object with the value in the place of its member of that name
abbrev pub set_member : List ℕ → Data → Data → Data
set_member k v = at_member k (λ _. v)
