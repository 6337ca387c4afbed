-- How members of the metadata are shown, and the objects of a section one behind the other. A member that breaks its rule shows nothing; in metadata that was
-- read none does.
use Rattle.std.specs.Prelude.{ℕ, zero, suc, List, [], ◌++◌, codes, Bool, if◌then◌else◌, Option, Some, None, option_and_then, unwrap_or}
use Rattle.std.specs.Fmt.{decimal}
use Rattle.std.specs.Option.{option_map_or}
use Rattle.serde_json.specs.Data.{Data, Items, no_items, item}
use Rattle.serde_json.specs.Find.{as_array, as_str}
use Rattle.luks_rules.specs.declared.table.Section.{Section}
use Rattle.luks_rules.specs.Faults.{object_at}
use Rattle.luks_rules.specs.Reading.{Field, dynamic, whole}
use Rattle.luks_show.specs.Luks2Lines.{numbers_text}
use Rattle.luks_show.specs.Texts.{escaped}
use Rattle.luks_underway.specs.Sides.{is_named}

-- a number, a text, and the name of a type, which is a listed one
abbrev pub number_shown : Option ℕ → List ℕ
number_shown v = option_map_or decimal v []

abbrev pub text_shown : Option (List ℕ) → List ℕ
text_shown v = option_map_or escaped v []

abbrev pub type_shown : Option (List ℕ) → List ℕ
type_shown v = unwrap_or v []

-- a length in bytes, or that it runs to the volume's end
abbrev pub extent_shown : Option Field → List ℕ
extent_shown (Some (whole n)) = decimal n
extent_shown (Some dynamic) = codes "dynamic"
extent_shown _ = []

-- the numbers that an array names
abbrev pub numbers_shown : Option (List ℕ) → List ℕ
numbers_shown v = option_map_or numbers_text v []

-- a text of an array, and one behind another
abbrev pub item_shown : Data → List ℕ
item_shown d = text_shown (as_str d)

abbrev pub item_behind : Data → List ℕ
item_behind d = codes "," ++ item_shown d

abbrev pub items_behind : Items → List ℕ
items_behind no_items = []
items_behind (item d ds) = item_behind d ++ items_behind ds

-- texts joined by commas, or a hyphen where there is none
abbrev pub items_shown : Items → List ℕ
items_shown no_items = codes "-"
items_shown (item d ds) = item_shown d ++ items_behind ds

abbrev pub texts_shown : Option Data → List ℕ
texts_shown v = option_map_or items_shown (option_and_then as_array v) (codes "-")

-- a digest, or a hyphen
abbrev pub digest_shown : Option ℕ → List ℕ
digest_shown v = option_map_or decimal v (codes "-")

-- ---- by number

-- the least number below `n` of which the test holds
unfoldable pub least_below : (ℕ → Bool) → ℕ → Option ℕ
least_below test zero = None
least_below test (suc n) = option_map_or (λ m. Some m) (least_below test n) (if test n then Some n else None)

-- the digest that names the keyslot `n`; of several, which metadata that was read doesn't have, the least
abbrev pub keyslot_digest : Data → ℕ → Option ℕ
keyslot_digest j n = least_below (is_named j (codes "keyslots") n) 32

-- what is listed of the numbers below `n`, the lowest first
unfoldable pub listed_below : (ℕ → List ℕ) → ℕ → List ℕ
listed_below listed zero = []
listed_below listed (suc n) = listed_below listed n ++ listed n

-- what is listed of the object with the number, if it is there
abbrev pub object_listed : (ℕ → Data → List ℕ) → Data → Section → ℕ → List ℕ
object_listed listed j s n = option_map_or (listed n) (object_at j s n) []

-- of each object of the section
abbrev pub section_listed : (ℕ → Data → List ℕ) → Data → Section → List ℕ
section_listed listed j s = listed_below (object_listed listed j s) 32
