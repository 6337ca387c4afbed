-- Requirements of the metadata (LUKS2 On-Disk Format 1.1, 3.5): features that a tool must know
-- before it changes the volume.
use Rattle.std.specs.Prelude.{codes, Bool, true, false, not, option_and_then}
use Rattle.std.specs.Option.{option_map_or}
use Rattle.serde_json.specs.Data.{Data, null, boolean, number, string, array, object, no_items, item, no_members, member}
use Rattle.serde_json.specs.Find.{get, get_member}
use Rattle.luks_rules.specs.declared.table.Section.TheVariants.{Config}
use Rattle.luks_rules.specs.Faults.{section_at}

abbrev pub is_empty_array : Data → Bool
is_empty_array null = false
is_empty_array (boolean b) = false
is_empty_array (number n) = false
is_empty_array (string s) = false
is_empty_array (array no_items) = true
is_empty_array (array (item d ds)) = false
is_empty_array (object ms) = false

-- `null`, `[]`, `{}` or `{"mandatory":[]}`
abbrev pub asks_nothing : Data → Bool
asks_nothing null = true
asks_nothing (boolean b) = false
asks_nothing (number n) = false
asks_nothing (string s) = false
asks_nothing (array no_items) = true
asks_nothing (array (item d ds)) = false
asks_nothing (object no_members) = true
asks_nothing (object (member k d no_members)) = option_map_or is_empty_array (get_member (codes "mandatory") (member k d no_members)) false
asks_nothing (object (member k d (member l e ms))) = false

-- `config.requirements` is there and asks for something
abbrev pub has_requirements : Data → Bool
has_requirements j = option_map_or (λ d. not (asks_nothing d)) (option_and_then (get (codes "requirements")) (section_at j Config)) false
