-- The faults of the metadata's members: places, and what is wrong at one.
use Rattle.std.specs.Prelude.{◌≡◌, ℕ, List, [], ◌∷◌, ◌++◌, codes, Bool, true, false, ◌&&◌, ◌||◌, ◌==◌, ◌<◌, ◌⊎◌, not, Option, Some, None, option_and_then, is_some}
use Rattle.std.specs.Option.{option_map_or}
use Rattle.std.specs.List.{list_any}
use Rattle.std.specs.Str.{bytes_eq}
use Rattle.serde_json.specs.Data.{Data}
use Rattle.serde_json.specs.Find.{get, as_array, as_object}
use Rattle.luks_rules.specs.declared.table.Section.{Section}
use Rattle.luks_rules.specs.declared.table.Section.TheVariants.{Config, Digests, Keyslots, Segments, Tokens}
use Rattle.luks_rules.specs.declared.table.Outer.{Outer}
use Rattle.luks_rules.specs.declared.table.Outer.TheVariants as outer
use Rattle.luks_rules.specs.declared.table.Member.{Member}
use Rattle.luks_rules.specs.declared.table.Rule.{Rule}
use Rattle.luks_rules.specs.declared.table.Rule.TheVariants as rule
use Rattle.luks_rules.specs.declared.table.When.{When}
use Rattle.luks_rules.specs.declared.table.When.TheVariants as when
use Rattle.luks_rules.specs.declared.table.Row.{Row}
use Rattle.luks_rules.specs.declared.place.Place.{Place}
use Rattle.luks_rules.specs.declared.place.Test.{Test}
use Rattle.luks_rules.specs.declared.place.Test.TheVariants as test
use Rattle.luks_rules.specs.Table.{section_name, member_name, rows_of}
use Rattle.luks_rules.specs.Reading.{reads, is_unlisted, text_of}
use Rattle.luks_json.specs.Number.{number_text}
use Rattle.luks_json.specs.Arrays.{all_named, all_there, has_repeat, naming_count}

-- ---- where a member stands

abbrev pub section_at : Data → Section → Option Data
section_at j s = get (section_name s) j

-- the object of a section with the number as its name
abbrev pub object_at : Data → Section → ℕ → Option Data
object_at j s n = option_and_then (get (number_text n)) (section_at j s)

-- the object itself, or the one inside it
abbrev pub outer_at : Data → Outer → Option Data
outer_at d outer.Top = Some d
outer_at d outer.Af = get (codes "af") d
outer_at d outer.Area = get (codes "area") d
outer_at d outer.Kdf = get (codes "kdf") d

-- the member of the object, or of the one inside it
abbrev pub member_at : Data → Outer → Member → Option Data
member_at d o n = option_and_then (get (member_name n)) (outer_at d o)

abbrev pub value_at : Data → Row → Option Data
value_at d r = member_at d r.outer r.name

abbrev pub type_at : Data → Outer → Option (List ℕ)
type_at d o = text_of (option_and_then (get (codes "type")) (outer_at d o))

-- ---- when a row is judged

abbrev pub suits : When → Option (List ℕ) → Bool
suits when.Always t = true
suits when.Pbkdf2 t = option_map_or (λ k. bytes_eq k (codes "pbkdf2")) t false
suits when.Argon2 t = option_map_or (λ k. bytes_eq k (codes "argon2i") || bytes_eq k (codes "argon2id")) t false
suits when.Crypt t = option_map_or (λ k. bytes_eq k (codes "crypt")) t false

-- the object that the member is in is there, and of a type that has the member
abbrev pub is_judged : Data → Row → Bool
is_judged d r = is_some (option_and_then as_object (outer_at d r.outer)) && suits r.when (type_at d r.outer)

-- an object of a type that isn't listed hides its members, and those of the objects inside it
abbrev pub covers : Outer → Outer → Bool
covers outer.Top o = true
covers outer.Af outer.Af = true
covers outer.Area outer.Area = true
covers outer.Kdf outer.Kdf = true
covers outer.Af outer.Top = false
covers outer.Af outer.Area = false
covers outer.Af outer.Kdf = false
covers outer.Area outer.Top = false
covers outer.Area outer.Af = false
covers outer.Area outer.Kdf = false
covers outer.Kdf outer.Top = false
covers outer.Kdf outer.Af = false
covers outer.Kdf outer.Area = false

abbrev pub encloses : Outer → Outer → Bool
encloses outer.Top outer.Top = false
encloses outer.Top outer.Af = true
encloses outer.Top outer.Area = true
encloses outer.Top outer.Kdf = true
encloses outer.Af o = false
encloses outer.Area o = false
encloses outer.Kdf o = false

abbrev pub is_hidden_by : (Outer → Outer → Bool) → List Row → Data → Row → Bool
is_hidden_by around rows d r = list_any (λ q. around q.outer r.outer && is_unlisted q.rule (value_at d q)) rows

-- ---- what is wrong at a row of an object `d`, whose section has the rows `rows`

-- the member breaks its rule
abbrev pub breaks_rule : List Row → Data → Row → Bool
breaks_rule rows d r = is_judged d r && not (is_some (reads r.rule (value_at d r))) && not (is_hidden_by covers rows d r)

-- the member is a type that isn't listed
abbrev pub has_unlisted_type : List Row → Data → Row → Bool
has_unlisted_type rows d r = is_unlisted r.rule (value_at d r) && not (is_hidden_by encloses rows d r)

-- the member is an array with the name of an object that isn't there
abbrev pub names_absent_object : Data → Rule → Option Data → Bool
names_absent_object j (rule.Names s) v = option_map_or (λ items. not (all_there (section_at j s) items)) (option_and_then as_array v) false
names_absent_object j rule.Object v = false
names_absent_object j rule.Text v = false
names_absent_object j (rule.Type l) v = false
names_absent_object j (rule.Number least most) v = false
names_absent_object j (rule.MayBeNumber least most) v = false
names_absent_object j rule.SectorSize v = false
names_absent_object j rule.Decimal v = false
names_absent_object j rule.DecimalOrDynamic v = false
names_absent_object j (rule.Base64 least most) v = false

-- the member is an array that has a text twice
abbrev pub repeats_name : Rule → Option Data → Bool
repeats_name (rule.Names s) v = option_map_or has_repeat (option_and_then as_array v) false
repeats_name rule.Object v = false
repeats_name rule.Text v = false
repeats_name (rule.Type l) v = false
repeats_name (rule.Number least most) v = false
repeats_name (rule.MayBeNumber least most) v = false
repeats_name rule.SectorSize v = false
repeats_name rule.Decimal v = false
repeats_name rule.DecimalOrDynamic v = false
repeats_name (rule.Base64 least most) v = false

abbrev pub row_fault : Test → List Row → Data → Data → Row → Bool
row_fault test.Shape rows j d r = breaks_rule rows d r
row_fault test.Kind rows j d r = has_unlisted_type rows d r
row_fault test.NoSuchName rows j d r = names_absent_object j r.rule (value_at d r)
row_fault test.Assigned rows j d r = repeats_name r.rule (value_at d r)

-- ---- what is wrong at an object, and at a section

-- exactly one digest names the object
abbrev pub is_assigned : Data → List ℕ → ℕ → Bool
is_assigned j list n = naming_count list (number_text n) (section_at j Digests) == 1

-- a keyslot or a `crypt` segment that isn't named by exactly one digest
abbrev pub has_no_digest : Data → Section → ℕ → Data → Bool
has_no_digest j Keyslots n d = not (is_assigned j (codes "keyslots") n)
has_no_digest j Segments n d = suits when.Crypt (type_at d outer.Top) && not (is_assigned j (codes "segments") n)
has_no_digest j Config n d = false
has_no_digest j Digests n d = false
has_no_digest j Tokens n d = false

abbrev pub object_fault : Test → Data → Section → ℕ → Data → Bool
object_fault test.Shape j s n d = not (is_some (as_object d))
object_fault test.Kind j s n d = false
object_fault test.NoSuchName j s n d = false
object_fault test.Assigned j s n d = has_no_digest j s n d

-- the section is an object, and except for `config` the name of each member is a name
abbrev pub is_section : Section → Option Data → Bool
is_section Config v = is_some (option_and_then as_object v)
is_section Digests v = option_map_or all_named (option_and_then as_object v) false
is_section Keyslots v = option_map_or all_named (option_and_then as_object v) false
is_section Segments v = option_map_or all_named (option_and_then as_object v) false
is_section Tokens v = option_map_or all_named (option_and_then as_object v) false

abbrev pub section_fault : Test → Data → Section → Bool
section_fault test.Shape j s = not (is_section s (section_at j s))
section_fault test.Kind j s = false
section_fault test.NoSuchName j s = false
section_fault test.Assigned j s = false

-- ---- places

abbrev pub outer_path : Outer → List ℕ
outer_path outer.Top = []
outer_path outer.Af = codes "af."
outer_path outer.Area = codes "area."
outer_path outer.Kdf = codes "kdf."

abbrev pub row_path : Row → List ℕ
row_path r = outer_path r.outer ++ member_name r.name

abbrev pub after_point : List ℕ → List ℕ
after_point t = 46 ∷ t

-- a place's path: names joined by points
abbrev pub place_path : Place → List ℕ
place_path p = section_name p.section ++ (option_map_or (λ n. after_point (number_text n)) p.number [] ++ option_map_or (λ r. after_point (row_path r)) p.row [])

-- the fault at a place, if it is a place of a member, an object or a section
abbrev pub fault_at : Test → Data → Section → Option ℕ → Option Row → Bool
fault_at t j s None None = section_fault t j s
fault_at t j s None (Some r) = option_map_or (λ d. row_fault t (rows_of s) j d r) (section_at j s) false
fault_at t j s (Some n) None = option_map_or (object_fault t j s n) (object_at j s n) false
fault_at t j s (Some n) (Some r) = option_map_or (λ d. row_fault t (rows_of s) j d r) (object_at j s n) false

abbrev pub has_fault : Test → Data → Place → Bool
has_fault t j p = fault_at t j p.section p.number p.row

-- ---- which places there are

-- `x` is of the list
abbrev pub Among : {A : Type 0} → A → List A → Type 0
Among x [] = ⊥
Among x (y ∷ ys) = (x ≡ y) ⊎ Among x ys

abbrev pub is_numbered : Section → Bool
is_numbered Config = false
is_numbered Digests = true
is_numbered Keyslots = true
is_numbered Segments = true
is_numbered Tokens = true

-- each section; in `config` its members; in the others the objects 0 to 31 and their members
abbrev pub HasPlace : Section → Option ℕ → Option Row → Type 0
HasPlace s None None = Unit {0}
HasPlace s None (Some r) = (is_numbered s ≡ false) × Among r (rows_of s)
HasPlace s (Some n) None = (is_numbered s ≡ true) × (n < 32)
HasPlace s (Some n) (Some r) = (is_numbered s ≡ true) × (n < 32) × Among r (rows_of s)

abbrev pub IsPlace : Place → Type 0
IsPlace p = HasPlace p.section p.number p.row

-- the places where the test finds a fault
pub record IsFaulty (t : Test) (j : Data) (p : Place) : Type 0 where
  pub place : IsPlace p
  pub fault : has_fault t j p ≡ true
