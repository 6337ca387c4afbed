-- When the metadata of a JSON area is accepted, said of its value.
use Rattle.std.specs.Prelude.{◌≡◌, ℕ, ◌+◌, ◌*◌, ◌<◌, ◌≤◌, List, codes, length, true, false, Some, is_some, slice_get, option_and_then}
use Rattle.serde_json.specs.Data.{Data, Items}
use Rattle.serde_json.specs.Find.{as_array, as_object}
use Rattle.serde_json.specs.Written.{has_float}
use Rattle.luks_rules.specs.declared.table.Section.{Section}
use Rattle.luks_rules.specs.declared.table.Section.TheVariants.{Config, Digests, Keyslots, Segments}
use Rattle.luks_rules.specs.declared.table.Outer.TheVariants as outer
use Rattle.luks_rules.specs.declared.table.Rule.TheVariants as rule
use Rattle.luks_rules.specs.declared.table.When.TheVariants as when
use Rattle.luks_rules.specs.declared.table.Row.{Row}
use Rattle.luks_rules.specs.Table.{config_rows, rows_of}
use Rattle.luks_json.specs.Number.{number_text}
use Rattle.luks_rules.specs.Reading.{number_in, decimal_in, reads}
use Rattle.luks_json.specs.Arrays.{all_there, has_repeat, naming_count}
use Rattle.luks_rules.specs.Faults.{Among, is_section, is_judged, is_numbered, object_at, section_at, suits, type_at, value_at}
use Rattle.luks_area.specs.Sectors.{rounded_to_sectors}
use Rattle.luks_rules.specs.Sizes.{inside_at, json_size, keyslots_size, region_start}
use Rattle.luks_rules.specs.MetaFault.{Json}

-- it is an object, and each row that is judged meets its rule.
pub record IsRead (rows : List Row) (d : Data) : Type 0 where
  pub is_object : is_some (as_object d) ≡ true
  pub each : (i : ℕ) (r : Row) → slice_get rows i ≡ Some r → is_judged d r ≡ true → is_some (reads r.rule (value_at d r)) ≡ true

-- `d` is the object of the section with the number as its name
pub record HasObject (j : Data) (s : Section) (n : ℕ) (d : Data) : Type 0 where
  pub numbered : is_numbered s ≡ true
  pub named : n < 32
  pub is : object_at j s n ≡ Some d

-- the object has the array at a row whose texts are names of objects of `target`
pub record HasNames (j : Data) (s : Section) (target : Section) (list : Items) : Type 0 where
  pub number : ℕ
  pub object : Data
  pub held : HasObject j s number object
  pub row : Row
  pub listed : Among row (rows_of s)
  pub speaks : row.rule ≡ rule.Names target
  pub is : option_and_then as_array (value_at object row) ≡ Some list

-- each name in an array is that of an object that is there, and is in it once; exactly one
-- digest names each keyslot and each `crypt` segment
pub record Resolves (j : Data) : Type 0 where
  pub there : (s target : Section) (list : Items) → HasNames j s target list → all_there (section_at j target) list ≡ true
  pub once : (s target : Section) (list : Items) → HasNames j s target list → has_repeat list ≡ false
  pub keyslots : (n : ℕ) (d : Data) → HasObject j Keyslots n d → naming_count (codes "keyslots") (number_text n) (section_at j Digests) ≡ 1
  pub segments : (n : ℕ) (d : Data) → HasObject j Segments n d → suits when.Crypt (type_at d outer.Top) ≡ true
      → naming_count (codes "segments") (number_text n) (section_at j Digests) ≡ 1

-- a value in an area of `len` bytes whose numbers are whole, whose members meet the rules of the
-- table, whose names resolve, and whose key areas are large enough and lie in their region
pub record IsContent (len : ℕ) (j : Data) : Type 0 where
  pub whole : has_float j ≡ false
  -- the sections are objects; the members of all but `config` are named by numbers
  pub sections : (s : Section) → is_section s (section_at j s) ≡ true
  pub config : (d : Data) → section_at j Config ≡ Some d → IsRead config_rows d
  pub objects : (s : Section) (n : ℕ) (d : Data) → HasObject j s n d → IsRead (rows_of s) d
  pub resolves : Resolves j
  pub sized : json_size j ≡ Some len
  pub large : (n : ℕ) (d : Data) (key stripes size : ℕ) → HasObject j Keyslots n d
      → number_in 1 128 (inside_at outer.Top (codes "key_size") d) ≡ Some key
      → number_in 1 4294967295 (inside_at outer.Af (codes "stripes") d) ≡ Some stripes
      → decimal_in (inside_at outer.Area (codes "size") d) ≡ Some size
      → rounded_to_sectors (key * stripes) ≤ size
  pub within : (n : ℕ) (d : Data) (bytes start size : ℕ) → HasObject j Keyslots n d
      → keyslots_size j ≡ Some bytes
      → decimal_in (inside_at outer.Area (codes "offset") d) ≡ Some start
      → decimal_in (inside_at outer.Area (codes "size") d) ≡ Some size
      → (region_start len ≤ start) × (start + size ≤ region_start len + bytes)

-- the metadata of the area is accepted, with the value
pub record IsMeta (area : List ℕ) (j : Data) : Type 0 where
  pub json : Json area j
  pub content : IsContent (length area) j
