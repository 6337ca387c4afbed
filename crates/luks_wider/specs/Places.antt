-- The faults of the members of metadata in which something is under way: places, and what is wrong at one.
use Rattle.std.specs.Prelude.{◌≡◌, ℕ, ◌<◌, List, [], ◌++◌, codes, Bool, true, false, ◌&&◌, ◌==◌, nat_lt, not, if◌then◌else◌, Option, Some, None, is_some}
use Rattle.std.specs.Option.{option_map_or}
use Rattle.serde_json.specs.Data.{Data}
use Rattle.serde_json.specs.Find.{as_object}
use Rattle.luks_json.specs.Number.{number_text}
use Rattle.luks_rules.specs.declared.place.Test.{Test}
use Rattle.luks_rules.specs.declared.place.Test.TheVariants as test
use Rattle.luks_rules.specs.declared.table.Section.{Section}
use Rattle.luks_rules.specs.declared.table.Section.TheVariants.{Config, Digests, Keyslots, Segments, Tokens}
use Rattle.luks_rules.specs.Faults.{after_point, Among, is_numbered, object_at, row_fault, section_at, section_fault}
use Rattle.luks_rules.specs.Table.{rows_of, section_name}
use Rattle.luks_underway.specs.Kinds.{is_hot, is_reencrypt, needs_digest}
use Rattle.luks_contradictions.specs.Counts.{digests_of}
use Rattle.luks_wider.specs.Rows.{breaks_new, is_foreign, rows_for, wide_path}
use Rattle.luks_wider.specs.declared.place.WidePlace.{WidePlace}
use Rattle.luks_wider.specs.declared.rows.WideRow.{WideRow}
use Rattle.luks_wider.specs.declared.rows.WideRow.TheVariants.{Known, New}

-- ---- what is wrong at a row of an object `d`, and at an object

abbrev pub wide_row_fault : Test → Section → Data → Data → WideRow → Bool
wide_row_fault t s j d (Known r) = row_fault t (rows_of s) j d r
wide_row_fault test.Shape s j d (New r) = breaks_new r d
wide_row_fault test.Kind s j d (New r) = is_foreign r d
wide_row_fault test.NoSuchName s j d (New r) = false
wide_row_fault test.Assigned s j d (New r) = false

-- a keyslot with a key is of one digest, the one that says what is under way of one at most; a segment that is encrypted is of one, the part in hand
-- of one or two
abbrev pub is_unassigned : Data → Section → ℕ → Data → Bool
is_unassigned j Config n d = false
is_unassigned j Digests n d = false
is_unassigned j Keyslots n d =
    if is_reencrypt d then nat_lt 1 (digests_of j (codes "keyslots") n) else not (digests_of j (codes "keyslots") n == 1)
is_unassigned j Segments n d =
    needs_digest d && not (digests_of j (codes "segments") n == 1) && not (is_hot d && digests_of j (codes "segments") n == 2)
is_unassigned j Tokens n d = false

abbrev pub wide_object_fault : Test → Data → Section → ℕ → Data → Bool
wide_object_fault test.Shape j s n d = not (is_some (as_object d))
wide_object_fault test.Kind j s n d = false
wide_object_fault test.NoSuchName j s n d = false
wide_object_fault test.Assigned j s n d = is_unassigned j s n d

-- ---- places

-- a place's path: names joined by points
abbrev pub wide_place_path : WidePlace → List ℕ
wide_place_path p = section_name p.section
    ++ (option_map_or (λ n. after_point (number_text n)) p.number [] ++ option_map_or (λ r. after_point (wide_path r)) p.row [])

abbrev pub wide_fault_at : Test → Data → Section → Option ℕ → Option WideRow → Bool
wide_fault_at t j s None None = section_fault t j s
wide_fault_at t j s None (Some r) = option_map_or (λ d. wide_row_fault t s j d r) (section_at j s) false
wide_fault_at t j s (Some n) None = option_map_or (wide_object_fault t j s n) (object_at j s n) false
wide_fault_at t j s (Some n) (Some r) = option_map_or (λ d. wide_row_fault t s j d r) (object_at j s n) false

abbrev pub has_wide_fault : Test → Data → WidePlace → Bool
has_wide_fault t j p = wide_fault_at t j p.section p.number p.row

-- each section; in `config` its members; in the others the objects 0 to 31, and of each the members that such an object has
abbrev pub HasWidePlace : Data → Section → Option ℕ → Option WideRow → Type 0
HasWidePlace j s None None = Unit {0}
HasWidePlace j s None (Some r) = (is_numbered s ≡ false) × ((d : Data) × (section_at j s ≡ Some d) × Among r (rows_for s d))
HasWidePlace j s (Some n) None = (is_numbered s ≡ true) × (n < 32)
HasWidePlace j s (Some n) (Some r) = (is_numbered s ≡ true) × (n < 32) × ((d : Data) × (object_at j s n ≡ Some d) × Among r (rows_for s d))

abbrev pub IsWidePlace : Data → WidePlace → Type 0
IsWidePlace j p = HasWidePlace j p.section p.number p.row

-- the places where the test finds a fault
pub record IsWideFaulty (t : Test) (j : Data) (p : WidePlace) : Type 0 where
  pub place : IsWidePlace j p
  pub fault : has_wide_fault t j p ≡ true

-- a place with the path where it does
pub record HasWidePath (t : Test) (j : Data) (path : List ℕ) : Type 0 where
  pub place : WidePlace
  pub faulty : IsWideFaulty t j place
  pub is : path ≡ wide_place_path place
