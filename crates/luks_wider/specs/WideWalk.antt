-- The first place of a section with a fault, in the order of the object's rows and of the numbers.
use Rattle.std.specs.Prelude.{ℕ, List, [], ◌∷◌, Option, Some, None, find, option_map, if◌then◌else◌}
use Rattle.serde_json.specs.Data.{Data}
use Rattle.luks_rules.specs.declared.place.Test.{Test}
use Rattle.luks_rules.specs.declared.table.Section.{Section}
use Rattle.luks_rules.specs.declared.table.Section.TheVariants.{Config, Digests, Keyslots, Segments, Tokens}
use Rattle.luks_rules.specs.Faults.{object_at, section_at, section_fault}
use Rattle.luks_wider.specs.Places.{wide_object_fault, wide_row_fault}
use Rattle.luks_wider.specs.Rows.{rows_for}
use Rattle.luks_wider.specs.declared.place.WidePlace.{WidePlace}
use Rattle.luks_wider.specs.declared.rows.WideRow.{WideRow}

-- the numbers in the order of the bytes of their names
abbrev pub numbers : List ℕ
numbers = 0 ∷ 1 ∷ 10 ∷ 11 ∷ 12 ∷ 13 ∷ 14 ∷ 15 ∷ 16 ∷ 17 ∷ 18 ∷ 19 ∷ 2 ∷ 20 ∷ 21 ∷ 22 ∷ 23 ∷ 24 ∷ 25 ∷ 26 ∷ 27 ∷ 28 ∷ 29
    ∷ 3 ∷ 30 ∷ 31 ∷ 4 ∷ 5 ∷ 6 ∷ 7 ∷ 8 ∷ 9 ∷ []

abbrev pub place : Section → Option ℕ → Option WideRow → WidePlace
place s n r = record { section = s; number = n; row = r }

abbrev pub or_else : {A : Type 0} → Option A → Option A → Option A
or_else None b = b
or_else (Some a) b = Some a

-- the first row of an object with a fault
abbrev pub first_faulty : Test → Data → Section → Data → Option WideRow
first_faulty t j s d = find (wide_row_fault t s j d) (rows_for s d)

abbrev pub first_row : Test → Data → Section → Option ℕ → Data → Option WidePlace
first_row t j s n d = option_map (λ r. place s n (Some r)) (first_faulty t j s d)

-- at an object: its own fault, or that of its first row with one
abbrev pub first_in : Test → Data → Section → ℕ → Option Data → Option WidePlace
first_in t j s n None = None
first_in t j s n (Some d) = if wide_object_fault t j s n d then Some (place s (Some n) None) else first_row t j s (Some n) d

abbrev pub first_numbered : Test → Data → Section → List ℕ → Option WidePlace
first_numbered t j s [] = None
first_numbered t j s (n ∷ ns) = or_else (first_in t j s n (object_at j s n)) (first_numbered t j s ns)

abbrev pub first_of_config : Test → Data → Option Data → Option WidePlace
first_of_config t j None = None
first_of_config t j (Some d) = first_row t j Config None d

abbrev pub after_section : Test → Data → Section → Option WidePlace → Option WidePlace
after_section t j s rest = if section_fault t j s then Some (place s None None) else rest

abbrev pub first_of_section : Test → List ℕ → Data → Section → Option WidePlace
first_of_section t ns j Config = after_section t j Config (first_of_config t j (section_at j Config))
first_of_section t ns j Digests = after_section t j Digests (first_numbered t j Digests ns)
first_of_section t ns j Keyslots = after_section t j Keyslots (first_numbered t j Keyslots ns)
first_of_section t ns j Segments = after_section t j Segments (first_numbered t j Segments ns)
first_of_section t ns j Tokens = after_section t j Tokens (first_numbered t j Tokens ns)

abbrev pub first_place : Test → Data → List Section → Option WidePlace
first_place t j [] = None
first_place t j (s ∷ ss) = or_else (first_of_section t numbers j s) (first_place t j ss)
