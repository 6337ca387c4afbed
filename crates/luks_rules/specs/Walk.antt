-- The first place of a section with a fault, in the order of the section's rows and of the numbers.
use Rattle.std.specs.Prelude.{ℕ, List, [], ◌∷◌, Option, Some, None, find, option_map, if◌then◌else◌}
use Rattle.serde_json.specs.Data.{Data}
use Rattle.luks_rules.specs.declared.table.Section.{Section}
use Rattle.luks_rules.specs.declared.table.Section.TheVariants.{Config, Digests, Keyslots, Segments, Tokens}
use Rattle.luks_rules.specs.declared.table.Row.{Row}
use Rattle.luks_rules.specs.declared.place.Place.{Place}
use Rattle.luks_rules.specs.declared.place.Test.{Test}
use Rattle.luks_rules.specs.Table.{rows_of}
use Rattle.luks_rules.specs.Faults.{section_at, object_at, row_fault, object_fault, section_fault}

-- the numbers in the order of the bytes of their names
abbrev pub numbers : List ℕ
numbers = 0 ∷ 1 ∷ 10 ∷ 11 ∷ 12 ∷ 13 ∷ 14 ∷ 15 ∷ 16 ∷ 17 ∷ 18 ∷ 19 ∷ 2 ∷ 20 ∷ 21 ∷ 22 ∷ 23 ∷ 24 ∷ 25 ∷ 26 ∷ 27 ∷ 28 ∷ 29
    ∷ 3 ∷ 30 ∷ 31 ∷ 4 ∷ 5 ∷ 6 ∷ 7 ∷ 8 ∷ 9 ∷ []

abbrev pub place : Section → Option ℕ → Option Row → Place
place s n r = record { section = s; number = n; row = r }

abbrev pub or_else : {A : Type 0} → Option A → Option A → Option A
or_else None b = b
or_else (Some a) b = Some a

abbrev pub first_row : Test → List Row → Data → Section → Option ℕ → Data → Option Place
first_row t rows j s n d = option_map (λ r. place s n (Some r)) (find (row_fault t rows j d) rows)

-- at an object: its own fault, or that of its first row with one
abbrev pub first_in : Test → List Row → Data → Section → ℕ → Option Data → Option Place
first_in t rows j s n None = None
first_in t rows j s n (Some d) = if object_fault t j s n d then Some (place s (Some n) None) else first_row t rows j s (Some n) d

abbrev pub first_numbered : Test → List Row → Data → Section → List ℕ → Option Place
first_numbered t rows j s [] = None
first_numbered t rows j s (n ∷ ns) = or_else (first_in t rows j s n (object_at j s n)) (first_numbered t rows j s ns)

abbrev pub first_of_config : Test → List Row → Data → Option Data → Option Place
first_of_config t rows j None = None
first_of_config t rows j (Some d) = first_row t rows j Config None d

abbrev pub after_section : Test → Data → Section → Option Place → Option Place
after_section t j s rest = if section_fault t j s then Some (place s None None) else rest

abbrev pub first_of_section : Test → List Row → List ℕ → Data → Section → Option Place
first_of_section t rows ns j Config = after_section t j Config (first_of_config t rows j (section_at j Config))
first_of_section t rows ns j Digests = after_section t j Digests (first_numbered t rows j Digests ns)
first_of_section t rows ns j Keyslots = after_section t j Keyslots (first_numbered t rows j Keyslots ns)
first_of_section t rows ns j Segments = after_section t j Segments (first_numbered t rows j Segments ns)
first_of_section t rows ns j Tokens = after_section t j Tokens (first_numbered t rows j Tokens ns)

abbrev pub first_place : Test → Data → List Section → Option Place
first_place t j [] = None
first_place t j (s ∷ ss) = or_else (first_of_section t (rows_of s) numbers j s) (first_place t j ss)
