-- The places where what is under way contradicts itself, and their paths.
use Rattle.std.specs.Prelude.{◌≡◌, ◌<◌, ℕ, List, codes, ◌++◌, Bool, true, ◌&&◌, false, nat_lt}
use Rattle.std.specs.Option.{option_map_or}
use Rattle.serde_json.specs.Data.{Data}
use Rattle.luks_json.specs.Number.{number_text}
use Rattle.luks_rules.specs.declared.table.Section.TheVariants.{Segments as SegmentsMap}
use Rattle.luks_rules.specs.Accepted.{HasObject}
use Rattle.luks_rules.specs.Faults.{object_at}
use Rattle.luks_underway.specs.Segments.{IsWideSegment}
use Rattle.luks_contradictions.specs.Contradictions.{is_misparted, is_out_of_place, is_second, lacks_requirement}
use Rattle.luks_contradictions.specs.declared.contradiction.Contradiction.{Contradiction}
use Rattle.luks_contradictions.specs.declared.contradiction.Contradiction.TheVariants.{Keyslot, Requirements, Segment, Segments}

abbrev pub has_out_of_place : Data → ℕ → Bool
has_out_of_place j n = option_map_or (is_out_of_place j n) (object_at j SegmentsMap n) false

-- what is under way contradicts itself at the place
abbrev pub contradicts : Data → Contradiction → Bool
contradicts j Requirements = lacks_requirement j
contradicts j (Keyslot n) = nat_lt n 32 && is_second j n
contradicts j Segments = is_misparted j
contradicts j (Segment n) = nat_lt n 32 && has_out_of_place j n

-- its keyslot or segment has a name
abbrev pub IsNamed : Contradiction → Type 0
IsNamed Requirements = Unit {0}
IsNamed (Keyslot n) = n < 32
IsNamed Segments = Unit {0}
IsNamed (Segment n) = n < 32

abbrev pub contradiction_path : Contradiction → List ℕ
contradiction_path Requirements = codes "config.requirements"
contradiction_path (Keyslot n) = codes "keyslots." ++ number_text n
contradiction_path Segments = codes "segments"
contradiction_path (Segment n) = codes "segments." ++ number_text n

-- a place with the path where it does
pub record ContradictsAt (j : Data) (path : List ℕ) : Type 0 where
  pub place : Contradiction
  pub holds : contradicts j place ≡ true
  pub is : path ≡ contradiction_path place

-- each segment has the members that one has to have
abbrev pub AreWideSegments : Data → Type 0
AreWideSegments j = (n : ℕ) (d : Data) → HasObject j SegmentsMap n d → IsWideSegment d
