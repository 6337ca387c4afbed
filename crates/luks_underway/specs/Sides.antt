-- The two keys of a reencryption (LUKS2 On-Disk Format 1.1.3, 3.3 and 4.9): the data is told by the segment that has the flag `backup-previous` or
-- `backup-final`, and its key by the digest that names that segment.
use Rattle.std.specs.Prelude.{◌≡◌, ℕ, ◌<◌, List, codes, Bool, true, false, nat_lt, ◌&&◌, Option, Some, None}
use Rattle.std.specs.Option.{option_map_or}
use Rattle.serde_json.specs.Data.{Data}
use Rattle.serde_json.specs.Find.{get}
use Rattle.luks_json.specs.Arrays.{names}
use Rattle.luks_json.specs.Number.{number_text}
use Rattle.luks_rules.specs.declared.table.Section.TheVariants.{Digests, Segments}
use Rattle.luks_rules.specs.Faults.{object_at}
use Rattle.luks_rules.specs.Sizes.{IsFirst}
use Rattle.luks_underway.specs.declared.sides.Side.{Side}
use Rattle.luks_underway.specs.declared.sides.Side.TheVariants.{Old, New, Both, Neither}
use Rattle.luks_underway.specs.Segments.{has_flag}

-- the segment `n` has the flag
abbrev pub has_flagged : Data → List ℕ → ℕ → Bool
has_flagged j flag n = option_map_or (has_flag flag) (object_at j Segments n) false

-- the digest `m` has the name of `n` in its array
abbrev pub is_named : Data → List ℕ → ℕ → ℕ → Bool
is_named j list n m = option_map_or (λ d. names (number_text n) (get list d)) (object_at j Digests m) false

-- the digest of the key by which the data is read that the segment with the flag tells of; none where no digest names it
abbrev pub IsSide : Data → List ℕ → Option ℕ → Type 0
IsSide j flag (Some m) = (n : ℕ) × IsFirst (has_flagged j flag) n × IsFirst (is_named j (codes "segments") n) m
IsSide j flag None = (n m : ℕ) → IsFirst (has_flagged j flag) n → m < 32 → is_named j (codes "segments") n m ≡ false

-- the keyslot `n` is assigned to that digest
abbrev pub is_side_of : Data → ℕ → Option ℕ → Bool
is_side_of j n side = option_map_or (λ m. nat_lt m 32 && is_named j (codes "keyslots") n m) side false

abbrev pub side_of : Bool → Bool → Side
side_of true true = Both
side_of true false = Old
side_of false true = New
side_of false false = Neither
