-- The numbers of the metadata that speak of the volume: lengths, key areas and their region.
-- `len` is the length of the JSON area in bytes, so that a header has `len + 4096` bytes.
use Rattle.std.specs.Prelude.{◌≡◌, ℕ, ◌+◌, ◌*◌, ◌<◌, List, codes, Bool, true, false, ◌||◌, ◌==◌, not, nat_lt, Option, option_and_then}
use Rattle.std.specs.Option.{option_map_or}
use Rattle.serde_json.specs.Data.{Data}
use Rattle.serde_json.specs.Find.{get}
use Rattle.luks_rules.specs.declared.table.Section.TheVariants.{Config, Keyslots, Segments}
use Rattle.luks_rules.specs.declared.table.Outer.{Outer}
use Rattle.luks_rules.specs.declared.table.Outer.TheVariants as outer
use Rattle.luks_area.specs.Sectors.{rounded_to_sectors}
use Rattle.luks_rules.specs.declared.place.SizeTest.{SizeTest}
use Rattle.luks_rules.specs.declared.place.SizeTest.TheVariants as sizes
use Rattle.luks_rules.specs.Reading.{number_in, decimal_in}
use Rattle.luks_rules.specs.Faults.{section_at, object_at, outer_at}

-- the member of the object, or of the one inside it
abbrev pub inside_at : Outer → List ℕ → Data → Option Data
inside_at o name d = option_and_then (get name) (outer_at d o)

abbrev pub json_size : Data → Option ℕ
json_size j = decimal_in (option_and_then (get (codes "json_size")) (section_at j Config))

abbrev pub keyslots_size : Data → Option ℕ
keyslots_size j = decimal_in (option_and_then (get (codes "keyslots_size")) (section_at j Config))

-- where the key areas' region begins: after the two copies of the header
abbrev pub region_start : ℕ → ℕ
region_start len = 2 * (len + 4096)

-- the test holds of both numbers, if they are there
abbrev pub of_both : Option ℕ → Option ℕ → (ℕ → ℕ → Bool) → Bool
of_both a b test = option_map_or (λ x. option_map_or (test x) b false) a false

-- the area of the keyslot `d` has fewer bytes than the sectors of its stripes
abbrev pub is_too_small : Data → Bool
is_too_small d =
    option_map_or (λ size. of_both (number_in 1 128 (inside_at outer.Top (codes "key_size") d)) (number_in 1 4294967295 (inside_at outer.Af (codes "stripes") d))
    (λ key stripes. nat_lt size (rounded_to_sectors (key * stripes)))) (decimal_in (inside_at outer.Area (codes "size") d)) false

-- the area of the keyslot `d` isn't within the region
abbrev pub is_outside : ℕ → Option ℕ → Data → Bool
is_outside len region d =
    option_map_or (λ bytes. of_both (decimal_in (inside_at outer.Area (codes "offset") d)) (decimal_in (inside_at outer.Area (codes "size") d))
    (λ start size. nat_lt start (region_start len) || nat_lt (region_start len + bytes) (start + size))) region false

-- the segment `d` begins before the region's end
abbrev pub is_below : ℕ → Option ℕ → Data → Bool
is_below len region d =
    of_both region (decimal_in (inside_at outer.Top (codes "offset") d)) (λ bytes start. nat_lt start (region_start len + bytes))

-- the size that is written isn't that of the area
abbrev pub has_other_size : ℕ → Data → Bool
has_other_size len j = option_map_or (λ n. not (n == len)) (json_size j) true

abbrev pub has_small_area : Data → ℕ → Bool
has_small_area j n = option_map_or is_too_small (object_at j Keyslots n) false

abbrev pub has_slot_outside : ℕ → Data → ℕ → Bool
has_slot_outside len j n = option_map_or (is_outside len (keyslots_size j)) (object_at j Keyslots n) false

abbrev pub has_segment_below : ℕ → Data → ℕ → Bool
has_segment_below len j n = option_map_or (is_below len (keyslots_size j)) (object_at j Segments n) false

abbrev pub has_size_fault : SizeTest → ℕ → Data → ℕ → Bool
has_size_fault sizes.SmallArea len j = has_small_area j
has_size_fault sizes.SlotOutside len j = has_slot_outside len j
has_size_fault sizes.SegmentBelow len j = has_segment_below len j

-- the least number below 32 for which the test holds
pub record IsFirst (test : ℕ → Bool) (n : ℕ) : Type 0 where
  pub below : n < 32
  pub holds : test n ≡ true
  pub first : (m : ℕ) → m < n → test m ≡ false
