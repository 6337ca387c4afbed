-- The rows of a volume in whose metadata `j` something is under way: of the copies of its header, of the keyslots' areas, of the segments, and of two ends
-- (LUKS2 On-Disk Format 1.1.3, 3.2 and 3.3).
use Rattle.std.specs.Prelude.{◌≡◌, ℕ, zero, suc, ◌-◌, List, [], ◌∷◌, ◌++◌, if◌then◌else◌, Option, Some, None, option_and_then, option_map}
use Rattle.serde_json.specs.Data.{Data}
use Rattle.luks_area.specs.declared.area.Area.{Area as TheArea}
use Rattle.luks_rules.specs.declared.table.Member.TheVariants as name
use Rattle.luks_rules.specs.declared.table.Outer.TheVariants as outer
use Rattle.luks_rules.specs.declared.table.Section.{Section}
use Rattle.luks_rules.specs.declared.table.Section.TheVariants.{Keyslots, Segments}
use Rattle.luks_rules.specs.Faults.{member_at, object_at}
use Rattle.luks_rules.specs.Reading.{Field, dynamic, whole, decimal_in, extent_of, text_of}
use Rattle.luks_rules.specs.Sizes.{keyslots_size}
use Rattle.luks_underway.specs.Kinds.{is_hot, is_kept_back}
use Rattle.luks_map.specs.declared.part.Part.TheVariants as part
use Rattle.luks_map.specs.declared.row.Row.{Row}
use Rattle.luks_map.specs.declared.row.Row.TheVariants.{Area, KeyAreasEnd, VolumeEnd, Backup}

-- the place and the length, where both are there
abbrev pub place_of : Option ℕ → Option ℕ → Option TheArea
place_of start len = option_and_then (λ s. option_map (λ l. record { start = s; len = l }) len) start

-- the key area of the keyslot `d`, or the area of the one that says what is under way
abbrev pub slot_row : ℕ → Data → Option Row
slot_row n d = option_map (Area (part.Luks2Keyslot n)) (place_of (decimal_in (member_at d outer.Area name.Offset)) (decimal_in (member_at d outer.Area name.Size)))

-- a segment's length: a number, or to the end of a volume of `total` bytes
abbrev pub length_by : ℕ → ℕ → Option Field → Option ℕ
length_by total start (Some (whole size)) = Some size
length_by total start (Some dynamic) = Some (total - start)
length_by total start _ = None

abbrev pub segment_start : Data → Option ℕ
segment_start d = decimal_in (member_at d outer.Top name.Offset)

abbrev pub segment_length : ℕ → Data → Option ℕ
segment_length total d =
    option_and_then (λ start. length_by total start (option_and_then extent_of (text_of (member_at d outer.Top name.Size)))) (segment_start d)

-- a backup is none of the volume's areas; another segment is the part in hand, or not
abbrev pub segment_as : ℕ → Data → TheArea → Row
segment_as n d a = if is_kept_back d then Backup n a else (if is_hot d then Area (part.InHand n) a else Area (part.Segment n) a)

abbrev pub segment_row : ℕ → ℕ → Data → Option Row
segment_row total n d = option_map (segment_as n d) (place_of (segment_start d) (segment_length total d))

-- ---- by number

abbrev pub row_list : Option Row → List Row
row_list None = []
row_list (Some r) = r ∷ []

unfoldable pub rows_below : (ℕ → Option Row) → ℕ → List Row
rows_below row zero = []
rows_below row (suc n) = rows_below row n ++ row_list (row n)

-- the row of the object with the number, if it is there
abbrev pub object_row : (ℕ → Data → Option Row) → Data → Section → ℕ → Option Row
object_row row j s n = option_and_then (row n) (object_at j s n)

abbrev pub section_rows : (ℕ → Data → Option Row) → Data → Section → List Row
section_rows row j s = rows_below (object_row row j s) 32

-- ---- all of them

abbrev pub copy_rows : ℕ → List Row
copy_rows header = Area part.FirstCopy (record { start = 0; len = header }) ∷ Area part.SecondCopy (record { start = header; len = header }) ∷ []

-- of a volume of `total` bytes with copies of `header` bytes
pub record IsUnderwayRows (header : ℕ) (j : Data) (total : ℕ) (rows : List Row) : Type 0 where
  pub size : ℕ
  pub says : keyslots_size j ≡ Some size
  pub is : rows ≡ (KeyAreasEnd header size ∷ VolumeEnd total ∷ copy_rows header) ++ section_rows slot_row j Keyslots ++ section_rows (segment_row total) j Segments
