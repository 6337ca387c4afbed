-- The areas of a LUKS2 volume (LUKS2 On-Disk Format 1.1, 2 and 3), as its metadata `j` places them.
use Rattle.std.specs.Prelude.{◌≡◌, ℕ, ◌-◌, ◌<◌, List, codes, Option, Some, option_and_then}
use Rattle.serde_json.specs.Data.{Data as Json}
use Rattle.serde_json.specs.Find.{get}
use Rattle.luks_area.specs.declared.area.Area.{Area}
use Rattle.luks_area.specs.declared.area.AreaName.{AreaName}
use Rattle.luks_area.specs.declared.area.AreaName.TheVariants.{Head1, Head2, Slot, Segment}
use Rattle.luks_rules.specs.declared.table.Section.TheVariants.{Keyslots, Segments}
use Rattle.luks_meta.specs.Faults.{object_at}
use Rattle.luks_meta.specs.Reading.{Field, dynamic, whole, decimal_in, extent_of, text_of}
use Rattle.luks_reading.specs.declared.report.Data.{Data}
use Rattle.luks_reading.specs.declared.report.Data.TheVariants.{Here}

-- the decimal member of the area of keyslot `n`
abbrev pub slot_number : Json → ℕ → List ℕ → Option ℕ
slot_number j n name = decimal_in (option_and_then (get name) (option_and_then (get (codes "area")) (object_at j Keyslots n)))

abbrev pub segment_offset : Json → ℕ → Option ℕ
segment_offset j n = decimal_in (option_and_then (get (codes "offset")) (object_at j Segments n))

-- the size of segment `n`: a number, or to the volume's end
abbrev pub segment_extent : Json → ℕ → Option Field
segment_extent j n = option_and_then extent_of (text_of (option_and_then (get (codes "size")) (object_at j Segments n)))

-- an area that starts at `start` in a volume of `total` bytes has the length that the extent says
abbrev pub HasExtent : ℕ → ℕ → ℕ → Option Field → Type 0
HasExtent total start len (Some dynamic) = len ≡ total - start
HasExtent total start len (Some (whole size)) = len ≡ size
HasExtent total start len _ = ⊥

-- the area named `n` of a volume of `total` bytes whose header has `h` bytes and the metadata `j`:
-- both copies of the header, the keyslots, and with the payload here the segments
abbrev pub Luks2Area : Json → ℕ → Data → ℕ → AreaName → Area → Type 0
Luks2Area j h payload total Head1 a = (a.start ≡ 0) × (a.len ≡ h)
Luks2Area j h payload total Head2 a = (a.start ≡ h) × (a.len ≡ h)
Luks2Area j h payload total (Slot n) a =
    (n < 32) × (slot_number j n (codes "offset") ≡ Some a.start) × (slot_number j n (codes "size") ≡ Some a.len)
Luks2Area j h payload total (Segment n) a =
    (n < 32) × (payload ≡ Here) × (segment_offset j n ≡ Some a.start) × HasExtent total a.start a.len (segment_extent j n)
