-- The rows of a volume with a LUKS1 header: of the areas that `Luks1Area` of luks_reading has, and of its end.
use Rattle.std.specs.Prelude.{ℕ, ◌+◌, ◌-◌, ◌*◌, List, [], ◌∷◌, ◌++◌}
use Rattle.luks_area.specs.Sectors.{rounded_to_sectors}
use Rattle.luks1_header.specs.declared.luks1.Luks1.{Luks1}
use Rattle.luks1_header.specs.declared.luks1.Luks1Slot.{Luks1Slot}
use Rattle.luks_map.specs.declared.part.Part.TheVariants.{Luks1Header, Luks1Keyslot, Segment}
use Rattle.luks_map.specs.declared.row.Row.{Row}
use Rattle.luks_map.specs.declared.row.Row.TheVariants.{Area, VolumeEnd}

-- the key area of keyslot n, of a volume key of so many bytes, in whole sectors
abbrev pub slot_row : ℕ → ℕ → Luks1Slot → Row
slot_row key_bytes n s =
    Area (Luks1Keyslot n s.state) (record { start = s.key_material_offset * 512; len = rounded_to_sectors (key_bytes * s.stripes) })

-- those from the number n on
abbrev pub slot_rows : ℕ → ℕ → List Luks1Slot → List Row
slot_rows key_bytes n [] = []
slot_rows key_bytes n (s ∷ ss) = slot_row key_bytes n s ∷ slot_rows key_bytes (n + 1) ss

-- the segment, from the payload's place to the end of a volume of `total` bytes
abbrev pub payload_row : Luks1 → ℕ → Row
payload_row header total =
    let start = header.common.payload_offset * 512 in
    Area (Segment 0) (record { start = start; len = total - start })

abbrev pub luks1_rows : Luks1 → ℕ → List Row
luks1_rows header total =
    VolumeEnd total ∷ Area Luks1Header (record { start = 0; len = 592 })
    ∷ (slot_rows header.common.key_bytes 0 header.slots ++ payload_row header total ∷ [])
