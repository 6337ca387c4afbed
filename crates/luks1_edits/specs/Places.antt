-- Which bytes of a LUKS1 volume belong to a keyslot: its entry in the header and its area; and which
-- are the uuid's (LUKS1 On-Disk Format 1.2.3, "The partition header").
use Rattle.std.specs.Prelude.{ℕ, ◌+◌, ◌*◌, ◌⊎◌, List}
use Rattle.luks_area.specs.Ranges.{IsAt}
use Rattle.luks_area.specs.Sectors.{rounded_to_sectors}
use Rattle.luks1_header.specs.Header1.{common_size, entry, entry_key_material_offset, entry_size, entry_stripes, field_at, field_len, key_bytes_of}
use Rattle.luks1_header.specs.declared.fault.TextField.TheVariants.{Uuid}

-- where the entry of the keyslot `n` stands
abbrev pub entry_place : ℕ → ℕ
entry_place n = common_size + entry_size * n

-- where the area of the keyslot `n` of the volume `v` begins, and how many bytes it has
abbrev pub area_start : List ℕ → ℕ → ℕ
area_start v n = entry_key_material_offset (entry v n) * 512

abbrev pub area_len : List ℕ → ℕ → ℕ
area_len v n = rounded_to_sectors (key_bytes_of v * entry_stripes (entry v n))

-- the place is of the 48-byte entry of the keyslot `n`, or of its area
abbrev pub IsOfKeyslot : List ℕ → ℕ → ℕ → Type 0
IsOfKeyslot v n p = IsAt (entry_place n) entry_size p ⊎ IsAt (area_start v n) (area_len v n) p

-- the place is of a keyslot of the set `named`
pub record IsOfKeyslots (v : List ℕ) (named : ℕ → Type 0) (p : ℕ) : Type 0 where
  pub keyslot : ℕ
  pub is_named : named keyslot
  pub of : IsOfKeyslot v keyslot p

-- the place is of the 40 bytes of the uuid's field
abbrev pub IsOfUuid : ℕ → Type 0
IsOfUuid p = IsAt (field_at Uuid) (field_len Uuid) p
