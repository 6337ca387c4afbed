-- Key areas of a LUKS1 header, and where they usually stand (LUKS1 On-Disk Format 1.2.3, 2.1 and 4.1).
use Rattle.std.specs.Prelude.{ℕ, ◌+◌, ◌*◌, ◌/◌, ◌==◌, ◌&&◌, Bool, List}
use Rattle.luks_area.specs.Sectors.{rounded_to_sectors, sector_count}
use Rattle.luks_area.specs.declared.area.Area.{Area}
use Rattle.luks1_header.specs.Header1.{entry, entry_key_material_offset, entry_stripes}

-- the area of so many stripes of a key of `k` bytes, from a sector on
abbrev pub stripes_area : ℕ → ℕ → ℕ → Area
stripes_area k sector stripes = record { start = sector * 512; len = rounded_to_sectors (k * stripes) }

-- where the keyslot `n` begins and how many stripes it has
abbrev pub sector_of : List ℕ → ℕ → ℕ
sector_of h n = entry_key_material_offset (entry h n)

abbrev pub stripes_of : List ℕ → ℕ → ℕ
stripes_of h n = entry_stripes (entry h n)

-- its area, where the key has `k` bytes
abbrev pub own_area : List ℕ → ℕ → ℕ → Area
own_area h k n = stripes_area k (sector_of h n) (stripes_of h n)

-- the stripes that a keyslot usually has
abbrev pub usual_stripes : ℕ
usual_stripes = 4000

-- where it usually begins: behind the header, one after the other, each at a multiple of 8 sectors
abbrev pub usual_sector : ℕ → ℕ → ℕ
usual_sector k n = 8 + n * ((sector_count (k * usual_stripes) + 7) / 8 * 8)

-- the keyslot `n` is there
abbrev pub is_usual : List ℕ → ℕ → ℕ → Bool
is_usual h k n = (sector_of h n == usual_sector k n) && (stripes_of h n == usual_stripes)
