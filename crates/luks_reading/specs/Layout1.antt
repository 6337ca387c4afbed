-- The areas of a LUKS1 volume (LUKS1 On-Disk Format 1.2.3, "The partition header").
use Rattle.std.specs.Prelude.{◌≡◌, ℕ, ◌-◌, ◌*◌, ◌<◌, List}
use Rattle.luks_area.specs.declared.area.Area.{Area}
use Rattle.luks_area.specs.declared.area.AreaName.{AreaName}
use Rattle.luks_area.specs.declared.area.AreaName.TheVariants.{Head1, Head2, Slot, Segment}
use Rattle.luks_area.specs.Sectors.{rounded_to_sectors}
use Rattle.luks1_header.specs.Bytes.{number_at}
use Rattle.luks1_header.specs.Header1.{entry, entry_stripes}
use Rattle.luks_reading.specs.declared.report.Data.{Data}
use Rattle.luks_reading.specs.declared.report.Data.TheVariants.{Here}

-- the area named `n` of a volume of `total` bytes with the LUKS1 header `h`: the header, all eight
-- key slots, enabled or not, and with the payload here one segment, which runs to the volume's end
abbrev pub Luks1Area : List ℕ → Data → ℕ → AreaName → Area → Type 0
Luks1Area h payload total Head1 a = (a.start ≡ 0) × (a.len ≡ 592)
Luks1Area h payload total Head2 a = ⊥
Luks1Area h payload total (Slot n) a =
    (n < 8) × (a.start ≡ number_at (entry h n) 40 4 * 512) × (a.len ≡ rounded_to_sectors (number_at h 108 4 * entry_stripes (entry h n)))
Luks1Area h payload total (Segment n) a =
    (n ≡ 0) × (payload ≡ Here) × (a.start ≡ number_at h 104 4 * 512) × (a.len ≡ total - a.start)
