-- Sectors are of 512 bytes (LUKS1 On-Disk Format 1.2.3, 2.1).
use Rattle.std.specs.Prelude.{ℕ, ◌+◌, ◌*◌, ◌/◌}

-- how many sectors hold so many bytes
abbrev pub sector_count : ℕ → ℕ
sector_count bytes = (bytes + 511) / 512

-- the bytes of the whole sectors that hold so many bytes
abbrev pub rounded_to_sectors : ℕ → ℕ
rounded_to_sectors bytes = sector_count bytes * 512
