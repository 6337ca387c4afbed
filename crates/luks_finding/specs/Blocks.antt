-- What is seen in a block of a disk, which begins at a sector.
use Rattle.std.specs.Prelude.{◌≡◌, ℕ, ◌*◌, ◌<◌, ◌≤◌, ◌⊎◌, List, Option, None, Some, codes, length}
use Rattle.luks_area.specs.Ranges.{part}
use Rattle.luks1_header.specs.Header1.{key_bytes_of, version_of}
use Rattle.luks2_header.specs.Header2.{second_magic}
use Rattle.luks_finding.specs.Starts.{sector_size, BeginsHeader}

-- the first 8 bytes of a second copy: its magic and version 2 (LUKS2 On-Disk Format 1.1, 2.1)
pub record BeginsSecond (b : List ℕ) : Type 0 where
  pub long : length b ≡ 8
  pub magic : part b 0 6 ≡ second_magic
  pub version : version_of b ≡ 2

-- the first 8 bytes of a JSON area: it holds an object (LUKS2 On-Disk Format 1.1, 3.1)
pub record BeginsText (b : List ℕ) : Type 0 where
  pub long : length b ≡ 8
  pub brace : part b 0 1 ≡ codes "{"

-- a header, a second copy or a JSON area begins so
abbrev pub BeginsSign : List ℕ → Type 0
BeginsSign b = BeginsHeader b ⊎ BeginsSecond b ⊎ BeginsText b

-- the first 112 bytes of a LUKS1 header without its magic: they end with the length of a volume key (LUKS1 On-Disk Format
-- 1.2.3, "The partition header")
pub record BeginsFields (b : List ℕ) : Type 0 where
  pub long : length b ≡ 112
  pub key_at_least : 1 ≤ key_bytes_of b
  pub key_at_most : key_bytes_of b ≤ 128

-- one of them may begin at this place
abbrev pub MayBegin : List ℕ → ℕ → Type 0
MayBegin v p = BeginsSign (part v p 8) ⊎ BeginsFields (part v p 112)

-- or at the sector `k` of the block
abbrev pub BeginsAt : List ℕ → ℕ → Type 0
BeginsAt block k = MayBegin block (sector_size * k)

-- a JSON area may begin at some sector of the disk
pub record HasText (v : List ℕ) : Type 0 where
  pub sector : ℕ
  pub begins : BeginsText (part v (sector_size * sector) 8)

-- the first sector of a block at which one begins
pub record IsFirstIn (block : List ℕ) (n : ℕ) : Type 0 where
  pub begins : BeginsAt block n
  pub before : (k : ℕ) → k < n → BeginsAt block k → ⊥

abbrev pub FindsIn : List ℕ → Option ℕ → Type 0
FindsIn block None = (k : ℕ) → BeginsAt block k → ⊥
FindsIn block (Some n) = IsFirstIn block n
