-- Whether the header that counts on a device is that of another volume than a backup's.
use Rattle.std.specs.Prelude.{◌≢◌, ℕ, List, []}
use Rattle.luks_area.specs.Ranges.{part}
use Rattle.luks2_header.specs.Header2.{header_at, uuid_field}
use Rattle.luks2_header.specs.Selection.{luks1, luks2, nothing, Choice, Chosen}
use Rattle.luks_keeping.specs.SameKey.{SharesDigest}

-- the 40 bytes of the uuid's field, by what counts of the volume `v`
abbrev pub uuid_bytes : List ℕ → Choice → List ℕ
uuid_bytes v luks1 = part (part v 0 592) 168 40
uuid_bytes v (luks2 o copies) = uuid_field (header_at v o)
uuid_bytes v nothing = []

-- a header counts on the device `t`, and its uuid isn't the backup's
pub record HasOtherUuid (b t : List ℕ) : Type 0 where
  pub choice : Choice
  pub chosen : Chosen b choice
  pub other : Choice
  pub counts : Chosen t other
  pub some : other ≢ nothing
  pub uuid : uuid_bytes t other ≢ uuid_bytes b choice

-- nor is a digest of its volume key one of the backup's
pub record IsOtherVolume (b t : List ℕ) : Type 0 where
  pub uuid : HasOtherUuid b t
  pub key : SharesDigest b t → ⊥

-- a header counts on the device `t`
pub record HasAnyHeader (t : List ℕ) : Type 0 where
  pub choice : Choice
  pub counts : Chosen t choice
  pub some : choice ≢ nothing

-- and it is the backup's volume's
pub record CountsSameVolume (b t : List ℕ) : Type 0 where
  pub header : HasAnyHeader t
  pub own : IsOtherVolume b t → ⊥
