-- How the header that counts on a device stands to that of a backup which was made while something was under way.
use Rattle.std.specs.Prelude.{◌≡◌, ◌≢◌, ℕ, List}
use Rattle.luks2_header.specs.Header2.{header_at, seqid, uuid_field}
use Rattle.luks2_header.specs.Selection.{luks2, nothing, Choice, Chosen}
use Rattle.luks2_header.specs.declared.selection.Copies.{Copies}
use Rattle.luks_reading.specs.Header.{json_at}
use Rattle.luks_keeping.specs.SameVolume.{uuid_bytes, HasAnyHeader}
use Rattle.luks_wide_keeping.specs.declared.standing.Standing.{Standing}
use Rattle.luks_wide_keeping.specs.declared.standing.Standing.TheVariants.{Nothing, Another, Same, Progressed}

-- a header counts on the device `t`, with the uuid of the LUKS2 header that counts of the backup `b`
pub record HasOneUuid (b t : List ℕ) : Type 0 where
  pub place : ℕ
  pub copies : Copies
  pub chosen : Chosen b (luks2 place copies)
  pub other : Choice
  pub counts : Chosen t other
  pub some : other ≢ nothing
  pub uuid : uuid_bytes t other ≡ uuid_field (header_at b place)

-- it is of LUKS2, and of the very same state: it has the same sequence number and the same metadata, byte by byte, the part in hand among it
pub record IsSameState (b t : List ℕ) : Type 0 where
  pub place : ℕ
  pub copies : Copies
  pub chosen : Chosen b (luks2 place copies)
  pub there : ℕ
  pub others : Copies
  pub counts : Chosen t (luks2 there others)
  pub uuid : uuid_field (header_at t there) ≡ uuid_field (header_at b place)
  pub seqid : seqid (header_at t there) ≡ seqid (header_at b place)
  pub metadata : json_at t there ≡ json_at b place

-- none counts; one of another uuid; the same state; or one of that uuid that isn't
abbrev pub StandsSo : List ℕ → List ℕ → Standing → Type 0
StandsSo b t Nothing = HasAnyHeader t → ⊥
StandsSo b t Another = HasAnyHeader t × (HasOneUuid b t → ⊥)
StandsSo b t Same = IsSameState b t
StandsSo b t Progressed = HasOneUuid b t × (IsSameState b t → ⊥)
