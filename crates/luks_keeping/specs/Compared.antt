-- How the keyslots of a backup stand to those of a volume: by their salts (LUKS1 On-Disk Format 1.2.3, "The
-- partition header"; LUKS2 On-Disk Format 1.1, 3.2.5), of which each keyslot gets a new one when it is made.
use Rattle.std.specs.Prelude.{◌≡◌, ◌≢◌, ◌↔◌, ℕ, ◌<◌, List, Some, IsTrue, slice_index_or}
use Rattle.serde_json.specs.Data.{Data as Value}
use Rattle.luks_area.specs.Ranges.{part}
use Rattle.luks1_header.specs.Header1.{active_word, enabled_word, entry, entry_salt, luks1_size}
use Rattle.luks2_header.specs.Selection.{luks1, luks2, nothing, Choice, Chosen}
use Rattle.luks_meta.specs.MetaFault.{Json}
use Rattle.luks_rules.specs.Faults.{member_at, object_at}
use Rattle.luks_rules.specs.Reading.{bytes_in}
use Rattle.luks_rules.specs.declared.table.Member.TheVariants as member
use Rattle.luks_rules.specs.declared.table.Outer.TheVariants.{Kdf}
use Rattle.luks_rules.specs.declared.table.Section.TheVariants.{Keyslots}
use Rattle.luks_reading.specs.Header.{json_at}
use Rattle.luks_area.specs.declared.area.Area.{Area}
use Rattle.luks_keeping.specs.Kept.{KeptArea}
use Rattle.luks_keeping.specs.SameKey.{SharesDigest}
use Rattle.luks_keeping.specs.declared.comparison.Comparison.{Comparison}
use Rattle.luks_keeping.specs.declared.comparison.Keeping.{Keeping}
use Rattle.luks_keeping.specs.declared.comparison.Keeping.TheVariants.{Absent, Same, Older, Missing, Removed, Damaged}

-- the keyslot `n` of the LUKS1 header `h` is in use, with the salt
pub record IsUsedSalt (h : List ℕ) (n : ℕ) (salt : List ℕ) : Type 0 where
  pub numbered : n < 8
  pub enabled : active_word (entry h n) ≡ enabled_word
  pub salted : entry_salt (entry h n) ≡ salt

-- that of the metadata is there, with the salt
pub record HasSalt2 (j : Value) (n : ℕ) (salt : List ℕ) : Type 0 where
  pub object : Value
  pub is : object_at j Keyslots n ≡ Some object
  pub salted : bytes_in 1 128 (member_at object Kdf member.Salt) ≡ Some salt

pub record HasSaltIn (json : List ℕ) (n : ℕ) (salt : List ℕ) : Type 0 where
  pub value : Value
  pub holds : Json json value
  pub has : HasSalt2 value n salt

-- the keyslot `n` has the salt, by what counts of the volume `v`
abbrev pub HasSaltAs : List ℕ → Choice → ℕ → List ℕ → Type 0
HasSaltAs v luks1 n salt = IsUsedSalt (part v 0 luks1_size) n salt
HasSaltAs v (luks2 o copies) n salt = HasSaltIn (json_at v o) n salt
HasSaltAs v nothing n salt = ⊥

-- there is a keyslot, or none
abbrev pub IsThere : (List ℕ → Type 0) → Type 0
IsThere has = (salt : List ℕ) × has salt

abbrev pub IsGone : (List ℕ → Type 0) → Type 0
IsGone has = (salt : List ℕ) → has salt → ⊥

-- how a keyslot of the backup stands to that of the volume by its salt: none is damaged by that
abbrev pub StandsSo : (List ℕ → Type 0) → (List ℕ → Type 0) → Keeping → Type 0
StandsSo here there Absent = IsGone here × IsGone there
StandsSo here there Same = (salt : List ℕ) × (here salt × there salt)
StandsSo here there Older = IsThere here × IsThere there × ((salt : List ℕ) → here salt → there salt → ⊥)
StandsSo here there Missing = IsGone here × IsThere there
StandsSo here there Removed = IsThere here × IsGone there
StandsSo here there Damaged = ⊥

-- so stand all keyslots of the backup `b` to those of the volume `t`, and so their keys
pub record IsCompared (b t : List ℕ) (c : Comparison) : Type 0 where
  pub choice : Choice
  pub chosen : Chosen b choice
  pub other : Choice
  pub counts : Chosen t other
  pub key : IsTrue c.same_key ↔ SharesDigest b t
  pub each : (n : ℕ) → n < 32 → StandsSo (HasSaltAs b choice n) (HasSaltAs t other n) (slice_index_or c.keyslots n Absent)

-- ---- and by its key area

-- the key areas of the keyslot `n` of both hold the same bytes
abbrev pub HoldsSame : List ℕ → Choice → List ℕ → Choice → ℕ → Type 0
HoldsSame b choice t other n = (a c : Area) → KeptArea b choice n a → KeptArea t other n c → part b a.start a.len ≡ part t c.start c.len

-- or others
pub record HoldsOther (b : List ℕ) (choice : Choice) (t : List ℕ) (other : Choice) (n : ℕ) : Type 0 where
  pub here : Area
  pub there : Area
  pub kept : KeptArea b choice n here
  pub stands : KeptArea t other n there
  pub differ : part b here.start here.len ≢ part t there.start there.len

-- how the keyslot `n` of the backup stands to that of the volume
abbrev pub StandsInFull : List ℕ → Choice → List ℕ → Choice → ℕ → Keeping → Type 0
StandsInFull b choice t other n Same = StandsSo (HasSaltAs b choice n) (HasSaltAs t other n) Same × HoldsSame b choice t other n
StandsInFull b choice t other n Damaged = StandsSo (HasSaltAs b choice n) (HasSaltAs t other n) Same × HoldsOther b choice t other n
StandsInFull b choice t other n keeping = StandsSo (HasSaltAs b choice n) (HasSaltAs t other n) keeping

-- so stand all, and so their keys
pub record IsComparedInFull (b t : List ℕ) (c : Comparison) : Type 0 where
  pub choice : Choice
  pub chosen : Chosen b choice
  pub other : Choice
  pub counts : Chosen t other
  pub key : IsTrue c.same_key ↔ SharesDigest b t
  pub each : (n : ℕ) → n < 32 → StandsInFull b choice t other n (slice_index_or c.keyslots n Absent)
