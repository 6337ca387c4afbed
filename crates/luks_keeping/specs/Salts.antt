-- What is found of the salts of headers that were read: words of private contracts.
use Rattle.std.specs.Prelude.{◌≡◌, ℕ, ◌<◌, List, Option, Some, None, length, slice_index_or}
use Rattle.luks_meta.specs.Content.{content}
use Rattle.luks_reading.specs.declared.header.Header.{Header}
use Rattle.luks_reading.specs.declared.header.Header.TheVariants.{Luks1, Luks2}
use Rattle.luks_keeping.specs.Compared.{HasSalt2, IsGone, IsUsedSalt, StandsSo}
use Rattle.luks_keeping.specs.declared.salts.Salt.{Salt}
use Rattle.luks_keeping.specs.declared.comparison.Keeping.{Keeping}
use Rattle.luks_keeping.specs.declared.comparison.Keeping.TheVariants.{Absent, Same, Older, Missing, Removed, Damaged}

-- the keyslot `n` of the header has the salt
abbrev pub HasHeaderSalt : Header → ℕ → List ℕ → Type 0
HasHeaderSalt (Luks1 bytes) n salt = IsUsedSalt bytes n salt
HasHeaderSalt (Luks2 copy) n salt = HasSalt2 (content copy.meta) n salt

-- what is found of a keyslot's salt
abbrev pub FindsSalt : (List ℕ → Type 0) → Option Salt → Type 0
FindsSalt has None = IsGone has
FindsSalt has (Some s) = has s.bytes.items

-- the salts of the keyslots below `n` are listed by their numbers
pub record HoldsSalts (header : Header) (n : ℕ) (salts : List (Option Salt)) : Type 0 where
  pub long : length salts ≡ 32
  pub each : (k : ℕ) → k < n → FindsSalt (HasHeaderSalt header k) (slice_index_or salts k None)

-- the salt is the one that was found
abbrev pub IsListedSalt : Option Salt → List ℕ → Type 0
IsListedSalt None salt = ⊥
IsListedSalt (Some s) salt = s.bytes.items ≡ salt

-- how two keyslots with these salts stand
abbrev pub IsSameOrOlder : List ℕ → List ℕ → Keeping → Type 0
IsSameOrOlder here there Same = here ≡ there
IsSameOrOlder here there Older = here ≡ there → ⊥
IsSameOrOlder here there Absent = ⊥
IsSameOrOlder here there Missing = ⊥
IsSameOrOlder here there Removed = ⊥
IsSameOrOlder here there Damaged = ⊥

-- how the keyslots below `n` stand, by the salts that are listed of both
pub record HoldsKeeping (backup volume : List (Option Salt)) (n : ℕ) (states : List Keeping) : Type 0 where
  pub long : length states ≡ 32
  pub each : (k : ℕ) → k < n
      → StandsSo (IsListedSalt (slice_index_or backup k None)) (IsListedSalt (slice_index_or volume k None)) (slice_index_or states k Absent)
