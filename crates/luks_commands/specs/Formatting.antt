-- What the command `format` leaves of its volume.
use Rattle.std.specs.Prelude.{◌≡◌, ℕ, ◌*◌, ◌≤◌, false, true, List, Option, None, Some}
use Rattle.std.specs.Borrow.{Bor}
use Rattle.luks_area.specs.Ranges.{SameBut}
use Rattle.luks_reading.specs.declared.report.Data.{Data}
use Rattle.luks_reading.specs.declared.report.Data.TheVariants.{Here}
use Rattle.luks_slot.specs.declared.allowed.Allowed.{Allowed}
use Rattle.luks_reading.specs.Answer.{AnswerWithin, opens}
use Rattle.luks_reading.specs.Checked.{WellFormed}
use Rattle.luks_making.specs.Derivations.{memory_by}
use Rattle.luks_formatting.specs.Deriving.{slot_derivation}
use Rattle.luks_formatting.specs.Formatted1.{IsFormatted1As, IsOfLuks1}
use Rattle.luks_formatting.specs.Formatted2.{IsFormatted2As, IsOfLuks2}
use Rattle.luks_formatting.specs.Encrypting.{is_older}
use Rattle.luks_formatting.specs.RandomBytes.{needed_bytes}
use Rattle.luks_formatting.specs.Given.{key_of, IsBefore}
use Rattle.luks_formatting.specs.NewHeader1.{payload_sector}
use Rattle.luks_formatting.specs.NewHeader2.{segment_start}
use Rattle.luks_formatting.specs.declared.given.Given.{Given}
use Rattle.luks_request.specs.declared.request.Making.{Making}
use Rattle.luks_request.specs.declared.request.NewVersion.{NewVersion}
use Rattle.luks_request.specs.declared.request.NewVersion.TheVariants.{Luks1, Luks2}
use Rattle.luks_commands.specs.declared.answers.Status.{Status}
use Rattle.luks_commands.specs.declared.answers.Status.TheVariants.{Done, Refused}
use Rattle.luks_commands.specs.Chosen.{chosen_of, cipher_of}

-- how many random bytes a new volume of this version takes whose key has k bytes
abbrev pub needed_by : NewVersion → ℕ → ℕ
needed_by Luks1 = needed_bytes false
needed_by Luks2 = needed_bytes true

abbrev pub needed : Making → ℕ
needed making = needed_by making.version making.given.key_bytes

-- the places of the header, or of its two copies, and of keyslot 0's area
abbrev pub IsOfNewBy : NewVersion → ℕ → ℕ → Type 0
IsOfNewBy Luks1 = IsOfLuks1
IsOfNewBy Luks2 = IsOfLuks2

abbrev pub IsOfNewVolume : Making → ℕ → Type 0
IsOfNewVolume making = IsOfNewBy making.version making.given.key_bytes

-- what is given of the volume, with the volume key if that is
abbrev pub given_of : Making → Option (Bor (List ℕ)) → Given
given_of making key = record {
  payload = making.payload;
  sector = making.given.sector;
  key = key;
  uuid = making.given.uuid;
  label = making.given.label;
  subsystem = making.given.subsystem;
  cipher = cipher_of making.given.cipher;
  key_bytes = making.given.key_bytes;
  sector_size = making.given.sector_size;
}

-- a key is given where its file is named, and is what that has
abbrev pub IsGivenKey : {N : Type 0} → (List ℕ → Type 0) → Option N → Option (Bor (List ℕ)) → Type 0
IsGivenKey HasKey None key = key ≡ None
IsGivenKey HasKey (Some name) None = ⊥
IsGivenKey HasKey (Some name) (Some key) = HasKey key.now

-- the same of the secret that is read of its file, and of the bytes of that
abbrev pub IsGivenSecret : {N : Type 0} → (List ℕ → Type 0) → Option N → Option (List ℕ) → Type 0
IsGivenSecret HasKey None secret = secret ≡ None
IsGivenSecret HasKey (Some name) None = ⊥
IsGivenSecret HasKey (Some name) (Some secret) = HasKey secret

abbrev pub IsSliceOf : Option (List ℕ) → Option (Bor (List ℕ)) → Type 0
IsSliceOf None bytes = bytes ≡ None
IsSliceOf (Some secret) None = ⊥
IsSliceOf (Some secret) (Some bytes) = bytes.now ≡ secret

-- where the payload begins, in bytes
abbrev pub payload_start : NewVersion → Given → ℕ
payload_start Luks1 given = 512 * payload_sector given
payload_start Luks2 given = segment_start given

-- `new` is `old` formatted by this version
abbrev pub IsFormatted : NewVersion → Making → Option (Bor (List ℕ)) → List ℕ → List ℕ → List ℕ → List ℕ → Type 0
IsFormatted Luks1 making key = IsFormatted1As (given_of making key) making.format
IsFormatted Luks2 making key = IsFormatted2As (given_of making key) making.format (chosen_of making.kdf)

-- the memory that keyslot 0 takes to be opened
abbrev pub taken_memory : NewVersion → Making → ℕ
taken_memory Luks1 making = 0
taken_memory Luks2 making = memory_by (slot_derivation making.format (chosen_of making.kdf))

-- keyslot 0 of the volume `new` opens by the passphrase to the key wherever as much memory is allowed as its
-- derivation takes, and older ciphers are if its own is one
abbrev pub OpensNew : NewVersion → Making → List ℕ → List ℕ → List ℕ → Type 0
OpensNew version making new passphrase key =
    (allowed : Allowed) → taken_memory version making ≤ allowed.memory → (is_older (cipher_of making.given.cipher) ≡ true → allowed.older ≡ true)
    → AnswerWithin allowed new 0 passphrase (opens key)

-- what is made of the volume `old` for this key, if one is given, this passphrase and these random bytes: `new`
pub record IsNewVolume (making : Making) (key : Option (Bor (List ℕ))) (passphrase random old new : List ℕ) : Type 0 where
  pub formatted : IsFormatted making.version making key passphrase random old new
  pub well_formed : WellFormed new making.payload
  pub opened : OpensNew making.version making new passphrase (key_of (given_of making key) random)
  pub payload : making.payload ≡ Here → SameBut (IsBefore (payload_start making.version (given_of making key))) old new

-- what was made where the command says that all is done: the passphrase is what its file has, so is the key, if
-- one is given, and the random bytes are the first that theirs has, as many as it takes
pub record IsDone (making : Making) (HasWords HasKey HasRandom : List ℕ → Type 0) (old new : List ℕ) : Type 0 where
  pub passphrase : List ℕ
  pub words : HasWords passphrase
  pub key : Option (Bor (List ℕ))
  pub keyed : IsGivenKey HasKey making.given.key key
  pub random : List ℕ
  pub taken : HasRandom random
  pub volume : IsNewVolume making key passphrase random old new

-- what the way in which the command ended tells of the volume `old` that it left as `new`
pub record SaysFormat (making : Making) (HasWords HasKey HasRandom : List ℕ → Type 0) (old new : List ℕ) (status : Status) : Type 0 where
  pub done : status ≡ Done → IsDone making HasWords HasKey HasRandom old new
  pub refused : status ≡ Refused → new ≡ old
  pub rest : SameBut (IsOfNewVolume making) old new
