-- A volume that was formatted by LUKS1.
use Rattle.std.specs.Prelude.{◌≡◌, ℕ, ◌⊎◌, List}
use Rattle.luks_area.specs.Ranges.{part, IsAt, IsOfEither, SameBut}
use Rattle.luks1_header.specs.Written.{WritesLuks1}
use Rattle.luks1_header.specs.declared.luks1.Luks1.{Luks1}
use Rattle.luks_writing.specs.Cleared.{cleared_size, IsCleared}
use Rattle.luks_reading.specs.declared.report.Data.{Data}
use Rattle.luks_reading.specs.Plans.{HasLuks1Plan}
use Rattle.luks_reading.specs.declared.format.Format.{Format}
use Rattle.luks_formatting.specs.NewHeader1.{IsNewHeader1}
use Rattle.luks_formatting.specs.NewPlan.{HoldsKey}
use Rattle.luks_formatting.specs.Encrypting.{used_bytes}
use Rattle.luks_formatting.specs.Given.{key_of, nothing_given}
use Rattle.luks_formatting.specs.RandomBytes.{random_stripes, slot_place1}
use Rattle.luks_formatting.specs.declared.given.Given.{Given}

-- the places of the header and of keyslot 0's area, where the key has k bytes
abbrev pub IsOfLuks1 : ℕ → ℕ → Type 0
IsOfLuks1 k = IsOfEither (IsAt 0 592) (IsAt 4096 (used_bytes k))

-- `new` begins with the header of a new volume, its keyslot 0 holds the volume key, and all other
-- bytes are those of `old`
pub record IsFormatted1As
    (given : Given) (format : Format) (passphrase random old new : List ℕ)
    : Type 0 where
  pub header : Luks1
  pub fields : IsNewHeader1 given format random header
  pub written : WritesLuks1 (part new 0 592) header
  pub slot : HoldsKey (HasLuks1Plan (part new 0 592) 0) new passphrase (key_of given random)
      (random_stripes given.key_bytes (slot_place1 given.key_bytes) random)
  pub rest : SameBut (IsOfLuks1 given.key_bytes) old new

-- the key area holds the volume key by the plan of the header that is to be written
pub record HasKeyArea1 (given : Given) (format : Format) (passphrase random new : List ℕ) : Type 0 where
  pub header : Luks1
  pub fields : IsNewHeader1 given format random header
  pub bytes : List ℕ
  pub written : WritesLuks1 bytes header
  pub slot : HoldsKey (HasLuks1Plan bytes 0) new passphrase (key_of given random)
      (random_stripes given.key_bytes (slot_place1 given.key_bytes) random)

-- What may be left at any time: nothing but the first sector at 0 has changed; or that is cleared; or the key
-- area stands.
abbrev pub ClearsFirst1As : Given → Format → List ℕ → List ℕ → List ℕ → List ℕ → Type 0
ClearsFirst1As given format passphrase random old new =
    SameBut (IsAt 0 cleared_size) old new
    ⊎ (IsCleared new 0
    ⊎ HasKeyArea1 given format passphrase random new)

-- What the steps after the clearing leave: the first sector is as it was; or the key area stands.
abbrev pub WritesInTurn1 : Given → Format → List ℕ → List ℕ → List ℕ → List ℕ → Type 0
WritesInTurn1 given format passphrase random old new =
    (part new 0 cleared_size ≡ part old 0 cleared_size)
    ⊎ HasKeyArea1 given format passphrase random new

-- ---- where nothing is given

abbrev pub IsFormatted1 : Data → Format → List ℕ → List ℕ → List ℕ → List ℕ → Type 0
IsFormatted1 payload = IsFormatted1As (nothing_given payload)

abbrev pub ClearsFirst1 : Data → Format → List ℕ → List ℕ → List ℕ → List ℕ → Type 0
ClearsFirst1 payload = ClearsFirst1As (nothing_given payload)
