-- A volume that was formatted by LUKS2.
use Rattle.std.specs.Prelude.{ℕ, List, Option, None}
use Rattle.luks_area.specs.Ranges.{IsAt, IsOfEither, SameBut}
use Rattle.luks2_header.specs.Written.{IsWrittenCopy}
use Rattle.luks2_header.specs.declared.bin2.Bin2.{Bin2}
use Rattle.luks_making.specs.WrittenArea.{IsWrittenArea}
use Rattle.luks_reading.specs.declared.report.Data.{Data}
use Rattle.luks_reading.specs.Plans.{HasLuks2Plan}
use Rattle.luks_reading.specs.declared.format.Format.{Format}
use Rattle.luks_formatting.specs.NewHeader2.{copy_size, json_size, new_metadata, IsNewCopy}
use Rattle.luks_making.specs.declared.derivation.NewDerivation.{NewDerivation}
use Rattle.luks_formatting.specs.NewPlan.{HoldsKey}
use Rattle.luks_formatting.specs.Encrypting.{used_bytes}
use Rattle.luks_formatting.specs.Given.{key_of, nothing_given}
use Rattle.luks_formatting.specs.RandomBytes.{first_copy_salt, random_stripes, second_copy_salt, slot_place2}
use Rattle.luks_formatting.specs.declared.given.Given.{Given}

-- the copy at the place `o` is that of a new volume, with this salt and JSON area
pub record HasNewCopy (v : List ℕ) (given : Given) (random salt json : List ℕ) (o : ℕ) : Type 0 where
  pub header : Bin2
  pub fields : IsNewCopy given random salt o header
  pub written : IsWrittenCopy v o header json

-- the places of both copies and of the used sectors of keyslot 0's area, where the key has k bytes
abbrev pub IsOfLuks2 : ℕ → ℕ → Type 0
IsOfLuks2 k = IsOfEither (IsAt 0 32768) (IsAt 32768 (used_bytes k))

-- `new` begins with both copies of the header of a new volume, its keyslot 0 holds the volume key by the
-- derivation that is chosen, and all other bytes are those of `old`
pub record IsFormatted2As
    (given : Given) (format : Format) (chosen : Option NewDerivation) (passphrase random old new : List ℕ)
    : Type 0 where
  pub json : List ℕ
  pub metadata : IsWrittenArea json_size (new_metadata given format chosen random) json
  pub first : HasNewCopy new given random (first_copy_salt given.key_bytes random) json 0
  pub second : HasNewCopy new given random (second_copy_salt given.key_bytes random) json copy_size
  pub slot : HoldsKey (HasLuks2Plan json 0) new passphrase (key_of given random)
      (random_stripes given.key_bytes (slot_place2 given.key_bytes) random)
  pub rest : SameBut (IsOfLuks2 given.key_bytes) old new

-- keyslot 0's area holds the volume key, as the metadata says that is to be written
pub record HasKeyArea2As (given : Given) (format : Format) (chosen : Option NewDerivation) (passphrase random new : List ℕ) : Type 0 where
  pub json : List ℕ
  pub metadata : IsWrittenArea json_size (new_metadata given format chosen random) json
  pub slot : HoldsKey (HasLuks2Plan json 0) new passphrase (key_of given random)
      (random_stripes given.key_bytes (slot_place2 given.key_bytes) random)

-- the second copy stands too
pub record HasAllButFirst2As (given : Given) (format : Format) (chosen : Option NewDerivation) (passphrase random new : List ℕ) : Type 0 where
  pub json : List ℕ
  pub metadata : IsWrittenArea json_size (new_metadata given format chosen random) json
  pub second : HasNewCopy new given random (second_copy_salt given.key_bytes random) json copy_size
  pub slot : HoldsKey (HasLuks2Plan json 0) new passphrase (key_of given random)
      (random_stripes given.key_bytes (slot_place2 given.key_bytes) random)

-- ---- where nothing is given

abbrev pub IsFormatted2By : Data → Format → Option NewDerivation → List ℕ → List ℕ → List ℕ → List ℕ → Type 0
IsFormatted2By payload = IsFormatted2As (nothing_given payload)

abbrev pub HasKeyArea2By : Data → Format → Option NewDerivation → List ℕ → List ℕ → List ℕ → Type 0
HasKeyArea2By payload = HasKeyArea2As (nothing_given payload)

abbrev pub HasAllButFirst2By : Data → Format → Option NewDerivation → List ℕ → List ℕ → List ℕ → Type 0
HasAllButFirst2By payload = HasAllButFirst2As (nothing_given payload)

-- ---- where no derivation is chosen

abbrev pub IsFormatted2 : Data → Format → List ℕ → List ℕ → List ℕ → List ℕ → Type 0
IsFormatted2 payload format = IsFormatted2By payload format None

abbrev pub HasKeyArea2 : Data → Format → List ℕ → List ℕ → List ℕ → Type 0
HasKeyArea2 payload format = HasKeyArea2By payload format None

abbrev pub HasAllButFirst2 : Data → Format → List ℕ → List ℕ → List ℕ → Type 0
HasAllButFirst2 payload format = HasAllButFirst2By payload format None
