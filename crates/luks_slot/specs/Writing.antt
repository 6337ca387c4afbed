-- Writing the bytes of an area in a row, encrypted, with one run of eight sectors held at a time.
use Rattle.std.specs.Prelude.{◌≡◌, ◌≢◌, ℕ, ◌+◌, ◌-◌, ◌*◌, ◌/◌, ◌<◌, List, ◌++◌, length, replicate, slice_index}
use Rattle.luks_slot.specs.declared.area_writer.AreaWriter.{AreaWriter}
use Rattle.luks_slot.specs.declared.cipher.AreaKey.{AreaKey}
use Rattle.luks_slot.specs.Opening.{area_bytes}
use Rattle.luks_slot.specs.Reading.{plain_byte}

-- the bytes are those that are wanted from a place on
pub record ArePlaced (wanted : List ℕ) (from : ℕ) (bytes : List ℕ) : Type 0 where
  pub each : (k : ℕ) → k < length bytes → slice_index bytes k ≡ slice_index wanted (from + k)

-- of the wanted bytes up to a place of an area of so many bytes the whole runs are stored in the
-- area, at its end all of them, and the others are in the run that is held
pub record HoldsWanted (key : AreaKey) (area : List ℕ) (len : ℕ) (wanted : List ℕ) (place : ℕ) (run : List ℕ) : Type 0 where
  pub stored : ℕ
  pub inside : place ≢ len → stored ≡ 4096 * (place / 4096)
  pub end : place ≡ len → stored ≡ place
  pub whole : (p : ℕ) → p < stored → plain_byte key area p ≡ slice_index wanted p
  pub front : (k : ℕ) → stored + k < place → slice_index run k ≡ slice_index wanted (stored + k)

-- the writer has put the wanted bytes up to a place
abbrev pub IsWriting : AreaWriter → List ℕ → List ℕ → ℕ → Type 0
IsWriting writer volume wanted place =
    HoldsWanted writer.key (area_bytes volume writer.area) writer.area.len wanted place writer.run

-- the bytes, and zeros up to `n` bytes
abbrev pub filled : ℕ → List ℕ → List ℕ
filled n bytes = bytes ++ replicate (n - length bytes) 0
