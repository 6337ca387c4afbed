-- Reading the decrypted bytes of an area in a row, with one run of eight sectors held at a time.
use Rattle.std.specs.Prelude.{◌≡◌, ◌≢◌, ℕ, ◌+◌, ◌-◌, ◌*◌, ◌/◌, ◌%◌, ◌<◌, ◌≤◌, List, length, min, slice_index}
use Rattle.luks_area.specs.Ranges.{part}
use Rattle.luks_slot.specs.declared.area_reader.AreaReader.{AreaReader}
use Rattle.luks_slot.specs.declared.cipher.AreaKey.{AreaKey}
use Rattle.luks_slot.specs.Opening.{area_bytes, opened_sector}

-- the decrypted byte at a place of an area
unfoldable pub plain_byte : AreaKey → List ℕ → ℕ → ℕ
plain_byte key area place = slice_index (opened_sector key area (place / 512)) (place % 512)

-- how many bytes a run has: eight sectors, or as many as are left of an area of so many bytes
abbrev pub run_length : ℕ → ℕ → ℕ
run_length len number = min ((len - 4096 * number) / 512 * 512) 4096

-- the run of this number is held: its sectors that an area of so many bytes has, decrypted
pub record HoldsRun (key : AreaKey) (area : List ℕ) (len number : ℕ) (run : List ℕ) : Type 0 where
  pub each : (i : ℕ) → i < 8 → 512 * (8 * number + i + 1) ≤ len
      → part run (512 * i) 512 ≡ opened_sector key area (8 * number + i)

-- the run of a place is held, unless the place is the first of its run
pub record HoldsPlace (key : AreaKey) (area : List ℕ) (len place : ℕ) (run : List ℕ) : Type 0 where
  pub held : place % 4096 ≢ 0 → HoldsRun key area len (place / 4096) run

-- the reader has read its area of the volume up to a place
abbrev pub IsReading : AreaReader → List ℕ → ℕ → Type 0
IsReading reader volume place =
    HoldsPlace reader.key (area_bytes volume reader.area) reader.area.len place reader.run

-- the bytes are the decrypted ones of an area from a place on
pub record ArePlain (key : AreaKey) (area : List ℕ) (from : ℕ) (bytes : List ℕ) : Type 0 where
  pub each : (k : ℕ) → k < length bytes → slice_index bytes k ≡ plain_byte key area (from + k)
