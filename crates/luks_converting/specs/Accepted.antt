-- The header of a source that was accepted, and why one isn't.
use Rattle.std.specs.Prelude.{◌≡◌, ℕ, ◌+◌, ◌<◌, ◌≤◌, List, length, ⊤}
use Rattle.luks_area.specs.Ranges.{part}
use Rattle.luks1_header.specs.Header1.{luks1_size, IsLuks1}
use Rattle.luks2_header.specs.Selection.{luks1, Chosen}
use Rattle.luks_reading.specs.Checked.{First, IsFault}
use Rattle.luks_reading.specs.Header.{NeedsMetadata}
use Rattle.luks_reading.specs.declared.check_fault.CheckFault.{CheckFault}
use Rattle.luks_reading.specs.declared.report.Data.{Data}
use Rattle.luks_converting.specs.Converted.{random_size}
use Rattle.luks_converting.specs.Outcome.{IsLuks2}
use Rattle.luks_converting.specs.Source.{source_size, source_start, HasRoom}
use Rattle.luks_converting.specs.declared.convert_fault.ConvertFault.{ConvertFault}
use Rattle.luks_converting.specs.declared.convert_fault.ConvertFault.TheVariants.{NotAccepted, NotLuks1, TooSmall, NoRoom, MetadataFull, RandomLength, Memory, Device}
use Rattle.luks_converting.specs.declared.source.SourceHeader.{SourceHeader}

-- the fields are those of the header's bytes
pub record IsRead (header : SourceHeader) : Type 0 where
  pub long : length header.bytes ≡ luks1_size
  pub fields : IsLuks1 header.bytes header.fields

-- each keyslot's area lies inside a volume of `total` bytes
abbrev pub HasAreasInside : List ℕ → ℕ → Type 0
HasAreasInside h total = (n : ℕ) → n < 8 → source_start h n + source_size h n ≤ total

-- `h` is the header of the well formed LUKS1 volume `v`
pub record IsHeaderOf (h : List ℕ) (payload : Data) (v : List ℕ) : Type 0 where
  pub chosen : Chosen v luks1
  pub begins : h ≡ part v 0 luks1_size
  pub faultless : (f : CheckFault) → IsFault v payload f → ⊥

-- the volume is one of LUKS2, and well formed
pub record IsOther (v : List ℕ) (payload : Data) : Type 0 where
  pub luks2 : IsLuks2 v
  pub faultless : (f : CheckFault) → IsFault v payload f → ⊥

-- why the volume `v` isn't a source, unless the device failed
abbrev pub IsUnaccepted : List ℕ → Data → ConvertFault → Type 0
IsUnaccepted v payload (NotAccepted f) = First v payload f
IsUnaccepted v payload NotLuks1 = IsOther v payload
IsUnaccepted v payload TooSmall = ⊥
IsUnaccepted v payload NoRoom = ⊥
IsUnaccepted v payload MetadataFull = ⊥
IsUnaccepted v payload RandomLength = ⊥
IsUnaccepted v payload Memory = NeedsMetadata v
IsUnaccepted v payload Device = ⊤

-- a target of `total` bytes takes what is made from the header, and the random bytes are as many as
-- that takes
pub record IsReady (h : List ℕ) (total : ℕ) (random : List ℕ) : Type 0 where
  pub large : 16777216 ≤ total
  pub room : HasRoom h
  pub counted : length random ≡ random_size
