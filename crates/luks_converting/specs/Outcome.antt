-- When a volume isn't converted.
use Rattle.std.specs.Prelude.{◌≢◌, ◌⊎◌, ℕ, ◌<◌, ◌≤◌, List, length, ⊤}
use Rattle.serde_json.specs.Written.{compact_text}
use Rattle.luks_area.specs.First.{IsLeast}
use Rattle.luks_area.specs.Ranges.{part}
use Rattle.luks1_header.specs.Header1.{luks1_size}
use Rattle.luks2_header.specs.Selection.{luks1, luks2, Chosen}
use Rattle.luks2_header.specs.declared.selection.Copies.{Copies}
use Rattle.luks_making.specs.Converted.{area_start, converted}
use Rattle.luks_reading.specs.Checked.{IsFault}
use Rattle.luks_reading.specs.Header.{NeedsMetadata}
use Rattle.luks_reading.specs.declared.report.Data.{Data}
use Rattle.luks_converting.specs.ConvertFaults.{convert_key}
use Rattle.luks_converting.specs.Converted.{json_size, random_size}
use Rattle.luks_converting.specs.Source.{header_members}
use Rattle.luks_converting.specs.declared.convert_fault.ConvertFault.{ConvertFault}
use Rattle.luks_converting.specs.declared.convert_fault.ConvertFault.TheVariants.{NotAccepted, NotLuks1, TooSmall, NoRoom, MetadataFull, RandomLength, Memory, Device}

-- the volume is one of LUKS2
pub record IsLuks2 (v : List ℕ) : Type 0 where
  pub place : ℕ
  pub copies : Copies
  pub chosen : Chosen v (luks2 place copies)

-- the volume is one of LUKS1, of whose header `h` the statement holds
pub record OfLuks1 (v : List ℕ) (says : List ℕ → Type 0) : Type 0 where
  pub chosen : Chosen v luks1
  pub holds : says (part v 0 luks1_size)

-- the new areas end past 16 MiB
abbrev pub LacksRoom : List ℕ → Type 0
LacksRoom h = 16777216 < area_start (header_members h) 8

-- the metadata's text is longer than its area less one byte
abbrev pub IsFull : List ℕ → Type 0
IsFull h = json_size ≤ length (compact_text (converted (header_members h)))

-- the faults of converting the volume `v`, whose payload is where `payload` says, into a target of
-- `total` bytes
abbrev pub IsConvertFault : List ℕ → Data → ℕ → List ℕ → ConvertFault → Type 0
IsConvertFault v payload total random (NotAccepted f) = IsFault v payload f
IsConvertFault v payload total random NotLuks1 = IsLuks2 v
IsConvertFault v payload total random TooSmall = total < 16777216
IsConvertFault v payload total random NoRoom = OfLuks1 v LacksRoom
IsConvertFault v payload total random MetadataFull = OfLuks1 v IsFull
IsConvertFault v payload total random RandomLength = length random ≢ random_size
IsConvertFault v payload total random Memory = ⊥
IsConvertFault v payload total random Device = ⊥

-- none of the faults stands
pub record IsConvertible (v : List ℕ) (payload : Data) (total : ℕ) (random : List ℕ) : Type 0 where
  pub none : (f : ConvertFault) → IsConvertFault v payload total random f → ⊥

-- the answer is the first of the faults; or memory was refused, for the metadata of a LUKS2 volume or
-- where no fault stands; or a device failed
abbrev pub IsAnsweredFault : List ℕ → Data → ℕ → List ℕ → ConvertFault → Type 0
IsAnsweredFault v payload total random Memory = NeedsMetadata v ⊎ IsConvertible v payload total random
IsAnsweredFault v payload total random Device = ⊤
IsAnsweredFault v payload total random f = IsLeast convert_key (IsConvertFault v payload total random) f
