-- The faults of a header on a device that may be another than its own.
use Rattle.std.specs.Prelude.{ℕ, List, ⊤}
use Rattle.luks_area.specs.Ranges.{part}
use Rattle.luks1_header.specs.Header1.{luks1_size, IsLuks1}
use Rattle.luks1_header.specs.declared.luks1.Luks1.{Luks1 as Fields}
use Rattle.luks2_header.specs.Header2.{header_at}
use Rattle.luks2_header.specs.Selection.{luks1, luks2, nothing, Choice, Chosen}
use Rattle.luks_reading.specs.Checked.{IsLuks1Fault, IsLuks1Volume, IsLuks2Fault, IsLuks2Volume, WellFormed}
use Rattle.luks_reading.specs.Header.{IsHeader, json_at}
use Rattle.luks_reading.specs.declared.check_fault.CheckFault.{CheckFault}
use Rattle.luks_reading.specs.declared.header.Header.{Header}
use Rattle.luks_reading.specs.declared.header.Header.TheVariants.{Luks1, Luks2}
use Rattle.luks_reading.specs.declared.report.Data.{Data}
use Rattle.luks_reading.specs.declared.report.Data.TheVariants.{Elsewhere}

-- the faults of a device of `total` bytes that begins with the header of the volume `v`, by what counts
-- of `v`
abbrev pub IsFaultOnAs : List ℕ → Data → ℕ → Choice → CheckFault → Type 0
IsFaultOnAs v payload total luks1 f = IsLuks1Fault (part v 0 luks1_size) payload total f
IsFaultOnAs v payload total (luks2 o copies) f = IsLuks2Fault (header_at v o) (json_at v o) payload total f
IsFaultOnAs v payload total nothing f = ⊥

pub record IsFaultOn (v : List ℕ) (payload : Data) (total : ℕ) (f : CheckFault) : Type 0 where
  pub choice : Choice
  pub chosen : Chosen v choice
  pub fault : IsFaultOnAs v payload total choice f

-- such a device is a well formed volume
abbrev pub IsFormedOnAs : List ℕ → Data → ℕ → Choice → Type 0
IsFormedOnAs v payload total luks1 = IsLuks1Volume (part v 0 luks1_size) payload total
IsFormedOnAs v payload total (luks2 o copies) = IsLuks2Volume (header_at v o) (json_at v o) payload total
IsFormedOnAs v payload total nothing = ⊥

pub record IsFormedOn (v : List ℕ) (payload : Data) (total : ℕ) : Type 0 where
  pub choice : Choice
  pub chosen : Chosen v choice
  pub formed : IsFormedOnAs v payload total choice

-- a header of LUKS1 that was read has its fields
abbrev pub HasFields : Header → Type 0
HasFields (Luks1 bytes) = (d : Fields) × IsLuks1 bytes d
HasFields (Luks2 copy) = ⊤

-- it is the header of the volume `v`, which is accepted with the data elsewhere
abbrev pub IsAcceptedOf : List ℕ → Header → Type 0
IsAcceptedOf v header = IsHeader v header × WellFormed v Elsewhere
