-- What `check` answers.
use Rattle.std.specs.Prelude.{◌≡◌, ℕ, List, ⊤}
use Rattle.luks_area.specs.declared.area.Area.{Area as TheArea}
use Rattle.luks_area.specs.declared.area.AreaName.{AreaName}
use Rattle.luks2_header.specs.Header2.{header_at, seqid}
use Rattle.luks2_header.specs.Selection.{luks1, luks2, Chosen}
use Rattle.luks_meta.specs.Content.{content}
use Rattle.luks_reading.specs.declared.check_fault.CheckFault.{CheckFault}
use Rattle.luks_reading.specs.declared.check_fault.CheckFault.TheVariants.{Head, Meta, Area, Device, Memory}
use Rattle.luks_reading.specs.declared.header.Header.{Header}
use Rattle.luks_reading.specs.declared.header.Header.TheVariants as header
use Rattle.luks_reading.specs.declared.report.Data.{Data}
use Rattle.luks_reading.specs.declared.report.Report.{Report}
use Rattle.luks_reading.specs.declared.report.Version.{Version}
use Rattle.luks_reading.specs.declared.report.Version.TheVariants.{Luks1, Luks2}
use Rattle.luks_reading.specs.Checked.{AreaOf}
use Rattle.luks_reading.specs.Layout1.{Luks1Area}
use Rattle.luks_reading.specs.Layout2.{Luks2Area}
use Rattle.luks_reading.specs.Listing.{Lists}

-- the volume's version; of LUKS2 how the copies stand, and the sequence number of the one that counts
abbrev pub IsVersion : List ℕ → Version → Type 0
IsVersion v Luks1 = Chosen v luks1
IsVersion v (Luks2 copies number) = (o : ℕ) × (Chosen v (luks2 o copies) × (seqid (header_at v o) ≡ number))

-- the report holds the volume's version and exactly its areas
pub record Reports (v : List ℕ) (payload : Data) (r : Report) : Type 0 where
  pub version : IsVersion v r.version
  pub areas : Lists r.areas (AreaOf v payload)

-- the area named `n` of a volume of `total` bytes with this header
abbrev pub HeaderArea : Header → Data → ℕ → AreaName → TheArea → Type 0
HeaderArea (header.Luks1 bytes) payload total n a = Luks1Area bytes payload total n a
HeaderArea (header.Luks2 copy) payload total n a = Luks2Area (content copy.meta) copy.header.hdr_size payload total n a

-- the fault isn't the volume's own: the device failed, or memory was refused
abbrev pub IsFromOutside : CheckFault → Type 0
IsFromOutside Device = ⊤
IsFromOutside Memory = ⊤
IsFromOutside (Head f) = ⊥
IsFromOutside (Meta f) = ⊥
IsFromOutside (Area f) = ⊥
