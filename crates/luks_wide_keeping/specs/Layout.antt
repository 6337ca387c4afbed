-- Whether the header of a volume in whose metadata something is under way, and its key areas, fit onto a device (LUKS2 On-Disk Format 1.1.3, 2, 3.2 and 3.3).
use Rattle.std.specs.Prelude.{◌≡◌, ℕ, ◌+◌, ◌*◌, ◌<◌, List, Some, false}
use Rattle.serde_json.specs.Data.{Data as Value}
use Rattle.luks_area.specs.declared.area.Area.{Area}
use Rattle.luks_area.specs.declared.area.AreaFault.TheVariants.{Outside}
use Rattle.luks_area.specs.declared.area.AreaName.TheVariants.{Head2, Slot, Segment}
use Rattle.luks2_header.specs.Header2.{hdr_size, header_at}
use Rattle.luks2_header.specs.Selection.{luks2, Chosen}
use Rattle.luks2_header.specs.declared.selection.Copies.{Copies}
use Rattle.luks_json.specs.AreaText.{Json}
use Rattle.luks_rules.specs.declared.fault.MetaFault.TheVariants.{Region}
use Rattle.luks_rules.specs.declared.table.Section.TheVariants.{Segments}
use Rattle.luks_rules.specs.Faults.{object_at}
use Rattle.luks_rules.specs.Sizes.{keyslots_size}
use Rattle.luks_reading.specs.Header.{json_at}
use Rattle.luks_reading.specs.Layout2.{segment_offset, Luks2Area}
use Rattle.luks_reading.specs.declared.check_fault.CheckFault.{CheckFault}
use Rattle.luks_reading.specs.declared.check_fault.CheckFault.TheVariants as check
use Rattle.luks_reading.specs.declared.report.Data.{Data}
use Rattle.luks_reading.specs.declared.report.Data.TheVariants.{Elsewhere, Here}
use Rattle.luks_underway.specs.Kinds.{is_kept_back}

-- the key area of the keyslot `n` of the metadata `j`, whatever its type
abbrev pub HasKeyArea : Value → ℕ → Area → Type 0
HasKeyArea j n a = Luks2Area j 0 Elsewhere 0 (Slot n) a

-- it ends behind the end of a device of `total` bytes
pub record IsSlotPast (j : Value) (total n : ℕ) : Type 0 where
  pub area : Area
  pub is : HasKeyArea j n area
  pub past : total < area.start + area.len

-- the segment `n`, by which data is read, begins before the end of the key areas' region, which follows two copies of `bytes` bytes
pub record IsSegmentBelow (bytes : ℕ) (j : Value) (n : ℕ) : Type 0 where
  pub numbered : n < 32
  pub object : Value
  pub is : object_at j Segments n ≡ Some object
  pub in_use : is_kept_back object ≡ false
  pub offset : ℕ
  pub begins : segment_offset j n ≡ Some offset
  pub region : ℕ
  pub says : keyslots_size j ≡ Some region
  pub below : offset < 2 * bytes + region

-- the faults of a device of `total` bytes with that header, whose data is where `payload` says
abbrev pub IsLayoutFault : ℕ → Value → Data → ℕ → CheckFault → Type 0
IsLayoutFault bytes j payload total (check.Meta (Region (Segment n))) = (payload ≡ Here) × IsSegmentBelow bytes j n
IsLayoutFault bytes j payload total (check.Area (Outside Head2)) = total < 2 * bytes
IsLayoutFault bytes j payload total (check.Area (Outside (Slot n))) = IsSlotPast j total n
IsLayoutFault bytes j payload total f = ⊥

-- the same of the LUKS2 header that counts of the volume `v`
pub record IsUnderwayFault (v : List ℕ) (payload : Data) (total : ℕ) (f : CheckFault) : Type 0 where
  pub place : ℕ
  pub copies : Copies
  pub chosen : Chosen v (luks2 place copies)
  pub value : Value
  pub holds : Json (json_at v place) value
  pub fault : IsLayoutFault (hdr_size (header_at v place)) value payload total f

-- there is none
pub record FitsUnderway (v : List ℕ) (payload : Data) (total : ℕ) : Type 0 where
  pub none : (f : CheckFault) → IsUnderwayFault v payload total f → ⊥
