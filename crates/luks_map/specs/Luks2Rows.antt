-- The rows of a volume with a LUKS2 header: of its areas as `check` judges them, and of two ends.
use Rattle.std.specs.Prelude.{◌≡◌, ℕ, List, ◌∷◌, Some, map}
use Rattle.luks_area.specs.declared.areas.Entry.{Entry}
use Rattle.luks_area.specs.Names.{IsIncreasing}
use Rattle.luks_meta.specs.Content.{content}
use Rattle.luks_rules.specs.Sizes.{keyslots_size}
use Rattle.luks_reading.specs.declared.header.ChosenCopy.{ChosenCopy}
use Rattle.luks_reading.specs.declared.report.Data.TheVariants.{Here}
use Rattle.luks_reading.specs.Layout2.{Luks2Area}
use Rattle.luks_reading.specs.Listing.{Lists}
use Rattle.luks_map.specs.declared.row.Row.{Row}
use Rattle.luks_map.specs.declared.row.Row.TheVariants.{Area, KeyAreasEnd, VolumeEnd}
use Rattle.luks_map.specs.Rows.{luks2_part}

abbrev pub area_row : Entry → Row
area_row e = Area (luks2_part e.name) e.area

-- the row is the end of the key areas' region, which begins behind both copies and has the size that the metadata says
pub record IsKeyAreasEnd (copy : ChosenCopy) (row : Row) : Type 0 where
  pub size : ℕ
  pub says : keyslots_size (content copy.meta) ≡ Some size
  pub is : row ≡ KeyAreasEnd copy.header.hdr_size size

-- of the volume of `total` bytes with this chosen copy: its areas, each once, that end, and the volume's
pub record IsLuks2Rows (copy : ChosenCopy) (total : ℕ) (rows : List Row) : Type 0 where
  pub areas : List Entry
  pub increasing : IsIncreasing areas
  pub lists : Lists areas (Luks2Area (content copy.meta) copy.header.hdr_size Here total)
  pub key_areas_end : Row
  pub ends : IsKeyAreasEnd copy key_areas_end
  pub is : rows ≡ key_areas_end ∷ VolumeEnd total ∷ map area_row areas
