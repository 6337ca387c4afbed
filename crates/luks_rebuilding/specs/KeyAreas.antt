-- The areas of a header that is made of metadata: both copies and the key areas, the payload being
-- elsewhere (LUKS2 On-Disk Format 1.1, 2 and 3.2.3).
use Rattle.std.specs.Prelude.{◌≡◌, ℕ, ◌+◌, ◌*◌, ◌<◌, List, codes, length, Some}
use Rattle.serde_json.specs.Data.{Data as Value}
use Rattle.luks_area.specs.Ranges.{part, IsAt}
use Rattle.luks_area.specs.declared.area.Area.{Area}
use Rattle.luks_area.specs.declared.area.AreaName.{AreaName}
use Rattle.luks_meta.specs.MetaFault.{Json}
use Rattle.luks_meta.specs.Sizes.{keyslots_size}
use Rattle.luks_reading.specs.Layout2.{Luks2Area, slot_number}
use Rattle.luks_reading.specs.declared.report.Data.TheVariants.{Elsewhere}
use Rattle.luks_rebuilding.specs.Candidates.{Source}

-- the key area of the keyslot `n` of the metadata `j`
abbrev pub IsSlotArea : Value → ℕ → Area → Type 0
IsSlotArea j n a =
    (n < 32) × (slot_number j n (codes "offset") ≡ Some a.start) × (slot_number j n (codes "size") ≡ Some a.len)

-- the area named `n` by the metadata of what is taken
pub record HasHeaderArea (v : List ℕ) (source : Source) (n : AreaName) (a : Area) : Type 0 where
  pub value : Value
  pub holds : Json (source.json) value
  pub area : Luks2Area value source.size Elsewhere (length v) n a

-- the key area of its keyslot `n`
pub record HasKeyArea (source : Source) (n : ℕ) (a : Area) : Type 0 where
  pub value : Value
  pub holds : Json (source.json) value
  pub area : IsSlotArea value n a

-- the byte place is of one of its key areas
pub record IsOfKeyArea (source : Source) (p : ℕ) : Type 0 where
  pub number : ℕ
  pub area : Area
  pub has : HasKeyArea source number area
  pub at : IsAt area.start area.len p

-- each of its key areas has in `new` the bytes that it has in `v`
abbrev pub HasKeyAreas : List ℕ → Source → List ℕ → Type 0
HasKeyAreas v source new =
    (n : ℕ) (a : Area) → HasKeyArea source n a → part new a.start a.len ≡ part v a.start a.len

-- a device of `total` bytes ends before the region of its key areas, which follows both copies
pub record EndsBeforeRegion (total : ℕ) (source : Source) : Type 0 where
  pub value : Value
  pub holds : Json (source.json) value
  pub bytes : ℕ
  pub says : keyslots_size value ≡ Some bytes
  pub short : total < 2 * source.size + bytes
