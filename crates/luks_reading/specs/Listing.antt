-- When a list of entries has exactly the areas of a set.
use Rattle.std.specs.Prelude.{◌≡◌, ℕ, ◌+◌, ◌≤◌, List, length}
use Rattle.serde_json.specs.Data.{Data as Value}
use Rattle.luks_area.specs.declared.area.Area.{Area}
use Rattle.luks_area.specs.declared.area.AreaName.{AreaName}
use Rattle.luks_area.specs.declared.areas.Entry.{Entry}
use Rattle.luks_area.specs.Area.{IsBefore}
use Rattle.luks_area.specs.Names.{HasArea}
use Rattle.luks_area.specs.declared.area.AreaName.TheVariants.{Segment, Slot}
use Rattle.luks_reading.specs.declared.report.Data.{Data}
use Rattle.luks_reading.specs.declared.report.Data.TheVariants.{Here}
use Rattle.luks_reading.specs.Layout2.{Luks2Area}

-- the list has the areas of the set and no others
pub record Lists (entries : List Entry) (areas : AreaName → Area → Type 0) : Type 0 where
  pub only : (n : AreaName) (a : Area) → HasArea entries n a → areas n a
  pub all : (n : AreaName) (a : Area) → areas n a → HasArea entries n a

-- the list has the areas of the set whose names come before `bound`, and no others
pub record ListsBelow (entries : List Entry) (areas : AreaName → Area → Type 0) (bound : AreaName) : Type 0 where
  pub below : (n : AreaName) (a : Area) → HasArea entries n a → IsBefore n bound
  pub only : (n : AreaName) (a : Area) → HasArea entries n a → areas n a
  pub all : (n : AreaName) (a : Area) → areas n a → IsBefore n bound → HasArea entries n a

-- `now` has the areas of `before`, and those of the keyslots below `n` of the metadata `j`
pub record AddsLuks2Slots (before now : List Entry) (j : Value) (n : ℕ) : Type 0 where
  pub count : length now ≤ 2 + n
  pub last : (m : AreaName) (a : Area) → HasArea now m a → IsBefore m (Slot n)
  pub listed : (h : ℕ) (payload : Data) (total : ℕ)
      → ListsBelow before (Luks2Area j h payload total) (Slot 0) → ListsBelow now (Luks2Area j h payload total) (Slot n)

-- `now` has the areas of `before`, and those of the segments below `n`
pub record AddsSegments (before now : List Entry) (j : Value) (total n : ℕ) : Type 0 where
  pub count : length now ≤ 34 + n
  pub last : (m : AreaName) (a : Area) → HasArea now m a → IsBefore m (Segment n)
  pub listed : (h : ℕ) (payload : Data) → payload ≡ Here
      → ListsBelow before (Luks2Area j h payload total) (Segment 0) → ListsBelow now (Luks2Area j h payload total) (Segment n)
