-- Overwriting the areas of keyslots with zeros, in the order of a list: words of private contracts.
use Rattle.std.specs.Prelude.{◌≡◌, ◌≢◌, ℕ, ◌<◌, ◌≤◌, List, replicate}
use Rattle.luks_area.specs.declared.area.Area.{Area}
use Rattle.luks_area.specs.declared.area.AreaName.TheVariants.{Slot}
use Rattle.luks_area.specs.declared.areas.Entry.{Entry}
use Rattle.luks_area.specs.Area.{AreDisjoint}
use Rattle.luks_area.specs.Names.{HasArea}
use Rattle.luks_area.specs.Ranges.{part, IsAt, SameBut}

-- the place is of the area of a keyslot in the list
pub record IsOfKeyslots (areas : List Entry) (p : ℕ) : Type 0 where
  pub slot : ℕ
  pub area : Area
  pub has : HasArea areas (Slot slot) area
  pub at : IsAt area.start area.len p

-- it is of one of a number up to `last`
pub record IsOfKeyslotsUpTo (last : ℕ) (areas : List Entry) (p : ℕ) : Type 0 where
  pub is : IsOfKeyslots areas p
  pub low : is.slot ≤ last

-- the areas of all keyslots in the list are zeros
abbrev pub AreWiped : List Entry → List ℕ → Type 0
AreWiped areas w = (n : ℕ) (a : Area) → HasArea areas (Slot n) a → part w a.start a.len ≡ replicate a.len 0

-- no place is of the areas of two of them
abbrev pub AreApart : List Entry → Type 0
AreApart areas = (m n : ℕ) (a b : Area) → HasArea areas (Slot m) a → HasArea areas (Slot n) b → m ≢ n → AreDisjoint a b

-- while the area of the keyslot `slot` was overwritten: those of lower numbers are zeros, those of higher
-- numbers are as they were
pub record AreWipedInPart (areas : List Entry) (v w : List ℕ) : Type 0 where
  pub slot : ℕ
  pub area : Area
  pub has : HasArea areas (Slot slot) area
  pub wiped : (n : ℕ) (a : Area) → n < slot → HasArea areas (Slot n) a → part w a.start a.len ≡ replicate a.len 0
  pub rest : SameBut (IsOfKeyslotsUpTo slot areas) v w
