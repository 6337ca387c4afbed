-- Lists of named areas.
use Rattle.std.specs.Prelude.{◌≡◌, List, [], ◌∷◌, ◌⊎◌}
use Rattle.luks_area.specs.declared.area.Area.{Area}
use Rattle.luks_area.specs.declared.area.AreaName.{AreaName}
use Rattle.luks_area.specs.declared.areas.Entry.{Entry}
use Rattle.luks_area.specs.Area.{IsBefore}

-- the list has the area `a` under the name `n`: the list as a set of pairs
abbrev pub HasArea : List Entry → AreaName → Area → Type 0
HasArea [] n a = ⊥
HasArea (e ∷ es) n a = ((e.name ≡ n) × (e.area ≡ a)) ⊎ HasArea es n a

-- each name comes before all later ones, so no name is there twice
abbrev pub IsIncreasing : List Entry → Type 0
IsIncreasing [] = Unit {0}
IsIncreasing (e ∷ es) = ((n : AreaName) (a : Area) → HasArea es n a → IsBefore e.name n) × IsIncreasing es
