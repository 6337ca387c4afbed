-- Areas of a volume, and when a set of areas fits into one.
use Rattle.std.specs.Prelude.{◌≡◌, ◌≢◌, ℕ, ◌+◌, ◌≤◌, ◌<◌, List, [], ◌∷◌}
use Rattle.luks_area.specs.declared.area.Area.{Area}
use Rattle.luks_area.specs.declared.area.AreaName.{AreaName}
use Rattle.luks_area.specs.declared.area.AreaName.TheVariants.{Head1, Head2, Slot, Segment}
use Rattle.luks_area.specs.declared.area.AreaFault.{AreaFault}
use Rattle.luks_area.specs.declared.area.AreaFault.TheVariants.{Outside, Overlap}

-- the byte place `p` lies in the area
abbrev pub LiesIn : ℕ → Area → Type 0
LiesIn p a = (a.start ≤ p) × (p < a.start + a.len)

-- the area is inside a volume of `total` bytes
abbrev pub IsInside : Area → ℕ → Type 0
IsInside a total = a.start + a.len ≤ total

-- some byte place lies in both areas
abbrev pub Meet : Area → Area → Type 0
Meet a b = (p : ℕ) × (LiesIn p a × LiesIn p b)

-- no byte place lies in both areas
abbrev pub AreDisjoint : Area → Area → Type 0
AreDisjoint a b = (p : ℕ) → LiesIn p a → LiesIn p b → ⊥

-- the order of names: headers, keyslots, segments, each by number
abbrev pub name_kind : AreaName → ℕ
name_kind Head1 = 0
name_kind Head2 = 1
name_kind (Slot n) = 2
name_kind (Segment n) = 3

abbrev pub name_number : AreaName → ℕ
name_number Head1 = 0
name_number Head2 = 0
name_number (Slot n) = n
name_number (Segment n) = n

abbrev pub name_key : AreaName → List ℕ
name_key n = name_kind n ∷ name_number n ∷ []

-- the name `m` comes before the name `n`
abbrev pub IsBefore : AreaName → AreaName → Type 0
IsBefore m n = (name_kind m ≤ name_kind n) × (name_kind m ≡ name_kind n → name_number m < name_number n)

-- a set of named areas, as the pairs that it has, fits into a volume of `total` bytes:
-- each area is inside, and every two of different names are disjoint
pub record Fit (areas : AreaName → Area → Type 0) (total : ℕ) : Type 0 where
  pub inside : (n : AreaName) (a : Area) → areas n a → IsInside a total
  pub disjoint : (m n : AreaName) (a b : Area) → areas m a → areas n b → m ≢ n → AreDisjoint a b

-- the faults of a set of named areas in a volume of `total` bytes
abbrev pub IsAreaFault : (AreaName → Area → Type 0) → ℕ → AreaFault → Type 0
IsAreaFault areas total (Outside n) = (a : Area) × (areas n a × (total < a.start + a.len))
IsAreaFault areas total (Overlap m n) = (a : Area) × ((b : Area) × (areas m a × areas n b × IsBefore m n × Meet a b))

-- areas outside come before areas that meet; within each row the order is that of the names
abbrev pub area_row : AreaFault → ℕ
area_row (Outside n) = 1
area_row (Overlap m n) = 2

abbrev pub area_place : AreaFault → List ℕ
area_place (Outside n) = name_key n
area_place (Overlap m n) = name_kind m ∷ name_number m ∷ name_key n

abbrev pub area_key : AreaFault → List ℕ
area_key f = area_row f ∷ area_place f
