-- Where a new key area goes: the least gap between the areas of a volume.
use Rattle.std.specs.Prelude.{◌≡◌, ℕ, ◌+◌, ◌*◌, ◌≤◌}
use Rattle.luks_area.specs.declared.area.Area.{Area}
use Rattle.luks_area.specs.declared.area.AreaName.{AreaName}
use Rattle.luks_area.specs.Area.{AreDisjoint}

-- the area of `len` bytes at the place `at`
abbrev pub area_at : ℕ → ℕ → Area
area_at at len = record { start = at; len = len }

-- an area of `len` bytes may be at the place `at`: a multiple of 4096, from `low` on, its end at
-- most at `high`, and no byte of it in an area of the set
pub record IsGap (areas : AreaName → Area → Type 0) (low high len at : ℕ) : Type 0 where
  pub block : ℕ
  pub aligned : at ≡ 4096 * block
  pub from : low ≤ at
  pub to : at + len ≤ high
  pub free : (n : AreaName) (a : Area) → areas n a → AreDisjoint a (area_at at len)

-- the least such place
pub record IsLeastGap (areas : AreaName → Area → Type 0) (low high len at : ℕ) : Type 0 where
  pub gap : IsGap areas low high len at
  pub least : (p : ℕ) → IsGap areas low high len p → at ≤ p

-- there is no such place
abbrev pub HasNoGap : (AreaName → Area → Type 0) → ℕ → ℕ → ℕ → Type 0
HasNoGap areas low high len = (p : ℕ) → IsGap areas low high len p → ⊥
