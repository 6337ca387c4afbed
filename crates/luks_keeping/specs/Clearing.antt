-- Which of the places of second copies are cleared: words of private contracts.
use Rattle.std.specs.Prelude.{◌≡◌, ◌⊎◌, ℕ, ◌+◌, ◌<◌, ◌≤◌, List, slice_index}
use Rattle.luks_area.specs.Ranges.{IsAt, IsOfEither, SameBut}
use Rattle.luks2_header.specs.Sizes.{IsListed}
use Rattle.luks_writing.specs.Cleared.{cleared_size, IsCleared}
use Rattle.luks_keeping.specs.SecondPlaces.{AreZeros, BeginsCopy, IsOfListed}
use Rattle.luks_keeping.specs.declared.second_places.Which.{Which}
use Rattle.luks_keeping.specs.declared.second_places.Which.TheVariants.{EachPlace, EachCopy}

-- the place is one of these on the volume `v`
abbrev pub IsToClear : Which → List ℕ → ℕ → Type 0
IsToClear EachPlace v place = IsListed place
IsToClear EachCopy v place = BeginsCopy v place

-- the byte place is of its first sector
pub record IsOfOne (which : Which) (v : List ℕ) (limit place p : ℕ) : Type 0 where
  pub is : IsToClear which v place
  pub within : place + cleared_size ≤ limit
  pub at : IsAt place cleared_size p

-- no zero has become another byte
abbrev pub KeepsZeros : List ℕ → List ℕ → Type 0
KeepsZeros old new = (p : ℕ) → slice_index old p ≡ 0 → slice_index new p ≡ 0

-- the byte place is of the first `size` bytes, but behind the first sector at 0, and of no listed place's
pub record IsBetween (size p : ℕ) : Type 0 where
  pub behind : cleared_size ≤ p
  pub below : p < size
  pub other : IsOfListed size p → ⊥

-- the byte place is of a first sector that is cleared before all else
abbrev pub IsOfFronts : ℕ → ℕ → Type 0
IsOfFronts size = IsOfEither (IsAt 0 cleared_size) (IsOfListed size)

-- what clearing the first `size` bytes leaves at any time: nothing but the first sector at 0 has changed; or
-- that is cleared, and nothing but the first sectors of the listed places has changed, or they are cleared too
abbrev pub WipesInTurn : ℕ → List ℕ → List ℕ → Type 0
WipesInTurn size old new =
    SameBut (IsAt 0 cleared_size) old new
    ⊎ (IsCleared new 0 × (SameBut (IsOfFronts size) old new ⊎ AreZeros (IsOfListed size) new))
