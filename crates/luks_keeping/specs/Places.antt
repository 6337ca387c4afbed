-- Where a header and its key areas are on a device, whichever its version: words of private contracts.
use Rattle.std.specs.Prelude.{◌≡◌, ◌≢◌, ◌⊎◌, ℕ, ◌+◌, ◌-◌, ◌<◌, ◌≤◌, List, Some, None, min, replicate, slice_index, slice_index_or}
use Rattle.luks_area.specs.Area.{AreDisjoint}
use Rattle.luks_area.specs.Ranges.{part, IsAt, IsOfEither, SameBut}
use Rattle.luks_area.specs.declared.area.Area.{Area}
use Rattle.luks_writing.specs.Cleared.{cleared_size}
use Rattle.luks_keeping.specs.Clearing.{WipesInTurn}
use Rattle.luks_keeping.specs.SecondPlaces.{IsOfCopies, IsOfListed}
use Rattle.luks_keeping.specs.declared.places.Places.{Places}

-- `a` is the key area of the keyslot `n`
abbrev pub HasPlace : Places → ℕ → Area → Type 0
HasPlace places n a = (n < 32) × (slice_index_or places.areas n None ≡ Some a)

-- the bytes of both copies of the header
abbrev pub header_end : Places → ℕ
header_end places = places.first + places.second

-- the key areas follow the header, and no two of them meet
pub record AreApart (places : Places) : Type 0 where
  pub behind : (n : ℕ) (a : Area) → HasPlace places n a → (p : ℕ) → IsAt a.start a.len p → header_end places ≤ p
  pub disjoint : (m n : ℕ) (a b : Area) → HasPlace places m a → HasPlace places n b → m ≢ n → AreDisjoint a b

-- all of it lies inside a device of `total` bytes
pub record AreInside (places : Places) (total : ℕ) : Type 0 where
  pub header : header_end places ≤ total
  pub areas : (n : ℕ) (a : Area) → HasPlace places n a → a.start + a.len ≤ total

-- the byte place is of the key area of the keyslot `n`, or of any
pub record IsOfPlace (places : Places) (n p : ℕ) : Type 0 where
  pub area : Area
  pub is : HasPlace places n area
  pub at : IsAt area.start area.len p

pub record IsOfAreas (places : Places) (p : ℕ) : Type 0 where
  pub number : ℕ
  pub of_place : IsOfPlace places number p

-- it is of what is kept of the header
abbrev pub IsOfHeader : Places → ℕ → Type 0
IsOfHeader places = IsAt places.lead (header_end places - places.lead)

-- or of that or a key area
abbrev pub IsOfPlaces : Places → ℕ → Type 0
IsOfPlaces places = IsOfEither (IsOfHeader places) (IsOfAreas places)

-- ---- what `w` has of the bytes `s`

abbrev pub HoldsAreas : Places → List ℕ → List ℕ → Type 0
HoldsAreas places s w = (n : ℕ) (a : Area) → HasPlace places n a → part w a.start a.len ≡ part s a.start a.len

pub record HoldsAllButFirst (places : Places) (s w : List ℕ) : Type 0 where
  pub areas : HoldsAreas places s w
  pub second : part w places.first places.second ≡ part s places.first places.second

abbrev pub HoldsHeader : Places → List ℕ → List ℕ → Type 0
HoldsHeader places s w = part w places.lead (header_end places - places.lead) ≡ part s places.lead (header_end places - places.lead)

pub record HoldsAll (places : Places) (s w : List ℕ) : Type 0 where
  pub areas : HoldsAreas places s w
  pub header : HoldsHeader places s w

-- what copying the header leaves at any time: nothing but the second copy's place has changed; or that stands
abbrev pub CopiesHeader : Places → List ℕ → List ℕ → List ℕ → Type 0
CopiesHeader places s old new =
    SameBut (IsAt places.first places.second) old new
    ⊎ (SameBut (IsOfHeader places) old new × (part new places.first places.second ≡ part s places.first places.second))

-- what copying leaves at any time: the header's places are as they were; or the first copy's is, and
-- the key areas stand; or all but the first copy stands
abbrev pub CopiesInTurn : Places → List ℕ → List ℕ → List ℕ → Type 0
CopiesInTurn places s old new =
    (part new 0 (header_end places) ≡ part old 0 (header_end places))
    ⊎ (((part new 0 places.first ≡ part old 0 places.first) × HoldsAreas places s new)
    ⊎ HoldsAllButFirst places s new)

-- ---- writing over what is there

-- the bytes that are cleared of each copy's place
abbrev pub first_cleared : Places → ℕ
first_cleared places = min cleared_size places.first

abbrev pub second_cleared : Places → ℕ
second_cleared places = min cleared_size places.second

-- the byte place is of these
abbrev pub IsOfSectors : Places → ℕ → Type 0
IsOfSectors places = IsOfEither (IsAt 0 (first_cleared places)) (IsAt places.first (second_cleared places))

abbrev pub IsFirstCleared : Places → List ℕ → Type 0
IsFirstCleared places w = part w 0 (first_cleared places) ≡ replicate (first_cleared places) 0

abbrev pub IsSecondCleared : Places → List ℕ → Type 0
IsSecondCleared places w = part w places.first (second_cleared places) ≡ replicate (second_cleared places) 0

pub record AreCleared (places : Places) (w : List ℕ) : Type 0 where
  pub first : IsFirstCleared places w
  pub second : IsSecondCleared places w

-- what clearing leaves at any time
abbrev pub ClearsInTurn : Places → List ℕ → List ℕ → Type 0
ClearsInTurn places old new = SameBut (IsAt 0 (first_cleared places)) old new ⊎ IsFirstCleared places new

-- the byte place is of the header, or of a key area
abbrev pub IsOfWhole : Places → ℕ → Type 0
IsOfWhole places = IsOfEither (IsAt 0 (header_end places)) (IsOfAreas places)

-- the bytes at these places are zeros, except for the header and the key areas
abbrev pub ArePlacesGone : Places → (ℕ → Type 0) → List ℕ → Type 0
ArePlacesGone places cleared new = (p : ℕ) → cleared p → (IsOfWhole places p → ⊥) → slice_index new p ≡ 0

-- what the steps after the clearing leave: the first sector is cleared, and the second copy's is too, or the key
-- areas stand; or all but the first copy stands
abbrev pub LeavesTurn : Places → List ℕ → List ℕ → Type 0
LeavesTurn places s new = (IsFirstCleared places new × (IsSecondCleared places new ⊎ HoldsAreas places s new)) ⊎ HoldsAllButFirst places s new

-- the byte place is of a sector that is cleared: of the copies' places, or of an older copy that begins before
-- `limit`
abbrev pub IsOfBegun : Places → ℕ → List ℕ → ℕ → Type 0
IsOfBegun places limit old = IsOfEither (IsOfSectors places) (IsOfCopies old limit)

-- what all steps leave at any time: nothing but the first sector at 0 has changed; or that is cleared, and
-- nothing but these sectors has changed; or the older copies are gone, and what the later steps leave stands
abbrev pub WritesOver : Places → ℕ → List ℕ → List ℕ → List ℕ → Type 0
WritesOver places limit s old new =
    SameBut (IsAt 0 (first_cleared places)) old new
    ⊎ ((IsFirstCleared places new × SameBut (IsOfBegun places limit old) old new)
    ⊎ (ArePlacesGone places (IsOfCopies old limit) new × LeavesTurn places s new))

-- what they leave of a file of `size` bytes that is wiped first
abbrev pub WritesAnew : Places → ℕ → List ℕ → List ℕ → List ℕ → Type 0
WritesAnew places size s old new = WipesInTurn size old new ⊎ (ArePlacesGone places (IsOfListed size) new × LeavesTurn places s new)
