-- The starts on a disk that can't be read everywhere.
use Rattle.std.specs.Prelude.{◌≡◌, ◌⊎◌, ℕ, ◌+◌, ◌-◌, ◌*◌, ◌<◌, ◌≤◌, List, [], ◌∷◌, ◌++◌, Option, None, Some, length, min, slice_index, if◌then◌else◌}
use Rattle.luks2_header.specs.Sizes.{is_among}
use Rattle.luks_finding.specs.Finding.{GoesOn}
use Rattle.luks_finding.specs.Starts.{sector_size, ComesBefore, IsAmong, IsSign}
use Rattle.luks_finding.specs.Telling.{starts_of}
use Rattle.luks_finding.specs.declared.finding.Step.{Step}
use Rattle.luks_finding.specs.declared.finding.Step.TheVariants.{Start, Two, On, End}
use Rattle.luks_finding.specs.declared.passed.Further.{Further}
use Rattle.luks_finding.specs.declared.passed.Further.TheVariants as further
use Rattle.luks_finding.specs.declared.passed.Passed.{Passed}
use Rattle.luks_finding.specs.declared.told.Told.{Told}

-- ---- what was passed over

-- the place lies in these sectors
abbrev pub LiesIn : Passed → ℕ → Type 0
LiesIn x p = (sector_size * x.from ≤ p) × (p < sector_size * x.to)

-- in one of these stretches
abbrev pub IsPassed : List Passed → ℕ → Type 0
IsPassed [] p = ⊥
IsPassed (x ∷ xs) p = LiesIn x p ⊎ IsPassed xs p

-- they end before the sector `end`
abbrev pub EndBefore : List Passed → ℕ → Type 0
EndBefore [] end = Unit {0}
EndBefore (x ∷ xs) end = (x.to ≤ end) × EndBefore xs end

-- how many sectors they have
abbrev pub sectors_of : List Passed → ℕ
sectors_of [] = 0
sectors_of (x ∷ xs) = (x.to - x.from) + sectors_of xs

-- ---- signs that can be read

-- a sign of the volume at `s` is at the place `p`, which wasn't passed over
pub record IsReadSign (v : List ℕ) (passed : List Passed) (s p : ℕ) : Type 0 where
  pub sign : IsSign v s p
  pub read : IsPassed passed p → ⊥

-- one comes before the place `p`
pub record HasReadBefore (v : List ℕ) (passed : List Passed) (s p : ℕ) : Type 0 where
  pub place : ℕ
  pub before : place < p
  pub sign : IsReadSign v passed s place

-- the first one is there
pub record IsFirstRead (v : List ℕ) (passed : List Passed) (s p : ℕ) : Type 0 where
  pub sign : IsReadSign v passed s p
  pub first : HasReadBefore v passed s p → ⊥

-- the volumes are in the list in the order of their first signs that can be read
abbrev pub AreInReadOrder : List ℕ → List Passed → List ℕ → Type 0
AreInReadOrder v passed list = (i j p q : ℕ) → i < j → j < length list → IsFirstRead v passed (slice_index list i) p → IsFirstRead v passed (slice_index list j) q
    → ComesBefore p (slice_index list i) q (slice_index list j)

-- The list has each volume of the disk `v` of which a sign is at a place that wasn't passed over, and no other one, each
-- once and in the order of these signs. A sign counts as ever: where nothing was passed over these are all starts.
pub record AreReadStarts (v : List ℕ) (passed : List Passed) (list : List ℕ) : Type 0 where
  pub sound : (i : ℕ) → i < length list → (p : ℕ) × IsReadSign v passed (slice_index list i) p
  pub complete : (s p : ℕ) → IsReadSign v passed s p → IsAmong list s
  pub once : (i j : ℕ) → i < j → j < length list → slice_index list i ≡ slice_index list j → ⊥
  pub in_order : AreInReadOrder v passed list

-- ---- a part of the search

-- the first sign that can be read comes before the sector `end`
pub record IsReadTo (v : List ℕ) (passed : List Passed) (end s : ℕ) : Type 0 where
  pub place : ℕ
  pub below : place < sector_size * end
  pub first : IsFirstRead v passed s place

-- the list has the volumes with such a sign before the sector `end`, before which what was passed over ends, in the order of
-- the first ones
pub record AreReadTo (v : List ℕ) (passed : List Passed) (end : ℕ) (list : List ℕ) : Type 0 where
  pub behind : EndBefore passed end
  pub sound : (i : ℕ) → i < length list → IsReadTo v passed end (slice_index list i)
  pub complete : (k s : ℕ) → k < end → IsReadSign v passed s (sector_size * k) → IsAmong list s
  pub in_order : AreInReadOrder v passed list

-- what a step tells and passes over
abbrev pub told_by_step : Step → List ℕ
told_by_step (Start s) = s ∷ []
told_by_step (Two s t) = s ∷ t ∷ []
told_by_step On = []
told_by_step End = []

abbrev pub told_by : Further → List ℕ
told_by (further.Step step) = told_by_step step
told_by (further.Passed x) = []

abbrev pub passed_by : Further → List Passed
passed_by (further.Step step) = []
passed_by (further.Passed x) = x ∷ []

-- If all starts with a sign that can be read before the sector `from` were told, all such starts before the sector `next`
-- are told with what the step tells, where what it passes over counts as passed over.
abbrev pub TellsFurther : List ℕ → List ℕ → ℕ → ℕ → Further → Type 0
TellsFurther v told from next f = (passed : List Passed) → AreReadTo v passed from told → AreReadTo v (passed ++ passed_by f) next (told ++ told_by f)

-- a step goes on, or it is at the end; what it passes over lies there
abbrev pub GoesFurther : ℕ → ℕ → ℕ → Further → Type 0
GoesFurther total from next (further.Step step) = GoesOn total from next step
GoesFurther total from next (further.Passed x) = (from < next) × (sector_size * from < total) × (from ≤ x.from) × (x.from < x.to) × (x.to ≡ next)
    × (sector_size * next < total + sector_size)

-- ---- a place

-- the list has the volumes of which a sign is at the place `p`, in ascending order
pub record AreSignsAt (v : List ℕ) (p : ℕ) (list : List ℕ) : Type 0 where
  pub signs : (i : ℕ) → i < length list → IsSign v (slice_index list i) p
  pub rising : (i j : ℕ) → i < j → j < length list → slice_index list i < slice_index list j
  pub all : (s : ℕ) → IsSign v s p → IsAmong list s

abbrev pub HasAllAt : List ℕ → ℕ → Told → Type 0
HasAllAt v p told = AreSignsAt v p (starts_of told)

-- the same of the volumes of one kind, of which there is one at most
abbrev pub HasKindAt : (ℕ → Type 0) → List ℕ → ℕ → Option ℕ → Type 0
HasKindAt kind v p None = (s : ℕ) → kind s → IsSign v s p → ⊥
HasKindAt kind v p (Some s) = kind s × IsSign v s p × ((t : ℕ) → kind t → IsSign v t p → t ≡ s)

-- those of a list that aren't in the list `told`
abbrev pub untold_of : List ℕ → List ℕ → List ℕ
untold_of told [] = []
untold_of told (s ∷ ss) = if is_among s told then untold_of told ss else s ∷ untold_of told ss

-- the list has those with a sign there that aren't in the list `told`, in ascending order
pub record AreUntoldAt (v : List ℕ) (p : ℕ) (told list : List ℕ) : Type 0 where
  pub signs : (i : ℕ) → i < length list → IsSign v (slice_index list i) p
  pub fresh : (i : ℕ) → i < length list → IsAmong told (slice_index list i) → ⊥
  pub rising : (i j : ℕ) → i < j → j < length list → slice_index list i < slice_index list j
  pub all : (s : ℕ) → IsSign v s p → IsAmong told s ⊎ IsAmong list s

-- what a sector tells, unless it is passed over
abbrev pub UntoldAt : List ℕ → ℕ → List ℕ → Further → Type 0
UntoldAt v sector told (further.Step step) = AreUntoldAt v (sector_size * sector) told (told_by_step step)
UntoldAt v sector told (further.Passed x) = Unit {0}

-- what was told lies at the sector or before; it alone is passed over, where the count of failures rose
abbrev pub JudgesAt : ℕ → ℕ → Further → Type 0
JudgesAt sector rose (further.Step (Start s)) = s ≤ sector_size * sector
JudgesAt sector rose (further.Step (Two s t)) = (s < t) × (t ≤ sector_size * sector)
JudgesAt sector rose (further.Step On) = Unit {0}
JudgesAt sector rose (further.Step End) = ⊥
JudgesAt sector rose (further.Passed x) = (x.from ≡ sector) × (x.to ≡ sector + 1) × (1 ≤ rose)

-- so many bytes at the sector are as many sectors as a block has, or those up to the disk's end
pub record IsBlock (total sector len : ℕ) : Type 0 where
  pub sectors : ℕ
  pub some : 1 ≤ sectors
  pub is : len ≡ min (total - sector_size * sector) (sector_size * sectors)
