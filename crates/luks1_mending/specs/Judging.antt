-- Which keyslots are kept as far as they have been judged, in the order of preference, and what the set of those
-- that are says of others: words of private contracts.
use Rattle.std.specs.Prelude.{◌≡◌, ◌≢◌, ◌⊎◌, ℕ, ◌+◌, ◌<◌, ◌≤◌, Bool, true, false, List, slice_index_or}
use Rattle.luks_area.specs.Area.{Meet}
use Rattle.luks_area.specs.declared.area.Area.{Area}
use Rattle.luks1_mending.specs.Areas.{own_area, sector_of, stripes_of}
use Rattle.luks1_mending.specs.Kept.{rank, IsBeforeAndMeets, IsSound}

-- an array as a set
abbrev pub set_of : List Bool → ℕ → Bool
set_of kept n = slice_index_or kept n false

-- the keyslot `n` is of a rank below `r`, or of that rank and of a number below `i`
abbrev pub IsJudged : List ℕ → ℕ → ℕ → ℕ → ℕ → Type 0
IsJudged h k r i n = (rank h k n < r) ⊎ ((rank h k n ≡ r) × (n < i))

-- of the keyslots that have been judged those that are kept
pub record AreKeptSoFar (h : List ℕ) (k total r i : ℕ) (kept : ℕ → Bool) : Type 0 where
  pub sound : (n : ℕ) → kept n ≡ true → IsSound h k total n
  pub judged : (n : ℕ) → kept n ≡ true → IsJudged h k r i n
  pub apart : (m n : ℕ) → m ≢ n → kept m ≡ true → kept n ≡ true → Meet (own_area h k m) (own_area h k n) → ⊥
  pub rest : (n : ℕ) → IsSound h k total n → IsJudged h k r i n → kept n ≡ false → (m : ℕ) × ((kept m ≡ true) × IsBeforeAndMeets h k m n)

-- the keyslot `m` is of the set, and its area meets this one
pub record MeetsOne (h : List ℕ) (k : ℕ) (kept : ℕ → Bool) (area : Area) (m : ℕ) : Type 0 where
  pub among : kept m ≡ true
  pub meet : Meet (own_area h k m) area

-- the keyslot `n` of the rank `r` is kept beside these
pub record IsNext (h : List ℕ) (k total r : ℕ) (kept : ℕ → Bool) (n : ℕ) : Type 0 where
  pub ranked : rank h k n ≡ r
  pub sound : IsSound h k total n
  pub apart : (m : ℕ) → MeetsOne h k kept (own_area h k n) m → ⊥

-- or, if it is of that rank and sound, it meets one of them
abbrev pub IsPassedOver : List ℕ → ℕ → ℕ → ℕ → (ℕ → Bool) → ℕ → Type 0
IsPassedOver h k total r kept n =
    rank h k n ≡ r → IsSound h k total n → (m : ℕ) × MeetsOne h k kept (own_area h k n) m

-- the keyslots `a` and `a + 1` are of the set, have as many stripes, and stand one behind the other
pub record IsPairAmong (h : List ℕ) (kept : ℕ → Bool) (a : ℕ) : Type 0 where
  pub one : kept a ≡ true
  pub next : kept (a + 1) ≡ true
  pub alike : stripes_of h (a + 1) ≡ stripes_of h a
  pub rising : sector_of h a < sector_of h (a + 1)

-- and no pair before them does
pub record IsFirstPairAmong (h : List ℕ) (kept : ℕ → Bool) (a : ℕ) : Type 0 where
  pub pair : IsPairAmong h kept a
  pub first : (b : ℕ) → IsPairAmong h kept b → a ≤ b
