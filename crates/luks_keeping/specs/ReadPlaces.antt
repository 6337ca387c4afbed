-- What copying key areas leaves where not all of them can be read: words of private contracts.
use Rattle.std.specs.Prelude.{◌≡◌, ◌⊎◌, ℕ, ◌+◌, ◌^◌, ◌<◌, ◌≤◌, zero, suc, List, ◌∷◌, Option, None, Some, Bool, true, false, Result, MatchResult, All, length, replicate, slice_index, slice_index_or}
use Rattle.luks_area.specs.Ranges.{IsAt}
use Rattle.luks_area.specs.declared.area.Area.{Area}
use Rattle.luks_keeping.specs.Places.{CopiesInTurn, HasPlace, WritesAnew}
use Rattle.luks_keeping.specs.Unread.{zeroed, HasOne, IsOfPieces}
use Rattle.luks_keeping.specs.declared.lost.LostKeyslots.{LostKeyslots}
use Rattle.luks_keeping.specs.declared.places.Places.{Places}

-- ---- one read

-- the count of failures after a read that was done or failed
abbrev pub count_read : Bool → ℕ → ℕ
count_read true count = count
count_read false count = count + 1

-- what is taken for the `len` bytes that were read, or weren't
abbrev pub bytes_read : Bool → List ℕ → ℕ → List ℕ
bytes_read true bytes len = bytes
bytes_read false bytes len = replicate len 0

-- a fault of the target ends it, or that no more failures of the source can be counted
abbrev pub EndsAreas : ℕ → ℕ → ℕ → ℕ → Type 0
EndsAreas s t u w = (s ≤ t) × ((w ≡ u + 1) ⊎ ((w ≡ u) × (t + 1 ≡ 2 ^ 64)))

abbrev pub CountsAreas : {X F : Type 0} → Result X F → ℕ → ℕ → ℕ → ℕ → Type 0
CountsAreas result s t u w = MatchResult result (λ _. (s ≤ t) × (w ≡ u)) (λ _. EndsAreas s t u w)

-- ---- one area

-- the piece lies in these bytes
pub record IsPieceIn (start len : ℕ) (piece : Area) : Type 0 where
  pub low : start ≤ piece.start
  pub high : piece.start + piece.len ≤ start + len
  pub some : 1 ≤ piece.len
  pub most : piece.len ≤ 512

-- `w` has these bytes of `s`, except for zeros in the pieces
pub record HoldsBut (pieces : List Area) (s w : List ℕ) (start len : ℕ) : Type 0 where
  pub zeros : (p : ℕ) → IsAt start len p → IsOfPieces pieces p → slice_index w p ≡ 0
  pub read : (p : ℕ) → IsAt start len p → (IsOfPieces pieces p → ⊥) → slice_index w p ≡ slice_index s p

-- what copying these bytes leaves
pub record LeavesRange (tells : Type 0) (s w : List ℕ) (start len before after : ℕ) : Type 0 where
  pub pieces : List Area
  pub counted : after ≡ before + length pieces
  pub each : All (IsPieceIn start len) pieces
  pub holds : tells → HoldsBut pieces s w start len

-- ---- the areas of keyslots

-- the piece is of the key area of the keyslot `n`
pub record IsOfArea (places : Places) (n : ℕ) (piece : Area) : Type 0 where
  pub area : Area
  pub is : HasPlace places n area
  pub piece_in : IsPieceIn area.start area.len piece

-- what copying that area leaves
pub record LeavesPlace (tells : Type 0) (places : Places) (n : ℕ) (s w : List ℕ) (before after : ℕ) : Type 0 where
  pub pieces : List Area
  pub counted : after ≡ before + length pieces
  pub each : All (IsOfArea places n) pieces
  pub holds : tells → (a : Area) → HasPlace places n a → HoldsBut pieces s w a.start a.len

abbrev pub IsMarked : List Bool → ℕ → Type 0
IsMarked keyslots n = slice_index_or keyslots n false ≡ true

-- the piece is of a keyslot below `end` that is marked
pub record IsOfMarked (places : Places) (end : ℕ) (keyslots : List Bool) (piece : Area) : Type 0 where
  pub number : ℕ
  pub below : number < end
  pub marked : IsMarked keyslots number
  pub is : IsOfArea places number piece

-- what copying those below `end` leaves: the marked keyslots are those with such a piece
pub record LeavesAreas (tells : Type 0) (places : Places) (end : ℕ) (s w : List ℕ) (before after : ℕ) (keyslots : List Bool) : Type 0 where
  pub pieces : List Area
  pub counted : after ≡ before + length pieces
  pub each : All (IsOfMarked places end keyslots) pieces
  pub told : (k : ℕ) → k < end → IsMarked keyslots k → HasOne (IsOfArea places k) pieces
  pub holds : tells → (k : ℕ) (a : Area) → k < end → HasPlace places k a → HoldsBut pieces s w a.start a.len

-- the keyslots that are told after so many failed reads
abbrev pub lost_by : ℕ → List Bool → Option LostKeyslots
lost_by zero keyslots = None
lost_by (suc n) keyslots = Some (record { keyslots = keyslots })

-- ---- header and areas

-- the source as it was read
abbrev pub as_copied : Places → List Area → List ℕ → List ℕ
as_copied places pieces s = zeroed (record { start = 0; len = places.lead } ∷ pieces) s

pub record IsOfSome (places : Places) (piece : Area) : Type 0 where
  pub number : ℕ
  pub is : IsOfArea places number piece

-- copying goes in turn as it does of the source as it was read
pub record CopiesReadInTurn (places : Places) (s : List ℕ) (before after : ℕ) (old new : List ℕ) : Type 0 where
  pub pieces : List Area
  pub few : before + length pieces ≤ after
  pub each : All (IsOfSome places) pieces
  pub turn : CopiesInTurn places (as_copied places pieces s) old new

pub record WritesReadAnew (places : Places) (size : ℕ) (s : List ℕ) (before after : ℕ) (old new : List ℕ) : Type 0 where
  pub pieces : List Area
  pub few : before + length pieces ≤ after
  pub each : All (IsOfSome places) pieces
  pub turn : WritesAnew places size (as_copied places pieces s) old new

-- the source ended it once all areas stood, or no more of its failures can be counted
pub record StandsRead (tells : Type 0) (places : Places) (s w : List ℕ) (before after : ℕ) : Type 0 where
  pub mid : ℕ
  pub counted : after ≡ mid + 1
  pub keyslots : List Bool
  pub left : LeavesAreas tells places 32 s w before mid keyslots

abbrev pub EndsRead : Type 0 → Places → List ℕ → List ℕ → ℕ → ℕ → Type 0
EndsRead tells places s w before after = StandsRead tells places s w before after ⊎ (after + 1 ≡ 2 ^ 64)
