-- Which compositions of two JSON areas are tried by a checksum, where at most so many bytes of areas may be hashed,
-- and which of them is the first that meets it: each area, cut where its text ends, then those of the sectors of both, and then, where few bytes
-- of a sector differ, those of these bytes. No two that meet one SHA-256 are known: the order is there to make the first one unique.
use Rattle.std.specs.Prelude.{◌≡◌, ℕ, ◌+◌, ◌*◌, ◌^◌, ◌<◌, ◌≤◌, List, ◌⊎◌, length}
use Rattle.luks_vouching.specs.Composed.{bordered, differing, differing_before, IsComposed, IsNotLater}
use Rattle.luks_vouching.specs.Cut.{cut, IsCut}
use Rattle.luks_vouching.specs.Pieces.{of_pieces, piece_count, IsOfPieces}

-- the two areas that are cut may be hashed: where they may not, nothing is tried
abbrev pub MayBegin : ℕ → List ℕ → Type 0
MayBegin most first = 2 * length first ≤ most

-- so many bytes the two areas that are cut have together, and all compositions: each sector that differs
-- doubles their number
abbrev pub bytes_of_all : List ℕ → List ℕ → ℕ
bytes_of_all first second = (2 + 2 ^ differing first second) * length first

-- so many bytes these have together with all compositions of pieces
abbrev pub bytes_of_pieces : List ℕ → List ℕ → ℕ
bytes_of_pieces first second = (2 + 2 ^ differing first second + piece_count first second) * length first

-- so many bytes the two areas that are cut have together, and the compositions by one border up to that of
-- the border `n`: there is a new one behind each sector that differs, and as many with the front of the other
-- area
abbrev pub bytes_of_borders : List ℕ → List ℕ → ℕ → ℕ
bytes_of_borders front rest n = (2 + 2 * (differing_before front rest n + 1)) * length front

-- the border is near enough to be tried
abbrev pub IsNear : ℕ → List ℕ → List ℕ → ℕ → Type 0
IsNear most front rest n = bytes_of_borders front rest n ≤ most

-- it is a composition by one border, near enough, with the front of this area
abbrev pub IsNearBorder : ℕ → List ℕ → List ℕ → List ℕ → Type 0
IsNearBorder most front rest j = (n : ℕ) × IsNear most front rest n × (j ≡ bordered front rest n)

-- or of either
abbrev pub IsByBorder : ℕ → List ℕ → List ℕ → List ℕ → Type 0
IsByBorder most first second j = IsNearBorder most first second j ⊎ IsNearBorder most second first j

-- the compositions of sectors that are tried: all, but where these have too many bytes those by one border
-- alone that is near enough; the two whole areas are the first of these
pub record IsTriedOfSectors (most : ℕ) (first second j : List ℕ) : Type 0 where
  pub composed : IsComposed first second j
  pub by_border : most < bytes_of_all first second → IsByBorder most first second j

-- those of pieces: all, where they haven't too many bytes
abbrev pub IsTriedOfPieces : ℕ → List ℕ → List ℕ → List ℕ → Type 0
IsTriedOfPieces most first second j = (bytes_of_pieces first second ≤ most) × IsOfPieces first second j

-- what is tried
abbrev pub IsTriedComposed : ℕ → List ℕ → List ℕ → List ℕ → Type 0
IsTriedComposed most first second j = IsTriedOfSectors most first second j ⊎ IsTriedOfPieces most first second j

abbrev pub IsTried : ℕ → List ℕ → List ℕ → List ℕ → Type 0
IsTried most first second j = MayBegin most first × (IsCut first second j ⊎ IsTriedComposed most first second j)

-- the first of all compositions that meet the checksum
pub record IsFirstOfAll (first second : List ℕ) (meets : List ℕ → Type 0) (j : List ℕ) : Type 0 where
  pub composed : IsComposed first second j
  pub met : meets j
  pub earliest : (other : List ℕ) → IsComposed first second other → meets other → IsNotLater first j other

-- of those by one border, with the front of one area, the one with the shortest front
pub record IsFirstBorder (most : ℕ) (front rest : List ℕ) (meets : List ℕ → Type 0) (j : List ℕ) : Type 0 where
  pub number : ℕ
  pub near : IsNear most front rest number
  pub is : j ≡ bordered front rest number
  pub met : meets j
  pub least : (n : ℕ) → meets (bordered front rest n) → number ≤ n

-- none by one border that is near enough meets it
abbrev pub HasNoBorder : ℕ → List ℕ → List ℕ → (List ℕ → Type 0) → Type 0
HasNoBorder most front rest meets = (n : ℕ) → IsNear most front rest n → meets (bordered front rest n) → ⊥

-- the first of those by one border: with the first copy's front, or else with the second copy's
abbrev pub IsFirstOfBorders : ℕ → List ℕ → List ℕ → (List ℕ → Type 0) → List ℕ → Type 0
IsFirstOfBorders most first second meets j =
    IsFirstBorder most first second meets j ⊎ (HasNoBorder most first second meets × IsFirstBorder most second first meets j)

-- the first composition of sectors that is tried and meets the checksum
pub record IsFirstOfSectors (most : ℕ) (first second : List ℕ) (meets : List ℕ → Type 0) (j : List ℕ) : Type 0 where
  pub few : bytes_of_all first second ≤ most → IsFirstOfAll first second meets j
  pub many : most < bytes_of_all first second → IsFirstOfBorders most first second meets j

-- one of the two areas, cut, meets it: the first copy's, or else the second's
abbrev pub IsFirstCut : List ℕ → List ℕ → (List ℕ → Type 0) → List ℕ → Type 0
IsFirstCut first second meets j =
    ((j ≡ cut first) × meets j) ⊎ ((meets (cut first) → ⊥) × (j ≡ cut second) × meets j)

-- neither does
abbrev pub HasNoCut : List ℕ → List ℕ → (List ℕ → Type 0) → Type 0
HasNoCut first second meets = (meets (cut first) → ⊥) × (meets (cut second) → ⊥)

-- the first composition of pieces that meets it, by its number
pub record IsFirstOfPieces (most : ℕ) (first second : List ℕ) (meets : List ℕ → Type 0) (j : List ℕ) : Type 0 where
  pub may : bytes_of_pieces first second ≤ most
  pub number : ℕ
  pub below : number < piece_count first second
  pub is : j ≡ of_pieces first second number
  pub met : meets j
  pub least : (n : ℕ) → n < piece_count first second → meets (of_pieces first second n) → number ≤ n

-- no composition of sectors that is tried meets it
abbrev pub HasNoneOfSectors : ℕ → List ℕ → List ℕ → (List ℕ → Type 0) → Type 0
HasNoneOfSectors most first second meets = (j : List ℕ) → IsTriedOfSectors most first second j → meets j → ⊥

-- the first composition: of sectors, or else of pieces
abbrev pub IsFirstComposed : ℕ → List ℕ → List ℕ → (List ℕ → Type 0) → List ℕ → Type 0
IsFirstComposed most first second meets j =
    IsFirstOfSectors most first second meets j ⊎ (HasNoneOfSectors most first second meets × IsFirstOfPieces most first second meets j)

-- the first that is tried and meets the checksum
abbrev pub IsFirstTried : ℕ → List ℕ → List ℕ → (List ℕ → Type 0) → List ℕ → Type 0
IsFirstTried most first second meets j =
    MayBegin most first × (IsFirstCut first second meets j ⊎ (HasNoCut first second meets × IsFirstComposed most first second meets j))

-- none that is tried meets it
abbrev pub IsNoneTried : ℕ → List ℕ → List ℕ → (List ℕ → Type 0) → Type 0
IsNoneTried most first second meets = (j : List ℕ) → IsTried most first second j → meets j → ⊥

-- not all compositions of pieces are tried: together they have too many bytes. If they haven't, neither have
-- those of sectors
abbrev pub IsCutShort : ℕ → List ℕ → List ℕ → Type 0
IsCutShort most first second = most < bytes_of_pieces first second
