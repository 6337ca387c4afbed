-- A backup that was restored onto a volume.
use Rattle.std.specs.Prelude.{◌≡◌, ◌⊎◌, ℕ, ◌*◌, List, length, min, slice_index, ⊤}
use Rattle.luks_area.specs.Ranges.{part, IsAt, IsOfEither, SameBut}
use Rattle.luks_area.specs.declared.area.Area.{Area}
use Rattle.luks_area.specs.declared.area.AreaName.{AreaName}
use Rattle.luks_area.specs.declared.area.AreaName.TheVariants.{Segment}
use Rattle.luks1_header.specs.Header1.{luks1_size, payload_offset_of}
use Rattle.luks_writing.specs.Cleared.{cleared_size, IsCleared, IsOfFirstSectors}
use Rattle.luks2_header.specs.Header2.{header_at, hdr_size}
use Rattle.luks2_header.specs.Selection.{luks1, luks2, nothing, Choice, Chosen}
use Rattle.luks_reading.specs.Checked.{HasLuks2Area}
use Rattle.luks_reading.specs.Header.{json_at}
use Rattle.luks_reading.specs.Layout1.{Luks1Area}
use Rattle.luks_reading.specs.declared.report.Data.{Data}
use Rattle.luks_reading.specs.declared.report.Data.TheVariants.{Elsewhere, Here}
use Rattle.luks_keeping.specs.Backup.{IsLuks2Size}
use Rattle.luks_keeping.specs.Kept.{HasAreas, HasKept, IsKept}
use Rattle.luks_keeping.specs.SecondPlaces.{IsOfCopies}

-- ---- older copies

-- `limit` is where the data begins on a device of `total` bytes with the header of the backup `b`, or else its end
abbrev pub IsFrontAs : List ℕ → Data → ℕ → Choice → ℕ → Type 0
IsFrontAs b Elsewhere total choice limit = limit ≡ total
IsFrontAs b Here total luks1 limit = limit ≡ min total (payload_offset_of (part b 0 luks1_size) * 512)
IsFrontAs b Here total (luks2 o copies) limit = (size : ℕ) × (IsLuks2Size (hdr_size (header_at b o)) (json_at b o) size × (limit ≡ min total size))
IsFrontAs b Here total nothing limit = ⊥

-- the byte place is of the first sector of a second copy that begins on the volume `old` before its data
pub record IsOfOlder (b : List ℕ) (payload : Data) (choice : Choice) (old : List ℕ) (p : ℕ) : Type 0 where
  pub limit : ℕ
  pub front : IsFrontAs b payload (length old) choice limit
  pub of_copies : IsOfCopies old limit p

-- ---- what is restored

-- the bytes at these places are zeros, except for what is kept of the backup
abbrev pub AreGone : (ℕ → Type 0) → List ℕ → Choice → List ℕ → Type 0
AreGone places b choice new = (p : ℕ) → places p → (IsKept b choice p → ⊥) → slice_index new p ≡ 0

-- the byte place is of what is kept of the backup, or of an older copy's first sector, which is cleared
abbrev pub IsOfChanged : List ℕ → Data → Choice → List ℕ → ℕ → Type 0
IsOfChanged b payload choice old = IsOfEither (IsKept b choice) (IsOfOlder b payload choice old)

-- `new` has the header and the key areas of the backup `b`; all other bytes are those of `old`, except for zeros in
-- the first sectors of older copies
pub record IsRestored (b : List ℕ) (payload : Data) (old new : List ℕ) : Type 0 where
  pub choice : Choice
  pub chosen : Chosen b choice
  pub kept : HasKept b choice new
  pub rest : SameBut (IsOfChanged b payload choice old) old new
  pub gone : AreGone (IsOfOlder b payload choice old) b choice new

-- the byte place is of what is restored or cleared
pub record IsOfRestored (b : List ℕ) (payload : Data) (old : List ℕ) (p : ℕ) : Type 0 where
  pub choice : Choice
  pub chosen : Chosen b choice
  pub changed : IsOfChanged b payload choice old p

-- the areas of a device of `total` bytes that begins with the header of the backup
abbrev pub HasAreaOnAs : List ℕ → Data → ℕ → Choice → AreaName → Area → Type 0
HasAreaOnAs b payload total luks1 n a = Luks1Area (part b 0 luks1_size) payload total n a
HasAreaOnAs b payload total (luks2 o copies) n a = HasLuks2Area (header_at b o) (json_at b o) payload total n a
HasAreaOnAs b payload total nothing n a = ⊥

-- `a` is its segment `n`
pub record IsSegmentOn (b : List ℕ) (payload : Data) (total n : ℕ) (a : Area) : Type 0 where
  pub choice : Choice
  pub chosen : Chosen b choice
  pub area : HasAreaOnAs b payload total choice (Segment n) a

-- ---- what is left at any time

-- the byte place is of the first sectors of the copies' places, which are cleared; LUKS1 has no second copy
abbrev pub IsOfSectors : List ℕ → Choice → ℕ → Type 0
IsOfSectors b luks1 p = IsAt 0 cleared_size p
IsOfSectors b (luks2 o copies) p = IsOfFirstSectors (hdr_size (header_at b o)) p
IsOfSectors b nothing p = ⊥

-- or of older copies' first sectors
abbrev pub IsOfCleared : List ℕ → Data → Choice → List ℕ → ℕ → Type 0
IsOfCleared b payload choice old = IsOfEither (IsOfSectors b choice) (IsOfOlder b payload choice old)

-- the first sector of the second copy's place is cleared
abbrev pub IsSecondGone : List ℕ → Choice → List ℕ → Type 0
IsSecondGone b luks1 w = ⊤
IsSecondGone b (luks2 o copies) w = IsCleared w (hdr_size (header_at b o))
IsSecondGone b nothing w = ⊥

-- the second copy's place is the backup's
abbrev pub HasSecond : List ℕ → Choice → List ℕ → Type 0
HasSecond b luks1 w = ⊤
HasSecond b (luks2 o copies) w = part w (hdr_size (header_at b o)) (hdr_size (header_at b o)) ≡ part b (hdr_size (header_at b o)) (hdr_size (header_at b o))
HasSecond b nothing w = ⊥

-- `new` has all but the first copy, or the only one
pub record HasAllButFirst (b : List ℕ) (choice : Choice) (new : List ℕ) : Type 0 where
  pub areas : HasAreas b choice new
  pub second : HasSecond b choice new

-- what the steps after the clearing leave: the first sector at 0 is cleared, and that of the second copy is too,
-- or the key areas stand; or all but the first copy stands. So no first copy counts before all else stands
abbrev pub LeavesInTurn : List ℕ → Choice → List ℕ → Type 0
LeavesInTurn b choice new = (IsCleared new 0 × (IsSecondGone b choice new ⊎ HasAreas b choice new)) ⊎ HasAllButFirst b choice new

-- Nothing but the first sector at 0 has changed; or that is cleared, and nothing but the first sectors of the
-- copies' places and of older copies has changed; or the older copies are gone, and what the later steps leave
-- stands. So no older copy counts once a key area has changed.
abbrev pub RestoresInTurn : List ℕ → Data → Choice → List ℕ → List ℕ → Type 0
RestoresInTurn b payload choice old new =
    SameBut (IsAt 0 cleared_size) old new
    ⊎ ((IsCleared new 0 × SameBut (IsOfCleared b payload choice old) old new)
    ⊎ (AreGone (IsOfOlder b payload choice old) b choice new × LeavesInTurn b choice new))
