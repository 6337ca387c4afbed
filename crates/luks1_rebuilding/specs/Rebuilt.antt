-- A detached LUKS1 header that was made of what still is in the volume `v` (LUKS1 On-Disk Format 1.2.3, "The
-- partition header").
use Rattle.std.specs.Prelude.{◌⊎◌, ℕ, List, length}
use Rattle.luks_area.specs.Ranges.{part, IsAt, IsOfEither, SameBut}
use Rattle.luks1_header.specs.Header1.{luks1_size}
use Rattle.luks1_header.specs.Written.{WritesLuks1}
use Rattle.luks1_header.specs.declared.luks1.Luks1.{Luks1}
use Rattle.luks_writing.specs.Cleared.{cleared_size, IsCleared}
use Rattle.luks1_mending.specs.Made.{IsMade}
use Rattle.luks1_mending.specs.declared.given.Given.{Given}
use Rattle.luks1_rebuilding.specs.KeyAreas.{header_of, HasKeptAreas, IsOfKeptArea}

-- where an older LUKS2 header of the usual metadata size has its second copy
abbrev pub older_second : ℕ
older_second = 16384

-- the byte place is of the header, of the first sector of an older second copy, or of a key area that is copied
abbrev pub IsOfRebuilt : List ℕ → Given → ℕ → Type 0
IsOfRebuilt v g = IsOfEither (IsAt 0 luks1_size) (IsOfEither (IsAt older_second cleared_size) (IsOfKeptArea v g))

-- `new` begins with the header that is made of the volume `v`, each key area that is kept has the bytes that it
-- has in `v`, and all other bytes are those of `old`
pub record IsRebuilt (v : List ℕ) (g : Given) (old new : List ℕ) : Type 0 where
  pub header : Luks1
  pub made : IsMade (header_of v) (length v) g header
  pub written : WritesLuks1 (part new 0 luks1_size) header
  pub areas : HasKeptAreas v g new
  pub rest : SameBut (IsOfRebuilt v g) old new

-- What may be left at any time: nothing but the first sector at 0 has changed; or that is cleared; or the key
-- areas stand.
abbrev pub ClearsFirst1 : List ℕ → Given → List ℕ → List ℕ → Type 0
ClearsFirst1 v g old new =
    SameBut (IsAt 0 cleared_size) old new
    ⊎ (IsCleared new 0
    ⊎ HasKeptAreas v g new)
