-- The places of a header's copies, cleared before a new header is made (LUKS2 On-Disk Format 1.1, 2.1:
-- both magics are in the first sector).
use Rattle.std.specs.Prelude.{◌≡◌, ◌⊎◌, ℕ, List, replicate}
use Rattle.luks_area.specs.Ranges.{part, IsAt, IsOfEither, SameBut}

-- the bytes that are cleared of each place
abbrev pub cleared_size : ℕ
cleared_size = 512

-- the first sector at the place holds zeros
abbrev pub IsCleared : List ℕ → ℕ → Type 0
IsCleared v at = part v at cleared_size ≡ replicate cleared_size 0

-- so do those of both copies, of which the second is at the place `second`
pub record AreCleared (second : ℕ) (v : List ℕ) : Type 0 where
  pub first_copy : IsCleared v 0
  pub second_copy : IsCleared v second

-- the byte is of one of these two sectors
abbrev pub IsOfFirstSectors : ℕ → ℕ → Type 0
IsOfFirstSectors second = IsOfEither (IsAt 0 cleared_size) (IsAt second cleared_size)

-- what clearing leaves at any time: no byte except of the sector at 0 has changed, or that is cleared
abbrev pub ClearsInTurn : List ℕ → List ℕ → Type 0
ClearsInTurn old new = SameBut (IsAt 0 cleared_size) old new ⊎ IsCleared new 0
