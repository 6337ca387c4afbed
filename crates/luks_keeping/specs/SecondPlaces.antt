-- The places where the second copy of a LUKS2 header may stand (LUKS2 On-Disk Format 1.1, 2.1, table 1), and the
-- copies that begin there.
use Rattle.std.specs.Prelude.{◌≡◌, ℕ, ◌+◌, ◌≤◌, List, slice_index}
use Rattle.luks_area.specs.Ranges.{part, IsAt}
use Rattle.luks_writing.specs.Cleared.{cleared_size}
use Rattle.luks2_header.specs.Header2.{second_magic}
use Rattle.luks2_header.specs.Sizes.{IsListed}

-- a second copy begins at the place: its magic is there
pub record BeginsCopy (v : List ℕ) (place : ℕ) : Type 0 where
  pub listed : IsListed place
  pub magic : part v place 6 ≡ second_magic

-- the byte place is of the first sector of one of these places, which ends before `limit`
pub record IsOfFirst (places : ℕ → Type 0) (limit p : ℕ) : Type 0 where
  pub place : ℕ
  pub is : places place
  pub within : place + cleared_size ≤ limit
  pub at : IsAt place cleared_size p

-- the first sectors of all places, and of those where a copy begins
abbrev pub IsOfListed : ℕ → ℕ → Type 0
IsOfListed limit p = IsOfFirst IsListed limit p

abbrev pub IsOfCopies : List ℕ → ℕ → ℕ → Type 0
IsOfCopies v limit p = IsOfFirst (BeginsCopy v) limit p

-- the bytes at these places are zeros
abbrev pub AreZeros : (ℕ → Type 0) → List ℕ → Type 0
AreZeros places w = (p : ℕ) → places p → slice_index w p ≡ 0
