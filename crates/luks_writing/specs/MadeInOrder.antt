-- The order in which a header is made over an older one: what may be left at any time.
use Rattle.std.specs.Prelude.{◌≡◌, ℕ, ◌*◌, ◌-◌, ◌⊎◌, List}
use Rattle.luks_area.specs.Ranges.{part, IsAt, SameBut}
use Rattle.luks_writing.specs.Cleared.{cleared_size, IsCleared, IsOfFirstSectors}

-- the first copy's place, of `size` bytes, waits: its first sector is cleared, and what follows it in the
-- place is as it was
pub record FirstWaits (size : ℕ) (old new : List ℕ) : Type 0 where
  pub cleared : IsCleared new 0
  pub behind : part new cleared_size (size - cleared_size) ≡ part old cleared_size (size - cleared_size)

-- Nothing but the first sector at 0 has changed; or the first copy's place waits, and of the other bytes
-- nothing but the second copy's first sector has changed, or that is cleared, or the key areas stand; or all
-- but the first copy stands. `key_areas` and `but_first` say the last two of `new`. Both places have `size`
-- bytes.
abbrev pub ClearsFirst : ℕ → Type 0 → Type 0 → List ℕ → List ℕ → Type 0
ClearsFirst size key_areas but_first old new =
    SameBut (IsAt 0 cleared_size) old new
    ⊎ ((FirstWaits size old new × (SameBut (IsOfFirstSectors size) old new ⊎ (IsCleared new size ⊎ key_areas)))
    ⊎ but_first)

-- What the steps after the clearing leave: both places, of `size` bytes each, are as they were; or the
-- first is, and the key areas stand; or all but the first copy stands.
abbrev pub WritesInTurn : ℕ → Type 0 → Type 0 → List ℕ → List ℕ → Type 0
WritesInTurn size key_areas but_first old new =
    (part new 0 (2 * size) ≡ part old 0 (2 * size))
    ⊎ (((part new 0 size ≡ part old 0 size) × key_areas)
    ⊎ but_first)
