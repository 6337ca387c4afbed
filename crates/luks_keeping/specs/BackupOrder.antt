-- The order in which a backup is made over what is in its file: what may be left at any time.
use Rattle.std.specs.Prelude.{◌⊎◌, ℕ, List}
use Rattle.luks_area.specs.Ranges.{IsAt, IsOfEither, SameBut}
use Rattle.luks_writing.specs.Cleared.{cleared_size, IsCleared}
use Rattle.luks2_header.specs.Selection.{Choice}
use Rattle.luks_keeping.specs.Restored.{AreGone, LeavesInTurn}
use Rattle.luks_keeping.specs.SecondPlaces.{AreZeros, IsOfListed}

-- Nothing but the first sector at 0 has changed; or that is cleared, and nothing but the first sectors of the
-- places has changed where a second copy may stand, or all these are cleared; or they hold zeros beside what is
-- kept, and no first copy counts before all else stands. So no older header counts once a key area of it has
-- changed.
abbrev pub BacksUpInTurn : List ℕ → Choice → ℕ → List ℕ → List ℕ → Type 0
BacksUpInTurn v choice size old new =
    SameBut (IsAt 0 cleared_size) old new
    ⊎ ((IsCleared new 0 × (SameBut (IsOfEither (IsAt 0 cleared_size) (IsOfListed size)) old new ⊎ AreZeros (IsOfListed size) new))
    ⊎ (AreGone (IsOfListed size) v choice new × LeavesInTurn v choice new))
