-- The bytes of a disk from a place on.
use Rattle.std.specs.Prelude.{ℕ, ◌-◌, ◌≤◌, List, drop, min, Option, None, Some}
use Rattle.luks_area.specs.Ranges.{part, IsAt, IsOfEither, SameBut}

-- the bytes of `v` from `offset` on, to its end or `length` of them (fewer where it ends)
abbrev pub cut : List ℕ → ℕ → Option ℕ → List ℕ
cut v offset None = drop offset v
cut v offset (Some length) = part v offset length

-- how many these are, of a disk of `total` bytes
abbrev pub cut_length : ℕ → ℕ → Option ℕ → ℕ
cut_length total offset None = total - offset
cut_length total offset (Some length) = min length (total - offset)

-- The disk `was`, of which the places `pending` were unsettled, has become `now` by calls on the `len`
-- bytes from `start` on, and the places `unsettled_now` are unsettled: no byte has changed but there
-- and at the places that were unsettled, and no other place is unsettled.
pub record StaysInside (was : List ℕ) (pending : ℕ → Type 0) (start len : ℕ) (now : List ℕ) (unsettled_now : ℕ → Type 0) : Type 0 where
  pub bytes : SameBut (IsOfEither pending (IsAt start len)) was now
  pub settled : (p : ℕ) → (IsOfEither pending (IsAt start len) p → ⊥) → unsettled_now p → ⊥

-- the places of a disk that are those of a window that begins at `start`
abbrev pub places_behind : ℕ → (ℕ → Type 0) → ℕ → Type 0
places_behind start places p = (start ≤ p) × places (p - start)
