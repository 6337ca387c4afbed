-- What one step of the search tells.
use Rattle.std.specs.Prelude.{◌≡◌, ◌⊎◌, ℕ, ◌+◌, ◌*◌, ◌<◌, ◌≤◌, List, [], ◌∷◌, length, slice_index}
use Rattle.luks_finding.specs.Starts.{sector_size, AreInOrder, HasSignBefore, IsAmong, IsFirstSign, IsSign}
use Rattle.luks_finding.specs.declared.finding.Finding.{Finding}
use Rattle.luks_finding.specs.declared.finding.Step.{Step}
use Rattle.luks_finding.specs.declared.finding.Step.TheVariants.{Start, Two, On, End}
use Rattle.luks_finding.specs.declared.told.Told.{Told}
use Rattle.luks_finding.specs.declared.told.Told.TheVariants as told

-- the sector from which on a search looks
abbrev pub looks_from : Finding → ℕ
looks_from finding = finding.sector

-- the volume's first sign is at one of the sectors from `from` on and before `end`
pub record IsToldBetween (v : List ℕ) (from end s : ℕ) : Type 0 where
  pub place : ℕ
  pub from_on : sector_size * from ≤ place
  pub below : place < sector_size * end
  pub first : IsFirstSign v s place

-- the list has the volumes whose first signs are at the sectors from `from` on and before `end`, in the order of these
-- signs; each other one with a sign there has one before
pub record AreStartsBetween (v : List ℕ) (from end : ℕ) (list : List ℕ) : Type 0 where
  pub sound : (i : ℕ) → i < length list → IsToldBetween v from end (slice_index list i)
  pub complete : (k s : ℕ) → from ≤ k → k < end → IsSign v s (sector_size * k) → HasSignBefore v s (sector_size * k) ⊎ IsAmong list s
  pub in_order : AreInOrder v list

-- no sign is at the sectors from `from` on
abbrev pub HasNoSignFrom : List ℕ → ℕ → Type 0
HasNoSignFrom v from = (k s : ℕ) → from ≤ k → IsSign v s (sector_size * k) → ⊥

-- what a step tells that looked from the sector `from` on and goes on at `next`: the volumes whose first signs stand
-- between; or at the end that no sign is there any more
abbrev pub TellsNext : List ℕ → ℕ → ℕ → Step → Type 0
TellsNext v from next (Start s) = AreStartsBetween v from next (s ∷ [])
TellsNext v from next (Two s t) = AreStartsBetween v from next (s ∷ t ∷ [])
TellsNext v from next On = AreStartsBetween v from next []
TellsNext v from next End = HasNoSignFrom v from

-- the step that tells these starts
abbrev pub step_of : Told → Step
step_of told.Nothing = On
step_of (told.One s) = Start s
step_of (told.Two s t) = Two s t

-- on any device of `total` bytes: a step goes on, and a start that it tells lies inside and before where it goes on, or it
-- is at the end
abbrev pub GoesOn : ℕ → ℕ → ℕ → Step → Type 0
GoesOn total from next (Start s) = (from < next) × (sector_size * from < total) × (s + 8 ≤ total) × (s < sector_size * next)
GoesOn total from next (Two s t) = (from < next) × (sector_size * from < total) × (s < t) × (t + 8 ≤ total) × (t < sector_size * next)
GoesOn total from next On = (from < next) × (sector_size * from < total)
GoesOn total from next End = (total ≤ sector_size * from) × (next ≡ from)
