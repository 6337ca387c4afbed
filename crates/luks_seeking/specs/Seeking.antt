-- What a step of the search for fragments of the device `v` tells.
use Rattle.std.specs.Prelude.{ℕ, ◌+◌, ◌<◌, ◌≤◌, List, Bool, true, false, Option, Some, None}
use Rattle.luks_fragments.specs.Fragments.{HasFragmentAt, HasName, HasNoneFrom, IsFirstFragment, IsFragmentAt}
use Rattle.luks_fragments.specs.declared.fragment.Fragment.{Fragment}
use Rattle.luks_seeking.specs.declared.fault.SeekFault.{SeekFault}
use Rattle.luks_seeking.specs.declared.fault.SeekFault.TheVariants as fault
use Rattle.luks_seeking.specs.declared.seeking.Found.{Found}
use Rattle.luks_seeking.specs.declared.seeking.Seek.{Seek}
use Rattle.luks_seeking.specs.declared.seeking.Seek.TheVariants as seek

-- the fault is the device's
abbrev pub is_seek_failure : SeekFault → Bool
is_seek_failure fault.Memory = false
is_seek_failure fault.Device = true

-- the first fragment from the place on
pub record IsFirstFound (v : List ℕ) (from : ℕ) (f : Found) : Type 0 where
  pub behind : from ≤ f.at
  pub fragment : IsFragmentAt v f.at f.len f.kind
  pub name : HasName v f.at f.number
  pub first : (p : ℕ) → from ≤ p → p < f.at → HasFragmentAt v p → ⊥

-- none begins from the place on and before the next one
pub record HasNoneBetween (v : List ℕ) (from next : ℕ) : Type 0 where
  pub on : from ≤ next
  pub none : (p : ℕ) → from ≤ p → p < next → HasFragmentAt v p → ⊥

abbrev pub TellsSeek : List ℕ → ℕ → Seek → Type 0
TellsSeek v from (seek.Fragment f) = IsFirstFound v from f
TellsSeek v from (seek.On next) = HasNoneBetween v from next
TellsSeek v from seek.End = HasNoneFrom v from

-- on any device of `total` bytes: a step goes on, and what it tells lies inside
abbrev pub GoesOn : ℕ → ℕ → Seek → Type 0
GoesOn total from (seek.Fragment f) = (from ≤ f.at) × (2 ≤ f.len) × (f.at + f.len ≤ total)
GoesOn total from (seek.On next) = (from < next) × (next ≤ total)
GoesOn total from seek.End = Unit {0}

-- a fragment of a part that begins at `start`, as one of the device
abbrev pub found_at : ℕ → Fragment → Found
found_at start f = record { at = start + f.start; len = f.len; kind = f.kind; number = f.number }

-- what is found in a part
abbrev pub FindsIn : List ℕ → ℕ → Option Fragment → Type 0
FindsIn area from (Some f) = IsFirstFragment area from f
FindsIn area from None = HasNoneFrom area from
