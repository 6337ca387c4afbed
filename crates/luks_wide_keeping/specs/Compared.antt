-- How the keyslots of a backup stand to those of a volume of the very same state: by their key areas.
use Rattle.std.specs.Prelude.{◌≡◌, ℕ, ◌+◌, ◌≤◌, ◌<◌, List, length, slice_index_or}
use Rattle.serde_json.specs.Data.{Data as Value}
use Rattle.luks_area.specs.Ranges.{part}
use Rattle.luks_area.specs.declared.area.Area.{Area}
use Rattle.luks_keeping.specs.declared.comparison.Keeping.{Keeping}
use Rattle.luks_keeping.specs.declared.comparison.Keeping.TheVariants.{Absent, Same, Older, Missing, Removed, Damaged}
use Rattle.luks_wide_keeping.specs.Layout.{HasKeyArea}

-- the area lies inside both, and holds the same bytes
pub record IsWhollyAlike (b t : List ℕ) (a : Area) : Type 0 where
  pub here : a.start + a.len ≤ length b
  pub there : a.start + a.len ≤ length t
  pub same : part b a.start a.len ≡ part t a.start a.len

-- so stands the keyslot `n` of the metadata `j`, whatever its type
abbrev pub IsKeptSo : List ℕ → List ℕ → Value → ℕ → Keeping → Type 0
IsKeptSo b t j n Absent = (a : Area) → HasKeyArea j n a → ⊥
IsKeptSo b t j n Same = (a : Area) × (HasKeyArea j n a × IsWhollyAlike b t a)
IsKeptSo b t j n Damaged = (a : Area) × (HasKeyArea j n a × (IsWhollyAlike b t a → ⊥))
IsKeptSo b t j n Older = ⊥
IsKeptSo b t j n Missing = ⊥
IsKeptSo b t j n Removed = ⊥

-- so stand the keyslots below `end`
pub record AreKeptSo (b t : List ℕ) (j : Value) (end : ℕ) (keyslots : List Keeping) : Type 0 where
  pub long : length keyslots ≡ 32
  pub each : (n : ℕ) → n < end → IsKeptSo b t j n (slice_index_or keyslots n Absent)
