-- The first range whose reading failed.
use Rattle.std.specs.Prelude.{◌≡◌, ℕ, ◌<◌, Option, None, Some, Result, Ok, Err}
use Rattle.luks_area.specs.declared.area.Area.{Area}
use Rattle.luks_area.specs.Area.{IsInside}

-- it lies inside a device of so many bytes
abbrev pub LiesIn : Option Area → ℕ → Type 0
LiesIn missed size = (area : Area) → missed ≡ Some area → IsInside area size

-- there is none while no call has failed
abbrev pub IsCounted : Option Area → ℕ → Type 0
IsCounted missed failures = (area : Area) → missed ≡ Some area → 0 < failures

-- `len` bytes at the place `at`, where none was before
abbrev pub missed_first : Option Area → ℕ → ℕ → Option Area
missed_first None at len = Some (record { start = at; len = len })
missed_first (Some area) at len = Some area

-- what it is once reading so many bytes there has answered this
abbrev pub missed_after : {T F : Type 0} → Result T F → Option Area → ℕ → ℕ → Option Area
missed_after (Ok done) before at len = before
missed_after (Err fault) before at len = missed_first before at len
