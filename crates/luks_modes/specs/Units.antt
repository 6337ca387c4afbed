-- Runs of units of 512 bytes.
use Rattle.std.specs.Prelude.{◌≡◌, ℕ, ◌+◌, ◌*◌, ◌/◌, ◌<◌, List, length, take, drop}
use Rattle.luks_modes.specs.declared.xts.Direction.{Direction}
use Rattle.luks_modes.specs.declared.xts.Direction.TheVariants.{Seal, Open}
use Rattle.luks_modes.specs.Xts.{XtsSeal, XtsOpen}
use Rattle.luks_modes.specs.Blocks.{sealed_blocks, opened_blocks}

-- unit u of a run
unfoldable pub unit_at : List ℕ → ℕ → List ℕ
unit_at bytes u = take 512 (drop (512 * u) bytes)

-- each unit of a run is what f makes of the old one under its number; the numbers are counted up from
-- the first
pub record AreMade (f : ℕ → List ℕ → List ℕ) (first : ℕ) (old new : List ℕ) : Type 0 where
  pub each : (u : ℕ) → u < length old / 512 → unit_at new u ≡ f (first + u) (unit_at old u)

-- a unit in a direction
abbrev pub converted : Direction → List ℕ → ℕ → List ℕ → List ℕ
converted Seal = XtsSeal
converted Open = XtsOpen

-- the first blocks of a unit in a direction
abbrev pub converted_blocks : Direction → List ℕ → ℕ → List ℕ → ℕ → List ℕ
converted_blocks Seal = sealed_blocks
converted_blocks Open = opened_blocks

-- the direction that undoes this one
abbrev pub opposite : Direction → Direction
opposite Seal = Open
opposite Open = Seal
