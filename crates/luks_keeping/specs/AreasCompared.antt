-- What is told of two key areas: words of private contracts.
use Rattle.std.specs.Prelude.{◌≡◌, ◌⊎◌, ℕ, List, Option, Some}
use Rattle.luks_area.specs.Area.{Fit}
use Rattle.luks_area.specs.Ranges.{part}
use Rattle.luks_area.specs.declared.area.Area.{Area}
use Rattle.luks_reading.specs.Reported.{HeaderArea}
use Rattle.luks_reading.specs.declared.header.Header.{Header}
use Rattle.luks_reading.specs.declared.report.Data.{Data}
use Rattle.luks_keeping.specs.declared.comparison.Keeping.{Keeping}
use Rattle.luks_keeping.specs.declared.comparison.Keeping.TheVariants.{Same, Damaged}

-- the header's areas lie inside a device of `total` bytes, wherever its payload is
pub record LiesWithin (header : Header) (total : ℕ) : Type 0 where
  pub payload : Data
  pub fit : Fit (HeaderArea header payload total) total

-- the areas hold the same bytes of `v` and of `w`
abbrev pub AreAlike : Area → Area → List ℕ → List ℕ → Type 0
AreAlike a c v w = part v a.start a.len ≡ part w c.start c.len

-- both are there, and hold others
pub record AreUnlike (here there : Option Area) (v w : List ℕ) : Type 0 where
  pub a : Area
  pub c : Area
  pub is_here : here ≡ Some a
  pub is_there : there ≡ Some c
  pub differ : AreAlike a c v w → ⊥

-- how a keyslot stands that by its salt stands so
abbrev pub IsJudgedBy : Keeping → Option Area → Option Area → List ℕ → List ℕ → Keeping → Type 0
IsJudgedBy salts here there v w Same = (salts ≡ Same) × ((a c : Area) → here ≡ Some a → there ≡ Some c → AreAlike a c v w)
IsJudgedBy salts here there v w Damaged = (salts ≡ Damaged) ⊎ ((salts ≡ Same) × AreUnlike here there v w)
IsJudgedBy salts here there v w keeping = salts ≡ keeping
