-- The copies for which not everything was tried that their checksums may vouch for.
use Rattle.std.specs.Prelude.{ℕ, List, Option, Some, None}
use Rattle.luks_vouching.specs.Vouched.{IsCutShortAt}
use Rattle.luks_rebuilding.specs.Candidates.{IsAsked}
use Rattle.luks_rebuilding.specs.Shares.{IsShare}
use Rattle.luks_rebuilding.specs.declared.place.Place.{Place}
use Rattle.luks_rebuilding.specs.declared.place.Which.{Which}

-- the copy is one that is asked for, its binary header stands, and not all compositions are tried by its checksum
pub record IsUntried (v : List ℕ) (which : Which) (place : Place) : Type 0 where
  pub asked : IsAsked which.copies place
  pub most : ℕ
  pub share : IsShare v which.effort most
  pub cut_short : IsCutShortAt most v place.size place.at

-- one of these copies, if there is one
abbrev pub FindsUntried : List ℕ → Which → Option Place → Type 0
FindsUntried v which None = (place : Place) → IsUntried v which place → ⊥
FindsUntried v which (Some place) = IsUntried v which place
