-- The derivation that a caller chooses by numbers.
use Rattle.std.specs.Prelude.{◌≡◌, Option, Some, None}
use Rattle.luks_making.specs.declared.derivation.Argon2Costs.{Argon2Costs}
use Rattle.luks_making.specs.declared.derivation.NewDerivation.{NewDerivation}
use Rattle.luks_making.specs.declared.derivation.NewDerivation.TheVariants.{Pbkdf2, Argon2i, Argon2id}
use Rattle.luks_c_answers.specs.declared.asking.LuksDerivation.{LuksDerivation}

-- Argon2 costs so many passes, KiB of memory and lanes
pub record AreCosts (asked : LuksDerivation) (costs : Argon2Costs) : Type 0 where
  pub passes : costs.time ≡ asked.turns
  pub memory : costs.memory ≡ asked.memory
  pub lanes : costs.cpus ≡ asked.lanes

-- the derivation is chosen, or none is
abbrev pub IsChoice : LuksDerivation → Option NewDerivation → Type 0
IsChoice asked None = asked.kind ≡ 0
IsChoice asked (Some (Pbkdf2 iterations)) = (asked.kind ≡ 1) × (iterations ≡ asked.turns)
IsChoice asked (Some (Argon2i costs)) = (asked.kind ≡ 2) × AreCosts asked costs
IsChoice asked (Some (Argon2id costs)) = (asked.kind ≡ 3) × AreCosts asked costs

-- neither one nor none is
abbrev pub IsNoChoice : LuksDerivation → Type 0
IsNoChoice asked = (chosen : Option NewDerivation) → IsChoice asked chosen → ⊥
