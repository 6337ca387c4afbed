-- How the key of a keyslot that is made is to be derived, and what of it is refused.
use Rattle.std.specs.Prelude.{◌≡◌, ℕ, ◌-◌, ◌*◌, ◌^◌, ◌<◌, ◌≤◌, ◌||◌, nat_lt, Bool, true, false, Option, Some, None, IfSome}
use Rattle.luks_making.specs.Keyslots.{Deriving, by_pbkdf2, by_argon2i, by_argon2id}
pub use Rattle.luks_making.specs.Keyslots.{derivation_by}
use Rattle.luks_making.specs.declared.derivation.Argon2Costs.{Argon2Costs}
use Rattle.luks_making.specs.declared.derivation.AskedDerivation.{AskedDerivation}
use Rattle.luks_making.specs.declared.derivation.NewDerivation.{NewDerivation}
use Rattle.luks_making.specs.declared.derivation.NewDerivation.TheVariants.{Pbkdf2, Argon2i, Argon2id}

-- how many KiB of memory a keyslot with this derivation takes
abbrev pub memory_by : Deriving → ℕ
memory_by (by_pbkdf2 hash iterations) = 0
memory_by (by_argon2i costs) = costs.memory
memory_by (by_argon2id costs) = costs.memory

-- what is chosen derives by Argon2
abbrev pub takes_memory : Option NewDerivation → Bool
takes_memory None = false
takes_memory (Some (Pbkdf2 iterations)) = false
takes_memory (Some (Argon2i costs)) = true
takes_memory (Some (Argon2id costs)) = true

-- ---- what is refused

-- fewer iterations than new keyslots have, or no pass of Argon2
abbrev pub few_turns : NewDerivation → Bool
few_turns (Pbkdf2 iterations) = nat_lt iterations 1000
few_turns (Argon2i costs) = nat_lt costs.time 1
few_turns (Argon2id costs) = nat_lt costs.time 1

-- Argon2 takes more memory than is allowed, or less than 8 KiB for each lane, or it has not 1 to 2^24 - 1
-- lanes (RFC 9106, 3.1)
abbrev pub costs_beyond : ℕ → Argon2Costs → Bool
costs_beyond allowed costs =
    nat_lt allowed costs.memory
    || nat_lt costs.memory (8 * costs.cpus)
    || nat_lt costs.cpus 1
    || nat_lt (2 ^ 24 - 1) costs.cpus

abbrev pub beyond : ℕ → NewDerivation → Bool
beyond allowed (Pbkdf2 iterations) = false
beyond allowed (Argon2i costs) = costs_beyond allowed costs
beyond allowed (Argon2id costs) = costs_beyond allowed costs

-- the same of none, or of one that is chosen
abbrev pub chosen_few : Option NewDerivation → Bool
chosen_few None = false
chosen_few (Some d) = few_turns d

abbrev pub chosen_beyond : ℕ → Option NewDerivation → Bool
chosen_beyond allowed None = false
chosen_beyond allowed (Some d) = beyond allowed d

-- the same of what is asked of a keyslot: of its iterations where nothing is chosen
abbrev pub few_turns_or : ℕ → Option NewDerivation → Bool
few_turns_or iterations None = nat_lt iterations 1000
few_turns_or iterations (Some d) = few_turns d

abbrev pub asked_few_turns : AskedDerivation → Bool
asked_few_turns asked = few_turns_or asked.iterations asked.chosen

abbrev pub asked_beyond : ℕ → AskedDerivation → Bool
asked_beyond allowed asked = chosen_beyond allowed asked.chosen

-- ---- what is made

-- what is chosen may be made where so many KiB are allowed
pub record IsMakeable (allowed : ℕ) (d : NewDerivation) : Type 0 where
  pub turns : few_turns d ≡ false
  pub within : beyond allowed d ≡ false

-- the numbers of what is chosen have 32 bits
abbrev pub FitsCosts : Argon2Costs → Type 0
FitsCosts costs = (costs.time < 2 ^ 32) × (costs.memory < 2 ^ 32) × (costs.cpus < 2 ^ 32)

abbrev pub FitsNewDerivation : NewDerivation → Type 0
FitsNewDerivation (Pbkdf2 iterations) = iterations < 2 ^ 32
FitsNewDerivation (Argon2i costs) = FitsCosts costs
FitsNewDerivation (Argon2id costs) = FitsCosts costs

-- the numbers of what is asked have 32 bits
pub record FitsAsked (asked : AskedDerivation) : Type 0 where
  pub iterations : asked.iterations < 2 ^ 32
  pub chosen : IfSome asked.chosen FitsNewDerivation

-- none of the numbers is 0
abbrev pub ArePositive : Argon2Costs → Type 0
ArePositive costs = (1 ≤ costs.time) × (1 ≤ costs.memory) × (1 ≤ costs.cpus)

-- those of what is chosen, or the iterations where nothing is
abbrev pub IsPositiveOr : ℕ → Option NewDerivation → Type 0
IsPositiveOr iterations None = 1 ≤ iterations
IsPositiveOr iterations (Some (Pbkdf2 own)) = 1 ≤ own
IsPositiveOr iterations (Some (Argon2i costs)) = ArePositive costs
IsPositiveOr iterations (Some (Argon2id costs)) = ArePositive costs

abbrev pub IsPositive : AskedDerivation → Type 0
IsPositive asked = IsPositiveOr asked.iterations asked.chosen
