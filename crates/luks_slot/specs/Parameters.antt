-- The parameters of a plan that isn't refused.
use Rattle.std.specs.Prelude.{◌≡◌, ℕ, ◌*◌, ◌^◌, ◌<◌, ◌≤◌, List, true}
use Rattle.luks_kdf.specs.Derivation.{pbkdf2}
use Rattle.luks_kdf.specs.KeyslotNames.{keyslot_block_size, keyslot_digest}
use Rattle.luks_slot.specs.declared.plan.Derivation.{Derivation}
use Rattle.luks_slot.specs.declared.plan.Derivation.TheVariants.{Pbkdf2, Argon2}
use Rattle.luks_slot.specs.declared.plan.SlotPlan.{SlotPlan}
use Rattle.luks_slot.specs.declared.parameters.KeyDerivation.{KeyDerivation}
use Rattle.luks_slot.specs.declared.parameters.KeyDerivation.TheVariants as known
use Rattle.luks_slot.specs.declared.parameters.Pbkdf2Costs.{Pbkdf2Costs}
use Rattle.luks_slot.specs.declared.parameters.Parameters.{Parameters}
use Rattle.luks_slot.specs.Ciphers.{cipher_of, is_size_of}
use Rattle.luks_slot.specs.Opening.{hash_by_name}

-- PBKDF2 by these costs
abbrev pub derived_by_pbkdf2 : Pbkdf2Costs → ℕ → List ℕ → List ℕ
derived_by_pbkdf2 costs n password = pbkdf2 (keyslot_digest costs.hash) (keyslot_block_size costs.hash) password costs.salt.now costs.iterations n

-- a derivation by a hash that is known, or by Argon2
abbrev pub IsDerivation : Derivation → KeyDerivation → Type 0
IsDerivation (Pbkdf2 hash iterations salt) (known.Pbkdf2 costs) =
    (hash_by_name hash.now ≡ costs.hash) × (iterations ≡ costs.iterations) × (salt.now ≡ costs.salt.now)
IsDerivation (Pbkdf2 hash iterations salt) (known.Argon2 costs) = ⊥
IsDerivation (Argon2 plan) (known.Pbkdf2 costs) = ⊥
IsDerivation (Argon2 plan) (known.Argon2 costs) = plan ≡ costs

-- Argon2 has as many lanes as it can have, and enough memory for them
abbrev pub HasLanes : KeyDerivation → Type 0
HasLanes (known.Pbkdf2 costs) = Unit {0}
HasLanes (known.Argon2 costs) = (1 ≤ costs.cpus) × (costs.cpus < 2 ^ 24) × (8 * costs.cpus ≤ costs.memory)

-- they are those that the plan names
pub record AreParameters (plan : SlotPlan) (parameters : Parameters) : Type 0 where
  pub cipher : cipher_of plan.cipher ≡ parameters.cipher
  pub key_size : is_size_of parameters.cipher plan.area_key_bytes ≡ true
  pub derivation : IsDerivation plan.derivation parameters.derivation
  pub lanes : HasLanes parameters.derivation
  pub splitter_hash : hash_by_name plan.splitter_hash.now ≡ parameters.splitter_hash
  pub digest_hash : hash_by_name plan.digest.hash.now ≡ parameters.digest_hash
