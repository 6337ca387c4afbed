-- How the key of keyslot 0 of a new LUKS2 volume is derived: as the digest is, or as is chosen.
use Rattle.std.specs.Prelude.{◌≡◌, ◌⊎◌, ℕ, ◌^◌, ◌<◌, nat_lt, if◌then◌else◌, List, length, true, Option, Some, None, IsSomeAnd}
use Rattle.luks_kdf.specs.Names.{name_of}
use Rattle.luks_making.specs.Derivations.{beyond, few_turns}
use Rattle.luks_making.specs.Keyslots.{Deriving, by_pbkdf2, by_argon2i, by_argon2id}
use Rattle.luks_making.specs.declared.derivation.Argon2Costs.{Argon2Costs}
use Rattle.luks_slot.specs.declared.plan.Argon2Kind.{Argon2Kind}
use Rattle.luks_slot.specs.declared.plan.Argon2Kind.TheVariants.{I, Id}
use Rattle.luks_slot.specs.declared.plan.Argon2Plan.{Argon2Plan}
use Rattle.luks_slot.specs.declared.plan.Derivation.{Derivation}
use Rattle.luks_slot.specs.declared.plan.Derivation.TheVariants as plan
use Rattle.luks_reading.specs.declared.format.Format.{Format}
use Rattle.luks_making.specs.declared.derivation.NewDerivation.{NewDerivation}
use Rattle.luks_making.specs.declared.derivation.NewDerivation.TheVariants.{Pbkdf2, Argon2i, Argon2id}

-- the derivation of keyslot 0: PBKDF2 with the format's hash, by the digest's iterations or by those that
-- are chosen; or Argon2 by the costs that are chosen
abbrev pub slot_derivation : Format → Option NewDerivation → Deriving
slot_derivation format None = by_pbkdf2 (name_of format.hash) format.iterations
slot_derivation format (Some (Pbkdf2 iterations)) = by_pbkdf2 (name_of format.hash) iterations
slot_derivation format (Some (Argon2i costs)) = by_argon2i costs
slot_derivation format (Some (Argon2id costs)) = by_argon2id costs

-- ---- what is refused

-- how many of the KiB that are allowed Argon2 may take for the passphrase: none where it has 2^32 bytes
-- or more, since Argon2 takes fewer (RFC 9106, 3.1)
abbrev pub allowed_for : ℕ → List ℕ → ℕ
allowed_for memory passphrase = if nat_lt (length passphrase) (2 ^ 32) then memory else 0

-- the digest has fewer iterations than new volumes have, or so has what is chosen
abbrev pub HasFewTurns : Format → Option NewDerivation → Type 0
HasFewTurns format None = format.iterations < 1000
HasFewTurns format (Some d) = (format.iterations < 1000) ⊎ (few_turns d ≡ true)

-- what is chosen is refused where so many KiB are allowed
abbrev pub IsBeyond : ℕ → Option NewDerivation → Type 0
IsBeyond allowed chosen = IsSomeAnd chosen (λ d. beyond allowed d ≡ true)

-- ---- what is made

-- a keyslot's plan derives by Argon2 of this kind, these costs and this salt
pub record IsByArgon2 (kind : Argon2Kind) (costs : Argon2Costs) (salt : List ℕ) (c : Argon2Plan) : Type 0 where
  pub own_kind : c.kind ≡ kind
  pub time : c.time ≡ costs.time
  pub memory : c.memory ≡ costs.memory
  pub cpus : c.cpus ≡ costs.cpus
  pub own_salt : c.salt.now ≡ salt

abbrev pub IsArgon2Plan : Argon2Kind → Argon2Costs → List ℕ → Derivation → Type 0
IsArgon2Plan kind costs salt (plan.Pbkdf2 hash iterations own_salt) = ⊥
IsArgon2Plan kind costs salt (plan.Argon2 c) = IsByArgon2 kind costs salt c

-- a keyslot's plan derives by this derivation
abbrev pub IsDerivedBy : Deriving → List ℕ → Derivation → Type 0
IsDerivedBy (by_pbkdf2 h n) salt (plan.Pbkdf2 hash iterations own_salt) = (hash.now ≡ h) × (iterations ≡ n) × (own_salt.now ≡ salt)
IsDerivedBy (by_pbkdf2 h n) salt (plan.Argon2 c) = ⊥
IsDerivedBy (by_argon2i costs) salt own = IsArgon2Plan I costs salt own
IsDerivedBy (by_argon2id costs) salt own = IsArgon2Plan Id costs salt own
