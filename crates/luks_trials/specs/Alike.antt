-- Two plans that say the same, whatever metadata they were read from.
use Rattle.std.specs.Prelude.{◌≡◌}
use Rattle.luks_slot.specs.declared.plan.AreaCipher.{AreaCipher}
use Rattle.luks_slot.specs.declared.plan.AreaCipher.TheVariants.{Apart, Whole}
use Rattle.luks_slot.specs.declared.plan.Derivation.{Derivation}
use Rattle.luks_slot.specs.declared.plan.Derivation.TheVariants.{Pbkdf2, Argon2}
use Rattle.luks_slot.specs.declared.plan.DigestPlan.{DigestPlan}
use Rattle.luks_slot.specs.declared.plan.SlotPlan.{SlotPlan}

-- of how the area's key is derived
abbrev pub IsAlikeDerivation : Derivation → Derivation → Type 0
IsAlikeDerivation (Pbkdf2 hash iterations salt) (Pbkdf2 hash2 iterations2 salt2) = (hash.now ≡ hash2.now) × (iterations ≡ iterations2) × (salt.now ≡ salt2.now)
IsAlikeDerivation (Pbkdf2 hash iterations salt) (Argon2 costs) = ⊥
IsAlikeDerivation (Argon2 costs) (Pbkdf2 hash iterations salt) = ⊥
IsAlikeDerivation (Argon2 costs) (Argon2 costs2) = (costs.kind ≡ costs2.kind) × (costs.time ≡ costs2.time) × (costs.memory ≡ costs2.memory) × (costs.cpus ≡ costs2.cpus) × (costs.salt.now ≡ costs2.salt.now)

-- of the cipher: metadata has it as one text
abbrev pub IsAlikeCipher : AreaCipher → AreaCipher → Type 0
IsAlikeCipher (Whole text) (Whole text2) = text.now ≡ text2.now
IsAlikeCipher (Whole text) (Apart name mode) = ⊥
IsAlikeCipher (Apart name mode) other = ⊥

pub record IsAlikeDigest (a b : DigestPlan) : Type 0 where
  pub hash : a.hash.now ≡ b.hash.now
  pub iterations : a.iterations ≡ b.iterations
  pub salt : a.salt.now ≡ b.salt.now
  pub stored : a.stored.now ≡ b.stored.now

pub record IsAlike (a b : SlotPlan) : Type 0 where
  pub derivation : IsAlikeDerivation a.derivation b.derivation
  pub cipher : IsAlikeCipher a.cipher b.cipher
  pub area : a.area ≡ b.area
  pub area_key_bytes : a.area_key_bytes ≡ b.area_key_bytes
  pub key_bytes : a.key_bytes ≡ b.key_bytes
  pub stripes : a.stripes ≡ b.stripes
  pub splitter_hash : a.splitter_hash.now ≡ b.splitter_hash.now
  pub digest : IsAlikeDigest a.digest b.digest
