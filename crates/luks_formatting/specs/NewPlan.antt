-- What keyslot 0 of a new volume says of its opening.
use Rattle.std.specs.Prelude.{◌≡◌, ℕ, List, length, false, true, None}
use Rattle.luks_area.specs.declared.area.Area.{Area}
use Rattle.luks_kdf.specs.Derivation.{pbkdf2}
use Rattle.luks_kdf.specs.Names.{block_size_of, hash_of, name_of}
use Rattle.luks_making.specs.Keyslots.{Deriving, by_pbkdf2}
use Rattle.luks_slot.specs.declared.allowed.Allowed.{Allowed}
use Rattle.luks_slot.specs.declared.plan.Derivation.{Derivation}
use Rattle.luks_slot.specs.declared.plan.DigestPlan.{DigestPlan}
use Rattle.luks_slot.specs.declared.plan.SlotPlan.{SlotPlan}
use Rattle.luks_slot.specs.Opening.{area_bytes, HasIterations}
use Rattle.luks_slot.specs.Allowance.{without_memory}
use Rattle.luks_slot.specs.Refusal.{is_argon2, slot_refusal_within}
use Rattle.luks_slot.specs.Sealing.{IsSealed}
use Rattle.luks_reading.specs.declared.format.Format.{Format}
use Rattle.luks_formatting.specs.Deriving.{IsDerivedBy}
use Rattle.luks_formatting.specs.Encrypting.{used_bytes}
use Rattle.luks_formatting.specs.Given.{key_of}
use Rattle.luks_formatting.specs.RandomBytes.{digest_salt}
use Rattle.luks_formatting.specs.declared.given.Given.{Given}

-- the digest of the volume key, of `len` bytes: PBKDF2 of the key
abbrev pub key_digest : Given → Format → List ℕ → ℕ → List ℕ
key_digest given format random len =
    pbkdf2 (hash_of format.hash) (block_size_of format.hash)
    (key_of given random) (digest_salt given.key_bytes random) format.iterations len

pub record IsNewDigest (format : Format) (salt stored : List ℕ) (digest : DigestPlan) : Type 0 where
  pub hash : digest.hash.now ≡ name_of format.hash
  pub iterations : digest.iterations ≡ format.iterations
  pub own_salt : digest.salt.now ≡ salt
  pub own_stored : digest.stored.now ≡ stored

-- the plan of a keyslot of a key of k bytes with this derivation, salt and area, and a digest with that salt that
-- stores these bytes; its cipher is a matter of the version
pub record IsNewPlanBy
    (own : Deriving) (format : Format) (k : ℕ) (salt : List ℕ) (own_area : Area) (digest_salt stored : List ℕ) (plan : SlotPlan)
    : Type 0 where
  pub derivation : IsDerivedBy own salt plan.derivation
  pub area : plan.area ≡ own_area
  pub area_key_bytes : plan.area_key_bytes ≡ k
  pub key_bytes : plan.key_bytes ≡ k
  pub stripes : plan.stripes ≡ 4000
  pub splitter_hash : plan.splitter_hash.now ≡ name_of format.hash
  pub digest : IsNewDigest format digest_salt stored plan.digest

-- a derivation, and a plan, by PBKDF2 as the digest
abbrev pub IsNewDerivation : Format → List ℕ → Derivation → Type 0
IsNewDerivation format = IsDerivedBy (by_pbkdf2 (name_of format.hash) format.iterations)

abbrev pub IsNewPlan : Format → ℕ → List ℕ → Area → List ℕ → List ℕ → SlotPlan → Type 0
IsNewPlan format = IsNewPlanBy (by_pbkdf2 (name_of format.hash) format.iterations) format

-- a key of k bytes is sealed by the plan in 4000 stripes, where so much is allowed
pub record IsSealableWithin (allowed : Allowed) (k : ℕ) (plan : SlotPlan) : Type 0 where
  pub unrefused : slot_refusal_within allowed plan ≡ None
  pub iterations : HasIterations plan.derivation
  pub key_bytes : plan.key_bytes ≡ k
  pub stripes : plan.stripes ≡ 4000

-- where no memory is, and it takes none
pub record IsSealable (k : ℕ) (plan : SlotPlan) : Type 0 where
  pub within : IsSealableWithin (without_memory true) k plan
  pub here : is_argon2 plan.derivation ≡ false

-- the bytes are those of the used sectors of an area that the plan sealed the key of k bytes in
pub record IsSealedAhead (k : ℕ) (plan : SlotPlan) (passphrase key random bytes : List ℕ) : Type 0 where
  pub long : length bytes ≡ used_bytes k
  pub sealed : IsSealed plan bytes passphrase key random

-- the area of a keyslot of the volume `v`, one of these plans, holds the key under the passphrase:
-- stripes of which all but the last are the random ones, and then zeros
pub record HoldsKey (plans : SlotPlan → Type 0) (v passphrase key random : List ℕ) : Type 0 where
  pub plan : SlotPlan
  pub is : plans plan
  pub sealed : IsSealed plan (area_bytes v plan.area) passphrase key random
