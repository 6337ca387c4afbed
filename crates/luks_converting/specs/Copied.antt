-- A keyslot whose area was copied to another volume opens there as it did.
use Rattle.std.specs.Prelude.{◌≡◌, ℕ, ◌*◌, List, ◌++◌, codes}
use Rattle.luks_area.specs.Ranges.{part}
use Rattle.luks_area.specs.Sectors.{sector_count}
use Rattle.luks_slot.specs.declared.plan.AreaCipher.{AreaCipher}
use Rattle.luks_slot.specs.declared.plan.AreaCipher.TheVariants.{Apart, Whole}
use Rattle.luks_slot.specs.declared.plan.Derivation.{Derivation}
use Rattle.luks_slot.specs.declared.plan.Derivation.TheVariants.{Pbkdf2, Argon2}
use Rattle.luks_slot.specs.declared.plan.DigestPlan.{DigestPlan}
use Rattle.luks_slot.specs.declared.plan.SlotPlan.{SlotPlan}
use Rattle.luks_slot.specs.Opening.{stripe_bytes}

abbrev pub IsSameDerivation : Derivation → Derivation → Type 0
IsSameDerivation (Pbkdf2 hash iterations salt) (Pbkdf2 other turns own) =
    (hash.now ≡ other.now) × (iterations ≡ turns) × (salt.now ≡ own.now)
IsSameDerivation (Pbkdf2 hash iterations salt) (Argon2 c) = ⊥
IsSameDerivation (Argon2 c) other = ⊥

-- the name and the mode of LUKS1, joined by a hyphen
abbrev pub IsJoinedCipher : AreaCipher → AreaCipher → Type 0
IsJoinedCipher (Apart name mode) (Whole text) = text.now ≡ name.now ++ codes "-" ++ mode.now
IsJoinedCipher (Apart name mode) (Apart other own) = ⊥
IsJoinedCipher (Whole text) other = ⊥

pub record IsSameDigest (a b : DigestPlan) : Type 0 where
  pub hash : a.hash.now ≡ b.hash.now
  pub iterations : a.iterations ≡ b.iterations
  pub salt : a.salt.now ≡ b.salt.now
  pub stored : a.stored.now ≡ b.stored.now

-- the plan `b` of a LUKS2 keyslot says what the plan `a` of a LUKS1 keyslot says, except for its area
pub record IsCopiedPlan (a b : SlotPlan) : Type 0 where
  pub derivation : IsSameDerivation a.derivation b.derivation
  pub cipher : IsJoinedCipher a.cipher b.cipher
  pub area_key_bytes : a.area_key_bytes ≡ b.area_key_bytes
  pub key_bytes : a.key_bytes ≡ b.key_bytes
  pub stripes : a.stripes ≡ b.stripes
  pub splitter_hash : a.splitter_hash.now ≡ b.splitter_hash.now
  pub digest : IsSameDigest a.digest b.digest

-- the two areas begin with the same sectors, those that hold the plan's stripes
abbrev pub HasSameSectors : SlotPlan → List ℕ → List ℕ → Type 0
HasSameSectors plan a b =
    part a 0 (512 * sector_count (stripe_bytes plan)) ≡ part b 0 (512 * sector_count (stripe_bytes plan))
