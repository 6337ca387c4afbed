-- What the kept keyslots of the volume `v` give: the equations of LUKS1, of its entry, its area and its digest,
-- with the texts and the key's length that are taken.
use Rattle.std.specs.Prelude.{◌≡◌, ℕ, Bool, List, Option, Some, None}
use Rattle.luks_area.specs.First.{IsLeast}
use Rattle.luks_area.specs.Ranges.{part}
use Rattle.luks1_header.specs.Header1.{entry, entry_iterations, entry_salt, entry_stripes, mk_digest_iterations_of, mk_digest_of, mk_digest_salt_of}
use Rattle.luks1_header.specs.declared.fault.TextField.TheVariants.{CipherMode, CipherName, HashSpec}
use Rattle.luks_slot.specs.Opening.{slot_key}
use Rattle.luks_slot.specs.Allowance.{without_memory}
use Rattle.luks_slot.specs.Refusal.{slot_refusal_within}
use Rattle.luks_slot.specs.declared.fault.SlotFault.{SlotFault}
use Rattle.luks_slot.specs.declared.plan.AreaCipher.{AreaCipher}
use Rattle.luks_slot.specs.declared.plan.AreaCipher.TheVariants.{Apart, Whole}
use Rattle.luks_slot.specs.declared.plan.Derivation.{Derivation}
use Rattle.luks_slot.specs.declared.plan.Derivation.TheVariants.{Argon2, Pbkdf2}
use Rattle.luks_slot.specs.declared.plan.DigestPlan.{DigestPlan}
use Rattle.luks_slot.specs.declared.plan.SlotPlan.{SlotPlan}
use Rattle.luks_reading.specs.Answer.{no_key, open_key, opens, refused, Opened}
use Rattle.luks_reading.specs.declared.open_fault.OpenFault.{OpenFault}
use Rattle.luks_reading.specs.declared.open_fault.OpenFault.TheVariants.{Head, Meta, NoSuchSlot, SlotFree, Outside, Slot, Device, Memory}
use Rattle.luks1_mending.specs.Areas.{own_area}
use Rattle.luks1_mending.specs.Taken.{taken_text}
use Rattle.luks1_mending.specs.declared.given.Given.{Given}
use Rattle.luks1_rebuilding.specs.KeyAreas.{header_of, key_of}

-- the derivation by the entry, and the hash that is taken
abbrev pub IsKeptDerivation : List ℕ → Given → ℕ → Derivation → Type 0
IsKeptDerivation v g n (Pbkdf2 hash iterations salt) =
    (hash.now ≡ taken_text (header_of v) g HashSpec) × (iterations ≡ entry_iterations (entry (header_of v) n))
    × (salt.now ≡ entry_salt (entry (header_of v) n))
IsKeptDerivation v g n (Argon2 costs) = ⊥

-- the cipher that is taken
abbrev pub IsKeptCipher : List ℕ → Given → AreaCipher → Type 0
IsKeptCipher v g (Apart name mode) =
    (name.now ≡ taken_text (header_of v) g CipherName) × (mode.now ≡ taken_text (header_of v) g CipherMode)
IsKeptCipher v g (Whole text) = ⊥

-- the digest, by the hash that is taken
pub record IsKeptDigest (v : List ℕ) (g : Given) (digest : DigestPlan) : Type 0 where
  pub hash : digest.hash.now ≡ taken_text (header_of v) g HashSpec
  pub iterations : digest.iterations ≡ mk_digest_iterations_of (header_of v)
  pub salt : digest.salt.now ≡ mk_digest_salt_of (header_of v)
  pub stored : digest.stored.now ≡ mk_digest_of (header_of v)

-- the plan of the keyslot `n`
pub record IsKeptPlan (v : List ℕ) (g : Given) (n : ℕ) (plan : SlotPlan) : Type 0 where
  pub derivation : IsKeptDerivation v g n plan.derivation
  pub cipher : IsKeptCipher v g plan.cipher
  pub area : plan.area ≡ own_area (header_of v) (key_of v g) n
  pub area_key_bytes : plan.area_key_bytes ≡ key_of v g
  pub key_bytes : plan.key_bytes ≡ key_of v g
  pub stripes : plan.stripes ≡ entry_stripes (entry (header_of v) n)
  pub splitter_hash : plan.splitter_hash.now ≡ taken_text (header_of v) g HashSpec
  pub digest : IsKeptDigest v g plan.digest

-- the plan is refused by this fault, with ciphers and hashes of older disks where `older` says so
pub record HasRefusedPlan (older : Bool) (v : List ℕ) (g : Given) (n : ℕ) (f : SlotFault) : Type 0 where
  pub plan : SlotPlan
  pub is : IsKeptPlan v g n plan
  pub refused : slot_refusal_within (without_memory older) plan ≡ Some f

-- what refuses the keyslot `n`: its plan alone
abbrev pub IsRefusedKept : Bool → List ℕ → Given → ℕ → OpenFault → Type 0
IsRefusedKept older v g n (Head f) = ⊥
IsRefusedKept older v g n (Meta f) = ⊥
IsRefusedKept older v g n NoSuchSlot = ⊥
IsRefusedKept older v g n SlotFree = ⊥
IsRefusedKept older v g n Outside = ⊥
IsRefusedKept older v g n (Slot f) = HasRefusedPlan older v g n f
IsRefusedKept older v g n Device = ⊥
IsRefusedKept older v g n Memory = ⊥

-- nothing refuses it, and it gives `found` of the bytes of its area
pub record GivesKept (older : Bool) (v : List ℕ) (g : Given) (n : ℕ) (p : List ℕ) (found : Option (List ℕ)) : Type 0 where
  pub plan : SlotPlan
  pub is : IsKeptPlan v g n plan
  pub unrefused : (f : OpenFault) → IsRefusedKept older v g n f → ⊥
  pub key : slot_key plan (part v plan.area.start plan.area.len) p ≡ found

-- what the keyslot `n` gives by the passphrase `p`
abbrev pub Gives : Bool → List ℕ → Given → ℕ → List ℕ → Opened → Type 0
Gives older v g n p (refused f) = IsLeast open_key (IsRefusedKept older v g n) f
Gives older v g n p (opens k) = GivesKept older v g n p (Some k)
Gives older v g n p no_key = GivesKept older v g n p None
