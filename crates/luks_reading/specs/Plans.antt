-- What a keyslot says of its opening (LUKS1 On-Disk Format 1.2.3, "The partition header"; LUKS2
-- On-Disk Format 1.1, 3.2 and 3.4).
use Rattle.std.specs.Prelude.{◌≡◌, ℕ, ◌*◌, ◌<◌, List, codes, Some}
use Rattle.serde_json.specs.Data.{Data}
use Rattle.luks_area.specs.Ranges.{part}
use Rattle.luks_area.specs.Sectors.{rounded_to_sectors}
use Rattle.luks1_header.specs.Bytes.{number_at, text_at}
use Rattle.luks1_header.specs.Header1.{entry, entry_iterations, entry_stripes}
use Rattle.luks_meta.specs.Content.{content}
use Rattle.luks_meta.specs.Faults.{object_at, type_at}
use Rattle.luks_meta.specs.MetaFault.{Json}
use Rattle.luks_meta.specs.Naming.{IsDigestOf}
use Rattle.luks_meta.specs.Reading.{number_in, decimal_in, bytes_in, text_of}
use Rattle.luks_meta.specs.Says.{member_at, small_at}
use Rattle.luks_rules.specs.declared.table.Member.TheVariants as name
use Rattle.luks_rules.specs.declared.table.Outer.TheVariants as outer
use Rattle.luks_rules.specs.declared.table.Section.TheVariants.{Digests, Keyslots}
use Rattle.luks_slot.specs.declared.plan.Argon2Kind.{Argon2Kind}
use Rattle.luks_slot.specs.declared.plan.Argon2Kind.TheVariants.{I, Id}
use Rattle.luks_slot.specs.declared.plan.AreaCipher.{AreaCipher}
use Rattle.luks_slot.specs.declared.plan.AreaCipher.TheVariants.{Apart, Whole}
use Rattle.luks_slot.specs.declared.plan.Derivation.{Derivation}
use Rattle.luks_slot.specs.declared.plan.Derivation.TheVariants.{Pbkdf2, Argon2}
use Rattle.luks_slot.specs.declared.plan.DigestPlan.{DigestPlan}
use Rattle.luks_slot.specs.declared.plan.SlotPlan.{SlotPlan}
use Rattle.luks_reading.specs.declared.header.Header.{Header}
use Rattle.luks_reading.specs.declared.header.Header.TheVariants.{Luks1, Luks2}

-- ---- LUKS1: `h` is the header's 592 bytes

abbrev pub IsLuks1Derivation : List ℕ → List ℕ → Derivation → Type 0
IsLuks1Derivation h e (Pbkdf2 hash iterations salt) =
    (hash.now ≡ text_at h 72 32) × (iterations ≡ entry_iterations e) × (salt.now ≡ part e 8 32)
IsLuks1Derivation h e (Argon2 costs) = ⊥

abbrev pub IsLuks1Cipher : List ℕ → AreaCipher → Type 0
IsLuks1Cipher h (Apart name mode) = (name.now ≡ text_at h 8 32) × (mode.now ≡ text_at h 40 32)
IsLuks1Cipher h (Whole text) = ⊥

pub record IsLuks1Digest (h : List ℕ) (digest : DigestPlan) : Type 0 where
  pub hash : digest.hash.now ≡ text_at h 72 32
  pub iterations : digest.iterations ≡ number_at h 164 4
  pub salt : digest.salt.now ≡ part h 132 32
  pub stored : digest.stored.now ≡ part h 112 20

-- the plan of the keyslot whose 48 bytes are `e`
pub record IsLuks1Plan (h e : List ℕ) (plan : SlotPlan) : Type 0 where
  pub derivation : IsLuks1Derivation h e plan.derivation
  pub cipher : IsLuks1Cipher h plan.cipher
  pub start : plan.area.start ≡ number_at e 40 4 * 512
  pub len : plan.area.len ≡ rounded_to_sectors (number_at h 108 4 * entry_stripes e)
  pub area_key_bytes : plan.area_key_bytes ≡ number_at h 108 4
  pub key_bytes : plan.key_bytes ≡ number_at h 108 4
  pub stripes : plan.stripes ≡ entry_stripes e
  pub splitter_hash : plan.splitter_hash.now ≡ text_at h 72 32
  pub digest : IsLuks1Digest h plan.digest

-- the plan of the keyslot `n`
pub record HasLuks1Plan (h : List ℕ) (n : ℕ) (plan : SlotPlan) : Type 0 where
  pub numbered : n < 8
  pub is : IsLuks1Plan h (entry h n) plan

-- ---- LUKS2: `d` is the keyslot's object in the metadata `j`

-- the type of a derivation by Argon2
abbrev pub kind_text : Argon2Kind → List ℕ
kind_text I = codes "argon2i"
kind_text Id = codes "argon2id"

abbrev pub IsLuks2Derivation : Data → Derivation → Type 0
IsLuks2Derivation d (Pbkdf2 hash iterations salt) =
    (type_at d outer.Kdf ≡ Some (codes "pbkdf2")) × (text_of (member_at d outer.Kdf name.Hash) ≡ Some hash.now)
    × (small_at d outer.Kdf name.Iterations ≡ Some iterations) × (bytes_in 1 128 (member_at d outer.Kdf name.Salt) ≡ Some salt.now)
IsLuks2Derivation d (Argon2 costs) =
    (type_at d outer.Kdf ≡ Some (kind_text costs.kind)) × (small_at d outer.Kdf name.Time ≡ Some costs.time)
    × (small_at d outer.Kdf name.Memory ≡ Some costs.memory) × (small_at d outer.Kdf name.Cpus ≡ Some costs.cpus)
    × (bytes_in 1 128 (member_at d outer.Kdf name.Salt) ≡ Some costs.salt.now)

abbrev pub IsLuks2Cipher : Data → AreaCipher → Type 0
IsLuks2Cipher d (Apart name mode) = ⊥
IsLuks2Cipher d (Whole text) = text_of (member_at d outer.Area name.Encryption) ≡ Some text.now

-- what the digest that names the keyslot `n` says
pub record IsLuks2Digest (j : Data) (n : ℕ) (digest : DigestPlan) : Type 0 where
  pub number : ℕ
  pub names : IsDigestOf j n number
  pub object : Data
  pub there : object_at j Digests number ≡ Some object
  pub hash : text_of (member_at object outer.Top name.Hash) ≡ Some digest.hash.now
  pub iterations : small_at object outer.Top name.Iterations ≡ Some digest.iterations
  pub salt : bytes_in 1 128 (member_at object outer.Top name.Salt) ≡ Some digest.salt.now
  pub stored : bytes_in 20 64 (member_at object outer.Top name.Digest) ≡ Some digest.stored.now

pub record IsLuks2Plan (j : Data) (n : ℕ) (d : Data) (plan : SlotPlan) : Type 0 where
  pub derivation : IsLuks2Derivation d plan.derivation
  pub cipher : IsLuks2Cipher d plan.cipher
  pub start : decimal_in (member_at d outer.Area name.Offset) ≡ Some plan.area.start
  pub len : decimal_in (member_at d outer.Area name.Size) ≡ Some plan.area.len
  pub area_key_bytes : number_in 1 128 (member_at d outer.Area name.KeySize) ≡ Some plan.area_key_bytes
  pub key_bytes : number_in 1 128 (member_at d outer.Top name.KeySize) ≡ Some plan.key_bytes
  pub stripes : small_at d outer.Af name.Stripes ≡ Some plan.stripes
  pub splitter_hash : text_of (member_at d outer.Af name.Hash) ≡ Some plan.splitter_hash.now
  pub digest : IsLuks2Digest j n plan.digest

-- the plan of the keyslot `n` of the metadata in the JSON area `json`
pub record HasLuks2Plan (json : List ℕ) (n : ℕ) (plan : SlotPlan) : Type 0 where
  pub numbered : n < 32
  pub value : Data
  pub holds : Json json value
  pub object : Data
  pub there : object_at value Keyslots n ≡ Some object
  pub is : IsLuks2Plan value n object plan

-- ---- the length in bytes of the key that a keyslot gives

pub record HasLuks2KeyBytes (j : Data) (n len : ℕ) : Type 0 where
  pub object : Data
  pub there : object_at j Keyslots n ≡ Some object
  pub is : number_in 1 128 (member_at object outer.Top name.KeySize) ≡ Some len

-- by the header that was read, the key of the keyslot `n` has `len` bytes
abbrev pub HasKeyBytes : Header → ℕ → ℕ → Type 0
HasKeyBytes (Luks1 bytes) n len = len ≡ number_at bytes 108 4
HasKeyBytes (Luks2 copy) n len = HasLuks2KeyBytes (content copy.meta) n len
