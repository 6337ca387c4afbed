-- The digest that tells a volume key, and how many bytes the key has (LUKS1 On-Disk Format 1.2.3, "The
-- partition header"; LUKS2 On-Disk Format 1.1, 3.4 and 3.5).
use Rattle.std.specs.Prelude.{◌≡◌, ◌⊎◌, ℕ, ◌<◌, ◌≤◌, ◌==◌, List, Option, Some, None, true}
use Rattle.std.specs.List.{list_any}
use Rattle.serde_json.specs.Data.{Data}
use Rattle.luks_json.specs.Names.{numbers_of_array}
use Rattle.luks_meta.specs.Faults.{object_at}
use Rattle.luks_meta.specs.MetaFault.{Json}
use Rattle.luks_meta.specs.Naming.{IsDigestOf}
use Rattle.luks_meta.specs.Reading.{bytes_in, text_of}
use Rattle.luks_meta.specs.Says.{member_at, small_at}
use Rattle.luks_rules.specs.declared.table.Member.TheVariants as name
use Rattle.luks_rules.specs.declared.table.Outer.TheVariants as outer
use Rattle.luks_rules.specs.declared.table.Section.TheVariants.{Digests}
use Rattle.luks_slot.specs.declared.plan.DigestPlan.{DigestPlan}
use Rattle.luks_reading.specs.Plans.{HasLuks2KeyBytes, IsLuks1Digest}

-- ---- LUKS1: one digest, which has the number 0; `h` is the header's 592 bytes

abbrev pub IsLuks1Number : Option ℕ → ℕ → Type 0
IsLuks1Number None m = m ≡ 0
IsLuks1Number (Some asked) m = (asked ≡ 0) × (m ≡ 0)

pub record HasLuks1Digest (h : List ℕ) (asked : Option ℕ) (m : ℕ) (digest : DigestPlan) : Type 0 where
  pub numbered : IsLuks1Number asked m
  pub is : IsLuks1Digest h digest

-- ---- LUKS2: `j` is the metadata

-- the digest `m` is assigned to the segment `s`
pub record IsDigestOfSegment (j : Data) (s m : ℕ) : Type 0 where
  pub numbered : m < 32
  pub object : Data
  pub there : object_at j Digests m ≡ Some object
  pub segments : List ℕ
  pub told : numbers_of_array (member_at object outer.Top name.Segments) ≡ Some segments
  pub lists : list_any (λ n. n == s) segments ≡ true

-- the one that is asked for; with none asked for, the one of segment 0, which has the volume key (of several the
-- least number)
pub record IsFirstDigestOf (j : Data) (s m : ℕ) : Type 0 where
  pub is : IsDigestOfSegment j s m
  pub first : (k : ℕ) → k < m → IsDigestOfSegment j s k → ⊥

abbrev pub IsLuks2Number : Data → Option ℕ → ℕ → Type 0
IsLuks2Number j None m = IsFirstDigestOf j 0 m
IsLuks2Number j (Some asked) m = (asked < 32) × (m ≡ asked)

-- what the object of a digest says
pub record SaysDigest (object : Data) (digest : DigestPlan) : Type 0 where
  pub hash : text_of (member_at object outer.Top name.Hash) ≡ Some digest.hash.now
  pub iterations : small_at object outer.Top name.Iterations ≡ Some digest.iterations
  pub salt : bytes_in 1 128 (member_at object outer.Top name.Salt) ≡ Some digest.salt.now
  pub stored : bytes_in 20 64 (member_at object outer.Top name.Digest) ≡ Some digest.stored.now

pub record HasLuks2Digest (json : List ℕ) (asked : Option ℕ) (m : ℕ) (digest : DigestPlan) : Type 0 where
  pub value : Data
  pub holds : Json json value
  pub numbered : IsLuks2Number value asked m
  pub object : Data
  pub there : object_at value Digests m ≡ Some object
  pub says : SaysDigest object digest

-- a keyslot of the digest `m` has a key of so many bytes
pub record HasKeyslotOf (j : Data) (m len : ℕ) : Type 0 where
  pub slot : ℕ
  pub names : IsDigestOf j slot m
  pub long : HasLuks2KeyBytes j slot len

-- some keyslot is named by it
pub record NamesKeyslot (j : Data) (m : ℕ) : Type 0 where
  pub slot : ℕ
  pub names : IsDigestOf j slot m

-- the key of the digest `m` has as many bytes as that of one of its keyslots; where it has no keyslot, 1 to 128
abbrev pub IsLuks2KeyLength : Data → ℕ → ℕ → Type 0
IsLuks2KeyLength j m len = HasKeyslotOf j m len ⊎ ((NamesKeyslot j m → ⊥) × (1 ≤ len) × (len ≤ 128))

pub record HasLuks2KeyLength (json : List ℕ) (m len : ℕ) : Type 0 where
  pub value : Data
  pub holds : Json json value
  pub long : IsLuks2KeyLength value m len
