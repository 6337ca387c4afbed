-- When a new value meets the rules of the metadata again.
use Rattle.std.specs.Prelude.{◌≡◌, ℕ, ◌+◌, ◌*◌, ◌<◌, ◌≤◌, ◌^◌, List, length, true, None, Some, codes}
use Rattle.base64.specs.GeneralPurpose.{IsBytes}
use Rattle.serde_json.specs.Data.{Data}
use Rattle.luks_area.specs.Sectors.{rounded_to_sectors}
use Rattle.luks_json.specs.Number.{number_text}
use Rattle.luks_json.specs.Arrays.{naming_count}
use Rattle.luks_rules.specs.declared.table.Section.TheVariants.{Digests, Keyslots}
use Rattle.luks_rules.specs.declared.table.Outer.TheVariants as outer
use Rattle.luks_rules.specs.Accepted.{HasObject}
use Rattle.luks_rules.specs.Faults.{object_at, section_at}
use Rattle.luks_rules.specs.Reading.{is_sector_size, number_in}
use Rattle.luks_rules.specs.Sizes.{inside_at, keyslots_size, region_start}
use Rattle.luks_making.specs.Formatted.{VolumeMembers}
use Rattle.luks_making.specs.declared.derivation.Argon2Costs.{Argon2Costs}
use Rattle.luks_making.specs.Derivations.{FitsAsked, IsPositive}
use Rattle.luks_making.specs.Keyslots.{Deriving, by_pbkdf2, by_argon2i, by_argon2id, NewMembers, SlotMembers}

pub record Between (least most n : ℕ) : Type 0 where
  pub from : least ≤ n
  pub to : n ≤ most

-- base64 of at least one byte, as a salt is
pub record IsSalt (salt : List ℕ) : Type 0 where
  pub are_bytes : IsBytes salt
  pub long : Between 1 128 (length salt)

-- ---- a place for a keyslot

-- no keyslot has the number
pub record IsFree (j : Data) (n : ℕ) : Type 0 where
  pub small : n < 32
  pub free : object_at j Keyslots n ≡ None

-- the bytes from `offset` on lie in the region of the key areas
abbrev pub IsInRegion : ℕ → Data → ℕ → ℕ → Type 0
IsInRegion len j offset size = (bytes : ℕ) → keyslots_size j ≡ Some bytes
    → (region_start len ≤ offset) × (offset + size ≤ region_start len + bytes)

-- ---- a keyslot that is sealed with the members of the keyslot `n`

-- the keyslot `n` is there
pub record IsThere (j : Data) (n : ℕ) : Type 0 where
  pub object : Data
  pub there : HasObject j Keyslots n object

-- what is new has the ranges of its types: 32 bits, bytes, 64 bits
pub record FitsNew (f : NewMembers) : Type 0 where
  pub derivation : FitsAsked f.derivation
  pub salt : IsBytes f.salt
  pub offset : f.offset < 2 ^ 64
  pub size : f.size < 2 ^ 64

-- what is new suits the keyslot `n`: no iterations or cost of its derivation are 0, and its area is
-- large enough for the key and lies in the region
pub record CanSeal (len : ℕ) (j : Data) (n : ℕ) (f : NewMembers) : Type 0 where
  pub slot : IsThere j n
  pub derivation : IsPositive f.derivation
  pub salt : Between 1 128 (length f.salt)
  pub large : (key stripes : ℕ)
      → number_in 1 128 (inside_at outer.Top (codes "key_size") slot.object) ≡ Some key
      → number_in 1 4294967295 (inside_at outer.Af (codes "stripes") slot.object) ≡ Some stripes
      → rounded_to_sectors (key * stripes) ≤ f.size
  pub within : IsInRegion len j f.offset f.size

-- ---- a keyslot of any members

-- its iterations, or the costs of Argon2, are such as their rows read
pub record FitsCosts (costs : Argon2Costs) : Type 0 where
  pub time : Between 1 4294967295 costs.time
  pub memory : Between 1 4294967295 costs.memory
  pub cpus : Between 1 4294967295 costs.cpus

abbrev pub FitsDerivation : Deriving → Type 0
FitsDerivation (by_pbkdf2 hash iterations) = Between 1 4294967295 iterations
FitsDerivation (by_argon2i costs) = FitsCosts costs
FitsDerivation (by_argon2id costs) = FitsCosts costs

-- each member is one that its row reads
pub record FitsSlot (s : SlotMembers) : Type 0 where
  pub key_size : Between 1 128 s.key_size
  pub stripes : Between 1 4294967295 s.stripes
  pub offset : s.offset < 2 ^ 64
  pub size : s.size < 2 ^ 64
  pub area_key_size : Between 1 128 s.area_key_size
  pub derivation : FitsDerivation s.derivation
  pub salt : IsSalt s.salt

-- the number `n` is free and no digest names it, the digest `m` is `d`, and the keyslot's area is
-- large enough and lies in the region
pub record IsRoom (len n m : ℕ) (s : SlotMembers) (j d : Data) : Type 0 where
  pub number : IsFree j n
  pub unnamed : naming_count (codes "keyslots") (number_text n) (section_at j Digests) ≡ 0
  pub digest : HasObject j Digests m d
  pub fits : FitsSlot s
  pub large : rounded_to_sectors (s.key_size * s.stripes) ≤ s.size
  pub within : IsInRegion len j s.offset s.size

-- ---- a new volume

-- what a new volume says has the ranges of its types: 32 bits, 64 bits, bytes
pub record FitsVolume (v : VolumeMembers) : Type 0 where
  pub iterations : v.iterations < 2 ^ 32
  pub segment_offset : v.segment_offset < 2 ^ 64
  pub sector_size : v.sector_size < 2 ^ 32
  pub digest_salt : IsBytes v.digest_salt
  pub digest : IsBytes v.digest
  pub slot_salt : IsBytes v.slot_salt

-- at least one iteration, salts and a digest of lengths that the metadata may have, and sectors of a listed
-- size
pub record CanFormat (v : VolumeMembers) : Type 0 where
  pub iterations : 1 ≤ v.iterations
  pub digest_salt : Between 1 128 (length v.digest_salt)
  pub digest : Between 20 64 (length v.digest)
  pub slot_salt : Between 1 128 (length v.slot_salt)
  pub sector_size : is_sector_size v.sector_size ≡ true
