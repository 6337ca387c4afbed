-- The metadata of a LUKS2 header that is made from a LUKS1 volume: that of a new volume (LUKS2 On-Disk
-- Format 1.1, 3) with what the LUKS1 header says (LUKS1 On-Disk Format 1.2.3, "The partition header").
use Rattle.std.specs.Prelude.{ℕ, zero, suc, ◌+◌, ◌-◌, ◌*◌, ◌/◌, List, Option, None, Some, codes, decimal, min, nat_lt, if◌then◌else◌, option_and_then, option_map, slice_get}
use Rattle.serde_json.specs.Data.{Data, string}
use Rattle.luks_making.specs.declared.source_volume.SourceSlot.{SourceSlot}
use Rattle.luks_making.specs.declared.source_volume.SourceVolume.{SourceVolume}
use Rattle.luks_making.specs.Changing.{at_member, set_member}
use Rattle.luks_making.specs.Formatted.{VolumeMembers, formatted}
use Rattle.luks_making.specs.Keyslots.{by_pbkdf2, SlotMembers}
use Rattle.luks_making.specs.With.{with_slot}
use Rattle.luks_making.specs.Without.{without_slot}

-- ---- what the LUKS1 header says

-- an enabled keyslot
pub record SourceSlotMembers : Type 0 where
  pub iterations : ℕ
  pub salt : List ℕ
  pub stripes : ℕ

-- the header; the payload's place is in bytes, and `slot` has the enabled keyslots of the numbers
-- below 8
pub record SourceMembers : Type 0 where
  pub hash : List ℕ
  pub encryption : List ℕ
  pub key_bytes : ℕ
  pub digest_iterations : ℕ
  pub digest_salt : List ℕ
  pub digest : List ℕ
  pub payload_offset : ℕ
  pub slot : ℕ → Option SourceSlotMembers

abbrev pub source_slot_members : SourceSlot → SourceSlotMembers
source_slot_members s = record { iterations = s.iterations; salt = s.salt; stripes = s.stripes }

abbrev pub source_members : SourceVolume → SourceMembers
source_members v = record {
  hash = v.hash.now;
  encryption = v.encryption.now;
  key_bytes = v.key_bytes;
  digest_iterations = v.digest_iterations;
  digest_salt = v.digest_salt;
  digest = v.digest;
  payload_offset = v.payload_offset;
  slot = λ n. option_and_then (option_map source_slot_members) (slice_get v.slots n);
}

-- ---- the new areas

-- the bytes of an area: the split key in whole blocks of 4096
abbrev pub area_size : SourceMembers → SourceSlotMembers → ℕ
area_size v s = (v.key_bytes * s.stripes + 4095) / 4096 * 4096

-- the same of a number; none is taken by a number that isn't enabled
abbrev pub taken_size : SourceMembers → Option SourceSlotMembers → ℕ
taken_size v None = 0
taken_size v (Some s) = area_size v s

-- where the area of the keyslot `n` begins: they follow each other by their numbers, from the
-- region's start on
unfoldable pub area_start : SourceMembers → ℕ → ℕ
area_start v zero = 32768
area_start v (suc n) = area_start v n + taken_size v (v.slot n)

-- ---- the region of the key areas

-- where it ends: at 16 MiB as that of a new volume, or before it at the payload where the new areas
-- end by there, for other programs take the region to lie before the payload, also where that is on
-- another device
abbrev pub region_end : SourceMembers → ℕ
region_end v =
    if nat_lt v.payload_offset (area_start v 8) then 16777216 else min v.payload_offset 16777216

-- its bytes behind both copies of the header, in whole blocks of 4096 (config.keyslots_size)
abbrev pub region_size : SourceMembers → ℕ
region_size v = (region_end v - 32768) / 4096 * 4096

-- the value with a region of so many bytes
abbrev pub with_region : ℕ → Data → Data
with_region size = at_member (codes "config") (set_member (codes "keyslots_size") (string (decimal size)))

-- ---- the metadata

-- the keyslot `n`
abbrev pub converted_slot : SourceMembers → ℕ → SourceSlotMembers → SlotMembers
converted_slot v n s = record {
  key_size = v.key_bytes;
  stripes = s.stripes;
  splitter_hash = v.hash;
  offset = area_start v n;
  size = area_size v s;
  encryption = v.encryption;
  area_key_size = v.key_bytes;
  derivation = by_pbkdf2 v.hash s.iterations;
  salt = s.salt;
}

-- a new volume with the source's digest, payload and encryption, and LUKS1's sectors of 512 bytes; its
-- keyslot, whose salt is any, doesn't stay
abbrev pub volume_like : SourceMembers → VolumeMembers
volume_like v = record {
  hash = v.hash;
  iterations = v.digest_iterations;
  segment_offset = v.payload_offset;
  digest_salt = v.digest_salt;
  digest = v.digest;
  slot_salt = v.digest_salt;
  encryption = v.encryption;
  sector_size = 512;
}

-- with the keyslot of the number, named last by digest 0, if it is enabled
abbrev pub with_enabled : SourceMembers → ℕ → Option SourceSlotMembers → Data → Data
with_enabled v n None j = j
with_enabled v n (Some s) j = with_slot n 0 (converted_slot v n s) j

-- with those below `n`
unfoldable pub converted_below : SourceMembers → ℕ → Data
converted_below v zero = with_region (region_size v) (without_slot 0 (formatted (volume_like v)))
converted_below v (suc n) = with_enabled v n (v.slot n) (converted_below v n)

abbrev pub converted : SourceMembers → Data
converted v = converted_below v 8
