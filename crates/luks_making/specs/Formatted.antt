-- The metadata of a new volume.
use Rattle.std.specs.Prelude.{ℕ, List, codes, decimal}
use Rattle.serde_json.specs.Data.{Data, string, array, object, no_items, item, no_members, member}
use Rattle.luks_making.specs.declared.new_volume.NewVolume.{NewVolume}
use Rattle.luks_making.specs.Keyslots.{by_pbkdf2, SlotMembers, base64_text, number_member, slot_value, text_member}

-- what the metadata of a new volume says
pub record VolumeMembers : Type 0 where
  pub hash : List ℕ
  pub iterations : ℕ
  pub segment_offset : ℕ
  pub digest_salt : List ℕ
  pub digest : List ℕ
  pub slot_salt : List ℕ
  pub encryption : List ℕ
  pub sector_size : ℕ

abbrev pub volume_members : NewVolume → VolumeMembers
volume_members v = record {
  hash = v.hash.now;
  iterations = v.iterations;
  segment_offset = v.segment_offset;
  digest_salt = v.digest_salt.now;
  digest = v.digest.now;
  slot_salt = v.slot_salt.now;
  encryption = v.encryption.now;
  sector_size = v.sector_size;
}

-- a map with one object, the one of number 0
abbrev pub sole : Data → Data
sole d = object (member (codes "0") d no_members)

-- the array with its name
abbrev pub sole_name : Data
sole_name = array (item (string (codes "0")) no_items)

abbrev pub config_value : Data
config_value = object (
    text_member (codes "json_size") (codes "12288") (
    text_member (codes "keyslots_size") (codes "16744448") no_members))

abbrev pub digest_value : VolumeMembers → Data
digest_value v = object (
    text_member (codes "digest") (base64_text v.digest) (
    text_member (codes "hash") v.hash (
    number_member (codes "iterations") v.iterations (
    member (codes "keyslots") sole_name (
    text_member (codes "salt") (base64_text v.digest_salt) (
    member (codes "segments") sole_name (
    text_member (codes "type") (codes "pbkdf2") no_members)))))))

abbrev pub first_slot : VolumeMembers → SlotMembers
first_slot v = record {
  key_size = 64;
  stripes = 4000;
  splitter_hash = v.hash;
  offset = 32768;
  size = 258048;
  encryption = v.encryption;
  area_key_size = 64;
  derivation = by_pbkdf2 v.hash v.iterations;
  salt = v.slot_salt;
}

abbrev pub segment_value : VolumeMembers → Data
segment_value v = object (
    text_member (codes "encryption") v.encryption (
    text_member (codes "iv_tweak") (codes "0") (
    text_member (codes "offset") (decimal v.segment_offset) (
    number_member (codes "sector_size") v.sector_size (
    text_member (codes "size") (codes "dynamic") (
    text_member (codes "type") (codes "crypt") no_members))))))

-- the metadata of a new volume (LUKS2 On-Disk Format 1.1, 3), members in the order of their names
abbrev pub formatted : VolumeMembers → Data
formatted v = object (
    member (codes "config") config_value (
    member (codes "digests") (sole (digest_value v)) (
    member (codes "keyslots") (sole (slot_value (first_slot v))) (
    member (codes "segments") (sole (segment_value v)) (
    member (codes "tokens") (object no_members) no_members)))))
