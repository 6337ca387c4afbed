-- The LUKS2 header of a new volume: both copies of its binary header, and the metadata (LUKS2
-- On-Disk Format 1.1, 2.1 and 3).
use Rattle.std.specs.Prelude.{◌≡◌, ◌≤◌, ℕ, ◌*◌, IfSome, List, ◌++◌, codes, drop, length, replicate, Option, None}
use Rattle.serde_json.specs.Data.{Data as Value, object, no_members, member}
use Rattle.luks_area.specs.declared.area.Area.{Area}
use Rattle.luks2_header.specs.Header2.{magic_of, sha256_size}
use Rattle.luks2_header.specs.declared.bin2.Bin2.{Bin2}
use Rattle.luks_kdf.specs.Names.{digest_size_of, name_of}
use Rattle.luks_making.specs.Conditions.{FitsDerivation, FitsVolume}
use Rattle.luks_making.specs.Formatted.{VolumeMembers, config_value, digest_value, first_slot, segment_value, sole}
use Rattle.luks_making.specs.Keyslots.{Deriving, SlotMembers, slot_value}
use Rattle.luks_slot.specs.declared.plan.AreaCipher.{AreaCipher}
use Rattle.luks_slot.specs.declared.plan.AreaCipher.TheVariants.{Apart, Whole}
use Rattle.luks_reading.specs.declared.report.Data.{Data}
use Rattle.luks_reading.specs.declared.report.Data.TheVariants.{Here, Elsewhere}
use Rattle.luks_reading.specs.declared.format.Format.{Format}
use Rattle.luks_making.specs.declared.derivation.NewDerivation.{NewDerivation}
use Rattle.luks_formatting.specs.Deriving.{slot_derivation}
use Rattle.luks_formatting.specs.declared.new_cipher.NewCipher.{NewCipher}
use Rattle.luks_formatting.specs.Encrypting.{block_bytes, cipher_text}
use Rattle.luks_formatting.specs.Given.{name_field, nothing_given, number_or, uuid_of}
use Rattle.luks_formatting.specs.NewPlan.{key_digest}
use Rattle.luks_formatting.specs.RandomBytes.{digest_salt, slot_place2, slot_salt}
use Rattle.luks_formatting.specs.declared.given.Given.{Given}

-- the bytes of a copy, and of its JSON area behind the 4096 of the binary header
abbrev pub copy_size : ℕ
copy_size = 16384

abbrev pub json_size : ℕ
json_size = 12288

-- the binary header of the copy at the place `o`: with the label and subsystem that are given, the first of
-- its sequence; what its checksum is made of is a matter of the whole copy
pub record IsNewCopy (given : Given) (random salt : List ℕ) (o : ℕ) (header : Bin2) : Type 0 where
  pub magic : header.magic ≡ magic_of o
  pub version : header.version ≡ 2
  pub hdr_size : header.hdr_size ≡ copy_size
  pub seqid : header.seqid ≡ 1
  pub label : header.label ≡ name_field given.label
  pub csum_alg : header.csum_alg ≡ codes "sha256" ++ replicate 26 0
  pub own_salt : header.salt ≡ salt
  pub uuid : header.uuid ≡ uuid_of given random ++ replicate 4 0
  pub subsystem : header.subsystem ≡ name_field given.subsystem
  pub hdr_offset : header.hdr_offset ≡ o
  pub csum_rest : drop sha256_size header.csum ≡ replicate sha256_size 0

-- the texts that are given fit their fields
pub record AreTexts2 (given : Given) : Type 0 where
  pub uuid : IfSome given.uuid (λ text. length text.now ≡ 36)
  pub label : IfSome given.label (λ text. length text.now ≤ 47)
  pub subsystem : IfSome given.subsystem (λ text. length text.now ≤ 47)

-- where the segment begins if nothing is given, in sectors of 512 bytes: behind the key areas' region at 16
-- MiB, or on another device at its start
abbrev pub own_segment : Data → ℕ
own_segment Here = 32768
own_segment Elsewhere = 0

abbrev pub segment_sector : Given → ℕ
segment_sector given = number_or given.sector (own_segment given.payload)

-- the same in bytes
abbrev pub segment_start : Given → ℕ
segment_start given = 512 * segment_sector given

-- what the metadata says; the digest has the hash's length
abbrev pub new_members : Given → Format → List ℕ → VolumeMembers
new_members given format random = record {
  hash = name_of format.hash;
  iterations = format.iterations;
  segment_offset = segment_start given;
  digest_salt = digest_salt given.key_bytes random;
  digest = key_digest given format random (digest_size_of format.hash);
  slot_salt = slot_salt (slot_place2 given.key_bytes) random;
  encryption = cipher_text given.cipher;
  sector_size = given.sector_size;
}

-- keyslot 0, which holds the key of k bytes, by this derivation
abbrev pub first_slot_by : ℕ → Deriving → VolumeMembers → SlotMembers
first_slot_by k d v = record (first_slot v) { key_size = k; size = block_bytes k; area_key_size = k; derivation = d }

-- the metadata, whose keyslot 0 has such a key and this derivation (LUKS2 On-Disk Format 1.1, 3)
abbrev pub formatted_by : ℕ → Deriving → VolumeMembers → Value
formatted_by k d v = object (
    member (codes "config") config_value (
    member (codes "digests") (sole (digest_value v)) (
    member (codes "keyslots") (sole (slot_value (first_slot_by k d v))) (
    member (codes "segments") (sole (segment_value v)) (
    member (codes "tokens") (object no_members) no_members)))))

-- by the derivation that is chosen
abbrev pub new_metadata : Given → Format → Option NewDerivation → List ℕ → Value
new_metadata given format chosen random = formatted_by given.key_bytes (slot_derivation format chosen) (new_members given format random)

-- the area of keyslot 0 with a key of k bytes, of which the sectors of its stripes are used, and its cipher
abbrev pub area2 : ℕ → Area
area2 k = record { start = 32768; len = block_bytes k }

abbrev pub IsNewCipher2 : NewCipher → AreaCipher → Type 0
IsNewCipher2 cipher (Apart name mode) = ⊥
IsNewCipher2 cipher (Whole text) = text.now ≡ cipher_text cipher

-- what the metadata says has the ranges of its types, and the digest its length
pub record FitsMetadataAs (given : Given) (format : Format) (chosen : Option NewDerivation) (random : List ℕ) : Type 0 where
  pub fits : FitsVolume (new_members given format random)
  pub digest_length : length (key_digest given format random (digest_size_of format.hash))
      ≡ digest_size_of format.hash
  pub derivation : FitsDerivation (slot_derivation format chosen)

-- of a volume of which nothing is given
abbrev pub FitsMetadataBy : Data → Format → Option NewDerivation → List ℕ → Type 0
FitsMetadataBy payload = FitsMetadataAs (nothing_given payload)

abbrev pub FitsMetadata : Data → Format → List ℕ → Type 0
FitsMetadata payload format = FitsMetadataBy payload format None
