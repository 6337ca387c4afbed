-- When a LUKS1 volume's header can be made into metadata that meets the rules, and what that says,
-- read as it is of any other.
use Rattle.std.specs.Prelude.{◌≡◌, ◌≢◌, ◌⊎◌, ℕ, ◌<◌, ◌≤◌, ◌^◌, List, [], ◌∷◌, length, map, codes, None, Some, is_some}
use Rattle.std.specs.List.{filter}
use Rattle.base64.specs.GeneralPurpose.{IsBytes}
use Rattle.serde_json.specs.Data.{Data}
use Rattle.serde_json.specs.Find.{get}
use Rattle.luks_json.specs.Number.{number_text}
use Rattle.luks_rules.specs.declared.table.Section.TheVariants.{Digests, Keyslots, Segments, Tokens}
use Rattle.luks_rules.specs.Faults.{object_at}
use Rattle.luks_rules.specs.Reading.{texts_of}
use Rattle.luks_rules.specs.Sizes.{keyslots_size}
use Rattle.luks_making.specs.Conditions.{Between}
use Rattle.luks_making.specs.Converted.{SourceMembers, SourceSlotMembers, area_start, converted_slot, region_size, volume_like}
use Rattle.luks_making.specs.Formatted.{segment_value}
use Rattle.luks_making.specs.Keyslots.{slot_value}
use Rattle.luks_making.specs.Naming.{IsDigestOf}
use Rattle.luks_making.specs.NewVolumes.{SaysDigest, SaysSegment}
use Rattle.luks_making.specs.Unchanged.{SaysMembers}

-- ---- what can be converted

-- bytes, so many of them
pub record IsBytesOf (n : ℕ) (bytes : List ℕ) : Type 0 where
  pub are_bytes : IsBytes bytes
  pub long : length bytes ≡ n

-- what an enabled keyslot says has the ranges of its types: 32 bits, 32 bytes
pub record FitsSourceSlot (s : SourceSlotMembers) : Type 0 where
  pub iterations : s.iterations < 2 ^ 32
  pub salt : IsBytesOf 32 s.salt
  pub stripes : s.stripes < 2 ^ 32

-- what the header says has the ranges of its types: 32 bits, 64 bits, 32 and 20 bytes
pub record FitsSource (v : SourceMembers) : Type 0 where
  pub digest_iterations : v.digest_iterations < 2 ^ 32
  pub digest_salt : IsBytesOf 32 v.digest_salt
  pub digest : IsBytesOf 20 v.digest
  pub payload_offset : v.payload_offset < 2 ^ 64
  pub slots : (n : ℕ) (s : SourceSlotMembers) → n < 8 → v.slot n ≡ Some s → FitsSourceSlot s

-- what an enabled keyslot of an accepted header says
pub record IsUsable (s : SourceSlotMembers) : Type 0 where
  pub iterations : 1 ≤ s.iterations
  pub stripes : 1 ≤ s.stripes

-- texts no longer than the fields of a LUKS1 header and a hyphen, a key of 1 to 128 bytes, iterations
-- and stripes, and new areas that end at 16 MiB at most
pub record CanConvert (v : SourceMembers) : Type 0 where
  pub hash : length v.hash ≤ 32
  pub encryption : length v.encryption ≤ 65
  pub key_bytes : Between 1 128 v.key_bytes
  pub digest_iterations : 1 ≤ v.digest_iterations
  pub slots : (n : ℕ) (s : SourceSlotMembers) → n < 8 → v.slot n ≡ Some s → IsUsable s
  pub room : area_start v 8 ≤ 16777216

-- ---- what the metadata says

-- the numbers of a LUKS1 header's keyslots
abbrev pub slot_numbers : List ℕ
slot_numbers = 0 ∷ 1 ∷ 2 ∷ 3 ∷ 4 ∷ 5 ∷ 6 ∷ 7 ∷ []

-- each enabled keyslot under its number and no other; one digest, which names them in the order of
-- their numbers; one segment; no token
pub record SaysSource (v : SourceMembers) (j : Data) : Type 0 where
  pub keyslot : (n : ℕ) (s : SourceSlotMembers) → n < 8 → v.slot n ≡ Some s
      → object_at j Keyslots n ≡ Some (slot_value (converted_slot v n s))
  pub slot_says : (n : ℕ) (s : SourceSlotMembers) → n < 8 → v.slot n ≡ Some s
      → SaysMembers (converted_slot v n s) (slot_value (converted_slot v n s))
  pub no_keyslot : (n : ℕ) → (8 ≤ n) ⊎ (v.slot n ≡ None) → object_at j Keyslots n ≡ None
  pub names : (n : ℕ) (s : SourceSlotMembers) → n < 8 → v.slot n ≡ Some s → IsDigestOf j n 0
  pub digest : Data
  pub digest_at : object_at j Digests 0 ≡ Some digest
  pub digest_says : SaysDigest (volume_like v) digest
  pub lists : texts_of (get (codes "keyslots") digest)
      ≡ Some (map number_text (filter (λ n. is_some (v.slot n)) slot_numbers))
  pub no_digest : (n : ℕ) → n ≢ 0 → object_at j Digests n ≡ None
  pub segment : object_at j Segments 0 ≡ Some (segment_value (volume_like v))
  pub segment_says : SaysSegment (volume_like v) (segment_value (volume_like v))
  pub no_segment : (n : ℕ) → n ≢ 0 → object_at j Segments n ≡ None
  pub no_token : (n : ℕ) → object_at j Tokens n ≡ None
  pub region : keyslots_size j ≡ Some (region_size v)
