-- What the metadata of a new volume says, read as it is of any other.
use Rattle.std.specs.Prelude.{◌≡◌, ◌≢◌, ℕ, codes, None, Some, option_and_then}
use Rattle.serde_json.specs.Data.{Data}
use Rattle.luks_rules.specs.declared.table.Section.TheVariants.{Digests, Keyslots, Segments, Tokens}
use Rattle.luks_rules.specs.declared.table.Outer.TheVariants as outer
use Rattle.luks_rules.specs.declared.table.Member.TheVariants as name
use Rattle.luks_rules.specs.Faults.{member_at, object_at, type_at}
use Rattle.luks_rules.specs.Reading.{bytes_in, decimal_in, dynamic, extent_of, is_sector_size, kept, number_in, number_of, text_of}
use Rattle.luks_rules.specs.Sizes.{keyslots_size}
use Rattle.luks_making.specs.Formatted.{VolumeMembers, digest_value, first_slot, segment_value}
use Rattle.luks_making.specs.Keyslots.{slot_value}
use Rattle.luks_making.specs.Naming.{IsDigestOf}
use Rattle.luks_making.specs.Unchanged.{SaysMembers}

-- the digest's members
pub record SaysDigest (v : VolumeMembers) (d : Data) : Type 0 where
  pub kind : type_at d outer.Top ≡ Some (codes "pbkdf2")
  pub hash : text_of (member_at d outer.Top name.Hash) ≡ Some v.hash
  pub iterations : number_in 1 4294967295 (member_at d outer.Top name.Iterations)
      ≡ Some v.iterations
  pub salt : bytes_in 1 128 (member_at d outer.Top name.Salt) ≡ Some v.digest_salt
  pub stored : bytes_in 20 64 (member_at d outer.Top name.Digest) ≡ Some v.digest

-- the segment's members
pub record SaysSegment (v : VolumeMembers) (d : Data) : Type 0 where
  pub kind : type_at d outer.Top ≡ Some (codes "crypt")
  pub encryption : text_of (member_at d outer.Top name.Encryption) ≡ Some v.encryption
  pub iv_tweak : decimal_in (member_at d outer.Top name.IvTweak) ≡ Some 0
  pub offset : decimal_in (member_at d outer.Top name.Offset) ≡ Some v.segment_offset
  pub sector_size : option_and_then (kept is_sector_size)
      (number_of (member_at d outer.Top name.SectorSize)) ≡ Some v.sector_size
  pub size : option_and_then extent_of (text_of (member_at d outer.Top name.Size)) ≡ Some dynamic

-- one keyslot, one digest that names it, one segment, no token
pub record SaysVolume (v : VolumeMembers) (j : Data) : Type 0 where
  pub keyslot : object_at j Keyslots 0 ≡ Some (slot_value (first_slot v))
  pub slot_says : SaysMembers (first_slot v) (slot_value (first_slot v))
  pub digest : object_at j Digests 0 ≡ Some (digest_value v)
  pub digest_says : SaysDigest v (digest_value v)
  pub names : IsDigestOf j 0 0
  pub segment : object_at j Segments 0 ≡ Some (segment_value v)
  pub segment_says : SaysSegment v (segment_value v)
  pub region : keyslots_size j ≡ Some 16744448
  pub no_keyslot : (n : ℕ) → n ≢ 0 → object_at j Keyslots n ≡ None
  pub no_digest : (n : ℕ) → n ≢ 0 → object_at j Digests n ≡ None
  pub no_segment : (n : ℕ) → n ≢ 0 → object_at j Segments n ≡ None
  pub no_token : (n : ℕ) → object_at j Tokens n ≡ None
