-- What a LUKS1 header says of the metadata that is made from it (LUKS1 On-Disk Format 1.2.3, "The
-- partition header"): `h` is the header's 592 bytes.
use Rattle.std.specs.Prelude.{◌≡◌, ℕ, ◌*◌, ◌≤◌, List, ◌++◌, Bool, ◌&&◌, ◌==◌, nat_lt, codes, length, Option, Some, None, if◌then◌else◌}
use Rattle.base64.specs.GeneralPurpose.{IsBytes}
use Rattle.luks_area.specs.Sectors.{rounded_to_sectors}
use Rattle.luks1_header.specs.Bytes.{text_at}
use Rattle.luks1_header.specs.Header1.{active_word, enabled_word, entry, entry_iterations, entry_key_material_offset, entry_salt, entry_stripes, key_bytes_of, luks1_size, mk_digest_iterations_of, mk_digest_of, mk_digest_salt_of, payload_offset_of, IsLuks1}
use Rattle.luks1_header.specs.declared.luks1.Luks1.{Luks1}
use Rattle.luks_making.specs.Converted.{SourceMembers, SourceSlotMembers, area_start}

-- the keyslot `n` is in use
abbrev pub is_enabled : List ℕ → ℕ → Bool
is_enabled h n = nat_lt n 8 && (active_word (entry h n) == enabled_word)

-- what its entry says
abbrev pub slot_members : List ℕ → SourceSlotMembers
slot_members e = record { iterations = entry_iterations e; salt = entry_salt e; stripes = entry_stripes e }

abbrev pub enabled_slot : List ℕ → ℕ → Option SourceSlotMembers
enabled_slot h n = if is_enabled h n then Some (slot_members (entry h n)) else None

-- the cipher's name, a hyphen and its mode
abbrev pub encryption_of : List ℕ → List ℕ
encryption_of h = text_at h 8 32 ++ codes "-" ++ text_at h 40 32

-- what the whole header says; the payload's place is in bytes
abbrev pub header_members : List ℕ → SourceMembers
header_members h = record {
  hash = text_at h 72 32;
  encryption = encryption_of h;
  key_bytes = key_bytes_of h;
  digest_iterations = mk_digest_iterations_of h;
  digest_salt = mk_digest_salt_of h;
  digest = mk_digest_of h;
  payload_offset = payload_offset_of h * 512;
  slot = enabled_slot h;
}

-- the area of the keyslot `n`: where it begins, and its bytes, in whole sectors
abbrev pub source_start : List ℕ → ℕ → ℕ
source_start h n = entry_key_material_offset (entry h n) * 512

abbrev pub source_size : List ℕ → ℕ → ℕ
source_size h n = rounded_to_sectors (key_bytes_of h * entry_stripes (entry h n))

-- the new areas end where those of a new volume may end
abbrev pub HasRoom : List ℕ → Type 0
HasRoom h = area_start (header_members h) 8 ≤ 16777216

-- `h` are the bytes of a LUKS1 header that can be converted
pub record IsSource (h : List ℕ) : Type 0 where
  pub are_bytes : IsBytes h
  pub long : length h ≡ luks1_size
  pub fields : (d : Luks1) × IsLuks1 h d
  pub room : HasRoom h
