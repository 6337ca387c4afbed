-- A copy of the LUKS2 header, and when it is sound (LUKS2 On-Disk Format 1.1, 2.1).
use Rattle.std.specs.Prelude.{◌≡◌, ◌≢◌, ℕ, ◌+◌, ◌≤◌, ◌==◌, List, [], ◌∷◌, ◌++◌, length, take, drop, replicate, if◌then◌else◌, true, codes}
use Rattle.sha2.specs.Sha256.{sha256}
use Rattle.luks_area.specs.Ranges.{part}
use Rattle.luks_area.specs.Text.{text_of, is_plain}
use Rattle.luks1_header.specs.Bytes.{number_at, IsUuid}
use Rattle.luks1_header.specs.Header1.{luks_magic, version_of}
use Rattle.luks1_header.specs.declared.fault.HeadFault.{HeadFault}
use Rattle.luks1_header.specs.declared.fault.HeadFault.TheVariants as fault
use Rattle.luks1_header.specs.declared.fault.TextField.TheVariants as field
use Rattle.luks2_header.specs.Sizes.{IsListed}
use Rattle.luks2_header.specs.declared.bin2.Bin2.{Bin2}

-- `SKUL`, 0xBA, 0xBE
abbrev pub second_magic : List ℕ
second_magic = 0x53 ∷ 0x4B ∷ 0x55 ∷ 0x4C ∷ 0xBA ∷ 0xBE ∷ []

-- the magic of the copy at the place o: the first copy is at 0
abbrev pub magic_of : ℕ → List ℕ
magic_of o = if o == 0 then luks_magic else second_magic

-- the bytes of a binary header
abbrev pub binary_header_size : ℕ
binary_header_size = 4096

-- the binary header of the copy at the place o of the volume v: its first 4096 bytes
abbrev pub header_at : List ℕ → ℕ → List ℕ
header_at v o = part v o binary_header_size

-- fields of a binary header's 4096 bytes
abbrev pub hdr_size : List ℕ → ℕ
hdr_size b = number_at b 8 8

abbrev pub seqid : List ℕ → ℕ
seqid b = number_at b 16 8

abbrev pub csum_alg_field : List ℕ → List ℕ
csum_alg_field b = part b 72 32

abbrev pub uuid_field : List ℕ → List ℕ
uuid_field b = part b 168 40

abbrev pub hdr_offset : List ℕ → ℕ
hdr_offset b = number_at b 256 8

-- where the checksum stands, and in how many bytes; a SHA-256 takes the first 32 of them
abbrev pub csum_at : ℕ
csum_at = 448

abbrev pub csum_size : ℕ
csum_size = 64

abbrev pub sha256_size : ℕ
sha256_size = 32

-- the 4096 bytes `b` of a binary header say `h`
pub record HoldsBin2 (b : List ℕ) (h : Bin2) : Type 0 where
  pub magic : part b 0 6 ≡ h.magic
  pub version : version_of b ≡ h.version
  pub hdr_size : hdr_size b ≡ h.hdr_size
  pub seqid : seqid b ≡ h.seqid
  pub label : part b 24 48 ≡ h.label
  pub csum_alg : csum_alg_field b ≡ h.csum_alg
  pub salt : part b 104 64 ≡ h.salt
  pub uuid : uuid_field b ≡ h.uuid
  pub subsystem : part b 208 48 ≡ h.subsystem
  pub hdr_offset : hdr_offset b ≡ h.hdr_offset
  pub csum : part b csum_at csum_size ≡ h.csum

-- the binary header `b`, read at the place o of a volume of `total` bytes, is of the right form there
pub record IsFormed (b : List ℕ) (o total : ℕ) : Type 0 where
  pub magic : part b 0 6 ≡ magic_of o
  pub version : version_of b ≡ 2
  pub listed : IsListed (hdr_size b)
  pub second : o ≢ 0 → hdr_size b ≡ o
  pub offset : hdr_offset b ≡ o
  pub inside : o + hdr_size b ≤ total
  pub algorithm : text_of (csum_alg_field b) ≡ codes "sha256"

-- the bytes of a copy with the 64 bytes of its checksum taken as zeros
abbrev pub with_zero_checksum : List ℕ → List ℕ
with_zero_checksum copy = take csum_at copy ++ replicate csum_size 0 ++ drop (csum_at + csum_size) copy

-- the whole copy at the place o: the binary header and the JSON area
abbrev pub copy_at : List ℕ → ℕ → List ℕ
copy_at v o = part v o (hdr_size (header_at v o))

-- the copy at the place o of the volume v is sound: it is of the right form, and its checksum is the
-- SHA-256 of all its bytes, those of the checksum itself taken as zeros
pub record IsSound (v : List ℕ) (o : ℕ) : Type 0 where
  pub form : IsFormed (header_at v o) o (length v)
  pub checksum : part (header_at v o) csum_at sha256_size ≡ sha256 (with_zero_checksum (copy_at v o))

-- the copy of the binary header `h` has a listed size and lies inside a device of `total` bytes
pub record IsCopyWithin (total : ℕ) (h : Bin2) : Type 0 where
  pub listed : IsListed h.hdr_size
  pub inside : h.hdr_offset + h.hdr_size ≤ total

-- the uuid field holds the text of a uuid
pub record IsUuidField (field_ : List ℕ) : Type 0 where
  pub plain : is_plain (text_of field_) ≡ true
  pub uuid : IsUuid (text_of field_)

-- the faults of the uuid field of a binary header
abbrev pub IsUuidFault : List ℕ → HeadFault → Type 0
IsUuidFault field_ (fault.Text field.Uuid) = is_plain (text_of field_) ≡ true → ⊥
IsUuidFault field_ fault.Uuid = IsUuid (text_of field_) → ⊥
IsUuidFault field_ _ = ⊥
