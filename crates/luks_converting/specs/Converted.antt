-- A detached LUKS2 header that was made from a LUKS1 volume (LUKS2 On-Disk Format 1.1, 2.1 and 3).
use Rattle.std.specs.Prelude.{◌≡◌, ℕ, ◌-◌, List, ◌++◌, codes, drop, replicate, true}
use Rattle.luks_area.specs.Ranges.{part, IsAt, IsOfEither, SameBut}
use Rattle.luks1_header.specs.Bytes.{text_at}
use Rattle.luks1_header.specs.Header1.{entry, luks1_size}
use Rattle.luks_writing.specs.MadeInOrder.{ClearsFirst, WritesInTurn}
use Rattle.luks2_header.specs.Header2.{magic_of, sha256_size}
use Rattle.luks2_header.specs.Written.{IsWrittenCopy}
use Rattle.luks2_header.specs.declared.bin2.Bin2.{Bin2}
use Rattle.luks_making.specs.Converted.{area_size, area_start, converted}
use Rattle.luks_making.specs.WrittenArea.{IsWrittenArea}
use Rattle.luks_converting.specs.Source.{header_members, is_enabled, slot_members, source_size, source_start}

-- the bytes of a copy, and of its JSON area behind the 4096 of the binary header
abbrev pub copy_size : ℕ
copy_size = 16384

abbrev pub json_size : ℕ
json_size = 12288

-- the random bytes: the salts of the first and the second copy
abbrev pub random_size : ℕ
random_size = 128

abbrev pub first_copy_salt : List ℕ → List ℕ
first_copy_salt random = part random 0 64

abbrev pub second_copy_salt : List ℕ → List ℕ
second_copy_salt random = part random 64 64

-- the text of the uuid of the LUKS1 header `h`
abbrev pub uuid_of : List ℕ → List ℕ
uuid_of h = text_at h 168 40

-- the binary header of the copy at the place `o`: with the source's uuid, without label and
-- subsystem, the first of its sequence; what its checksum is made of is a matter of the whole copy
pub record IsConvertedHeader (uuid salt : List ℕ) (o : ℕ) (header : Bin2) : Type 0 where
  pub magic : header.magic ≡ magic_of o
  pub version : header.version ≡ 2
  pub hdr_size : header.hdr_size ≡ copy_size
  pub seqid : header.seqid ≡ 1
  pub label : header.label ≡ replicate 48 0
  pub csum_alg : header.csum_alg ≡ codes "sha256" ++ replicate 26 0
  pub own_salt : header.salt ≡ salt
  pub own_uuid : header.uuid ≡ uuid ++ replicate 4 0
  pub subsystem : header.subsystem ≡ replicate 48 0
  pub hdr_offset : header.hdr_offset ≡ o
  pub csum_rest : drop sha256_size header.csum ≡ replicate sha256_size 0

-- the copy at the place `o` of the volume `w` is that of a converted volume, with this uuid, salt and
-- JSON area
pub record HasConvertedCopy (w uuid salt json : List ℕ) (o : ℕ) : Type 0 where
  pub header : Bin2
  pub fields : IsConvertedHeader uuid salt o header
  pub written : IsWrittenCopy w o header json

-- where the new area of the keyslot `n` begins, and its bytes
abbrev pub new_start : List ℕ → ℕ → ℕ
new_start h n = area_start (header_members h) n

abbrev pub new_size : List ℕ → ℕ → ℕ
new_size h n = area_size (header_members h) (slot_members (entry h n))

-- the new area of the keyslot `n` of the volume `v`, whose header is `h`: the bytes of its old area,
-- and zeros after them
abbrev pub HasCopiedArea : List ℕ → List ℕ → ℕ → List ℕ → Type 0
HasCopiedArea h v n w =
    part w (new_start h n) (new_size h n)
    ≡ part v (source_start h n) (source_size h n) ++ replicate (new_size h n - source_size h n) 0

-- so has each enabled keyslot of the LUKS1 volume `v`
abbrev pub HasCopiedAreas : List ℕ → List ℕ → Type 0
HasCopiedAreas v w = (n : ℕ) → is_enabled (part v 0 luks1_size) n ≡ true
    → HasCopiedArea (part v 0 luks1_size) v n w

-- the place is of the new area of the keyslot `n`, which is enabled
pub record IsOfArea (h : List ℕ) (n p : ℕ) : Type 0 where
  pub enabled : is_enabled h n ≡ true
  pub at : IsAt (new_start h n) (new_size h n) p

-- the place is of one of the new areas
pub record IsOfNewArea (h : List ℕ) (p : ℕ) : Type 0 where
  pub number : ℕ
  pub of_area : IsOfArea h number p

-- the place is of one of the copies, or of a new area
abbrev pub IsOfConverted : List ℕ → ℕ → Type 0
IsOfConverted h = IsOfEither (IsAt 0 32768) (IsOfNewArea h)

-- `new` begins with both copies of the header that is made from the LUKS1 volume `v` with these
-- random bytes, each enabled keyslot's area is copied, and all other bytes are those of `old`
pub record IsConverted (v random old new : List ℕ) : Type 0 where
  pub json : List ℕ
  pub metadata : IsWrittenArea json_size (converted (header_members (part v 0 luks1_size))) json
  pub first : HasConvertedCopy new (uuid_of (part v 0 luks1_size)) (first_copy_salt random) json 0
  pub second : HasConvertedCopy new (uuid_of (part v 0 luks1_size)) (second_copy_salt random) json copy_size
  pub areas : HasCopiedAreas v new
  pub rest : SameBut (IsOfConverted (part v 0 luks1_size)) old new

-- the second copy stands, and each enabled keyslot's area is copied
pub record HasAllButFirst (v random new : List ℕ) : Type 0 where
  pub json : List ℕ
  pub metadata : IsWrittenArea json_size (converted (header_members (part v 0 luks1_size))) json
  pub second : HasConvertedCopy new (uuid_of (part v 0 luks1_size)) (second_copy_salt random) json copy_size
  pub areas : HasCopiedAreas v new

-- what may be left at any time: the first sectors of both copies' places are cleared before all else, and
-- the first copy's stays so until all else is written
abbrev pub WritesFirstLast : List ℕ → List ℕ → List ℕ → List ℕ → Type 0
WritesFirstLast v random old new =
    ClearsFirst copy_size (HasCopiedAreas v new) (HasAllButFirst v random new) old new

-- what the steps behind the clearing may leave
abbrev pub WritesOverCleared : List ℕ → List ℕ → List ℕ → List ℕ → Type 0
WritesOverCleared v random old new =
    WritesInTurn copy_size (HasCopiedAreas v new) (HasAllButFirst v random new) old new
