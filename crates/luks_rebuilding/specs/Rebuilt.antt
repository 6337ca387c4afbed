-- A detached LUKS2 header that was made out of metadata that is still whole in a volume (LUKS2
-- On-Disk Format 1.1, 2.1 and 3).
use Rattle.std.specs.Prelude.{◌≡◌, ℕ, ◌*◌, ◌==◌, ◌⊎◌, List, ◌++◌, codes, drop, replicate, if◌then◌else◌, Option, Some, None}
use Rattle.luks_area.specs.Ranges.{part, IsAt, IsOfEither, SameBut}
use Rattle.luks_area.specs.Text.{text_of}
use Rattle.luks_writing.specs.MadeInOrder.{ClearsFirst}
use Rattle.luks2_header.specs.Header2.{header_at, magic_of, sha256_size, uuid_field, IsUuidField}
use Rattle.luks2_header.specs.Written.{IsWrittenCopy}
use Rattle.luks2_header.specs.declared.bin2.Bin2.{Bin2}
use Rattle.luks2_header.specs.NewUuid.{uuid_text}
use Rattle.luks_rebuilding.specs.Candidates.{OfTaken, Source}
use Rattle.luks_rebuilding.specs.KeyAreas.{HasKeyAreas, IsOfKeyArea}
use Rattle.luks_rebuilding.specs.declared.place.Which.{Which}

-- the random bytes: the salts of the first and the second copy, and those of a new uuid
abbrev pub random_size : ℕ
random_size = 144

abbrev pub first_copy_salt : List ℕ → List ℕ
first_copy_salt random = part random 0 64

abbrev pub second_copy_salt : List ℕ → List ℕ
second_copy_salt random = part random 64 64

abbrev pub uuid_bytes : List ℕ → List ℕ
uuid_bytes random = part random 128 16

-- ---- the uuid

-- where the other copy stands of a header of `size` bytes of which one is at `at`
abbrev pub other_at : ℕ → ℕ → ℕ
other_at size at = if at == 0 then size else 0

-- the field of the binary header at `o` holds this uuid
pub record KeepsUuid (v : List ℕ) (o : ℕ) (uuid : List ℕ) : Type 0 where
  pub there : IsUuidField (uuid_field (header_at v o))
  pub is : uuid ≡ text_of (uuid_field (header_at v o))

-- it holds none
abbrev pub LacksUuid : List ℕ → ℕ → Type 0
LacksUuid v o = IsUuidField (uuid_field (header_at v o)) → ⊥

-- the uuid that is given; else that of the binary header of the copy at `at`, else that of the other
-- copy's, else a new one
abbrev pub IsUuidOf : List ℕ → ℕ → ℕ → Option (List ℕ) → List ℕ → List ℕ → Type 0
IsUuidOf v size at (Some text) random uuid = uuid ≡ text
IsUuidOf v size at None random uuid =
    KeepsUuid v at uuid
    ⊎ (LacksUuid v at × (KeepsUuid v (other_at size at) uuid
    ⊎ (LacksUuid v (other_at size at) × (uuid ≡ uuid_text (uuid_bytes random)))))

-- ---- the copies of the header

-- the binary header of the copy at the place `o` of the header that is made of a source: with this uuid,
-- and the source's sequence number, label and subsystem; what its checksum is made of is a matter of the
-- whole copy
pub record IsRebuiltHeader (uuid salt : List ℕ) (source : Source) (o : ℕ) (header : Bin2) : Type 0 where
  pub magic : header.magic ≡ magic_of o
  pub version : header.version ≡ 2
  pub hdr_size : header.hdr_size ≡ source.size
  pub seqid : header.seqid ≡ source.seqid
  pub label : header.label ≡ source.label
  pub csum_alg : header.csum_alg ≡ codes "sha256" ++ replicate 26 0
  pub own_salt : header.salt ≡ salt
  pub own_uuid : header.uuid ≡ uuid ++ replicate 4 0
  pub subsystem : header.subsystem ≡ source.subsystem
  pub hdr_offset : header.hdr_offset ≡ o
  pub csum_rest : drop sha256_size header.csum ≡ replicate sha256_size 0

-- the volume `w` has at the place `o` such a copy, with the source's metadata
pub record HasRebuiltCopy (w uuid salt : List ℕ) (source : Source) (o : ℕ) : Type 0 where
  pub header : Bin2
  pub fields : IsRebuiltHeader uuid salt source o header
  pub written : IsWrittenCopy w o header source.json

-- ---- the whole

-- the byte place is of one of the copies, or of a key area
abbrev pub IsOfHeader : Source → ℕ → Type 0
IsOfHeader source = IsOfEither (IsAt 0 (2 * source.size)) (IsOfKeyArea source)

-- the byte place is of the candidate that is taken
abbrev pub IsOfRebuilt : List ℕ → Which → ℕ → Type 0
IsOfRebuilt v which p = OfTaken v which (λ source. IsOfHeader source p)

-- `new` begins with both copies of the header that is made of the metadata that is taken of the volume
-- `v`, each key area has the bytes that it has in `v`, and all other bytes are those of `old`
pub record IsMade (v : List ℕ) (given : Option (List ℕ)) (random old new : List ℕ) (source : Source) : Type 0 where
  pub uuid : List ℕ
  pub own_uuid : IsUuidOf v source.size source.at given random uuid
  pub first : HasRebuiltCopy new uuid (first_copy_salt random) source 0
  pub second : HasRebuiltCopy new uuid (second_copy_salt random) source source.size
  pub areas : HasKeyAreas v source new
  pub rest : SameBut (IsOfHeader source) old new

-- it is made of the first candidate
abbrev pub IsRebuilt : List ℕ → Which → Option (List ℕ) → List ℕ → List ℕ → List ℕ → Type 0
IsRebuilt v which given random old new = OfTaken v which (IsMade v given random old new)

-- the second copy stands, and each key area
pub record HasAllButFirst (v : List ℕ) (given : Option (List ℕ)) (random new : List ℕ) (source : Source) : Type 0 where
  pub uuid : List ℕ
  pub own_uuid : IsUuidOf v source.size source.at given random uuid
  pub second : HasRebuiltCopy new uuid (second_copy_salt random) source source.size
  pub areas : HasKeyAreas v source new

-- the first sectors of both copies' places are cleared before all else: the second copy's stays so until
-- the key areas stand, the first copy's until all else is written
abbrev pub FirstIsLast : List ℕ → Option (List ℕ) → List ℕ → List ℕ → List ℕ → Source → Type 0
FirstIsLast v given random old new source =
    ClearsFirst source.size (HasKeyAreas v source new) (HasAllButFirst v given random new source) old new

-- what may be left at any time: nothing has changed, or the candidate that is taken is written, its first sectors last
abbrev pub WritesFirstLast : List ℕ → Which → Option (List ℕ) → List ℕ → List ℕ → List ℕ → Type 0
WritesFirstLast v which given random old new =
    (new ≡ old) ⊎ OfTaken v which (FirstIsLast v given random old new)
