-- A copy of the LUKS2 header that takes the place of an older one (LUKS2 On-Disk Format 1.1, 2.1).
use Rattle.std.specs.Prelude.{◌≡◌, ℕ, ◌+◌, ◌-◌, ◌==◌, List, ◌++◌, length, take, drop, replicate, codes, if◌then◌else◌, Option, Some, None}
use Rattle.std.specs.Borrow.{Bor}
use Rattle.serde_json.specs.Data.{Data as Value}
use Rattle.luks_area.specs.Ranges.{part}
use Rattle.luks1_header.specs.Written.{AreZeros}
use Rattle.luks2_header.specs.Header2.{binary_header_size, csum_alg_field, csum_at, csum_size, hdr_size, header_at, seqid, sha256_size, uuid_field, IsSound}
use Rattle.luks_making.specs.WrittenArea.{IsWrittenArea}
use Rattle.luks_reading.specs.Header.{json_at}
use Rattle.luks_edit.specs.declared.edit.Edit.{Edit}
use Rattle.luks_edit.specs.Asked.{label_by, subsystem_by, uuid_by}
use Rattle.luks_edit.specs.NewUuids.{uuid_field_after}

-- fields of a binary header's 4096 bytes
abbrev pub label_field : List ℕ → List ℕ
label_field b = part b 24 48

abbrev pub salt_field : List ℕ → List ℕ
salt_field b = part b 104 64

abbrev pub subsystem_field : List ℕ → List ℕ
subsystem_field b = part b 208 48

-- ---- what an edit says of the copies

-- a text's field: a new text and zeros, or the one that was there
abbrev pub field_after : Option (Bor (List ℕ)) → List ℕ → List ℕ
field_after None field_ = field_
field_after (Some text) field_ = text.now ++ replicate (48 - length text.now) 0

-- that of the label, and that of the subsystem
abbrev pub label_after : Edit → List ℕ → List ℕ
label_after e field_ = field_after (label_by e) field_

abbrev pub subsystem_after : Edit → List ℕ → List ℕ
subsystem_after e field_ = field_after (subsystem_by e) field_

-- of the random bytes the first 64 are the salt of the copy at 0, the next 64 that of the other one
abbrev pub copy_salt : List ℕ → ℕ → List ℕ
copy_salt random q = if q == 0 then take 64 random else part random 64 64

-- those behind them are the uuid's, where it is random
abbrev pub uuid_random : List ℕ → List ℕ
uuid_random random = drop 128 random

-- the field of the uuid: one and the same in both copies
abbrev pub uuid_after : Edit → List ℕ → List ℕ → List ℕ
uuid_after e random field_ = uuid_field_after (uuid_by e) (uuid_random random) field_

-- ---- a copy that was written

-- the copy at the place `q` of the volume `w` is sound and takes the place of the copy at `o` of `v`,
-- with the edit's uuid, label and subsystem, a salt of the random bytes, and the metadata `j` in compact text;
-- the rest of its checksum's field may hold any bytes
pub record IsRenewed (v : List ℕ) (o : ℕ) (e : Edit) (random : List ℕ) (j : Value) (w : List ℕ) (q : ℕ) : Type 0 where
  pub sound : IsSound w q
  pub size : hdr_size (header_at w q) ≡ hdr_size (header_at v o)
  pub number : seqid (header_at w q) ≡ seqid (header_at v o) + 1
  pub label : label_field (header_at w q) ≡ label_after e (label_field (header_at v o))
  pub csum_alg : csum_alg_field (header_at w q) ≡ codes "sha256" ++ replicate 26 0
  pub salt : salt_field (header_at w q) ≡ copy_salt random q
  pub uuid : uuid_field (header_at w q) ≡ uuid_after e random (uuid_field (header_at v o))
  pub subsystem : subsystem_field (header_at w q) ≡ subsystem_after e (subsystem_field (header_at v o))
  pub padding : AreZeros (header_at w q) 264 csum_at
  pub tail : AreZeros (header_at w q) (csum_at + csum_size) binary_header_size
  pub json : IsWrittenArea (hdr_size (header_at v o) - binary_header_size) j (json_at w q)

-- the same with zeros in the rest of the checksum's field
pub record IsWrittenAnew (v : List ℕ) (o : ℕ) (e : Edit) (random : List ℕ) (j : Value) (w : List ℕ) (q : ℕ) : Type 0 where
  pub renewed : IsRenewed v o e random j w q
  pub csum_rest : AreZeros (header_at w q) (csum_at + sha256_size) (csum_at + csum_size)

-- where the copy stands that isn't the one at `o`, each of them having `h` bytes
abbrev pub other_place : ℕ → ℕ → ℕ
other_place h o = if o == 0 then h else 0
