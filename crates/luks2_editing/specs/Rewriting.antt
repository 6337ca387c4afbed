-- Writing both copies of a LUKS2 header anew, from the one that counts.
use Rattle.std.specs.Prelude.{◌≡◌, ◌≢◌, ℕ, ◌-◌, ◌⊎◌, List, Option}
use Rattle.serde_json.specs.Data.{Data as Value}
use Rattle.luks_area.specs.Ranges.{IsAt, SameBut}
use Rattle.luks2_header.specs.Header2.{binary_header_size, hdr_size, header_at, uuid_field, HoldsBin2}
use Rattle.luks2_header.specs.Sizes.{IsListed}
use Rattle.luks2_header.specs.declared.bin2.Bin2.{Bin2}
use Rattle.luks_making.specs.WrittenArea.{IsWrittenArea}
use Rattle.luks_edit.specs.declared.edit.Edit.{Edit}
use Rattle.luks_edit.specs.declared.new_uuid.NewUuid.{NewUuid}
use Rattle.luks_edit.specs.NewUuids.{uuid_field_after}
use Rattle.luks2_edit_laws.specs.Copies.{label_after, label_field, other_place, subsystem_after, subsystem_field, uuid_after, uuid_random, IsWrittenAnew}
use Rattle.luks2_edit_laws.specs.Places.{IsOfCopies}
use Rattle.luks2_judging.specs.declared.judged.TextFields.{TextFields}

-- the texts with the uuid that is given, if one is, by the random bytes of the edit
abbrev pub with_uuid : Option NewUuid → List ℕ → TextFields → TextFields
with_uuid given random t = record { uuid = uuid_field_after given (uuid_random random) t.uuid; label = t.label; subsystem = t.subsystem }

-- `old` is the binary header of a copy of the volume `v`, `texts` its texts after the edit, and `json`
-- the JSON area with the metadata `j`
pub record IsRewriting (v : List ℕ) (e : Edit) (random : List ℕ) (old : Bin2) (texts : TextFields) (j : Value) (json : List ℕ) : Type 0 where
  pub header : HoldsBin2 (header_at v old.hdr_offset) old
  pub listed : IsListed old.hdr_size
  pub second : old.hdr_offset ≢ 0 → old.hdr_size ≡ old.hdr_offset
  pub uuid_is : texts.uuid ≡ uuid_after e random (uuid_field (header_at v old.hdr_offset))
  pub label_is : texts.label ≡ label_after e (label_field (header_at v old.hdr_offset))
  pub subsystem_is : texts.subsystem ≡ subsystem_after e (subsystem_field (header_at v old.hdr_offset))
  pub area : IsWrittenArea (old.hdr_size - binary_header_size) j json

-- the same of every JSON area with `len` bytes
pub record IsRenewing (v : List ℕ) (e : Edit) (random : List ℕ) (old : Bin2) (texts : TextFields) (len : ℕ) : Type 0 where
  pub header : HoldsBin2 (header_at v old.hdr_offset) old
  pub listed : IsListed old.hdr_size
  pub second : old.hdr_offset ≢ 0 → old.hdr_size ≡ old.hdr_offset
  pub uuid_is : texts.uuid ≡ uuid_after e random (uuid_field (header_at v old.hdr_offset))
  pub label_is : texts.label ≡ label_after e (label_field (header_at v old.hdr_offset))
  pub subsystem_is : texts.subsystem ≡ subsystem_after e (subsystem_field (header_at v old.hdr_offset))
  pub len_is : len ≡ old.hdr_size - binary_header_size

-- both copies of the volume `w` take the place of the copy at `o` of `v`
pub record AreWrittenAnew (v : List ℕ) (o : ℕ) (e : Edit) (random : List ℕ) (j : Value) (w : List ℕ) : Type 0 where
  pub first : IsWrittenAnew v o e random j w 0
  pub second : IsWrittenAnew v o e random j w (hdr_size (header_at v o))

-- the copy that doesn't are at the place `o` is written anew, and of `u` no byte beside the copies changed
pub record IsOtherWritten (v : List ℕ) (o : ℕ) (e : Edit) (random : List ℕ) (j : Value) (u w : List ℕ) : Type 0 where
  pub other : IsWrittenAnew v o e random j w (other_place (hdr_size (header_at v o)) o)
  pub rest : SameBut (IsOfCopies (hdr_size (header_at v o))) u w

-- what writing the other copy and then the one at the place `o` may leave of the volume `u`: the
-- copy at the place `o` as it was, or the other one written
abbrev pub MayBeHalfWritten : List ℕ → ℕ → Edit → List ℕ → Value → List ℕ → List ℕ → Type 0
MayBeHalfWritten v o e random j u w =
    SameBut (IsAt (other_place (hdr_size (header_at v o)) o) (hdr_size (header_at v o))) u w
    ⊎ IsOtherWritten v o e random j u w
