-- A copy of the rebuilt header, as it is written.
use Rattle.std.proofs.Common.{◌≡◌, ℕ, ◌+◌, ◌⊎◌, ◌++◌, List, length, replicate, inl, inr, sym, ap, ◌∙◌, subst, Result, Ok, Err, OnOk}
use Rattle.luks_area.specs.Ranges.{part, IsAt, SameBut}
use Rattle.luks_area.specs.Text.{text_of}
use Rattle.luks2_header.specs.Header2.{magic_of}
use Rattle.luks2_header.specs.Sizes.{IsListed}
use Rattle.luks2_header.specs.Written.{IsWrittenCopy}
use Rattle.luks2_header.specs.declared.bin2.Bin2.{Bin2}
use Rattle.luks_writing.specs.Copy.{HasCopy, IsCopyHeader}
use Rattle.luks_writing.proofs.CopyFacts.{copy_stays as written_stays}
use Rattle.luks_rebuilding.specs.Candidates.{Source}
use Rattle.luks_rebuilding.specs.Rebuilt.{HasRebuiltCopy, IsRebuiltHeader}

module _ (uuid salt : List ℕ) (source : Source) (at : ℕ) (h : Bin2) (new : IsRebuiltHeader uuid salt source at h) where
  -- its binary header is that of a copy at its place
  header_there : IsListed source.size → (at ≡ 0) ⊎ (at ≡ source.size) → IsCopyHeader h
  header_there listed place = record {
    magic = new.magic ∙ ap magic_of (sym new.hdr_offset);
    version = new.version;
    listed = subst IsListed (sym new.hdr_size) listed;
    second = λ other. elim place [ inl zero ↦ absurd (other (new.hdr_offset ∙ zero)) | inr there ↦ new.hdr_size ∙ sym there ∙ sym new.hdr_offset ];
    csum_alg = ap text_of new.csum_alg;
  }

  -- the copy that was written with it is that of the rebuilt header
  has_copy : (w : List ℕ) → HasCopy w source.json h → HasRebuiltCopy w uuid salt source at
  has_copy w x = record {
    header = record h { csum = x.csum };
    fields = record {
      magic = new.magic;
      version = new.version;
      hdr_size = new.hdr_size;
      seqid = new.seqid;
      label = new.label;
      csum_alg = new.csum_alg;
      own_salt = new.own_salt;
      own_uuid = new.own_uuid;
      subsystem = new.subsystem;
      hdr_offset = new.hdr_offset;
      csum_rest = x.csum_rest;
    };
    written = subst (λ o. IsWrittenCopy w o (record h { csum = x.csum }) source.json) new.hdr_offset x.written;
  }

-- whatever text the field holds
module _ (field_ salt : List ℕ) (source : Source) (at : ℕ) (h : Bin2) (new : (uuid : List ℕ) → field_ ≡ uuid ++ replicate 4 0 → IsRebuiltHeader uuid salt source at h)
    (listed : IsListed source.size) (place : (at ≡ 0) ⊎ (at ≡ source.size)) (w : List ℕ) where
  copy_of : {A F : Type 0} (r : Result A F) (uuid : List ℕ) → field_ ≡ uuid ++ replicate 4 0 → (IsCopyHeader h → OnOk r (HasCopy w source.json h)) → OnOk r (HasRebuiltCopy w uuid salt source at)
  copy_of (Ok x) uuid e given = has_copy uuid salt source at h (new uuid e) w (given (header_there uuid salt source at h (new uuid e) listed place))
  copy_of (Err f) uuid e given = tt

  pub rebuilt_copy : {A F : Type 0} (r : Result A F) → (IsCopyHeader h → OnOk r (HasCopy w source.json h))
      → OnOk r ((uuid : List ℕ) → field_ ≡ uuid ++ replicate 4 0 → HasRebuiltCopy w uuid salt source at)
  rebuilt_copy {F = F} (Ok x) given = λ uuid e. copy_of {F = F} (Ok x) uuid e given
  rebuilt_copy (Err f) given = tt

-- it lies at its place
pub of_copy : {u v : List ℕ} (h : Bin2) (size at : ℕ) → h.hdr_size ≡ size → h.hdr_offset ≡ at → SameBut (IsAt h.hdr_offset h.hdr_size) u v → SameBut (IsAt at size) u v
of_copy {u} {v} h size at long there same = subst (λ n. SameBut (IsAt at n) u v) long (subst (λ o. SameBut (IsAt o h.hdr_size) u v) there same)

-- a copy stays where its bytes do
pub copy_stays : (v w uuid salt : List ℕ) (source : Source) (at : ℕ) → length w ≡ length v → part w at 4096 ≡ part v at 4096
    → part w (at + 4096) (length source.json) ≡ part v (at + 4096) (length source.json) → HasRebuiltCopy v uuid salt source at → HasRebuiltCopy w uuid salt source at
copy_stays v w uuid salt source at long head area x = record {
  header = x.header;
  fields = x.fields;
  written = written_stays v w source.json at x.header long head area x.written;
}
