-- A copy of the LUKS2 header of a new volume, as it is written.
use Rattle.std.proofs.Common.{◌≡◌, ℕ, ◌+◌, ◌⊎◌, List, length, inl, inr, refl, sym, ap, ◌∙◌, subst, Result, Ok, Err, OnOk}
use Rattle.luks_area.specs.Ranges.{part, IsAt, SameBut}
use Rattle.luks_area.specs.Text.{text_of}
use Rattle.luks2_header.specs.Header2.{magic_of}
use Rattle.luks2_header.specs.Written.{IsWrittenCopy}
use Rattle.luks2_header.specs.declared.bin2.Bin2.{Bin2}
use Rattle.luks_writing.specs.Copy.{HasCopy, IsCopyHeader}
use Rattle.luks_writing.proofs.CopyFacts.{copy_stays as written_stays}
use Rattle.luks_formatting.specs.Formatted2.{HasNewCopy}
use Rattle.luks_formatting.specs.declared.given.Given.{Given}
use Rattle.luks_formatting.specs.NewHeader2.{IsNewCopy}

module _ (given : Given) (random salt : List ℕ) (at : ℕ) (h : Bin2) (new : IsNewCopy given random salt at h) where
  -- its binary header is that of a copy at its place
  pub header_there : (at ≡ 0) ⊎ (at ≡ 16384) → IsCopyHeader h
  header_there place = record {
    magic = new.magic ∙ ap magic_of (sym new.hdr_offset);
    version = new.version;
    listed = rw new.hdr_size refl;
    second = λ other. elim place [ inl zero ↦ absurd (other (new.hdr_offset ∙ zero)) | inr there ↦ new.hdr_size ∙ sym there ∙ sym new.hdr_offset ];
    csum_alg = ap text_of new.csum_alg;
  }

  -- the copy that was written with it is that of the new volume
  has_new_copy : (w json : List ℕ) → HasCopy w json h → HasNewCopy w given random salt json at
  has_new_copy w json x = record {
    header = record h { csum = x.csum };
    fields = record {
      magic = new.magic;
      version = new.version;
      hdr_size = new.hdr_size;
      seqid = new.seqid;
      label = new.label;
      csum_alg = new.csum_alg;
      own_salt = new.own_salt;
      uuid = new.uuid;
      subsystem = new.subsystem;
      hdr_offset = new.hdr_offset;
      csum_rest = x.csum_rest;
    };
    written = subst (λ o. IsWrittenCopy w o (record h { csum = x.csum }) json) new.hdr_offset x.written;
  }

  pub new_copy : {A F : Type 0} (r : Result A F) (w json : List ℕ) → OnOk r (HasCopy w json h) → OnOk r (HasNewCopy w given random salt json at)
  new_copy (Ok x) w json there = has_new_copy w json there
  new_copy (Err f) w json there = tt

  -- it lies at its place
  pub of_new_copy : {u v : List ℕ} → SameBut (IsAt h.hdr_offset h.hdr_size) u v → SameBut (IsAt at 16384) u v
  of_new_copy {u} {v} same = subst (λ n. SameBut (IsAt at n) u v) new.hdr_size (subst (λ o. SameBut (IsAt o h.hdr_size) u v) new.hdr_offset same)

-- a copy stays where its bytes do
pub copy_stays : (v w : List ℕ) (given : Given) (random salt json : List ℕ) (at : ℕ) → length json ≡ 12288 → length w ≡ length v → part w at 4096 ≡ part v at 4096
    → part w (at + 4096) 12288 ≡ part v (at + 4096) 12288 → HasNewCopy v given random salt json at → HasNewCopy w given random salt json at
copy_stays v w given random salt json at rest long head area x = record {
  header = x.header;
  fields = x.fields;
  written = written_stays v w json at x.header long head (rw rest area) x.written;
}
