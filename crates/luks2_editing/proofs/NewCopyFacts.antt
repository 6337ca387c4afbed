-- A copy of the LUKS2 header that takes the place of an older one, as it is written.
use Rattle.std.proofs.Common.{◌≡◌, ℕ, ◌+◌, ◌≤◌, List, length, arith, sym, ap, ◌∙◌, subst}
use Rattle.luks_area.specs.Ranges.{IsAt, SameBut}
use Rattle.luks_area.specs.Text.{text_of}
use Rattle.luks2_header.specs.Header2.{magic_of}
use Rattle.luks2_header.specs.Written.{IsWrittenCopy}
use Rattle.luks2_header.specs.declared.bin2.Bin2.{Bin2}
use Rattle.luks_writing.specs.Copy.{HasCopy, IsCopyHeader, IsSummed}
use Rattle.luks2_judging.specs.declared.judged.TextFields.{TextFields}
use Rattle.luks2_editing.specs.NewCopy.{HasNewCopy, IsCopyPlace, IsNewHeader, IsNewSummed}

module _ (old : Bin2) (at : ℕ) (texts : TextFields) (salt : List ℕ) (h : Bin2) (new : IsNewHeader old at texts salt h) where
  -- its binary header is that of a copy at its place
  header_there : IsCopyPlace old at → IsCopyHeader h
  header_there place = record {
    magic = new.magic ∙ ap magic_of (sym new.hdr_offset);
    version = new.version;
    listed = rw new.hdr_size place.listed;
    second = λ other. new.hdr_size ∙ place.second (λ zero. other (new.hdr_offset ∙ zero)) ∙ sym new.hdr_offset;
    csum_alg = ap text_of new.csum_alg;
  }

  -- the copy that was written with it takes the place of the older one
  has_new_copy : (w json : List ℕ) → HasCopy w json h → HasNewCopy old texts salt json w at
  has_new_copy w json x = record {
    header = record h { csum = x.csum };
    fields = record {
      magic = new.magic;
      version = new.version;
      hdr_size = new.hdr_size;
      seqid = new.seqid;
      own_label = new.own_label;
      csum_alg = new.csum_alg;
      own_salt = new.own_salt;
      own_uuid = new.own_uuid;
      own_subsystem = new.own_subsystem;
      hdr_offset = new.hdr_offset;
      csum_rest = x.csum_rest;
    };
    written = subst (λ o. IsWrittenCopy w o (record h { csum = x.csum }) json) new.hdr_offset x.written;
  }

-- the same of a header that has its checksum
module _ (old : Bin2) (at : ℕ) (texts : TextFields) (salt json : List ℕ) (s : Bin2) (new : IsNewSummed old at texts salt json s) where
  -- it has the size of the older copy, and names its place
  pub size_is : s.hdr_size ≡ old.hdr_size
  size_is = ap (λ x. x.hdr_size) new.summed.same ∙ new.fields.hdr_size

  pub place_is : s.hdr_offset ≡ at
  place_is = ap (λ x. x.hdr_offset) new.summed.same ∙ new.fields.hdr_offset

  -- the area behind it fills the copy
  pub area_fits : 4096 + length json ≡ old.hdr_size → 4096 + length json ≡ s.hdr_size
  area_fits long = long ∙ sym size_is

  -- it lies inside where its place does
  pub inside : (total : ℕ) → at + old.hdr_size ≤ total → s.hdr_offset + s.hdr_size ≤ total
  inside total within =
      let size : s.hdr_size ≡ old.hdr_size = size_is in
      let place : s.hdr_offset ≡ at = place_is in
      omega (arith, within, size, place)

  -- the copy that was written with it takes the place of the older one
  pub new_copy : (w : List ℕ) → IsCopyPlace old at → ((h : Bin2) → IsCopyHeader h → IsSummed h json s → HasCopy w json h) → HasNewCopy old texts salt json w at
  new_copy w place there =
      has_new_copy old at texts salt new.header new.fields w json (there new.header (header_there old at texts salt new.header new.fields place) new.summed)

  -- it lies at its place
  pub of_new_copy : {u v : List ℕ} → SameBut (IsAt s.hdr_offset s.hdr_size) u v → SameBut (IsAt at old.hdr_size) u v
  of_new_copy {u} {v} same = subst (λ n. SameBut (IsAt at n) u v) size_is (subst (λ o. SameBut (IsAt o s.hdr_size) u v) place_is same)
