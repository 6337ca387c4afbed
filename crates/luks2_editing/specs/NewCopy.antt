-- A copy of the LUKS2 header that takes the place of an older one, by the fields of the old one's
-- binary header (LUKS2 On-Disk Format 1.1, 2.1).
use Rattle.std.specs.Prelude.{◌≡◌, ◌≢◌, ℕ, ◌+◌, ◌++◌, List, codes, drop, replicate}
use Rattle.luks2_header.specs.Header2.{magic_of, sha256_size}
use Rattle.luks2_header.specs.Sizes.{IsListed}
use Rattle.luks2_header.specs.Written.{IsWrittenCopy}
use Rattle.luks2_header.specs.declared.bin2.Bin2.{Bin2}
use Rattle.luks_writing.specs.Copy.{IsSummed}
use Rattle.luks2_judging.specs.declared.judged.TextFields.{TextFields}

-- `new` is the binary header of the copy at the place `o` that takes the place of the copy of `old`,
-- with these texts and this salt; what its checksum is made of is a matter of the whole copy
pub record IsNewHeader (old : Bin2) (o : ℕ) (texts : TextFields) (salt : List ℕ) (new : Bin2) : Type 0 where
  pub magic : new.magic ≡ magic_of o
  pub version : new.version ≡ 2
  pub hdr_size : new.hdr_size ≡ old.hdr_size
  pub seqid : new.seqid ≡ old.seqid + 1
  pub own_label : new.label ≡ texts.label
  pub csum_alg : new.csum_alg ≡ codes "sha256" ++ replicate 26 0
  pub own_salt : new.salt ≡ salt
  pub own_uuid : new.uuid ≡ texts.uuid
  pub own_subsystem : new.subsystem ≡ texts.subsystem
  pub hdr_offset : new.hdr_offset ≡ o
  pub csum_rest : drop sha256_size new.csum ≡ replicate sha256_size 0

-- `s` is that header with the checksum of the copy that it makes with the JSON area `json`
pub record IsNewSummed (old : Bin2) (o : ℕ) (texts : TextFields) (salt json : List ℕ) (s : Bin2) : Type 0 where
  pub header : Bin2
  pub fields : IsNewHeader old o texts salt header
  pub summed : IsSummed header json s

-- the volume `w` has at the place `o` the copy that takes the place of that of `old`, with these
-- texts, this salt and JSON area
pub record HasNewCopy (old : Bin2) (texts : TextFields) (salt json w : List ℕ) (o : ℕ) : Type 0 where
  pub header : Bin2
  pub fields : IsNewHeader old o texts salt header
  pub written : IsWrittenCopy w o header json

-- a copy with the header's size may be at the place `o`
pub record IsCopyPlace (old : Bin2) (o : ℕ) : Type 0 where
  pub listed : IsListed old.hdr_size
  pub second : o ≢ 0 → old.hdr_size ≡ o
