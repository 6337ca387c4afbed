-- A copy of the LUKS2 header that was written: a binary header, whose checksum is that of the copy,
-- and a JSON area (LUKS2 On-Disk Format 1.1, 2.1).
use Rattle.std.specs.Prelude.{◌≡◌, ◌≢◌, ◌++◌, ℕ, List, codes, drop, replicate}
use Rattle.sha2.specs.Sha256.{sha256}
use Rattle.luks_area.specs.Text.{text_of}
use Rattle.luks2_header.specs.Header2.{magic_of, sha256_size, with_zero_checksum}
use Rattle.luks2_header.specs.Sizes.{IsListed}
use Rattle.luks2_header.specs.Written.{IsWrittenCopy, WritesBin2}
use Rattle.luks2_header.specs.declared.bin2.Bin2.{Bin2}

-- the binary header may be that of a copy at the place that it names, whatever its checksum says
pub record IsCopyHeader (header : Bin2) : Type 0 where
  pub magic : header.magic ≡ magic_of header.hdr_offset
  pub version : header.version ≡ 2
  pub listed : IsListed header.hdr_size
  pub second : header.hdr_offset ≢ 0 → header.hdr_size ≡ header.hdr_offset
  pub csum_alg : text_of header.csum_alg ≡ codes "sha256"

-- the volume `v` has the copy with this JSON area and with the binary header except for its checksum,
-- which is that of the copy; zeros follow it in its field
pub record HasCopy (v json : List ℕ) (header : Bin2) : Type 0 where
  pub csum : List ℕ
  pub written : IsWrittenCopy v header.hdr_offset (record header { csum = csum }) json
  pub csum_rest : drop sha256_size csum ≡ replicate sha256_size 0

-- `s` is the binary header `h` with the checksum of the copy that it makes with this JSON area; zeros
-- follow it in its field
pub record IsSummed (h : Bin2) (json : List ℕ) (s : Bin2) : Type 0 where
  pub same : s ≡ record h { csum = s.csum }
  pub sum : (b : List ℕ) → WritesBin2 b s
      → s.csum ≡ sha256 (with_zero_checksum (b ++ json)) ++ replicate sha256_size 0
