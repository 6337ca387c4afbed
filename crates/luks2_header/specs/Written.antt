-- A copy of the LUKS2 header as it is written: each field in its place, and zeros in every byte that no field takes.
use Rattle.std.specs.Prelude.{◌≡◌, ◌≢◌, ℕ, ◌+◌, ◌≤◌, List, ◌++◌, length, take, replicate, codes}
use Rattle.sha2.specs.Sha256.{sha256}
use Rattle.luks_area.specs.Ranges.{part}
use Rattle.luks_area.specs.Text.{text_of}
use Rattle.luks1_header.specs.Written.{AreBytes, AreZeros}
use Rattle.luks2_header.specs.Header2.{binary_header_size, csum_at, csum_size, header_at, magic_of, sha256_size, with_zero_checksum, HoldsBin2}
use Rattle.luks2_header.specs.Sizes.{IsListed}
use Rattle.luks2_header.specs.declared.bin2.Bin2.{Bin2}

-- the 4096 bytes `b` are the binary header `h` as it is written: its numbers come before the label
-- and behind the subsystem; zeros follow them, from the place 264 on, and behind the checksum
pub record WritesBin2 (b : List ℕ) (h : Bin2) : Type 0 where
  pub long : length b ≡ binary_header_size
  pub fields : HoldsBin2 b h
  pub before_label : AreBytes b 6 24
  pub offset : AreBytes b 256 264
  pub padding : AreZeros b 264 csum_at
  pub tail : AreZeros b (csum_at + csum_size) binary_header_size

-- `new` is the binary header of the copy at the place `o` that takes the place of the copy of `old`:
-- its checksum isn't made yet
pub record IsRenewed (old : Bin2) (o number : ℕ) (random : List ℕ) (new : Bin2) : Type 0 where
  pub magic : new.magic ≡ magic_of o
  pub version : new.version ≡ 2
  pub hdr_size : new.hdr_size ≡ old.hdr_size
  pub seqid : new.seqid ≡ number
  pub label : new.label ≡ old.label
  pub csum_alg : new.csum_alg ≡ codes "sha256" ++ replicate 26 0
  pub salt : new.salt ≡ random
  pub uuid : new.uuid ≡ old.uuid
  pub subsystem : new.subsystem ≡ old.subsystem
  pub hdr_offset : new.hdr_offset ≡ o
  pub csum : new.csum ≡ replicate csum_size 0

-- the volume `v` has at the place `o` the copy with the binary header `h` and the JSON area `json`,
-- written with its checksum
pub record IsWrittenCopy (v : List ℕ) (o : ℕ) (h : Bin2) (json : List ℕ) : Type 0 where
  pub header : WritesBin2 (header_at v o) h
  pub area : part v (o + binary_header_size) (length json) ≡ json
  pub size : binary_header_size + length json ≡ h.hdr_size
  pub inside : o + h.hdr_size ≤ length v
  pub listed : IsListed h.hdr_size
  pub second : o ≢ 0 → h.hdr_size ≡ o
  pub magic : h.magic ≡ magic_of o
  pub version : h.version ≡ 2
  pub hdr_offset : h.hdr_offset ≡ o
  pub csum_alg : text_of h.csum_alg ≡ codes "sha256"
  pub csum : take sha256_size h.csum ≡ sha256 (with_zero_checksum (header_at v o ++ json))
