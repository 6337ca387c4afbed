-- A binary header whose fields were put into their places.
use Rattle.std.proofs.Common.{◌≡◌, ℕ, ◌+◌, ◌^◌, ◌<◌, List, length, lit≤}
use Rattle.byteorder.specs.Endian.{big_bytes}
use Rattle.byteorder.specs.Numbers.{length-bytes_high_first}
use Rattle.luks_area.specs.Ranges.{part, written, SameBut}
use Rattle.luks_area.proofs.RangeFacts.{same_but-same}
use Rattle.luks1_header.proofs.PutFacts.{IsFilled, IsFrom, bytes_join, number_is_bytes, number_stands, put_keeps, put_leaves, put_next, put_stands}
use Rattle.luks2_header.specs.Written.{WritesBin2}
use Rattle.luks2_header.specs.declared.bin2.Bin2.{Bin2}

-- each field of bytes has its length
pub record HasLengths (h : Bin2) : Type 0 where
  pub magic : length h.magic ≡ 6
  pub label : length h.label ≡ 48
  pub csum_alg : length h.csum_alg ≡ 32
  pub salt : length h.salt ≡ 64
  pub uuid : length h.uuid ≡ 40
  pub subsystem : length h.subsystem ≡ 48
  pub csum : length h.csum ≡ 64

-- the binary header after its eleven fields were put
pub header_written : (h : Bin2) (v0 v1 v2 v3 v4 v5 v6 v7 v8 v9 v10 v11 : List ℕ) → HasLengths h → IsFilled v0 4096 0
    → v1 ≡ written v0 0 h.magic → v2 ≡ written v1 6 (big_bytes 2 h.version) → v3 ≡ written v2 8 (big_bytes 8 h.hdr_size)
    → v4 ≡ written v3 16 (big_bytes 8 h.seqid) → v5 ≡ written v4 24 h.label → v6 ≡ written v5 72 h.csum_alg
    → v7 ≡ written v6 104 h.salt → v8 ≡ written v7 168 h.uuid → v9 ≡ written v8 208 h.subsystem
    → v10 ≡ written v9 256 (big_bytes 8 h.hdr_offset) → v11 ≡ written v10 448 h.csum
    → h.version < 256 ^ 2 → h.hdr_size < 256 ^ 8 → h.seqid < 256 ^ 8 → h.hdr_offset < 256 ^ 8 → WritesBin2 v11 h
header_written h v0 v1 v2 v3 v4 v5 v6 v7 v8 v9 v10 v11 l f0 e1 e2 e3 e4 e5 e6 e7 e8 e9 e10 e11 x2 x3 x4 x10 =
    let n2 = length-bytes_high_first 2 h.version in
    let n3 = length-bytes_high_first 8 h.hdr_size in
    let n4 = length-bytes_high_first 8 h.seqid in
    let n10 = length-bytes_high_first 8 h.hdr_offset in
    let f1 : IsFilled v1 4096 (0 + 6) = put_next v0 v1 (h.magic) 4096 0 0 6 f0 e1 l.magic (lit≤ tt) (lit≤ tt) in
    let f2 : IsFilled v2 4096 (6 + 2) = put_next v1 v2 (big_bytes 2 h.version) 4096 (0 + 6) 6 2 f1 e2 n2 (lit≤ tt) (lit≤ tt) in
    let f3 : IsFilled v3 4096 (8 + 8) = put_next v2 v3 (big_bytes 8 h.hdr_size) 4096 (6 + 2) 8 8 f2 e3 n3 (lit≤ tt) (lit≤ tt) in
    let f4 : IsFilled v4 4096 (16 + 8) = put_next v3 v4 (big_bytes 8 h.seqid) 4096 (8 + 8) 16 8 f3 e4 n4 (lit≤ tt) (lit≤ tt) in
    let f5 : IsFilled v5 4096 (24 + 48) = put_next v4 v5 (h.label) 4096 (16 + 8) 24 48 f4 e5 l.label (lit≤ tt) (lit≤ tt) in
    let f6 : IsFilled v6 4096 (72 + 32) = put_next v5 v6 (h.csum_alg) 4096 (24 + 48) 72 32 f5 e6 l.csum_alg (lit≤ tt) (lit≤ tt) in
    let f7 : IsFilled v7 4096 (104 + 64) = put_next v6 v7 (h.salt) 4096 (72 + 32) 104 64 f6 e7 l.salt (lit≤ tt) (lit≤ tt) in
    let f8 : IsFilled v8 4096 (168 + 40) = put_next v7 v8 (h.uuid) 4096 (104 + 64) 168 40 f7 e8 l.uuid (lit≤ tt) (lit≤ tt) in
    let f9 : IsFilled v9 4096 (208 + 48) = put_next v8 v9 (h.subsystem) 4096 (168 + 40) 208 48 f8 e9 l.subsystem (lit≤ tt) (lit≤ tt) in
    let f10 : IsFilled v10 4096 (256 + 8) = put_next v9 v10 (big_bytes 8 h.hdr_offset) 4096 (208 + 48) 256 8 f9 e10 n10 (lit≤ tt) (lit≤ tt) in
    let f11 : IsFilled v11 4096 (448 + 64) = put_next v10 v11 (h.csum) 4096 (256 + 8) 448 64 f10 e11 l.csum (lit≤ tt) (lit≤ tt) in
    let s11 : SameBut (IsFrom 512) v11 v11 = same_but-same (IsFrom 512) v11 in
    let p11 : part v11 448 64 ≡ h.csum = put_stands v10 v11 v11 (h.csum) 4096 448 64 512 f10.long e11 l.csum (lit≤ tt) (lit≤ tt) s11 in
    let s10 : SameBut (IsFrom 448) v10 v11 = put_keeps v10 v11 v11 (h.csum) 4096 448 64 512 f10.long e11 l.csum (lit≤ tt) (lit≤ tt) s11 in
    let p10 : part v11 256 8 ≡ big_bytes 8 h.hdr_offset = put_stands v9 v10 v11 (big_bytes 8 h.hdr_offset) 4096 256 8 448 f9.long e10 n10 (lit≤ tt) (lit≤ tt) s10 in
    let s9 : SameBut (IsFrom 256) v9 v11 = put_keeps v9 v10 v11 (big_bytes 8 h.hdr_offset) 4096 256 8 448 f9.long e10 n10 (lit≤ tt) (lit≤ tt) s10 in
    let p9 : part v11 208 48 ≡ h.subsystem = put_stands v8 v9 v11 (h.subsystem) 4096 208 48 256 f8.long e9 l.subsystem (lit≤ tt) (lit≤ tt) s9 in
    let s8 : SameBut (IsFrom 208) v8 v11 = put_keeps v8 v9 v11 (h.subsystem) 4096 208 48 256 f8.long e9 l.subsystem (lit≤ tt) (lit≤ tt) s9 in
    let p8 : part v11 168 40 ≡ h.uuid = put_stands v7 v8 v11 (h.uuid) 4096 168 40 208 f7.long e8 l.uuid (lit≤ tt) (lit≤ tt) s8 in
    let s7 : SameBut (IsFrom 168) v7 v11 = put_keeps v7 v8 v11 (h.uuid) 4096 168 40 208 f7.long e8 l.uuid (lit≤ tt) (lit≤ tt) s8 in
    let p7 : part v11 104 64 ≡ h.salt = put_stands v6 v7 v11 (h.salt) 4096 104 64 168 f6.long e7 l.salt (lit≤ tt) (lit≤ tt) s7 in
    let s6 : SameBut (IsFrom 104) v6 v11 = put_keeps v6 v7 v11 (h.salt) 4096 104 64 168 f6.long e7 l.salt (lit≤ tt) (lit≤ tt) s7 in
    let p6 : part v11 72 32 ≡ h.csum_alg = put_stands v5 v6 v11 (h.csum_alg) 4096 72 32 104 f5.long e6 l.csum_alg (lit≤ tt) (lit≤ tt) s6 in
    let s5 : SameBut (IsFrom 72) v5 v11 = put_keeps v5 v6 v11 (h.csum_alg) 4096 72 32 104 f5.long e6 l.csum_alg (lit≤ tt) (lit≤ tt) s6 in
    let p5 : part v11 24 48 ≡ h.label = put_stands v4 v5 v11 (h.label) 4096 24 48 72 f4.long e5 l.label (lit≤ tt) (lit≤ tt) s5 in
    let s4 : SameBut (IsFrom 24) v4 v11 = put_keeps v4 v5 v11 (h.label) 4096 24 48 72 f4.long e5 l.label (lit≤ tt) (lit≤ tt) s5 in
    let p4 : part v11 16 8 ≡ big_bytes 8 h.seqid = put_stands v3 v4 v11 (big_bytes 8 h.seqid) 4096 16 8 24 f3.long e4 n4 (lit≤ tt) (lit≤ tt) s4 in
    let s3 : SameBut (IsFrom 16) v3 v11 = put_keeps v3 v4 v11 (big_bytes 8 h.seqid) 4096 16 8 24 f3.long e4 n4 (lit≤ tt) (lit≤ tt) s4 in
    let p3 : part v11 8 8 ≡ big_bytes 8 h.hdr_size = put_stands v2 v3 v11 (big_bytes 8 h.hdr_size) 4096 8 8 16 f2.long e3 n3 (lit≤ tt) (lit≤ tt) s3 in
    let s2 : SameBut (IsFrom 8) v2 v11 = put_keeps v2 v3 v11 (big_bytes 8 h.hdr_size) 4096 8 8 16 f2.long e3 n3 (lit≤ tt) (lit≤ tt) s3 in
    let p2 : part v11 6 2 ≡ big_bytes 2 h.version = put_stands v1 v2 v11 (big_bytes 2 h.version) 4096 6 2 8 f1.long e2 n2 (lit≤ tt) (lit≤ tt) s2 in
    let s1 : SameBut (IsFrom 6) v1 v11 = put_keeps v1 v2 v11 (big_bytes 2 h.version) 4096 6 2 8 f1.long e2 n2 (lit≤ tt) (lit≤ tt) s2 in
    let p1 : part v11 0 6 ≡ h.magic = put_stands v0 v1 v11 (h.magic) 4096 0 6 6 f0.long e1 l.magic (lit≤ tt) (lit≤ tt) s1 in
    record {
      long = f11.long;
      fields = record {
        magic = p1;
        version = number_stands v11 6 2 h.version p2 x2;
        hdr_size = number_stands v11 8 8 h.hdr_size p3 x3;
        seqid = number_stands v11 16 8 h.seqid p4 x4;
        label = p5;
        csum_alg = p6;
        salt = p7;
        uuid = p8;
        subsystem = p9;
        hdr_offset = number_stands v11 256 8 h.hdr_offset p10 x10;
        csum = p11;
      };
      before_label = bytes_join v11 6 8 24 (number_is_bytes v11 6 2 h.version p2)
          (bytes_join v11 8 16 24 (number_is_bytes v11 8 8 h.hdr_size p3) (number_is_bytes v11 16 8 h.seqid p4));
      offset = number_is_bytes v11 256 8 h.hdr_offset p10;
      padding = put_leaves v10 v11 4096 264 448 f10 s10;
      tail = λ k past before. f11.blank k past;
    }
