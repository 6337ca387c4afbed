-- An entry whose fields were put into their places.
use Rattle.std.proofs.Common.{◌≡◌, ℕ, ◌+◌, ◌^◌, ◌<◌, List, length, lit≤, ◌∙◌}
use Rattle.byteorder.specs.Endian.{big_bytes}
use Rattle.byteorder.specs.Numbers.{length-bytes_high_first}
use Rattle.luks_area.specs.Ranges.{part, written, SameBut}
use Rattle.luks_area.proofs.RangeFacts.{same_but-same}
use Rattle.luks1_header.specs.Header1.{word_of}
use Rattle.luks1_header.specs.Written.{WritesEntry}
use Rattle.luks1_header.specs.declared.luks1.Luks1Slot.{Luks1Slot}
use Rattle.luks1_header.proofs.PutFacts.{IsFilled, IsFrom, bytes_join, number_is_bytes, number_stands, put_keeps, put_next, put_stands}

-- the entry of a key slot after its five fields were put
pub entry_written : (s : Luks1Slot) (v0 v1 v2 v3 v4 v5 : List ℕ) (word : ℕ) → IsFilled v0 48 0 → length s.salt ≡ 32 → word ≡ word_of s.state
    → v1 ≡ written v0 0 (big_bytes 4 word) → v2 ≡ written v1 4 (big_bytes 4 s.iterations) → v3 ≡ written v2 8 s.salt
    → v4 ≡ written v3 40 (big_bytes 4 s.key_material_offset) → v5 ≡ written v4 44 (big_bytes 4 s.stripes)
    → word < 256 ^ 4 → s.iterations < 256 ^ 4 → s.key_material_offset < 256 ^ 4 → s.stripes < 256 ^ 4 → WritesEntry v5 s
entry_written s v0 v1 v2 v3 v4 v5 word f0 salt state e1 e2 e3 e4 e5 x1 x2 x4 x5 =
    let n1 = length-bytes_high_first 4 word in
    let n2 = length-bytes_high_first 4 s.iterations in
    let n4 = length-bytes_high_first 4 s.key_material_offset in
    let n5 = length-bytes_high_first 4 s.stripes in
    let f1 : IsFilled v1 48 (0 + 4) = put_next v0 v1 (big_bytes 4 word) 48 0 0 4 f0 e1 n1 (lit≤ tt) (lit≤ tt) in
    let f2 : IsFilled v2 48 (4 + 4) = put_next v1 v2 (big_bytes 4 s.iterations) 48 (0 + 4) 4 4 f1 e2 n2 (lit≤ tt) (lit≤ tt) in
    let f3 : IsFilled v3 48 (8 + 32) = put_next v2 v3 (s.salt) 48 (4 + 4) 8 32 f2 e3 salt (lit≤ tt) (lit≤ tt) in
    let f4 : IsFilled v4 48 (40 + 4) = put_next v3 v4 (big_bytes 4 s.key_material_offset) 48 (8 + 32) 40 4 f3 e4 n4 (lit≤ tt) (lit≤ tt) in
    let f5 : IsFilled v5 48 (44 + 4) = put_next v4 v5 (big_bytes 4 s.stripes) 48 (40 + 4) 44 4 f4 e5 n5 (lit≤ tt) (lit≤ tt) in
    let s5 : SameBut (IsFrom 48) v5 v5 = same_but-same (IsFrom 48) v5 in
    let p5 : part v5 44 4 ≡ big_bytes 4 s.stripes = put_stands v4 v5 v5 (big_bytes 4 s.stripes) 48 44 4 48 f4.long e5 n5 (lit≤ tt) (lit≤ tt) s5 in
    let s4 : SameBut (IsFrom 44) v4 v5 = put_keeps v4 v5 v5 (big_bytes 4 s.stripes) 48 44 4 48 f4.long e5 n5 (lit≤ tt) (lit≤ tt) s5 in
    let p4 : part v5 40 4 ≡ big_bytes 4 s.key_material_offset = put_stands v3 v4 v5 (big_bytes 4 s.key_material_offset) 48 40 4 44 f3.long e4 n4 (lit≤ tt) (lit≤ tt) s4 in
    let s3 : SameBut (IsFrom 40) v3 v5 = put_keeps v3 v4 v5 (big_bytes 4 s.key_material_offset) 48 40 4 44 f3.long e4 n4 (lit≤ tt) (lit≤ tt) s4 in
    let p3 : part v5 8 32 ≡ s.salt = put_stands v2 v3 v5 (s.salt) 48 8 32 40 f2.long e3 salt (lit≤ tt) (lit≤ tt) s3 in
    let s2 : SameBut (IsFrom 8) v2 v5 = put_keeps v2 v3 v5 (s.salt) 48 8 32 40 f2.long e3 salt (lit≤ tt) (lit≤ tt) s3 in
    let p2 : part v5 4 4 ≡ big_bytes 4 s.iterations = put_stands v1 v2 v5 (big_bytes 4 s.iterations) 48 4 4 8 f1.long e2 n2 (lit≤ tt) (lit≤ tt) s2 in
    let s1 : SameBut (IsFrom 4) v1 v5 = put_keeps v1 v2 v5 (big_bytes 4 s.iterations) 48 4 4 8 f1.long e2 n2 (lit≤ tt) (lit≤ tt) s2 in
    let p1 : part v5 0 4 ≡ big_bytes 4 word = put_stands v0 v1 v5 (big_bytes 4 word) 48 0 4 4 f0.long e1 n1 (lit≤ tt) (lit≤ tt) s1 in
    record {
      long = f5.long;
      fields = record {
        state = number_stands v5 0 4 word p1 x1 ∙ state;
        iterations = number_stands v5 4 4 s.iterations p2 x2;
        salt = p3;
        key_material_offset = number_stands v5 40 4 s.key_material_offset p4 x4;
        stripes = number_stands v5 44 4 s.stripes p5 x5;
      };
      before_salt = bytes_join v5 0 4 8 (number_is_bytes v5 0 4 word p1) (number_is_bytes v5 4 4 s.iterations p2);
      after_salt = bytes_join v5 40 44 48 (number_is_bytes v5 40 4 s.key_material_offset p4) (number_is_bytes v5 44 4 s.stripes p5);
    }
