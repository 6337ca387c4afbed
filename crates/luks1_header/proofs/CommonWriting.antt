-- The fields before the key slots of a LUKS1 header, after they were put into their places.
use Rattle.std.proofs.Common.{◌≡◌, ℕ, ◌+◌, ◌^◌, ◌<◌, ◌≤◌, List, length, arith, refl}
use Rattle.byteorder.specs.Endian.{big_bytes}
use Rattle.byteorder.specs.Numbers.{length-bytes_high_first}
use Rattle.luks_area.specs.Ranges.{part, written, SameBut}
use Rattle.luks_area.proofs.RangeFacts.{same_but-same}
use Rattle.luks1_header.specs.Header1.{field_at, field_len, luks_magic}
use Rattle.luks1_header.specs.Written.{AreZeros, WritesCommon, common_text}
use Rattle.luks1_header.specs.declared.luks1.Luks1Common.{Luks1Common}
use Rattle.luks1_header.specs.declared.fault.TextField.TheVariants as field
use Rattle.luks1_header.proofs.PutFacts.{IsFilled, IsFrom, number_stands, put_keeps, put_leaves, put_next, put_stands, text_stands}

-- each text fits its field, and each field of bytes has its length
pub record HasRoom (c : Luks1Common) : Type 0 where
  pub cipher_name : length c.cipher_name.bytes ≤ 32
  pub cipher_mode : length c.cipher_mode.bytes ≤ 32
  pub hash_spec : length c.hash_spec.bytes ≤ 32
  pub mk_digest : length c.mk_digest ≡ 20
  pub mk_digest_salt : length c.mk_digest_salt ≡ 32
  pub uuid : length c.uuid.bytes ≤ 40

-- the fields before the key slots after all eleven were put
pub common_written : (c : Luks1Common) (v0 v1 v2 v3 v4 v5 v6 v7 v8 v9 v10 v11 : List ℕ) (size : ℕ) → 208 ≤ size → HasRoom c → IsFilled v0 size 0
    → v1 ≡ written v0 0 luks_magic → v2 ≡ written v1 6 (big_bytes 2 1) → v3 ≡ written v2 8 c.cipher_name.bytes
    → v4 ≡ written v3 40 c.cipher_mode.bytes → v5 ≡ written v4 72 c.hash_spec.bytes → v6 ≡ written v5 104 (big_bytes 4 c.payload_offset)
    → v7 ≡ written v6 108 (big_bytes 4 c.key_bytes) → v8 ≡ written v7 112 c.mk_digest → v9 ≡ written v8 132 c.mk_digest_salt
    → v10 ≡ written v9 164 (big_bytes 4 c.mk_digest_iterations) → v11 ≡ written v10 168 c.uuid.bytes
    → c.payload_offset < 256 ^ 4 → c.key_bytes < 256 ^ 4 → c.mk_digest_iterations < 256 ^ 4 → WritesCommon v11 c
common_written c v0 v1 v2 v3 v4 v5 v6 v7 v8 v9 v10 v11 size room r f0 e1 e2 e3 e4 e5 e6 e7 e8 e9 e10 e11 x6 x7 x10 =
    let t3 : length c.cipher_name.bytes ≤ 32 = r.cipher_name in
    let t4 : length c.cipher_mode.bytes ≤ 32 = r.cipher_mode in
    let t5 : length c.hash_spec.bytes ≤ 32 = r.hash_spec in
    let t11 : length c.uuid.bytes ≤ 40 = r.uuid in
    let l8 = r.mk_digest in
    let l9 = r.mk_digest_salt in
    let n2 = length-bytes_high_first 2 1 in
    let n6 = length-bytes_high_first 4 c.payload_offset in
    let n7 = length-bytes_high_first 4 c.key_bytes in
    let n10 = length-bytes_high_first 4 c.mk_digest_iterations in
    let f1 : IsFilled v1 size (0 + 6) = put_next v0 v1 (luks_magic) size 0 0 6 f0 e1 refl (omega (arith, room, t3, t4, t5, t11)) (omega (arith, room, t3, t4, t5, t11)) in
    let f2 : IsFilled v2 size (6 + 2) = put_next v1 v2 (big_bytes 2 1) size (0 + 6) 6 2 f1 e2 n2 (omega (arith, room, t3, t4, t5, t11)) (omega (arith, room, t3, t4, t5, t11)) in
    let f3 : IsFilled v3 size (8 + (length c.cipher_name.bytes)) = put_next v2 v3 (c.cipher_name.bytes) size (6 + 2) 8 (length c.cipher_name.bytes) f2 e3 refl (omega (arith, room, t3, t4, t5, t11)) (omega (arith, room, t3, t4, t5, t11)) in
    let f4 : IsFilled v4 size (40 + (length c.cipher_mode.bytes)) = put_next v3 v4 (c.cipher_mode.bytes) size (8 + (length c.cipher_name.bytes)) 40 (length c.cipher_mode.bytes) f3 e4 refl (omega (arith, room, t3, t4, t5, t11)) (omega (arith, room, t3, t4, t5, t11)) in
    let f5 : IsFilled v5 size (72 + (length c.hash_spec.bytes)) = put_next v4 v5 (c.hash_spec.bytes) size (40 + (length c.cipher_mode.bytes)) 72 (length c.hash_spec.bytes) f4 e5 refl (omega (arith, room, t3, t4, t5, t11)) (omega (arith, room, t3, t4, t5, t11)) in
    let f6 : IsFilled v6 size (104 + 4) = put_next v5 v6 (big_bytes 4 c.payload_offset) size (72 + (length c.hash_spec.bytes)) 104 4 f5 e6 n6 (omega (arith, room, t3, t4, t5, t11)) (omega (arith, room, t3, t4, t5, t11)) in
    let f7 : IsFilled v7 size (108 + 4) = put_next v6 v7 (big_bytes 4 c.key_bytes) size (104 + 4) 108 4 f6 e7 n7 (omega (arith, room, t3, t4, t5, t11)) (omega (arith, room, t3, t4, t5, t11)) in
    let f8 : IsFilled v8 size (112 + 20) = put_next v7 v8 (c.mk_digest) size (108 + 4) 112 20 f7 e8 l8 (omega (arith, room, t3, t4, t5, t11)) (omega (arith, room, t3, t4, t5, t11)) in
    let f9 : IsFilled v9 size (132 + 32) = put_next v8 v9 (c.mk_digest_salt) size (112 + 20) 132 32 f8 e9 l9 (omega (arith, room, t3, t4, t5, t11)) (omega (arith, room, t3, t4, t5, t11)) in
    let f10 : IsFilled v10 size (164 + 4) = put_next v9 v10 (big_bytes 4 c.mk_digest_iterations) size (132 + 32) 164 4 f9 e10 n10 (omega (arith, room, t3, t4, t5, t11)) (omega (arith, room, t3, t4, t5, t11)) in
    let f11 : IsFilled v11 size (168 + (length c.uuid.bytes)) = put_next v10 v11 (c.uuid.bytes) size (164 + 4) 168 (length c.uuid.bytes) f10 e11 refl (omega (arith, room, t3, t4, t5, t11)) (omega (arith, room, t3, t4, t5, t11)) in
    let s11 : SameBut (IsFrom 208) v11 v11 = same_but-same (IsFrom 208) v11 in
    let p11 : part v11 168 (length c.uuid.bytes) ≡ c.uuid.bytes = put_stands v10 v11 v11 (c.uuid.bytes) size 168 (length c.uuid.bytes) 208 f10.long e11 refl (omega (arith, room, t3, t4, t5, t11)) (omega (arith, room, t3, t4, t5, t11)) s11 in
    let s10 : SameBut (IsFrom 168) v10 v11 = put_keeps v10 v11 v11 (c.uuid.bytes) size 168 (length c.uuid.bytes) 208 f10.long e11 refl (omega (arith, room, t3, t4, t5, t11)) (omega (arith, room, t3, t4, t5, t11)) s11 in
    let p10 : part v11 164 4 ≡ big_bytes 4 c.mk_digest_iterations = put_stands v9 v10 v11 (big_bytes 4 c.mk_digest_iterations) size 164 4 168 f9.long e10 n10 (omega (arith, room, t3, t4, t5, t11)) (omega (arith, room, t3, t4, t5, t11)) s10 in
    let s9 : SameBut (IsFrom 164) v9 v11 = put_keeps v9 v10 v11 (big_bytes 4 c.mk_digest_iterations) size 164 4 168 f9.long e10 n10 (omega (arith, room, t3, t4, t5, t11)) (omega (arith, room, t3, t4, t5, t11)) s10 in
    let p9 : part v11 132 32 ≡ c.mk_digest_salt = put_stands v8 v9 v11 (c.mk_digest_salt) size 132 32 164 f8.long e9 l9 (omega (arith, room, t3, t4, t5, t11)) (omega (arith, room, t3, t4, t5, t11)) s9 in
    let s8 : SameBut (IsFrom 132) v8 v11 = put_keeps v8 v9 v11 (c.mk_digest_salt) size 132 32 164 f8.long e9 l9 (omega (arith, room, t3, t4, t5, t11)) (omega (arith, room, t3, t4, t5, t11)) s9 in
    let p8 : part v11 112 20 ≡ c.mk_digest = put_stands v7 v8 v11 (c.mk_digest) size 112 20 132 f7.long e8 l8 (omega (arith, room, t3, t4, t5, t11)) (omega (arith, room, t3, t4, t5, t11)) s8 in
    let s7 : SameBut (IsFrom 112) v7 v11 = put_keeps v7 v8 v11 (c.mk_digest) size 112 20 132 f7.long e8 l8 (omega (arith, room, t3, t4, t5, t11)) (omega (arith, room, t3, t4, t5, t11)) s8 in
    let p7 : part v11 108 4 ≡ big_bytes 4 c.key_bytes = put_stands v6 v7 v11 (big_bytes 4 c.key_bytes) size 108 4 112 f6.long e7 n7 (omega (arith, room, t3, t4, t5, t11)) (omega (arith, room, t3, t4, t5, t11)) s7 in
    let s6 : SameBut (IsFrom 108) v6 v11 = put_keeps v6 v7 v11 (big_bytes 4 c.key_bytes) size 108 4 112 f6.long e7 n7 (omega (arith, room, t3, t4, t5, t11)) (omega (arith, room, t3, t4, t5, t11)) s7 in
    let p6 : part v11 104 4 ≡ big_bytes 4 c.payload_offset = put_stands v5 v6 v11 (big_bytes 4 c.payload_offset) size 104 4 108 f5.long e6 n6 (omega (arith, room, t3, t4, t5, t11)) (omega (arith, room, t3, t4, t5, t11)) s6 in
    let s5 : SameBut (IsFrom 104) v5 v11 = put_keeps v5 v6 v11 (big_bytes 4 c.payload_offset) size 104 4 108 f5.long e6 n6 (omega (arith, room, t3, t4, t5, t11)) (omega (arith, room, t3, t4, t5, t11)) s6 in
    let p5 : part v11 72 (length c.hash_spec.bytes) ≡ c.hash_spec.bytes = put_stands v4 v5 v11 (c.hash_spec.bytes) size 72 (length c.hash_spec.bytes) 104 f4.long e5 refl (omega (arith, room, t3, t4, t5, t11)) (omega (arith, room, t3, t4, t5, t11)) s5 in
    let s4 : SameBut (IsFrom 72) v4 v11 = put_keeps v4 v5 v11 (c.hash_spec.bytes) size 72 (length c.hash_spec.bytes) 104 f4.long e5 refl (omega (arith, room, t3, t4, t5, t11)) (omega (arith, room, t3, t4, t5, t11)) s5 in
    let p4 : part v11 40 (length c.cipher_mode.bytes) ≡ c.cipher_mode.bytes = put_stands v3 v4 v11 (c.cipher_mode.bytes) size 40 (length c.cipher_mode.bytes) 72 f3.long e4 refl (omega (arith, room, t3, t4, t5, t11)) (omega (arith, room, t3, t4, t5, t11)) s4 in
    let s3 : SameBut (IsFrom 40) v3 v11 = put_keeps v3 v4 v11 (c.cipher_mode.bytes) size 40 (length c.cipher_mode.bytes) 72 f3.long e4 refl (omega (arith, room, t3, t4, t5, t11)) (omega (arith, room, t3, t4, t5, t11)) s4 in
    let p3 : part v11 8 (length c.cipher_name.bytes) ≡ c.cipher_name.bytes = put_stands v2 v3 v11 (c.cipher_name.bytes) size 8 (length c.cipher_name.bytes) 40 f2.long e3 refl (omega (arith, room, t3, t4, t5, t11)) (omega (arith, room, t3, t4, t5, t11)) s3 in
    let s2 : SameBut (IsFrom 8) v2 v11 = put_keeps v2 v3 v11 (c.cipher_name.bytes) size 8 (length c.cipher_name.bytes) 40 f2.long e3 refl (omega (arith, room, t3, t4, t5, t11)) (omega (arith, room, t3, t4, t5, t11)) s3 in
    let p2 : part v11 6 2 ≡ big_bytes 2 1 = put_stands v1 v2 v11 (big_bytes 2 1) size 6 2 8 f1.long e2 n2 (omega (arith, room, t3, t4, t5, t11)) (omega (arith, room, t3, t4, t5, t11)) s2 in
    let s1 : SameBut (IsFrom 6) v1 v11 = put_keeps v1 v2 v11 (big_bytes 2 1) size 6 2 8 f1.long e2 n2 (omega (arith, room, t3, t4, t5, t11)) (omega (arith, room, t3, t4, t5, t11)) s2 in
    let p1 : part v11 0 6 ≡ luks_magic = put_stands v0 v1 v11 (luks_magic) size 0 6 6 f0.long e1 refl (omega (arith, room, t3, t4, t5, t11)) (omega (arith, room, t3, t4, t5, t11)) s1 in
    let z3 : AreZeros v11 (8 + length c.cipher_name.bytes) 40 = put_leaves v3 v11 size (8 + length c.cipher_name.bytes) 40 f3 s3 in
    let z4 : AreZeros v11 (40 + length c.cipher_mode.bytes) 72 = put_leaves v4 v11 size (40 + length c.cipher_mode.bytes) 72 f4 s4 in
    let z5 : AreZeros v11 (72 + length c.hash_spec.bytes) 104 = put_leaves v5 v11 size (72 + length c.hash_spec.bytes) 104 f5 s5 in
    let z11 : AreZeros v11 (168 + length c.uuid.bytes) 208 = λ k past before. f11.blank k past in
    record {
      magic = p1;
      version = number_stands v11 6 2 1 p2 (omega arith);
      fields = λ whole. record {
        cipher_name = text_stands v11 8 32 c.cipher_name.bytes t3 p3 z3 (whole field.CipherName);
        cipher_mode = text_stands v11 40 32 c.cipher_mode.bytes t4 p4 z4 (whole field.CipherMode);
        hash_spec = text_stands v11 72 32 c.hash_spec.bytes t5 p5 z5 (whole field.HashSpec);
        payload_offset = number_stands v11 104 4 c.payload_offset p6 x6;
        key_bytes = number_stands v11 108 4 c.key_bytes p7 x7;
        mk_digest = p8;
        mk_digest_salt = p9;
        mk_digest_iterations = number_stands v11 164 4 c.mk_digest_iterations p10 x10;
        uuid = text_stands v11 168 40 c.uuid.bytes t11 p11 z11 (whole field.Uuid);
      };
      room = λ t. elim t as (λ u. length (common_text c u) ≤ field_len u) [ field.CipherName ↦ t3 | field.CipherMode ↦ t4 | field.HashSpec ↦ t5 | field.Uuid ↦ t11 ];
      texts = λ t. elim t as (λ u. part v11 (field_at u) (length (common_text c u)) ≡ common_text c u) [ field.CipherName ↦ p3 | field.CipherMode ↦ p4 | field.HashSpec ↦ p5 | field.Uuid ↦ p11 ];
      padding = λ t. elim t as (λ u. AreZeros v11 (field_at u + length (common_text c u)) (field_at u + field_len u)) [ field.CipherName ↦ z3 | field.CipherMode ↦ z4 | field.HashSpec ↦ z5 | field.Uuid ↦ z11 ];
    }
