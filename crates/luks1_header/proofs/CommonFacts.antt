-- The bytes of the fields before a LUKS1 header's key slots are the only ones that say them.
use Rattle.std.proofs.Common.{◌≡◌, ℕ, ◌+◌, ◌≤◌, List, length, lit≤, sym, ◌∙◌, arith}
use Rattle.luks_area.specs.Ranges.{part}
use Rattle.luks1_header.specs.Bytes.{number_at}
use Rattle.luks1_header.specs.Header1.{common_size, header_text, IsCommon}
use Rattle.luks1_header.specs.Written.{AreBytes, WritesCommon}
use Rattle.luks1_header.specs.declared.fault.TextField.{TextField}
use Rattle.luks1_header.specs.declared.luks1.Luks1Common.{Luks1Common}
use Rattle.luks1_header.proofs.Luks1WritingFacts.{common_reads_back, same_texts}
use Rattle.luks1_header.proofs.NumberFacts.{bytes_within, number_agrees, parts_join}

-- one record, the same magic, version, numbers, digest and salt
numbers_agree : (v w : List ℕ) (c : Luks1Common) → common_size ≤ length v → common_size ≤ length w → AreBytes v 0 common_size → AreBytes w 0 common_size
    → IsCommon v c → IsCommon w c → (part w 0 8 ≡ part v 0 8) × (part w 104 64 ≡ part v 104 64)
numbers_agree v w c here there small also a b =
    let agree : (at l : ℕ) → at + l ≤ 208 → number_at w at l ≡ number_at v at l → part w at l ≡ part v at l = λ at l low same.
    number_agrees w v at l (omega (arith, low, there)) (omega (arith, low, here))
    (bytes_within w 0 208 at (at + l) (omega arith) low also) (bytes_within v 0 208 at (at + l) (omega arith) low small) same in
    let magic : part w 0 6 ≡ part v 0 6 = b.magic ∙ sym a.magic in
    let version : part w 6 2 ≡ part v 6 2 = agree 6 2 (lit≤ tt) (b.version ∙ sym a.version) in
    let offset : part w 104 4 ≡ part v 104 4 = agree 104 4 (lit≤ tt) (b.fields.payload_offset ∙ sym a.fields.payload_offset) in
    let key : part w 108 4 ≡ part v 108 4 = agree 108 4 (lit≤ tt) (b.fields.key_bytes ∙ sym a.fields.key_bytes) in
    let digest : part w 112 20 ≡ part v 112 20 = b.fields.mk_digest ∙ sym a.fields.mk_digest in
    let salt : part w 132 32 ≡ part v 132 32 = b.fields.mk_digest_salt ∙ sym a.fields.mk_digest_salt in
    let iterations : part w 164 4 ≡ part v 164 4 = agree 164 4 (lit≤ tt) (b.fields.mk_digest_iterations ∙ sym a.fields.mk_digest_iterations) in
    let from_salt : part w 132 36 ≡ part v 132 36 = parts_join w v 132 32 4 salt iterations in
    let from_digest : part w 112 56 ≡ part v 112 56 = parts_join w v 112 20 36 digest from_salt in
    let from_key : part w 108 60 ≡ part v 108 60 = parts_join w v 108 4 56 key from_digest in
    (parts_join w v 0 6 2 magic version, parts_join w v 104 4 60 offset from_key)

-- what was read before the key slots and written again is the same in every byte that a field names
pub common_agrees : (v w : List ℕ) (c : Luks1Common) → common_size ≤ length v → common_size ≤ length w → AreBytes v 0 common_size → AreBytes w 0 common_size
    → IsCommon v c → WritesCommon w c
    → (part w 0 8 ≡ part v 0 8) × (part w 104 64 ≡ part v 104 64) × ((t : TextField) → header_text w t ≡ header_text v t)
common_agrees v w c here there small also says written =
    let back : IsCommon w c = common_reads_back v w c says written in
    let both : (part w 0 8 ≡ part v 0 8) × (part w 104 64 ≡ part v 104 64) = numbers_agree v w c here there small also says back in
    (both.0, both.1, λ t. sym (same_texts v w c says.fields back.fields t))
