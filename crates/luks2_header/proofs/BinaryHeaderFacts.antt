-- The bytes of a binary header are the only ones that say it; copies that were written are sound.
use Rattle.std.proofs.Common.{◌≡◌, ℕ, ◌+◌, ◌≤◌, List, ◌++◌, length, take, drop, replicate, refl, sym, ap, ◌∙◌, arith, lit≤, append_assoc, ◌-◌, ◌<◌, subst}
use Rattle.std.proofs.lemmas.Grind.{same_number_lists}
use Rattle.std.proofs.lemmas.List.{drop-append-le, length-drop, take-append-le, take-take, take_all}
use Rattle.byteorder.specs.Endian.{big_number}
use Rattle.sha2.specs.Sha256.{sha256}
use Rattle.luks_area.specs.Ranges.{part}
use Rattle.luks_area.proofs.RangeFacts.{get_or-part, length-part_inside, part-add, part-part, part-whole}
use Rattle.luks_area.specs.Text.{text_of}
use Rattle.luks1_header.specs.Header1.{version_of}
use Rattle.luks1_header.specs.Written.{AreBytes, AreZeros}
use Rattle.luks1_header.proofs.NumberFacts.{bytes_within, number_agrees, parts_join}
use Rattle.luks2_header.specs.Header2.{copy_at, hdr_size, header_at, with_zero_checksum, HoldsBin2, IsSound}
use Rattle.luks2_header.specs.Selection.{Chosen, luks2, second_place}
use Rattle.luks2_header.specs.Written.{IsWrittenCopy, WritesBin2}
use Rattle.luks2_header.specs.declared.bin2.Bin2.{Bin2}
use Rattle.luks2_header.specs.declared.selection.Copies.TheVariants.{InStep}
use Rattle.luks2_header.proofs.CopyFacts.{listed_at_least}

-- the bytes before the padding, of two headers that say the same except for their checksums
pub front_agrees : (b c : List ℕ) (h : Bin2) (csum : List ℕ) → 264 ≤ length b → 264 ≤ length c → AreBytes b 6 24 → AreBytes b 256 264
    → AreBytes c 6 24 → AreBytes c 256 264 → HoldsBin2 b h → HoldsBin2 c (record h { csum = csum }) → part b 0 264 ≡ part c 0 264
front_agrees b c h csum lb lc bb bo cb co fb fc =
    let p0 : part b 0 6 ≡ part c 0 6 = fb.magic ∙ sym fc.magic in
    let p6 : part b 6 2 ≡ part c 6 2 = number_agrees b c 6 2 (omega arith) (omega arith)
    (bytes_within b 6 24 6 8 (lit≤ tt) (lit≤ tt) bb) (bytes_within c 6 24 6 8 (lit≤ tt) (lit≤ tt) cb) (fb.version ∙ sym fc.version) in
    let p8 : part b 8 8 ≡ part c 8 8 = number_agrees b c 8 8 (omega arith) (omega arith)
    (bytes_within b 6 24 8 16 (lit≤ tt) (lit≤ tt) bb) (bytes_within c 6 24 8 16 (lit≤ tt) (lit≤ tt) cb) (fb.hdr_size ∙ sym fc.hdr_size) in
    let p16 : part b 16 8 ≡ part c 16 8 = number_agrees b c 16 8 (omega arith) (omega arith)
    (bytes_within b 6 24 16 24 (lit≤ tt) (lit≤ tt) bb) (bytes_within c 6 24 16 24 (lit≤ tt) (lit≤ tt) cb) (fb.seqid ∙ sym fc.seqid) in
    let p24 : part b 24 48 ≡ part c 24 48 = fb.label ∙ sym fc.label in
    let p72 : part b 72 32 ≡ part c 72 32 = fb.csum_alg ∙ sym fc.csum_alg in
    let p104 : part b 104 64 ≡ part c 104 64 = fb.salt ∙ sym fc.salt in
    let p168 : part b 168 40 ≡ part c 168 40 = fb.uuid ∙ sym fc.uuid in
    let p208 : part b 208 48 ≡ part c 208 48 = fb.subsystem ∙ sym fc.subsystem in
    let p256 : part b 256 8 ≡ part c 256 8 = number_agrees b c 256 8 (omega arith) (omega arith) bo co (fb.hdr_offset ∙ sym fc.hdr_offset) in
    let q208 : part b 208 56 ≡ part c 208 56 = parts_join b c 208 48 8 p208 p256 in
    let q168 : part b 168 96 ≡ part c 168 96 = parts_join b c 168 40 56 p168 q208 in
    let q104 : part b 104 160 ≡ part c 104 160 = parts_join b c 104 64 96 p104 q168 in
    let q72 : part b 72 192 ≡ part c 72 192 = parts_join b c 72 32 160 p72 q104 in
    let q24 : part b 24 240 ≡ part c 24 240 = parts_join b c 24 48 192 p24 q72 in
    let q16 : part b 16 248 ≡ part c 16 248 = parts_join b c 16 8 240 p16 q24 in
    let q8 : part b 8 256 ≡ part c 8 256 = parts_join b c 8 8 248 p8 q16 in
    let q6 : part b 6 258 ≡ part c 6 258 = parts_join b c 6 2 256 p6 q8 in
    parts_join b c 0 6 258 p0 q6

-- zeros are zeros
zeros_agree : (b c : List ℕ) (from n : ℕ) → from + n ≤ length b → from + n ≤ length c → AreZeros b from (from + n) → AreZeros c from (from + n)
    → part b from n ≡ part c from n
zeros_agree b c from n lb lc zb zc =
    let left : length (part b from n) ≡ n = length-part_inside b from n lb in
    let right : length (part c from n) ≡ n = length-part_inside c from n lc in
    same_number_lists (part b from n) (part c from n) (left ∙ sym right) (λ k lt.
    let under : k < n = omega (arith, lt, left) in
    get_or-part b from n k under ∙ zb (from + k) (omega arith) (omega (arith, under))
    ∙ sym (get_or-part c from n k under ∙ zc (from + k) (omega arith) (omega (arith, under))))

-- all but the checksum, of two headers that were written and say the same except for it
written_front : (b c : List ℕ) (h : Bin2) (csum : List ℕ) → WritesBin2 b h → WritesBin2 c (record h { csum = csum }) → part b 0 448 ≡ part c 0 448
written_front b c h csum x y =
    let lb : length b ≡ 4096 = x.long in
    let lc : length c ≡ 4096 = y.long in
    let fields : part b 0 264 ≡ part c 0 264 = front_agrees b c h csum (omega arith) (omega arith) x.before_label x.offset y.before_label y.offset x.fields y.fields in
    parts_join b c 0 264 184 fields (zeros_agree b c 264 184 (omega arith) (omega arith) x.padding y.padding)

written_tail : (b c : List ℕ) (h : Bin2) (csum : List ℕ) → WritesBin2 b h → WritesBin2 c (record h { csum = csum }) → part b 512 3584 ≡ part c 512 3584
written_tail b c h csum x y =
    let lb : length b ≡ 4096 = x.long in
    let lc : length c ≡ 4096 = y.long in
    zeros_agree b c 512 3584 (omega arith) (omega arith) x.tail y.tail

rest_is : (b : List ℕ) → length b ≡ 4096 → part b 512 3584 ≡ drop 512 b
rest_is b long = take_all 3584 (drop 512 b) (let left : length (drop 512 b) ≡ length b - 512 = length-drop 512 b in omega (arith, left, long))

-- the bytes of which the checksum is made don't hold the checksum
pub zeroed_same : (b c : List ℕ) (h : Bin2) (csum : List ℕ) → WritesBin2 b h → WritesBin2 c (record h { csum = csum }) → with_zero_checksum b ≡ with_zero_checksum c
zeroed_same b c h csum x y =
    let front : take 448 b ≡ take 448 c = written_front b c h csum x y in
    let back : drop 512 b ≡ drop 512 c = sym (rest_is b x.long) ∙ written_tail b c h csum x y ∙ rest_is c y.long in
    ap (λ a. (a ++ replicate 64 0) ++ drop 512 b) front ∙ ap (λ z. (take 448 c ++ replicate 64 0) ++ z) back

-- one header, one writing
pub written_once : (b c : List ℕ) (h : Bin2) → WritesBin2 b h → WritesBin2 c h → b ≡ c
written_once b c h x y =
    let front : part b 0 448 ≡ part c 0 448 = written_front b c h h.csum x y in
    let tail : part b 512 3584 ≡ part c 512 3584 = written_tail b c h h.csum x y in
    let sum : part b 448 64 ≡ part c 448 64 = x.fields.csum ∙ sym y.fields.csum in
    let back : part b 448 3648 ≡ part c 448 3648 = parts_join b c 448 64 3584 sum tail in
    let all : part b 0 4096 ≡ part c 0 4096 = parts_join b c 0 448 3648 front back in
    sym (part-whole b) ∙ ap (part b 0) x.long ∙ all ∙ ap (part c 0) (sym y.long) ∙ part-whole c

-- a checksum of 32 bytes, put into zeros
pub csum_put : (z digest v : List ℕ) → z ≡ replicate 64 0 → length digest ≡ 32 → v ≡ (take 0 z ++ digest) ++ drop (0 + length digest) z → v ≡ digest ++ replicate 32 0
csum_put z digest v is long put =
    let at : 0 + length digest ≡ 32 = omega (arith, long) in
    put ∙ ap (λ n. digest ++ drop n z) at ∙ ap (λ w. digest ++ drop 32 w) is

-- what is fed after the header
pub zeroed_then : (b json : List ℕ) → length b ≡ 4096 → with_zero_checksum (b ++ json) ≡ with_zero_checksum b ++ json
zeroed_then b json long =
    let front : take 448 (b ++ json) ≡ take 448 b = take-append-le 448 b json (omega (arith, long)) in
    let back : drop 512 (b ++ json) ≡ drop 512 b ++ json = drop-append-le 512 b json (omega (arith, long)) in
    ap (λ a. (a ++ replicate 64 0) ++ drop 512 (b ++ json)) front ∙ ap (λ z. (take 448 b ++ replicate 64 0) ++ z) back
    ∙ sym (append_assoc (take 448 b ++ replicate 64 0) (drop 512 b) json)

-- a copy that was written is its header and its JSON area
copy_is : (v : List ℕ) (o : ℕ) (h : Bin2) (json : List ℕ) → IsWrittenCopy v o h json → copy_at v o ≡ header_at v o ++ json
copy_is v o h json c =
    let size : hdr_size (header_at v o) ≡ 4096 + length json = c.header.fields.hdr_size ∙ sym c.size in
    ap (part v o) size ∙ part-add v o 4096 (length json) ∙ ap (λ area. header_at v o ++ area) c.area

pub written_is_sound : (v : List ℕ) (o : ℕ) (h : Bin2) (json : List ℕ) → IsWrittenCopy v o h json → IsSound v o
written_is_sound v o h json c =
    let size : hdr_size (header_at v o) ≡ h.hdr_size = c.header.fields.hdr_size in
    record {
      form = record {
        magic = c.header.fields.magic ∙ c.magic;
        version = c.header.fields.version ∙ c.version;
        listed = rw size c.listed;
        second = λ other. size ∙ c.second other;
        offset = c.header.fields.hdr_offset ∙ c.hdr_offset;
        inside = rw size c.inside;
        algorithm = ap text_of c.header.fields.csum_alg ∙ c.csum_alg;
      };
      checksum =
          sym (take-take 32 64 (drop 448 (header_at v o)) (lit≤ tt)) ∙ ap (take 32) c.header.fields.csum ∙ c.csum
          ∙ ap (λ copy. sha256 (with_zero_checksum copy)) (sym (copy_is v o h json c));
    }

-- where both copies were written with one sequence number the first is chosen, whatever stands elsewhere
pub written_in_step : (v : List ℕ) (first second : Bin2) (a b : List ℕ) → IsWrittenCopy v 0 first a → IsWrittenCopy v first.hdr_size second b
    → first.seqid ≡ second.seqid → Chosen v (luks2 0 InStep)
written_in_step v first second a b x y same =
    let place : second_place v ≡ first.hdr_size = x.header.fields.hdr_size in
    let least : 16384 ≤ first.hdr_size = listed_at_least first.hdr_size x.listed in
    let version : version_of v ≡ 2 = ap (λ p. big_number 2 p) (sym (part-part v 0 4096 6 2 (lit≤ tt))) ∙ x.header.fields.version ∙ x.version in
    let S : ℕ → Type 0 = λ n. IsSound v n in
    let Q : ℕ → Type 0 = λ n. first.seqid ≡ big_number 8 (part (header_at v n) 16 8) in (
      record { long = omega (arith, least, x.inside); other = λ magic one. absurd (let two : 2 ≡ 1 = sym version ∙ one in omega (arith, two)) },
      (
        record { first = written_is_sound v 0 first a x; second = subst S (sym place) (written_is_sound v first.hdr_size second b y) },
        x.header.fields.seqid ∙ subst Q (sym place) (same ∙ sym y.header.fields.seqid),
        refl,
      ),
    )
