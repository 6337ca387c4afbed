-- The text of a new uuid is that of a uuid; that of any uuid is printable, and fills its field.
use Rattle.std.proofs.Common.{sym, ◌≡◌, ◌≢◌, ◌==◌, if◌then◌else◌, ℕ, ◌+◌, ◌%◌, ◌<◌, List, [], ◌∷◌, ◌++◌, length, take, replicate, append_assoc, length-append, slice_index, slice_set, suc, true, false, inl, inr, arith, refl, ap, ◌∙◌, get_or-set_other, subst}
use Rattle.std.specs.List.{list_all}
use Rattle.std.proofs.lemmas.Bool.{and_from, cases_Bool}
use Rattle.std.proofs.lemmas.Bool.Decides.{nat_tests}
use Rattle.std.proofs.lemmas.List.Sums.{position_or_len_is}
use Rattle.std.proofs.Math.Seq.{take-append_seam, take-length}
use Rattle.std.proofs.lemmas.List.{get_or_append_left, get_or_push}
use Rattle.uuid.specs.Parts.{with_variant, with_version}
use Rattle.uuid.specs.declared.Variant.TheVariants.{RFC4122}
use Rattle.uuid.specs.declared.Version.TheVariants.{Random}
use Rattle.uuid.specs.Text.{digit_place, hex_digit, hyphen, hyphenated_text, is_hyphen_place, lower, nibble}
use Rattle.uuid.proofs.TextLemmas.{by_index_at, by_index_length, nibble_small}
use Rattle.luks_area.specs.Text.{is_plain, is_printable, text_of}
use Rattle.luks1_header.specs.Bytes.{is_hexadecimal, is_uuid_byte, IsUuid}
use Rattle.luks2_header.specs.Header2.{IsUuidField}
use Rattle.luks2_header.specs.NewUuid.{uuid_text, version_4}

-- the crate `uuid` makes the same of random bytes
pub version_4-made : (random : List ℕ) → with_version (with_variant random RFC4122) Random ≡ version_4 random
version_4-made random =
    let apart : 6 ≢ 8 = λ e. omega (arith, e) in
    let same : slice_index (slice_set random 8 (slice_index random 8 % 0x40 + 0x80)) 6 ≡ slice_index random 6 =
    get_or-set_other random 8 6 (slice_index random 8 % 0x40 + 0x80) 0 apart in
    ap (λ b. slice_set (slice_set random 8 (slice_index random 8 % 0x40 + 0x80)) 6 (b % 0x10 + 0x40)) same

pub hyphenated-length : (bytes : List ℕ) → length (hyphenated_text lower bytes) ≡ 36
hyphenated-length bytes = by_index_length 36 _

pub uuid_text-length : (random : List ℕ) → length (uuid_text random) ≡ 36
uuid_text-length random = hyphenated-length (version_4 random)

-- a digit's byte
digit_hexadecimal : (d : ℕ) → d < 16 → is_hexadecimal (hex_digit lower d) ≡ true
digit_hexadecimal d small = grind (arith, nat_tests)

hexadecimal_printable : (c : ℕ) → is_hexadecimal c ≡ true → is_printable c ≡ true
hexadecimal_printable c digit = grind (arith, nat_tests)

-- the byte at a place
byte_at : (random : List ℕ) (k : ℕ) → k < 36 → is_uuid_byte k (slice_index (uuid_text random) k) ≡ true
byte_at random k lt =
    let bytes : List ℕ = version_4 random in
    let here = by_index_at 36 (λ i. if is_hyphen_place i then hyphen else hex_digit lower (nibble bytes (digit_place i))) k 0 lt in
    elim (cases_Bool (is_hyphen_place k)) [
      | inl place ↦ rw (here, place) refl
      | inr digit ↦ rw (here, digit) (digit_hexadecimal (nibble bytes (digit_place k)) (nibble_small bytes (digit_place k)))
    ]

pub uuid_text-is : (random : List ℕ) → IsUuid (uuid_text random)
uuid_text-is random = record { long = uuid_text-length random; digits = byte_at random }

-- the text of a uuid is printable
uuid_byte_printable : (k c : ℕ) → is_uuid_byte k c ≡ true → is_printable c ≡ true
uuid_byte_printable k c good = elim (cases_Bool (is_hyphen_place k)) [
  | inl place ↦ (let is : (c == 0x2D) ≡ true = rw place at good in grind (arith, nat_tests))
  | inr digit ↦ (let is : is_hexadecimal c ≡ true = rw digit at good in hexadecimal_printable c is)
]

-- a printable byte isn't zero
not_zero : (c : ℕ) → is_printable c ≡ true → (c == 0) ≡ false
not_zero c good = grind (arith, nat_tests)

-- a text of printable bytes is plain
plain_each : (xs : List ℕ) → ((k : ℕ) → k < length xs → is_printable (slice_index xs k) ≡ true) → is_plain xs ≡ true
plain_each [] each = refl
plain_each (x ∷ xs) each =
    and_from (is_printable x) (list_all is_printable xs) (each 0 (omega arith)) (plain_each xs (λ k lt. each (suc k) (omega (arith, lt))))

-- a text without zero bytes is whole
whole_each : (xs : List ℕ) → ((k : ℕ) → k < length xs → is_printable (slice_index xs k) ≡ true) → text_of xs ≡ xs
whole_each xs each =
    let none : (k : ℕ) → k < length xs → (slice_index xs k == 0) ≡ false = λ k lt. (let here = each k lt in not_zero (slice_index xs k) here) in
    ap (λ n. take n xs) (position_or_len_is (λ c. c == 0) xs (length xs) 0 (omega arith) none (λ lt. absurd (omega (arith, lt)))) ∙ take-length xs

-- a text ends before the zeros that fill its field
text_then : (xs rest : List ℕ) → ((k : ℕ) → k < length xs → is_printable (slice_index xs k) ≡ true) → text_of (xs ++ (0 ∷ rest)) ≡ xs
text_then xs rest each =
    let ys : List ℕ = 0 ∷ rest in
    let long : length (xs ++ ys) ≡ length xs + length ys = length-append xs ys in
    let none : (k : ℕ) → k < length xs → (slice_index (xs ++ ys) k == 0) ≡ false = λ k lt.
    rw (get_or_append_left xs ys 0 k lt) (not_zero (slice_index xs k) (each k lt)) in
    let seam : slice_index (xs ++ ys) (length xs) ≡ 0 =
    ap (λ l. slice_index l (length xs)) (sym (append_assoc xs (0 ∷ []) rest))
    ∙ get_or_append_left (xs ++ 0 ∷ []) rest 0 (length xs) (let more = length-append xs (0 ∷ []) in omega (arith, more))
    ∙ get_or_push xs 0 0 (length xs) refl in
    ap (λ n. take n (xs ++ ys))
    (position_or_len_is (λ c. c == 0) (xs ++ ys) (length xs) 0 (omega (arith, long)) none (λ lt. rw seam refl))
    ∙ take-append_seam xs ys

-- ---- the text of any uuid

printable_at : (t : List ℕ) → IsUuid t → (k : ℕ) → k < length t → is_printable (slice_index t k) ≡ true
printable_at t is k lt =
    let long : length t ≡ 36 = is.long in
    uuid_byte_printable k (slice_index t k) (is.digits k (omega (arith, lt, long)))

pub plain : (t : List ℕ) → IsUuid t → is_plain t ≡ true
plain t is = plain_each t (printable_at t is)

pub whole : (t : List ℕ) → IsUuid t → text_of t ≡ t
whole t is = whole_each t (printable_at t is)

pub field_text : (t : List ℕ) → IsUuid t → text_of (t ++ replicate 4 0) ≡ t
field_text t is = text_then t (0 ∷ 0 ∷ 0 ∷ []) (printable_at t is)

pub fills : (t : List ℕ) → IsUuid t → IsUuidField (t ++ replicate 4 0)
fills t is = record { plain = ap is_plain (field_text t is) ∙ plain t is; uuid = subst IsUuid (sym (field_text t is)) is }
