-- A text reads as a uuid of 36 bytes exactly where its digits and hyphens stand.
use Rattle.std.proofs.Common.{◌≡◌, ℕ, ◌<◌, ◌==◌, List, length, slice_index, true, false, Some, None, inl, inr, arith, refl, sym, ◌∙◌}
use Rattle.std.proofs.lemmas.Bool.{cases_Bool, or_cases, and_from, and_parts, eqb-true}
use Rattle.std.proofs.lemmas.Bool.Decides.{nat_tests}
use Rattle.uuid.specs.Text.{by_index, byte_of_digits, digits_of, hyphen_place, digit_place, hex_digit_value, has_hyphens, is_hex_digit, parsed, parsed_simple, parsed_hyphenated}
use Rattle.uuid.proofs.TextLemmas.{by_index_at, by_index_length, hyphens_pass, simple_none, simple_some}
use Rattle.luks1_header.specs.Bytes.{IsUuid, is_uuid_byte, is_hyphen_place}

-- a text of 36 bytes is read as one with hyphens
by_hyphens : (s : List ℕ) → length s ≡ 36 → parsed s ≡ parsed_hyphenated s
by_hyphens s long = rw long refl

hyphens_fail : (s : List ℕ) → length s ≡ 36 → has_hyphens s ≡ false → parsed_hyphenated s ≡ None
hyphens_fail s long fails = rw (long, fails) refl

-- the digits of a text, by place
digit_at : (s : List ℕ) (i : ℕ) → i < 32 → slice_index (digits_of s) i ≡ slice_index s (hyphen_place i)
digit_at s i lt = by_index_at 32 (λ j. slice_index s (hyphen_place j)) i 0 lt

-- a place that isn't a hyphen's is that of its digit
digit_back : (k : ℕ) → k < 36 → is_hyphen_place k ≡ false → hyphen_place (digit_place k) ≡ k
digit_back k lt plain = grind (arith, nat_tests)

digit_small : (k : ℕ) → k < 36 → is_hyphen_place k ≡ false → digit_place k < 32
digit_small k lt plain = grind (arith, nat_tests)

digit_plain : (i : ℕ) → i < 32 → is_hyphen_place (hyphen_place i) ≡ false
digit_plain i lt = grind (arith, nat_tests)

digit_in : (i : ℕ) → i < 32 → hyphen_place i < 36
digit_in i lt = grind (arith, nat_tests)

no_digit : (c : ℕ) → is_hex_digit c ≡ false → hex_digit_value c ≡ None
no_digit c fails = rw fails refl

-- what a uuid's text reads as
pub read_from : (s : List ℕ) → IsUuid s → Some (by_index 16 (byte_of_digits (digits_of s))) ≡ parsed s
read_from s good =
    let hyphens : has_hyphens s ≡ true =
    and_from _ _ (and_from _ _ (and_from _ _ (good.digits 8 (omega arith)) (good.digits 13 (omega arith))) (good.digits 18 (omega arith))) (good.digits 23 (omega arith)) in
    let digits : (i : ℕ) → i < 32 → is_hex_digit (slice_index (digits_of s) i) ≡ true = λ i lt.
    let here : is_uuid_byte (hyphen_place i) (slice_index s (hyphen_place i)) ≡ true = good.digits (hyphen_place i) (digit_in i lt) in
    rw (digit_at s i lt) (rw (digit_plain i lt) at here) in
    simple_some (digits_of s) _ (by_index_length 32 _) (by_index_length 16 _) digits (λ i d lt. by_index_at 16 (byte_of_digits (digits_of s)) i d lt)
    ∙ hyphens_pass s good.long hyphens ∙ sym (by_hyphens s good.long)

-- each hyphen of a text that has them stands
hyphen_at : (s : List ℕ) → has_hyphens s ≡ true → (k : ℕ) → is_hyphen_place k ≡ true → (slice_index s k == 0x2D) ≡ true
hyphen_at s hyphens k place =
    let last = and_parts _ _ hyphens in
    let third = and_parts _ _ last.0 in
    let first = and_parts _ _ third.0 in
    elim (or_cases _ _ place) [
      | inl low ↦ elim (or_cases _ _ low) [
        | inl lower_ ↦ elim (or_cases _ _ lower_) [
          | inl is8 ↦ rw (eqb-true k 8 is8) first.0
          | inr is13 ↦ rw (eqb-true k 13 is13) first.1
        ]
        | inr is18 ↦ rw (eqb-true k 18 is18) third.1
      ]
      | inr is23 ↦ rw (eqb-true k 23 is23) last.1
    ]

-- each digit of a text that reads as a uuid stands
digit_reads : (s u : List ℕ) → parsed_simple (digits_of s) ≡ Some u → (i : ℕ) → i < 32 → is_hex_digit (slice_index s (hyphen_place i)) ≡ true
digit_reads s u reads i lt =
    elim (cases_Bool (is_hex_digit (slice_index s (hyphen_place i)))) [
      | inl digit ↦ digit
      | inr fails ↦
          let here : i < length (digits_of s) = rw (by_index_length 32 (λ j. slice_index s (hyphen_place j))) lt in
          let none = simple_none (digits_of s) i here (rw (digit_at s i lt) (no_digit (slice_index s (hyphen_place i)) fails)) in
          absurd (cc)
    ]

-- a text of 36 bytes that reads as a uuid
pub reads_as : (s u : List ℕ) → length s ≡ 36 → parsed s ≡ Some u → IsUuid s
reads_as s u long reads =
    let whole : parsed_hyphenated s ≡ Some u = sym (by_hyphens s long) ∙ reads in
    elim (cases_Bool (has_hyphens s)) [
      | inl hyphens ↦ record {
        long = long;
        digits = λ k lt. elim (cases_Bool (is_hyphen_place k)) [
          | inl place ↦ rw place (hyphen_at s hyphens k place)
          | inr digit ↦
              let back : hyphen_place (digit_place k) ≡ k = digit_back k lt digit in
              rw digit (rw back at (digit_reads s u (hyphens_pass s long hyphens ∙ whole) (digit_place k) (digit_small k lt digit)))
        ];
      }
      | inr fails ↦ (let none : parsed_hyphenated s ≡ None = hyphens_fail s long fails in absurd (cc))
    ]
