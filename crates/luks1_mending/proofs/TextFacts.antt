-- The text of a uuid is printable, and a printable text has no zero byte.
use Rattle.std.proofs.Common.{◌≡◌, ◌==◌, ℕ, ◌<◌, List, [], ◌∷◌, length, take, slice_index, zero, suc, true, false, inl, inr, arith, refl, ap, ◌∙◌}
use Rattle.std.specs.List.{list_all}
use Rattle.std.proofs.lemmas.Bool.{and_from, and_parts, cases_Bool}
use Rattle.std.proofs.lemmas.Bool.Decides.{nat_tests}
use Rattle.std.proofs.lemmas.List.Sums.{position_or_len_is}
use Rattle.std.proofs.Math.Seq.{take-length}
use Rattle.luks_area.specs.Text.{is_plain, is_printable, text_of}
use Rattle.luks1_header.specs.Bytes.{is_hexadecimal, is_hyphen_place, is_uuid_byte, IsUuid}

-- a digit is
hexadecimal_printable : (c : ℕ) → is_hexadecimal c ≡ true → is_printable c ≡ true
hexadecimal_printable c digit = grind (arith, nat_tests)

-- the text of a uuid is printable
uuid_byte_printable : (k c : ℕ) → is_uuid_byte k c ≡ true → is_printable c ≡ true
uuid_byte_printable k c good = elim (cases_Bool (is_hyphen_place k)) [
  | inl place ↦ (let is : (c == 0x2D) ≡ true = rw place at good in grind (arith, nat_tests))
  | inr digit ↦ (let is : is_hexadecimal c ≡ true = rw digit at good in hexadecimal_printable c is)
]

-- a text of printable bytes is plain
plain_each : (xs : List ℕ) → ((k : ℕ) → k < length xs → is_printable (slice_index xs k) ≡ true) → is_plain xs ≡ true
plain_each [] each = refl
plain_each (x ∷ xs) each =
    and_from (is_printable x) (list_all is_printable xs) (each 0 (omega arith)) (plain_each xs (λ k lt. each (suc k) (omega (arith, lt))))

printable_at : (t : List ℕ) → IsUuid t → (k : ℕ) → k < length t → is_printable (slice_index t k) ≡ true
printable_at t is k lt =
    let long : length t ≡ 36 = is.long in
    uuid_byte_printable k (slice_index t k) (is.digits k (omega (arith, lt, long)))

pub plain : (t : List ℕ) → IsUuid t → is_plain t ≡ true
plain t is = plain_each t (printable_at t is)

-- each byte of a plain text is printable
plain_at : (xs : List ℕ) → is_plain xs ≡ true → (k : ℕ) → k < length xs → is_printable (slice_index xs k) ≡ true
plain_at [] good k lt = absurd (omega (arith, lt))
plain_at (x ∷ xs) good zero lt = (and_parts (is_printable x) (list_all is_printable xs) good).0
plain_at (x ∷ xs) good (suc k) lt = plain_at xs (and_parts (is_printable x) (list_all is_printable xs) good).1 k (omega (arith, lt))

-- a printable byte isn't zero
not_zero : (c : ℕ) → is_printable c ≡ true → (c == 0) ≡ false
not_zero c good = grind (arith, nat_tests)

-- so a plain text has no zero byte
pub whole : (xs : List ℕ) → is_plain xs ≡ true → text_of xs ≡ xs
whole xs good =
    let none : (k : ℕ) → k < length xs → (slice_index xs k == 0) ≡ false = λ k lt. (let here = plain_at xs good k lt in not_zero (slice_index xs k) here) in
    ap (λ n. take n xs) (position_or_len_is (λ c. c == 0) xs (length xs) 0 (omega arith) none (λ lt. absurd (omega (arith, lt)))) ∙ take-length xs
