-- What `parse` reads, beside `decimal`.
use Rattle.std.proofs.Common.{◌≡◌, ◌≢◌, ℕ, zero, suc, ◌<◌, ◌^◌, Bool, true, false, cond, List, length, get_or, Err, Option, Some, None, refl, sym, ap, ◌∙◌, arith, lit<}
use Rattle.std.proofs.lemmas.Bool.{and_parts, ltb-true, lt-ltb, and_from}
use Rattle.std.proofs.lemmas.Fmt.{decimal-digits_value, digits_value-decimal, parse-decimal, first_decimal, decimal_nonempty, decimal_digit}
use Rattle.std.proofs.lemmas.Slice.Eq.{bytes_eq-Decides}
use Rattle.std.proofs.lemmas.Str.Parse.{numerals_by_value, tells_digits, without_leading_plus_none}
use Rattle.std.specs.Fmt.{decimal}
use Rattle.std.specs.Str.Parse.{AllDigits, ParsesUnsigned, IsNumeral, digits_value, without_leading_plus}
use Rattle.luks_json.specs.Decimal.{IsDecimal, decimal_of}

some_if : (b : Bool) (n m : ℕ) → cond b (Some n) None ≡ Some m → (b ≡ true) × (n ≡ m)
some_if true n m e = (refl, cc)
some_if false n m e = absurd (cc)

pub decimal_says : (text : List ℕ) (n : ℕ) → decimal_of text ≡ Some n → IsDecimal text n
unfolding decimal_of
decimal_says text n e =
    let parts = some_if _ _ n e in
    let tests = and_parts _ _ parts.0 in
    rw (← parts.1) record { fits = ltb-true _ _ tests.1; digits = (bytes_eq-Decides text (decimal (digits_value 10 text))).0 tests.0 }

value_is : (text : List ℕ) (n : ℕ) → IsDecimal text n → digits_value 10 text ≡ n
value_is text n d = ap (digits_value 10) d.digits ∙ digits_value-decimal (numerals_by_value (AllDigits 10) tells_digits) n d.fits

pub decimal_told : (text : List ℕ) (n : ℕ) → IsDecimal text n → decimal_of text ≡ Some n
unfolding decimal_of
decimal_told text n d =
    let fits : n < 2 ^ 64 = d.fits in
    let both = and_from _ _ ((bytes_eq-Decides text (decimal n)).1 d.digits) (lt-ltb n (2 ^ 64) fits) in
    rw (value_is text n d) (rw both refl)

none_else : (o : Option ℕ) → ((n : ℕ) → o ≡ Some n → ⊥) → None ≡ o
none_else None h = refl
none_else (Some n) h = absurd (h n refl)

-- what the first byte may be
abbrev pub IsPlain : List ℕ → Type 0
IsPlain text = (0 < length text) × (get_or text 0 0 ≢ 43) × (get_or text 0 0 ≡ 48 → length text ≡ 1)

plain_digits : (n : ℕ) → n < 2 ^ 64 → IsPlain (decimal n)
plain_digits zero small = rw (decimal_digit 0 (lit< tt)) (lit< tt, λ e. absurd (omega (arith, e)), λ e. refl)
plain_digits (suc n) small =
    let first : 48 < get_or (decimal (suc n)) 0 0 = first_decimal (suc n) (omega arith) small in
    (decimal_nonempty (suc n) small, λ e. absurd (omega arith), λ e. absurd (omega arith))

plain : (text : List ℕ) (n : ℕ) → IsDecimal text n → IsPlain text
plain text n d = rw d.digits (plain_digits n d.fits)

read_digits : (text : List ℕ) (n : ℕ) → IsPlain text → (IsNumeral 10 text × (digits_value 10 text < 2 ^ 64)) × (n ≡ digits_value 10 text) → IsDecimal text n
read_digits text n p r = record {
  fits = omega (arith, r.0.1, r.1);
  digits = sym (ap decimal r.1 ∙ decimal-digits_value (numerals_by_value (AllDigits 10) tells_digits) text r.0.0.1 p.0 p.2 r.0.1);
}

pub parsed : (text : List ℕ) (n : ℕ) → IsPlain text
    → (IsNumeral 10 (without_leading_plus text) × (digits_value 10 (without_leading_plus text) < 2 ^ 64)) × (n ≡ digits_value 10 (without_leading_plus text))
    → Some n ≡ decimal_of text
parsed text n p r = sym (decimal_told text n (read_digits text n p (rw (without_leading_plus_none text p.1) at r)))

pub not_parsed : {E : Type 0} (text : List ℕ) (e : E) → ParsesUnsigned 64 10 text (Err e) → None ≡ decimal_of text
not_parsed text e r = none_else (decimal_of text)
    (λ n is. let d = decimal_says text n is in let same = parse-decimal 64 n text (Err e) d.fits d.fits d.digits r in cc)

pub not_plain : (text : List ℕ) → (IsPlain text → ⊥) → None ≡ decimal_of text
not_plain text other = none_else (decimal_of text) (λ n is. other (plain text n (decimal_says text n is)))
