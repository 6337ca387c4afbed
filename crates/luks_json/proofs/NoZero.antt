-- A compact text holds no zero byte.
use Rattle.std.proofs.Common.{◌≡◌, ◌≢◌, ℕ, zero, suc, ◌+◌, ◌/◌, ◌%◌, ◌<◌, ◌≤◌, ◌==◌, Bool, true, false, cond, List, [], ◌∷◌, ◌++◌, pos, negsuc, Result, Ok, Err, nat_lt, inl, inr, arith, lit<}
use Rattle.std.proofs.lemmas.Bool.{ltb-true, ltb-false, cases_Bool}
use Rattle.std.proofs.lemmas.List.Elements.{All-nil, All-cons}
use Rattle.std.specs.Char.{digit_char}
use Rattle.std.specs.Fmt.{decimal, digits, digits_onto, digit_glyph}
use Rattle.std.specs.List.{All}
use Rattle.std.specs.Result.{IfOk}
use Rattle.json.specs.Print.{escape_letter, escape_byte, escape, quoted}
use Rattle.serde_json.specs.Data.{Num, unsigned, negative, float, Data, null, boolean, number, string, array, object, Items, no_items, item, Members, no_members, member}
use Rattle.serde_json.specs.Written.{number_text, comma_if, compact_text, items_text, members_text}

abbrev pub HasNoZero : List ℕ → Type 0
HasNoZero = All (λ c. c ≢ 0)

-- the same by recursion
abbrev Free : List ℕ → Type 0
Free [] = Unit {0}
Free (x ∷ xs) = (0 < x) × Free xs

of_free : (xs : List ℕ) → Free xs → HasNoZero xs
of_free [] h = All-nil (λ c. c ≢ 0)
of_free (x ∷ xs) h = All-cons (λ c. c ≢ 0) x xs (λ e. omega (arith, h.0)) (of_free xs h.1)

joined : (xs ys : List ℕ) → Free xs → Free ys → Free (xs ++ ys)
joined [] ys h k = k
joined (x ∷ xs) ys h k = (h.0, joined xs ys h.1 k)

char_of : (d : ℕ) → 0 < digit_char d
char_of d = elim (nat_lt d 10) as (λ b. 0 < cond b (48 + d) (87 + d)) [ true ↦ omega arith | false ↦ omega arith ]

glyph_of : (d : ℕ) → 0 < digit_glyph false d
glyph_of d = elim (nat_lt d 10) as (λ b. 0 < cond b (48 + d) (87 + d)) [ true ↦ omega arith | false ↦ omega arith ]

digits_free : (k n : ℕ) (xs : List ℕ) → Free xs → Free (digits_onto k 10 false n xs)
digits_free zero n xs h = h
digits_free (suc k) n xs h =
    elim (n / 10 == 0) as (λ b. Free (cond b (digit_glyph false (n % 10) ∷ xs) (digits_onto k 10 false (n / 10) (digit_glyph false (n % 10) ∷ xs))))
    [ true ↦ (glyph_of (n % 10), h) | false ↦ digits_free k (n / 10) (digit_glyph false (n % 10) ∷ xs) (glyph_of (n % 10), h) ]

decimal_free : (n : ℕ) → Free (decimal n)
unfolding digits
decimal_free n = digits_free 64 n [] tt

number_free : (n : Num) → Free (number_text n)
number_free (unsigned n) = decimal_free n
number_free (negative (pos n)) = decimal_free n
number_free (negative (negsuc n)) = (lit< tt, decimal_free (suc n))
number_free (float x) = tt

hex_free : (x : ℕ) → Free (92 ∷ 117 ∷ 48 ∷ 48 ∷ digit_char (x / 16) ∷ digit_char (x % 16) ∷ [])
hex_free x = (lit< tt, (lit< tt, (lit< tt, (lit< tt, (char_of (x / 16), (char_of (x % 16), tt))))))

byte_free : (x : ℕ) → Free (escape_byte x)
unfolding escape_byte
byte_free x = elim (cases_Bool (nat_lt 0 (escape_letter x))) [
  | inl letter ↦ rw letter (lit< tt, (ltb-true 0 (escape_letter x) letter, tt))
  | inr plain ↦ elim (cases_Bool (nat_lt x 32)) [
    | inl low ↦ rw (plain, low) (hex_free x)
    | inr high ↦ rw (plain, high) (let h : 32 ≤ x = ltb-false x 32 high in (omega arith, tt))
  ]
]

escape_free : (s : List ℕ) → Free (escape s)
escape_free [] = tt
escape_free (x ∷ s) = joined (escape_byte x) (escape s) (byte_free x) (escape_free s)

quoted_free : (s : List ℕ) → Free (quoted s)
quoted_free s = (lit< tt, joined (escape s) (34 ∷ []) (escape_free s) (lit< tt, tt))

comma_free : (later : Bool) → Free (comma_if later)
comma_free true = (lit< tt, tt)
comma_free false = tt

mutual
  value_free : (d : Data) → Free (compact_text d)
  value_free null = (lit< tt, (lit< tt, (lit< tt, (lit< tt, tt))))
  value_free (boolean true) = (lit< tt, (lit< tt, (lit< tt, (lit< tt, tt))))
  value_free (boolean false) = (lit< tt, (lit< tt, (lit< tt, (lit< tt, (lit< tt, tt)))))
  value_free (number n) = number_free n
  value_free (string s) = quoted_free s
  value_free (array ds) = (lit< tt, items_free false ds)
  value_free (object ms) = (lit< tt, members_free false ms)

  items_free : (later : Bool) (ds : Items) → Free (items_text later ds)
  items_free later no_items = (lit< tt, tt)
  items_free later (item d ds) =
      joined (comma_if later) (compact_text d ++ items_text true ds) (comma_free later)
      (joined (compact_text d) (items_text true ds) (value_free d) (items_free true ds))

  members_free : (later : Bool) (ms : Members) → Free (members_text later ms)
  members_free later no_members = (lit< tt, tt)
  members_free later (member k d ms) =
      joined (comma_if later) (quoted k ++ 58 ∷ (compact_text d ++ members_text true ms)) (comma_free later)
      (joined (quoted k) (58 ∷ (compact_text d ++ members_text true ms)) (quoted_free k)
      (lit< tt, joined (compact_text d) (members_text true ms) (value_free d) (members_free true ms)))

pub in_text : (d : Data) → HasNoZero (compact_text d)
in_text d = of_free (compact_text d) (value_free d)

-- of a text that a call answered
pub answered : {S E : Type 0} (bytes : S → List ℕ) (r : Result S E) (P : Type 0) (text : List ℕ) → IfOk r (λ s. P → bytes s ≡ text) → P → HasNoZero text
    → IfOk r (λ s. HasNoZero (bytes s))
answered bytes (Ok s) P text says p free = rw (says p) free
answered bytes (Err e) P text says p free = tt
