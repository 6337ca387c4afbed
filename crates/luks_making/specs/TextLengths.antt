-- How long the compact text of a value is at most, for the proofs of every crate that is on this
-- one.
use Rattle.std.proofs.Common.{◌≡◌, ℕ, ◌+◌, ◌*◌, ◌%◌, ◌<◌, ◌≤◌, ◌^◌, List, [], ◌∷◌, ◌++◌, length, replicate, Bool, true, false, nat_lt, cond, inl, inr, refl, arith, lit≤, length-append}
use Rattle.std.specs.Prelude.{decimal, ◌==◌, ◌||◌}
use Rattle.std.proofs.lemmas.Bool.{cases_Bool, le-ltb, ltb-false, ne_eqb, or_parts}
use Rattle.std.proofs.lemmas.Fmt.{decimal_by_steps}
use Rattle.std.proofs.lemmas.List.{length-replicate}
use Rattle.base64.specs.Rfc4648.{encode_symbols, padding_len}
use Rattle.json.specs.Print.{escape, escape_byte, escape_letter, quoted}
use Rattle.serde_json.specs.Data.{Data, null, boolean, number, string, array, object, Items, no_items, item, Members, no_members, member}
use Rattle.serde_json.specs.Written.{comma_if, compact_text, items_text, members_text, number_text}
use Rattle.luks_json.specs.Encoded.{alphabet}
use Rattle.luks_making.specs.Keyslots.{base64_text}

-- ---- strings

-- at most how many bytes are in a string for a byte: control characters take six, the quotation mark
-- and the backslash two
abbrev pub byte_bound : ℕ → ℕ
byte_bound x = cond (nat_lt x 35 || x == 92) 6 1

-- and for a text
abbrev pub string_bound : List ℕ → ℕ
string_bound [] = 0
string_bound (x ∷ s) = byte_bound x + string_bound s

byte_six : (x : ℕ) → length (escape_byte x) ≤ 6
unfolding escape_byte
byte_six x = elim (cases_Bool (nat_lt 0 (escape_letter x))) [
  | inl letter ↦ rw letter (lit≤ tt)
  | inr plain ↦ elim (cases_Bool (nat_lt x 32)) [
    | inl low ↦ rw (plain, low) (lit≤ tt)
    | inr high ↦ rw (plain, high) (lit≤ tt)
  ]
]

-- a byte that isn't escaped
byte_one : (x : ℕ) → (nat_lt x 35 || x == 92) ≡ false → length (escape_byte x) ≤ 1
unfolding escape_byte
byte_one x off =
    let both = or_parts (nat_lt x 35) (x == 92) off in
    let high : 35 ≤ x = ltb-false x 35 both.0 in
    let a : (x == 34) ≡ false = ne_eqb x 34 (λ e. absurd (omega (arith, e, high))) in
    let b : (x == 8) ≡ false = ne_eqb x 8 (λ e. absurd (omega (arith, e, high))) in
    let c : (x == 12) ≡ false = ne_eqb x 12 (λ e. absurd (omega (arith, e, high))) in
    let d : (x == 10) ≡ false = ne_eqb x 10 (λ e. absurd (omega (arith, e, high))) in
    let f : (x == 13) ≡ false = ne_eqb x 13 (λ e. absurd (omega (arith, e, high))) in
    let g : (x == 9) ≡ false = ne_eqb x 9 (λ e. absurd (omega (arith, e, high))) in
    let low : nat_lt x 32 ≡ false = le-ltb x 32 (omega (arith, high)) in
    rw (a, both.1, b, c, d, f, g, low) (lit≤ tt)

byte_short : (x : ℕ) → length (escape_byte x) ≤ byte_bound x
byte_short x = elim (cases_Bool (nat_lt x 35 || x == 92)) [
  | inl on ↦ rw on (byte_six x)
  | inr off ↦ rw off (byte_one x off)
]

escape_short : (s : List ℕ) → length (escape s) ≤ string_bound s
escape_short [] = lit≤ tt
escape_short (x ∷ s) =
    let all = length-append (escape_byte x) (escape s) in
    let first = byte_short x in
    let rest = escape_short s in
    omega (arith, all, first, rest)

-- a string with its quotes
quoted_short : (s : List ℕ) → length (quoted s) ≤ 2 + string_bound s
quoted_short s =
    let all = length-append (escape s) (34 ∷ []) in
    let inner = escape_short s in
    omega (arith, all, inner)

byte_most : (x : ℕ) → byte_bound x ≤ 6
byte_most x = elim (cases_Bool (nat_lt x 35 || x == 92)) [
  | inl on ↦ rw on (lit≤ tt)
  | inr off ↦ rw off (lit≤ tt)
]

-- of any bytes
pub string_most : (s : List ℕ) → string_bound s ≤ 6 * length s
string_most [] = lit≤ tt
string_most (x ∷ s) = (let first = byte_most x in let rest = string_most s in omega (arith, first, rest))

string_append : (s t : List ℕ) → string_bound (s ++ t) ≡ string_bound s + string_bound t
string_append [] t = omega arith
string_append (x ∷ s) t = (let rest = string_append s t in omega (arith, rest))

-- a digit takes one
pub digit_bound : (k : ℕ) → k < 10 → byte_bound (48 + k) ≡ 1
digit_bound k low =
    let a : nat_lt (48 + k) 35 ≡ false = le-ltb (48 + k) 35 (omega arith) in
    let b : (48 + k == 92) ≡ false = ne_eqb (48 + k) 92 (λ e. absurd (omega (arith, e, low))) in
    rw (a, b) refl

-- digits aren't escaped
pub decimal_exact : (n : ℕ) → n < 2 ^ 64 → string_bound (decimal n) ≡ length (decimal n)
decimal_exact n fits = decimal_by_steps (λ k ds. string_bound ds ≡ length ds)
    (λ k low. let one = digit_bound k low in omega (arith, one))
    (λ k ds high before.
    let all = string_append ds ((48 + k % 10) ∷ []) in
    let one = digit_bound (k % 10) (omega arith) in
    let long = length-append ds ((48 + k % 10) ∷ []) in
    omega (arith, all, one, long, before))
    n fits

-- ---- values

-- at most how many bytes the text of a value has
abbrev mutual
  pub value_bound : Data → ℕ
  value_bound null = 4
  value_bound (boolean b) = 5
  value_bound (number n) = length (number_text n)
  value_bound (string s) = 2 + string_bound s
  value_bound (array ds) = 1 + items_bound ds
  value_bound (object ms) = 1 + members_bound ms

  pub items_bound : Items → ℕ
  items_bound no_items = 1
  items_bound (item d ds) = 1 + (value_bound d + items_bound ds)

  pub members_bound : Members → ℕ
  members_bound no_members = 1
  members_bound (member k d ms) = 1 + ((2 + string_bound k) + (1 + (value_bound d + members_bound ms)))

comma_short : (later : Bool) → length (comma_if later) ≤ 1
comma_short true = lit≤ tt
comma_short false = lit≤ tt

-- so it is for every value
mutual
  pub value_short : (d : Data) → length (compact_text d) ≤ value_bound d
  value_short null = lit≤ tt
  value_short (boolean true) = lit≤ tt
  value_short (boolean false) = lit≤ tt
  value_short (number n) = omega arith
  value_short (string s) = quoted_short s
  value_short (array ds) = (let inner = items_short false ds in omega (arith, inner))
  value_short (object ms) = (let inner = members_short false ms in omega (arith, inner))

  items_short : (later : Bool) (ds : Items) → length (items_text later ds) ≤ items_bound ds
  items_short later no_items = lit≤ tt
  items_short later (item d ds) =
      let comma = comma_short later in
      let first = value_short d in
      let rest = items_short true ds in
      let both = length-append (compact_text d) (items_text true ds) in
      let all = length-append (comma_if later) (compact_text d ++ items_text true ds) in
      omega (arith, comma, first, rest, both, all)

  members_short : (later : Bool) (ms : Members) → length (members_text later ms) ≤ members_bound ms
  members_short later no_members = lit≤ tt
  members_short later (member k d ms) =
      let comma = comma_short later in
      let name = quoted_short k in
      let first = value_short d in
      let rest = members_short true ms in
      let both = length-append (compact_text d) (members_text true ms) in
      let with_name = length-append (quoted k) (58 ∷ (compact_text d ++ members_text true ms)) in
      let all = length-append (comma_if later) (quoted k ++ 58 ∷ (compact_text d ++ members_text true ms)) in
      omega (arith, comma, name, first, rest, both, with_name, all)

-- ---- base64

-- three bytes take four symbols, and one or two less than that
symbols_short : (t m : List ℕ) → 3 * length (encode_symbols t m) ≤ 4 * length m + 2
unfolding encode_symbols
symbols_short t [] = lit≤ tt
symbols_short t (a ∷ []) = lit≤ tt
symbols_short t (a ∷ b ∷ []) = lit≤ tt
symbols_short t (a ∷ b ∷ c ∷ rest) = (let more = symbols_short t rest in omega (arith, more))

-- and two more of padding
pub encoded_short : (bytes : List ℕ) → 3 * length (base64_text bytes) ≤ 4 * length bytes + 8
encoded_short bytes =
    let symbols = symbols_short alphabet bytes in
    let pad : length (replicate (padding_len (length bytes)) 61) ≡ padding_len (length bytes) = length-replicate {A = ℕ} (padding_len (length bytes)) 61 in
    let all = length-append (encode_symbols alphabet bytes) (replicate (padding_len (length bytes)) 61) in
    omega (arith, symbols, pad, all)
