-- What is written of numbers, bytes and names is read again.
use Rattle.std.proofs.Common.{◌≡◌, ℕ, ◌<◌, ◌≤◌, ◌^◌, Bool, true, false, cond, List, length, Option, Some, None, option_and_then, option_map, is_some, decimal, refl, arith}
use Rattle.std.proofs.lemmas.Bool.{and_from, and_parts, le-leb, leb-true}
use Rattle.base64.specs.GeneralPurpose.{IsBytes}
use Rattle.serde_json.specs.Data.{Data, number, string, unsigned}
use Rattle.luks_json.specs.Number.{is_name, number_text}
use Rattle.luks_json.specs.Values.{bytes_in, decimal_in, is_between, kept, number_in}
use Rattle.luks_json.specs.Values.{number_of as whole_of}
use Rattle.luks_json.proofs.Decimals.{decimal_told}
use Rattle.luks_json.proofs.Encodings.{encoded_told}
use Rattle.luks_json.proofs.Numbers.{number_of_text}
use Rattle.luks_rules.specs.Reading.{bytes, whole}
use Rattle.luks_making.specs.Conditions.{Between, IsSalt}
use Rattle.luks_making.specs.Keyslots.{base64_text}

-- ---- numbers and bytes

-- a number in its range passes the test
between : (least most n : ℕ) → Between least most n → is_between least most n ≡ true
between least most n b = and_from _ _ (le-leb least n b.from) (le-leb n most b.to)

-- a number that is read is in its range
kept_by : (b : Bool) (x n : ℕ) → cond b (Some x) None ≡ Some n → (b ≡ true) × (x ≡ n)
kept_by true x n e = (refl, cc)
kept_by false x n e = absurd (cc)

between_of : (least most n : ℕ) (o : Option ℕ) → option_and_then (kept (is_between least most)) o ≡ Some n → Between least most n
between_of least most n None e = absurd (cc)
between_of least most n (Some x) e =
    let p = kept_by (is_between least most x) x n e in
    let q = and_parts _ _ p.0 in
    rw (← p.1) record { from = leb-true least x q.0; to = leb-true x most q.1 }

pub in_between : (least most n : ℕ) (v : Option Data) → number_in least most v ≡ Some n → Between least most n
in_between least most n v e = between_of least most n (whole_of v) e

-- a number of 32 bits that isn't 0
pub below_32 : (n : ℕ) → 1 ≤ n → n < 2 ^ 32 → Between 1 4294967295 n
below_32 n one small = record { from = one; to = omega (arith, small) }

-- a number that is written
pub number_is : (least most n : ℕ) → Between least most n → number_in least most (Some (number (unsigned n))) ≡ Some n
number_is least most n b = rw (between least most n b) refl

pub number_read : (least most n : ℕ) → Between least most n → is_some (option_map whole (number_in least most (Some (number (unsigned n))))) ≡ true
number_read least most n b = rw (between least most n b) refl

-- a decimal text that is written
pub decimal_is : (n : ℕ) → n < 2 ^ 64 → decimal_in (Some (string (decimal n))) ≡ Some n
decimal_is n h = decimal_told (decimal n) n (record { fits = h; digits = refl })

pub decimal_read : (n : ℕ) → n < 2 ^ 64 → is_some (option_map whole (decimal_in (Some (string (decimal n))))) ≡ true
decimal_read n h = rw (decimal_is n h) refl

-- bytes that are written in base64
pub bytes_are : (least most : ℕ) (bs : List ℕ) → most ≤ 128 → IsBytes bs → Between least most (length bs) → bytes_in least most (Some (string (base64_text bs))) ≡ Some bs
bytes_are least most bs large are long =
    let below : length bs ≤ most = long.to in
    let at_most : length bs ≤ 128 = omega (arith, below, large) in
    rw (encoded_told (base64_text bs) bs (record { are_bytes = are; at_most = at_most; encodes = refl }), between least most (length bs) long) refl

pub bytes_read : (least most : ℕ) (bs : List ℕ) → most ≤ 128 → IsBytes bs → Between least most (length bs)
    → is_some (option_map bytes (bytes_in least most (Some (string (base64_text bs))))) ≡ true
bytes_read least most bs large are long = rw (bytes_are least most bs large are long) refl

-- a salt
pub salt_read : (salt : List ℕ) → IsSalt salt → is_some (option_map bytes (bytes_in 1 128 (Some (string (base64_text salt))))) ≡ true
salt_read salt h = bytes_read 1 128 salt (omega arith) h.are_bytes h.long

-- the name of a number is a name
pub name_is : (n : ℕ) → n < 32 → is_name (number_text n) ≡ true
name_is n h = rw (number_of_text n h) refl
