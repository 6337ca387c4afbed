-- How long the texts of a converted volume's keyslots and members are.
use Rattle.std.proofs.Common.{◌≡◌, ℕ, ◌+◌, ◌^◌, ◌<◌, ◌≤◌, List, length, true, Some, Ordering, Less, Equal, Greater, arith, lit<}
use Rattle.std.specs.Prelude.{decimal, nat_lt}
use Rattle.std.specs.Cmp.Lexicographic.{slice_cmp}
use Rattle.std.specs.Ordering.{nat_cmp, match_ordering}
use Rattle.std.proofs.lemmas.Bool.{lt-ltb}
use Rattle.std.proofs.lemmas.Fmt.{length-decimal-le}
use Rattle.serde_json.specs.Data.{Data, Items, no_items, item, Members, no_members, member, put}
use Rattle.luks_json.specs.Number.{number_text}
use Rattle.luks_making.specs.Changing.{add_text}
use Rattle.luks_making.specs.Conversions.{CanConvert, FitsSource}
use Rattle.luks_making.specs.Converted.{SourceMembers, SourceSlotMembers, area_size, area_start, converted_slot}
use Rattle.luks_making.specs.Keyslots.{base64_text, slot_value}
use Rattle.luks_making.specs.TextLengths.{decimal_exact, digit_bound, encoded_short, items_bound, members_bound, string_bound, string_most, value_bound}
use Rattle.luks_making.proofs.NewAreaFacts.{end_within}

-- ---- one more in an array, and in a map

pub names_more : (t : List ℕ) (ds : Items) → items_bound (add_text t ds) ≡ items_bound ds + (3 + string_bound t)
names_more t no_items = omega arith
names_more t (item d ds) = let rest = names_more t ds in omega (arith, rest)

-- what putting a member adds at most
abbrev pub added_bound : List ℕ → Data → ℕ
added_bound k d = 1 + ((2 + string_bound k) + (1 + value_bound d))

put_by : (o : Ordering) (a b c : Members) (most : ℕ) → members_bound a ≤ most → members_bound b ≤ most → members_bound c ≤ most → members_bound (match_ordering o a b c) ≤ most
put_by Less a b c most x y z = x
put_by Equal a b c most x y z = y
put_by Greater a b c most x y z = z

pub slots_more : (k : List ℕ) (d : Data) (ms : Members) → members_bound (put k d ms) ≤ members_bound ms + added_bound k d
slots_more k d no_members = omega arith
slots_more k d (member l e ms) =
    let rest = slots_more k d ms in
    put_by (slice_cmp nat_cmp k l) (member k d (member l e ms)) (member l d ms) (member l e (put k d ms)) (members_bound (member l e ms) + added_bound k d) (omega arith) (omega arith) (omega (arith, rest))

-- the name of a keyslot takes one byte
pub name_short : (n : ℕ) → n < 8 → string_bound (number_text n) ≡ 1
name_short n low =
    let one : nat_lt n 10 ≡ true = lt-ltb n 10 (omega (arith, low)) in
    let digit = digit_bound n (omega (arith, low)) in
    rw one (omega (arith, digit))

module _ (v : SourceMembers) (fits : FitsSource v) (can : CanConvert v) where
  pub hash_most : string_bound v.hash ≤ 192
  hash_most = (let most = string_most v.hash in let long = can.hash in omega (arith, most, long))

  pub encryption_most : string_bound v.encryption ≤ 390
  encryption_most = (let most = string_most v.encryption in let long = can.encryption in omega (arith, most, long))

  pub salt_most : (salt : List ℕ) → length salt ≡ 32 → string_bound (base64_text salt) ≤ 270
  salt_most salt long = (let most = string_most (base64_text salt) in let text = encoded_short salt in omega (arith, most, text, long))

  pub digest_most : string_bound (base64_text v.digest) ≤ 174
  digest_most = (let most = string_most (base64_text v.digest) in let text = encoded_short v.digest in let long = fits.digest.long in omega (arith, most, text, long))

  pub word_most : (n : ℕ) → n < 2 ^ 32 → length (decimal n) ≤ 10
  word_most n low = length-decimal-le 10 n (lit< tt) (omega (arith, low)) (omega (arith, low))

  pub place_most : (n : ℕ) → n ≤ 16777216 → string_bound (decimal n) ≤ 8
  place_most n low =
      let long : length (decimal n) ≤ 8 = length-decimal-le 8 n (lit< tt) (omega (arith, low)) (omega (arith, low)) in
      let exact = decimal_exact n (omega (arith, low)) in
      omega (arith, long, exact)

  key_most : length (decimal v.key_bytes) ≤ 3
  key_most = (let low = can.key_bytes.to in length-decimal-le 3 v.key_bytes (lit< tt) (omega (arith, low)) (omega (arith, low)))

  pub slot_most : (n : ℕ) (s : SourceSlotMembers) → n < 8 → v.slot n ≡ Some s → value_bound (slot_value (converted_slot v n s)) ≤ 1291
  slot_most n s low is =
      let own = fits.slots n s low is in
      let end = end_within v n s low is can.room in
      let hash = hash_most in
      let encryption = encryption_most in
      let salt = salt_most s.salt own.salt.long in
      let iterations = word_most s.iterations own.iterations in
      let stripes = word_most s.stripes own.stripes in
      let start = place_most (area_start v n) (omega (arith, end)) in
      let size = place_most (area_size v s) (omega (arith, end)) in
      let key = key_most in
      omega (arith, hash, encryption, salt, iterations, stripes, start, size, key)
