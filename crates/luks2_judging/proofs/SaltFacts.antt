-- The text of new metadata is as long with one salt as with another.
use Rattle.std.proofs.Common.{◌≡◌, ℕ, suc, ◌+◌, List, ◌∷◌, ◌++◌, length, length-append, Bool, true, false, cond, codes, decimal, Option, Some, None, Ordering, Less, Equal, Greater, refl, ap, arith, subst}
use Rattle.std.specs.Cmp.Lexicographic.{slice_cmp}
use Rattle.std.specs.Ordering.{match_ordering, nat_cmp}
use Rattle.std.specs.Str.{bytes_eq}
use Rattle.serde_json.specs.Data.{Data, null, boolean, number, string, array, object, unsigned, Members, no_members, member, put}
use Rattle.serde_json.specs.Written.{comma_if, compact_text, members_text}
use Rattle.json.specs.Print.{quoted}
use Rattle.luks_area.specs.declared.area.Area.{Area}
use Rattle.luks_json.specs.Number.{number_text}
use Rattle.luks_making.specs.Changed.{changed_slot, kdf_or, renewed_area, renewed_kdf, renewed_slot, splitter_hash}
use Rattle.luks_making.specs.Changing.{at_member, change_member, in_object}
use Rattle.luks_making.specs.declared.derivation.Argon2Costs.{Argon2Costs}
use Rattle.luks_making.specs.declared.derivation.AskedDerivation.{AskedDerivation}
use Rattle.luks_making.specs.declared.derivation.NewDerivation.{NewDerivation}
use Rattle.luks_making.specs.Keyslots.{area_value, base64_text, kdf_value, slot_value, splitter_value, SlotMembers, argon2_value, by_argon2i, by_argon2id, by_pbkdf2, derivation_by, Deriving}
use Rattle.luks_making.specs.With.{with_name, with_slot}
use Rattle.luks2_edit_laws.specs.Edited.{members_of}

-- ---- values whose texts are of one length

abbrev pub AsLong : Data → Data → Type 0
AsLong a b = length (compact_text a) ≡ length (compact_text b)

abbrev MembersAsLong : Members → Members → Type 0
MembersAsLong ms ns = (later : Bool) → length (members_text later ms) ≡ length (members_text later ns)

member_length : (later : Bool) (k : List ℕ) (d : Data) (ms : Members)
    → length (members_text later (member k d ms)) ≡ length (comma_if later) + (length (quoted k) + (1 + (length (compact_text d) + length (members_text true ms))))
member_length later k d ms =
    let head = length-append (comma_if later) (quoted k ++ 58 ∷ (compact_text d ++ members_text true ms)) in
    let name = length-append (quoted k) (58 ∷ (compact_text d ++ members_text true ms)) in
    let rest = length-append (compact_text d) (members_text true ms) in
    omega (arith, head, name, rest)

-- another value, and other members after it
one_value_as_long : (k : List ℕ) (d e : Data) (ms ns : Members) → AsLong d e → MembersAsLong ms ns → MembersAsLong (member k d ms) (member k e ns)
one_value_as_long k d e ms ns value rest later =
    let one = member_length later k d ms in
    let two = member_length later k e ns in
    let tail = rest true in
    omega (arith, one, two, value, tail)

change_by : (b : Bool) (l : List ℕ) (d e f : Data) (ms ns os : Members) → AsLong d e → MembersAsLong ns os
    → MembersAsLong (cond b (member l d ms) (member l f ns)) (cond b (member l e ms) (member l f os))
change_by true l d e f ms ns os value rest = one_value_as_long l d e ms ms value (λ later. refl)
change_by false l d e f ms ns os value rest = one_value_as_long l f f ns os refl rest

change_as_long : (k : List ℕ) (f g : Data → Data) → ((d : Data) → AsLong (f d) (g d)) → (ms : Members) → MembersAsLong (change_member k f ms) (change_member k g ms)
change_as_long k f g same no_members later = refl
change_as_long k f g same (member l d ms) later =
    change_by (bytes_eq k l) l (f d) (g d) d ms (change_member k f ms) (change_member k g ms) (same d) (change_as_long k f g same ms) later

in_object_as_long : (f g : Members → Members) → ((ms : Members) → MembersAsLong (f ms) (g ms)) → (d : Data) → AsLong (in_object f d) (in_object g d)
in_object_as_long f g same null = refl
in_object_as_long f g same (boolean b) = refl
in_object_as_long f g same (number n) = refl
in_object_as_long f g same (string s) = refl
in_object_as_long f g same (array ds) = refl
in_object_as_long f g same (object ms) = ap suc (same ms false)

pub at_member_as_long : (k : List ℕ) (f g : Data → Data) → ((d : Data) → AsLong (f d) (g d)) → (d : Data) → AsLong (at_member k f d) (at_member k g d)
at_member_as_long k f g same d = in_object_as_long (change_member k f) (change_member k g) (change_as_long k f g same) d

-- two members in the place of others, of which the first may be any
twice_by : (c : Bool) (l : List ℕ) (v d e : Data) (ms ns ks os : Members) → AsLong d e → MembersAsLong ms ns → MembersAsLong ks os
    → MembersAsLong (cond c (member l v ms) (member l d ks)) (cond c (member l v ns) (member l e os))
twice_by true l v d e ms ns ks os value rest others = one_value_as_long l v v ms ns refl rest
twice_by false l v d e ms ns ks os value rest others = one_value_as_long l d e ks os value others

twice_step : (b : Bool) (k l : List ℕ) (v d e f : Data) (ms ns os : Members) → AsLong d e → MembersAsLong ns os
    → MembersAsLong (change_member k (λ _. v) ns) (change_member k (λ _. v) os)
    → MembersAsLong (change_member k (λ _. v) (cond b (member l d ms) (member l f ns))) (change_member k (λ _. v) (cond b (member l e ms) (member l f os)))
twice_step true k l v d e f ms ns os value rest later =
    twice_by (bytes_eq k l) l v d e ms ms (change_member k (λ _. v) ms) (change_member k (λ _. v) ms) value (λ _. refl) (λ _. refl)
twice_step false k l v d e f ms ns os value rest later =
    twice_by (bytes_eq k l) l v f f ns os (change_member k (λ _. v) ns) (change_member k (λ _. v) os) refl rest later

twice_as_long : (k q : List ℕ) (v : Data) (f g : Data → Data) → ((d : Data) → AsLong (f d) (g d)) → (ms : Members)
    → MembersAsLong (change_member k (λ _. v) (change_member q f ms)) (change_member k (λ _. v) (change_member q g ms))
twice_as_long k q v f g same no_members = λ later. refl
twice_as_long k q v f g same (member l d ms) =
    twice_step (bytes_eq q l) k l v (f d) (g d) d ms (change_member q f ms) (change_member q g ms) (same d) (change_as_long q f g same ms)
    (twice_as_long k q v f g same ms)

set_as_long : (k q : List ℕ) (v : Data) (f g : Data → Data) → ((d : Data) → AsLong (f d) (g d)) → (d : Data)
    → AsLong (at_member k (λ _. v) (at_member q f d)) (at_member k (λ _. v) (at_member q g d))
set_as_long k q v f g same null = refl
set_as_long k q v f g same (boolean b) = refl
set_as_long k q v f g same (number n) = refl
set_as_long k q v f g same (string s) = refl
set_as_long k q v f g same (array ds) = refl
set_as_long k q v f g same (object ms) = ap suc (twice_as_long k q v f g same ms false)

-- a member of that name, wherever it goes
put_by : (o : Ordering) (k l : List ℕ) (d e f : Data) (ms ns os : Members) → AsLong d e → MembersAsLong ns os
    → MembersAsLong (match_ordering o (member k d (member l f ms)) (member l d ms) (member l f ns)) (match_ordering o (member k e (member l f ms)) (member l e ms) (member l f os))
put_by Less k l d e f ms ns os value rest = one_value_as_long k d e (member l f ms) (member l f ms) value (λ _. refl)
put_by Equal k l d e f ms ns os value rest = one_value_as_long l d e ms ms value (λ _. refl)
put_by Greater k l d e f ms ns os value rest = one_value_as_long l f f ns os refl rest

put_as_long : (k : List ℕ) (d e : Data) → AsLong d e → (ms : Members) → MembersAsLong (put k d ms) (put k e ms)
put_as_long k d e value no_members = one_value_as_long k d e no_members no_members value (λ _. refl)
put_as_long k d e value (member l f ms) = put_by (slice_cmp nat_cmp k l) k l d e f ms (put k d ms) (put k e ms) value (put_as_long k d e value ms)

-- ---- keyslots whose salts are of one length

pub record SaltsAsLong (a b : List ℕ) : Type 0 where
  pub same : length (quoted (base64_text a)) ≡ length (quoted (base64_text b))

-- the keyslots have the same members except for the salt
pub record SameButSalt (s t : SlotMembers) : Type 0 where
  pub key_size : s.key_size ≡ t.key_size
  pub stripes : s.stripes ≡ t.stripes
  pub splitter_hash : s.splitter_hash ≡ t.splitter_hash
  pub offset : s.offset ≡ t.offset
  pub size : s.size ≡ t.size
  pub encryption : s.encryption ≡ t.encryption
  pub area_key_size : s.area_key_size ≡ t.area_key_size
  pub derivation : s.derivation ≡ t.derivation
  pub salt : SaltsAsLong s.salt t.salt

-- a derivation's text is as long by a salt whose text is as long
module _ (a b : List ℕ) (salts : SaltsAsLong a b) where
  argon2_as_long : (kind : List ℕ) (costs : Argon2Costs) → AsLong (argon2_value kind costs a) (argon2_value kind costs b)
  argon2_as_long kind costs =
      let last = member (codes "time") (number (unsigned costs.time)) (member (codes "type") (string kind) no_members) in
      let salted = λ (salt : List ℕ). member (codes "salt") (string (base64_text salt)) last in
      let more = λ (salt : List ℕ). member (codes "memory") (number (unsigned costs.memory)) (salted salt) in
      ap suc
      (one_value_as_long (codes "cpus") (number (unsigned costs.cpus)) (number (unsigned costs.cpus)) (more a) (more b) refl
      (one_value_as_long (codes "memory") (number (unsigned costs.memory)) (number (unsigned costs.memory)) (salted a) (salted b) refl
      (one_value_as_long (codes "salt") (string (base64_text a)) (string (base64_text b)) last last salts.same (λ _. refl))) false)

  pbkdf2_as_long : (hash : List ℕ) (n : ℕ) → AsLong (kdf_value (by_pbkdf2 hash n) a) (kdf_value (by_pbkdf2 hash n) b)
  pbkdf2_as_long hash n =
      let last = member (codes "type") (string (codes "pbkdf2")) no_members in
      let salted = λ (salt : List ℕ). member (codes "salt") (string (base64_text salt)) last in
      let more = λ (salt : List ℕ). member (codes "iterations") (number (unsigned n)) (salted salt) in
      ap suc
      (one_value_as_long (codes "hash") (string hash) (string hash) (more a) (more b) refl
      (one_value_as_long (codes "iterations") (number (unsigned n)) (number (unsigned n)) (salted a) (salted b) refl
      (one_value_as_long (codes "salt") (string (base64_text a)) (string (base64_text b)) last last salts.same (λ _. refl))) false)

  one_kdf_as_long : (d : Deriving) → AsLong (kdf_value d a) (kdf_value d b)
  one_kdf_as_long (by_pbkdf2 hash n) = pbkdf2_as_long hash n
  one_kdf_as_long (by_argon2i costs) = argon2_as_long (codes "argon2i") costs
  one_kdf_as_long (by_argon2id costs) = argon2_as_long (codes "argon2id") costs

-- so is that of one that is salted anew, or chosen
kdf_or_as_long : (asked : AskedDerivation) (a b : List ℕ) (area : Area) (hash : List ℕ) → SaltsAsLong a b → (chosen : Option NewDerivation) (m : Data)
    → AsLong (kdf_or (members_of asked a area) hash chosen m) (kdf_or (members_of asked b area) hash chosen m)
kdf_or_as_long asked a b area hash salts None m =
    set_as_long (codes "iterations") (codes "salt") (number (unsigned asked.iterations)) (λ _. string (base64_text a)) (λ _. string (base64_text b)) (λ _. salts.same) m
kdf_or_as_long asked a b area hash salts (Some c) m = one_kdf_as_long a b salts (derivation_by hash c)

pub changed_as_long : (asked : AskedDerivation) (a b : List ℕ) (area : Area) (n : ℕ) (j : Data) → SaltsAsLong a b
    → AsLong (changed_slot n (members_of asked a area) j) (changed_slot n (members_of asked b area) j)
changed_as_long asked a b area n j salts =
    let f = members_of asked a area in
    let g = members_of asked b area in
    at_member_as_long (codes "keyslots") (at_member (number_text n) (renewed_slot f)) (at_member (number_text n) (renewed_slot g))
    (λ d. at_member_as_long (number_text n) (renewed_slot f) (renewed_slot g)
    (λ k. at_member_as_long (codes "kdf") (renewed_kdf f (splitter_hash k)) (renewed_kdf g (splitter_hash k))
    (λ m. kdf_or_as_long asked a b area (splitter_hash k) salts asked.chosen m)
    (at_member (codes "area") (renewed_area f) k)) d) j

kdf_as_long : (s t : SlotMembers) → SameButSalt s t → AsLong (kdf_value s.derivation s.salt) (kdf_value t.derivation t.salt)
kdf_as_long s t x = subst (λ d. AsLong (kdf_value s.derivation s.salt) (kdf_value d t.salt)) x.derivation (one_kdf_as_long s.salt t.salt x.salt s.derivation)

splitter_same : (s t : SlotMembers) → SameButSalt s t → splitter_value s ≡ splitter_value t
splitter_same s t x = rw (x.splitter_hash, x.stripes) refl

area_same : (s t : SlotMembers) → SameButSalt s t → area_value s ≡ area_value t
area_same s t x = rw (x.encryption, x.area_key_size, x.offset, x.size) refl

slot_as_long : (s t : SlotMembers) → SameButSalt s t → AsLong (slot_value s) (slot_value t)
slot_as_long s t x =
    ap suc
    (one_value_as_long (codes "af") (splitter_value s) (splitter_value t)
    (member (codes "area") (area_value s) (member (codes "kdf") (kdf_value s.derivation s.salt) (member (codes "key_size") (number (unsigned s.key_size)) (member (codes "type") (string (codes "luks2")) no_members))))
    (member (codes "area") (area_value t) (member (codes "kdf") (kdf_value t.derivation t.salt) (member (codes "key_size") (number (unsigned t.key_size)) (member (codes "type") (string (codes "luks2")) no_members))))
    (ap (λ d. length (compact_text d)) (splitter_same s t x))
    (one_value_as_long (codes "area") (area_value s) (area_value t)
    (member (codes "kdf") (kdf_value s.derivation s.salt) (member (codes "key_size") (number (unsigned s.key_size)) (member (codes "type") (string (codes "luks2")) no_members)))
    (member (codes "kdf") (kdf_value t.derivation t.salt) (member (codes "key_size") (number (unsigned t.key_size)) (member (codes "type") (string (codes "luks2")) no_members)))
    (ap (λ d. length (compact_text d)) (area_same s t x))
    (one_value_as_long (codes "kdf") (kdf_value s.derivation s.salt) (kdf_value t.derivation t.salt)
    (member (codes "key_size") (number (unsigned s.key_size)) (member (codes "type") (string (codes "luks2")) no_members))
    (member (codes "key_size") (number (unsigned t.key_size)) (member (codes "type") (string (codes "luks2")) no_members))
    (kdf_as_long s t x)
    (one_value_as_long (codes "key_size") (number (unsigned s.key_size)) (number (unsigned t.key_size))
    (member (codes "type") (string (codes "luks2")) no_members) (member (codes "type") (string (codes "luks2")) no_members)
    (ap (λ n. length (decimal n)) x.key_size) (λ _. refl)))) false)

pub with_as_long : (n m : ℕ) (s t : SlotMembers) (j : Data) → SameButSalt s t → AsLong (with_slot n m s j) (with_slot n m t j)
with_as_long n m s t j x =
    at_member_as_long (codes "keyslots") (in_object (put (number_text n) (slot_value s))) (in_object (put (number_text n) (slot_value t)))
    (λ d. in_object_as_long (put (number_text n) (slot_value s)) (put (number_text n) (slot_value t))
    (λ ms. put_as_long (number_text n) (slot_value s) (slot_value t) (slot_as_long s t x) ms) d)
    (at_member (codes "digests") (at_member (number_text m) (with_name (number_text n))) j)
