-- What is found in a value that differs from another in named members alone.
use Rattle.std.proofs.Common.{◌≡◌, ℕ, Bool, true, false, cond, Ordering, Less, Equal, Greater, Option, Some, None, option_map, option_and_then, is_some, is_eq, bytes_eq, List, refl, sym, ap, ◌∙◌, inl, inr, ◌⊎◌}
use Rattle.std.proofs.lemmas.Bool.{true≢false, false≢true, cases_Bool}
use Rattle.std.proofs.lemmas.Map.Text.{is_eq-slice_cmp}
use Rattle.std.proofs.lemmas.Slice.Eq.{bytes_eq-Decides}
use Rattle.std.specs.Cmp.Lexicographic.{slice_cmp}
use Rattle.std.specs.Option.{option_map_or}
use Rattle.std.specs.Ordering.{nat_cmp, match_ordering}
use Rattle.serde_json.specs.Data.{Data, null, boolean, number, string, array, object, Items, Members, no_members, member, put}
use Rattle.serde_json.specs.Find.{get, get_member, as_object, as_array}
use Rattle.serde_json.proofs.Views.{get_member-put, get_member-put_other}
use Rattle.luks_making.specs.Changing.{at_member, change_member, drop_member, each_member, in_array, in_object}

-- ---- names

-- a member is looked up by the equality of names
by_order : {A : Type 0} (o : Ordering) (a b : A) → match_ordering o a b a ≡ cond (is_eq o) b a
by_order Less a b = refl
by_order Equal a b = refl
by_order Greater a b = refl

pub seek : (k l : List ℕ) (d : Data) (ms : Members) → get_member k (member l d ms) ≡ cond (bytes_eq k l) (Some d) (get_member k ms)
seek k l d ms = by_order (slice_cmp nat_cmp k l) (get_member k ms) (Some d) ∙ ap (λ b. cond b (Some d) (get_member k ms)) (is_eq-slice_cmp k l)

-- a name equals itself
pub same_name : (k : List ℕ) → bytes_eq k k ≡ true
same_name k = (bytes_eq-Decides k k).1 refl

-- two names that the test tells apart differ
pub other_name : (k l : List ℕ) → bytes_eq k l ≡ false → k ≡ l → ⊥
other_name k l off e = true≢false (sym ((bytes_eq-Decides k l).1 e) ∙ off)

-- two names are equal or differ
either_name : (k l : List ℕ) → (k ≡ l) ⊎ (k ≡ l → ⊥)
either_name k l = elim (cases_Bool (bytes_eq k l)) [
  | inl same ↦ inl ((bytes_eq-Decides k l).0 same)
  | inr off ↦ inr (other_name k l off)
]

-- the test tells two names apart in either order
pub different : (s t : List ℕ) → bytes_eq s t ≡ false → bytes_eq t s ≡ false
different s t off = elim (cases_Bool (bytes_eq t s)) [
  | inl same ↦ absurd (other_name s t off (sym ((bytes_eq-Decides t s).0 same)))
  | inr is ↦ is
]

-- a name that differs from another differs from what equals that
apart : (q k l : List ℕ) → bytes_eq q k ≡ false → bytes_eq k l ≡ true → bytes_eq q l ≡ false
apart q k l off same = let e : k ≡ l = (bytes_eq-Decides k l).0 same in rw (← e) off

-- ---- options

-- what an option holds is one value
pub some_same : {A : Type 0} (x y : A) → Some x ≡ Some y → x ≡ y
some_same x y e = cc

-- an option of nothing holds nothing
pub no_some : {A : Type 0} (y : A) → None ≡ Some y → ⊥
no_some y e = cc

-- what is mapped was there
pub mapped : {A : Type 0} (f : A → A) (o : Option A) (y : A) → option_map f o ≡ Some y → (x : A) × (o ≡ Some x) × (y ≡ f x)
mapped f None y e = absurd (cc)
mapped f (Some x) y e = (x, refl, cc)

-- an option is mapped to one that holds something exactly where it does
pub map_is_some : {A B : Type 0} (f : A → B) (o : Option A) → is_some (option_map f o) ≡ is_some o
map_is_some f None = refl
map_is_some f (Some x) = refl

-- a member of a changed map: changed, as it was, or gone
pub through : (k : List ℕ) (into f : Data → Data) (v : Option Data) → ((d : Data) → get k (into d) ≡ option_map f (get k d))
    → option_and_then (get k) (option_map into v) ≡ option_map f (option_and_then (get k) v)
through k into f None h = refl
through k into f (Some d) h = h d

pub beside : (k : List ℕ) (into : Data → Data) (v : Option Data) → ((d : Data) → get k (into d) ≡ get k d) → option_and_then (get k) (option_map into v) ≡ option_and_then (get k) v
beside k into None h = refl
beside k into (Some d) h = h d

pub nowhere : (k : List ℕ) (into : Data → Data) (v : Option Data) → ((d : Data) → get k (into d) ≡ None) → option_and_then (get k) (option_map into v) ≡ None
nowhere k into None h = refl
nowhere k into (Some d) h = h d

-- ---- a changed member

member_changed : (k : List ℕ) (f : Data → Data) (ms : Members) → get_member k (change_member k f ms) ≡ option_map f (get_member k ms)
member_changed k f no_members = refl
member_changed k f (member l d ms) = elim (cases_Bool (bytes_eq k l)) [
  | inl same ↦ rw (same, seek k l (f d) ms, seek k l d ms, same) refl
  | inr off ↦ rw (off, seek k l d (change_member k f ms), seek k l d ms, off) (member_changed k f ms)
]

member_kept : (q k : List ℕ) (f : Data → Data) (ms : Members) → bytes_eq q k ≡ false → get_member q (change_member k f ms) ≡ get_member q ms
member_kept q k f no_members off = refl
member_kept q k f (member l d ms) off = elim (cases_Bool (bytes_eq k l)) [
  | inl same ↦ rw (same, seek q l (f d) ms, seek q l d ms, apart q k l off same) refl
  | inr other ↦ rw (other, seek q l d (change_member k f ms), seek q l d ms, member_kept q k f ms off) refl
]

-- the changed member, and another
pub get_changed : (k : List ℕ) (f : Data → Data) (d : Data) → get k (at_member k f d) ≡ option_map f (get k d)
get_changed k f (object ms) = member_changed k f ms
get_changed k f d = refl

pub get_kept : (q k : List ℕ) (f : Data → Data) (d : Data) → bytes_eq q k ≡ false → get q (at_member k f d) ≡ get q d
get_kept q k f (object ms) off = member_kept q k f ms off
get_kept q k f d off = refl

same_by : (k : List ℕ) (f : Data → Data) (ms : Members) → option_map f (get_member k ms) ≡ get_member k ms → change_member k f ms ≡ ms
same_by k f no_members e = refl
same_by k f (member l x ms) e = elim (cases_Bool (bytes_eq k l)) [
  | inl same ↦ (
      let here : get_member k (member l x ms) ≡ Some x = rw same at (seek k l x ms) in
      let is : f x ≡ x = some_same (f x) x (rw here at e) in
      rw (same, is) refl)
  | inr other ↦ (
      let later : get_member k (member l x ms) ≡ get_member k ms = rw other at (seek k l x ms) in
      rw other (ap (member l x) (same_by k f ms (rw later at e))))
]

-- a member that the edit leaves as it is: so is the object
pub at_same : (k : List ℕ) (f : Data → Data) (d : Data) → option_map f (get k d) ≡ get k d → at_member k f d ≡ d
at_same k f (object ms) e = ap object (same_by k f ms e)
at_same k f d e = refl

-- a member that isn't there is changed nowhere
pub at_none : (k : List ℕ) (f : Data → Data) (d : Data) → get k d ≡ None → at_member k f d ≡ d
at_none k f d e = at_same k f d (rw e refl)

-- ---- each member changed

first_by : (b : Bool) (d : Data) (f : Data → Data) (rest : Option Data) → cond b (Some (f d)) (option_map f rest) ≡ option_map f (cond b (Some d) rest)
first_by true d f rest = refl
first_by false d f rest = refl

member_each : (q : List ℕ) (f : Data → Data) (ms : Members) → get_member q (each_member f ms) ≡ option_map f (get_member q ms)
member_each q f no_members = refl
member_each q f (member l d ms) = rw (seek q l (f d) (each_member f ms), seek q l d ms, member_each q f ms) (first_by (bytes_eq q l) d f (get_member q ms))

pub get_each : (q : List ℕ) (f : Data → Data) (d : Data) → get q (in_object (each_member f) d) ≡ option_map f (get q d)
get_each q f (object ms) = member_each q f ms
get_each q f d = refl

-- ---- a member left out

member_gone : (k : List ℕ) (ms : Members) → get_member k (drop_member k ms) ≡ None
member_gone k no_members = refl
member_gone k (member l d ms) = elim (cases_Bool (bytes_eq k l)) [
  | inl same ↦ rw same (member_gone k ms)
  | inr off ↦ rw (off, seek k l d (drop_member k ms), off) (member_gone k ms)
]

member_left : (q k : List ℕ) (ms : Members) → bytes_eq q k ≡ false → get_member q (drop_member k ms) ≡ get_member q ms
member_left q k no_members off = refl
member_left q k (member l d ms) off = elim (cases_Bool (bytes_eq k l)) [
  | inl same ↦ rw (same, seek q l d ms, apart q k l off same) (member_left q k ms off)
  | inr other ↦ rw (other, seek q l d (drop_member k ms), seek q l d ms, member_left q k ms off) refl
]

-- the member that is left out, and another
pub get_gone : (k : List ℕ) (d : Data) → get k (in_object (drop_member k) d) ≡ None
get_gone k (object ms) = member_gone k ms
get_gone k d = refl

pub get_left : (q k : List ℕ) (d : Data) → bytes_eq q k ≡ false → get q (in_object (drop_member k) d) ≡ get q d
get_left q k (object ms) off = member_left q k ms off
get_left q k d off = refl

-- ---- a member that is put

-- the member that was put, in a value that is an object
pub put_here : (k : List ℕ) (d : Data) (v : Option Data) → is_some (option_and_then as_object v) ≡ true → option_and_then (get k) (option_map (in_object (put k d)) v) ≡ Some d
put_here k d (Some (object ms)) h = get_member-put k d ms
put_here k d v h = absurd (false≢true h)

-- another
pub put_beside : (q k : List ℕ) (d : Data) (v : Option Data) → bytes_eq q k ≡ false → option_and_then (get q) (option_map (in_object (put k d)) v) ≡ option_and_then (get q) v
put_beside q k d (Some (object ms)) off = get_member-put_other q k d ms (other_name q k off)
put_beside q k d v off = refl

still_there : (q k : List ℕ) (d : Data) (ms : Members) → is_some (get_member q ms) ≡ true → is_some (get_member q (put k d ms)) ≡ true
still_there q k d ms h = elim (either_name q k) [
  | inl same ↦ rw (same, get_member-put k d ms) refl
  | inr other ↦ rw (get_member-put_other q k d ms other) h
]

-- what was there still is
pub put_more : (q k : List ℕ) (d : Data) (v : Option Data) → is_some (option_and_then (get q) v) ≡ true → is_some (option_and_then (get q) (option_map (in_object (put k d)) v)) ≡ true
put_more q k d (Some (object ms)) h = still_there q k d ms h
put_more q k d v h = h

-- ---- what a value is

-- a value is an object exactly where the changed one is
pub still_object : (f : Members → Members) (d : Data) → is_some (as_object (in_object f d)) ≡ is_some (as_object d)
still_object f null = refl
still_object f (boolean b) = refl
still_object f (number n) = refl
still_object f (string s) = refl
still_object f (array ds) = refl
still_object f (object ms) = refl

object_changed : (f : Members → Members) (d : Data) → as_object (in_object f d) ≡ option_map f (as_object d)
object_changed f null = refl
object_changed f (boolean b) = refl
object_changed f (number n) = refl
object_changed f (string s) = refl
object_changed f (array ds) = refl
object_changed f (object ms) = refl

-- the members of a changed object
pub object_map : (f : Members → Members) (v : Option Data) → option_and_then as_object (option_map (in_object f) v) ≡ option_map f (option_and_then as_object v)
object_map f None = refl
object_map f (Some d) = object_changed f d

array_changed : (f : Items → Items) (d : Data) → as_array (in_array f d) ≡ option_map f (as_array d)
array_changed f null = refl
array_changed f (boolean b) = refl
array_changed f (number n) = refl
array_changed f (string s) = refl
array_changed f (array ds) = refl
array_changed f (object ms) = refl

-- the items of a changed array
pub array_map : (f : Items → Items) (v : Option Data) → option_and_then as_array (option_map (in_array f) v) ≡ option_map f (option_and_then as_array v)
array_map f None = refl
array_map f (Some d) = array_changed f d

-- a value whose members meet a test is an object
pub tested_object : (f : Members → Bool) (v : Option Data) → option_map_or f (option_and_then as_object v) false ≡ true → is_some (option_and_then as_object v) ≡ true
tested_object f (Some (object ms)) h = refl
tested_object f d h = absurd (false≢true h)

-- a member that is found is one of an object
pub record FoundIn (v : Option Data) (k : List ℕ) (d : Data) : Type 0 where
  pub members : Members
  pub are : option_and_then as_object v ≡ Some members
  pub found : get_member k members ≡ Some d

pub found_in : (v : Option Data) (k : List ℕ) (d : Data) → option_and_then (get k) v ≡ Some d → FoundIn v k d
found_in (Some (object ms)) k d e = record { members = ms; are = refl; found = e }
found_in v k d e = absurd (cc)

-- ---- an object with two members edited

pub two_others : (q k l : List ℕ) (f g : Data → Data) (d : Data) → bytes_eq q k ≡ false → bytes_eq q l ≡ false → get q (at_member k f (at_member l g d)) ≡ get q d
two_others q k l f g d a b = get_kept q k f (at_member l g d) a ∙ get_kept q l g d b

pub two_first : (k l : List ℕ) (f g : Data → Data) (d : Data) → bytes_eq k l ≡ false → get k (at_member k f (at_member l g d)) ≡ option_map f (get k d)
two_first k l f g d off = get_changed k f (at_member l g d) ∙ ap (option_map f) (get_kept k l g d off)

pub two_second : (k l : List ℕ) (f g : Data → Data) (d : Data) → bytes_eq l k ≡ false → get l (at_member k f (at_member l g d)) ≡ option_map g (get l d)
two_second k l f g d off = get_kept l k f (at_member l g d) off ∙ get_changed l g d

pub two_object : (k l : List ℕ) (f g : Data → Data) (d : Data) → is_some (as_object (at_member k f (at_member l g d))) ≡ is_some (as_object d)
two_object k l f g d = still_object (change_member k f) (at_member l g d) ∙ still_object (change_member l g) d
