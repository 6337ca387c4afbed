-- Maps and arrays as they are edited in place: what is seen of them.
use Rattle.std.proofs.Common.{◌≡◌, ℕ, Bool, true, false, cond, not, List, [], ◌∷◌, ◌++◌, Some, Vec, Global, refl, sym, ap, ◌∙◌, String, Less, Greater, string_bytes, string_cmp, nat_cmp, Ok, Err, IfOk, Result, None, Ordering, Equal, BTreeMap, is_eq, bytes_eq, rules, Option, option_map, inl, inr}
use Rattle.std.proofs.lemmas.Bool.{cases_Bool}
use Rattle.std.proofs.lemmas.Cmp.{nat_list_cmp_total}
use Rattle.std.proofs.lemmas.Map.Text.{is_eq-slice_cmp}
use Rattle.std.specs.BTreeMap.{insert_entry, is_at}
use Rattle.std.specs.Cmp.Lexicographic.{slice_cmp}
use Rattle.std.specs.List.{AllByRecursion}
use Rattle.std.specs.List.Sorted.{IsStrictlySortedBy}
use Rattle.std.specs.Map.{keys_of, lookup, remove_entry, set_value}
use Rattle.std.specs.Ordering.{ordering_reverse}
use Rattle.std.specs.Prelude.{filter}
use Rattle.serde_json.proofs.Views.{view-Array, Entry, view-Object, members_view-insert_entry, view-lookup}
use Rattle.serde_json.specs.Data.{Data, string, array, Items, item, Members, no_members, member, put, object, null}
use Rattle.serde_json.specs.Find.{as_array, get, get_member, as_object}
use Rattle.serde_json.specs.View.{view, items_view, members_view}
use Rattle.serde_json.specs.declared.value.Value.{Value, Array, Object, the_lemmas, String as Text}
use Rattle.luks_json.specs.Arrays.{is_text}
use Rattle.luks_making.specs.Changing.{add_text, drop_text, in_array, each_member, at_member, change_member, drop_member, set_member}
use Rattle.luks_making.proofs.MemberFacts.{at_none, get_changed, seek, some_same}

-- ---- arrays that lose items, or get one more

-- one step of `kept_items`
kept_by : (b : Bool) (x : Value) (more : List Value) (rest : Items) → items_view more ≡ rest → items_view (cond (not b) (x ∷ more) more) ≡ cond b rest (item (view x) rest)
kept_by true x more rest h = h
kept_by false x more rest h = ap (item (view x)) h

-- the items that aren't the text
pub kept_items : (t : List ℕ) (xs : List Value) → items_view (filter (λ v. not (is_text t (view v))) xs) ≡ drop_text t (items_view xs)
kept_items t [] = refl
kept_items t (x ∷ xs) = kept_by (is_text t (view x)) x (filter (λ v. not (is_text t (view v))) xs) (drop_text t (items_view xs)) (kept_items t xs)

-- ---- an item that is added to an array

-- a value that has items is an array
is_array : (d : Data) (items : Items) → Some items ≡ as_array d → d ≡ array items
is_array (array ds) items e = let same : items ≡ ds = cc in ap array (sym same)
is_array d items e = absurd (cc)

-- one more item at the end
last_item : (t : List ℕ) (xs : List Value) (v : Value) → view v ≡ string t → items_view (xs ++ v ∷ []) ≡ add_text t (items_view xs)
last_item t [] v is = rw is refl
last_item t (x ∷ xs) v is = ap (item (view x)) (last_item t xs v is)

-- the array after an item was pushed
pub pushed : (j : Data) (xs : List Value) (m : Vec Value Global) (v : Value) (t : List ℕ) → Some (items_view xs) ≡ as_array j → m.items ≡ xs ++ v ∷ [] → view v ≡ string t
    → view (Array m) ≡ in_array (add_text t) j
pushed j xs m v t here made is =
    let e : j ≡ array (items_view xs) = is_array j (items_view xs) here in
    view-Array m ∙ (ap (λ ys. array (items_view ys)) made ∙ (ap array (last_item t xs v is) ∙ rw e refl))

-- ---- objects whose members are changed one by one, in the order of their names

-- the name comes after those of the members
abbrev IsAbove : List ℕ → Members → Type 0
IsAbove k no_members = Unit {0}
IsAbove k (member l d ms) = (slice_cmp nat_cmp k l ≡ Greater) × IsAbove k ms

-- the members, and one behind them
abbrev add_last : List ℕ → Data → Members → Members
add_last k d no_members = member k d no_members
add_last k d (member l e ms) = member l e (add_last k d ms)

-- a name after all others goes last
put_above : (k : List ℕ) (d : Data) (ms : Members) → IsAbove k ms → put k d ms ≡ add_last k d ms
put_above k d no_members h = refl
put_above k d (member l e ms) h = rw h.0 (ap (member l e) (put_above k d ms h.1))

-- of names in order the first comes before each other
below_middle : (first : Entry) (es : List Entry) (e : Entry) (more : List Entry) → AllByRecursion (λ (y : String Global). slice_cmp nat_cmp (string_bytes first.0) (string_bytes y) ≡ Less) (keys_of (es ++ e ∷ more))
    → slice_cmp nat_cmp (string_bytes first.0) (string_bytes e.0) ≡ Less
below_middle first [] e more h = h.0
below_middle first (x ∷ es) e more h = below_middle first es e more h.1

-- of names in order the next comes after those before it
above_done : (done : List Entry) (e : Entry) (more : List Entry) → IsStrictlySortedBy string_cmp (keys_of (done ++ e ∷ more)) → IsAbove (string_bytes e.0) (members_view done)
unfolding IsStrictlySortedBy
above_done [] e more h = tt
above_done (x ∷ done) e more h =
    (nat_list_cmp_total.antisymm (string_bytes e.0) (string_bytes x.0) ∙ ap ordering_reverse (below_middle x done e more h.0), above_done done e more h.1)

-- changed values keep the order of names
above_each : (k : List ℕ) (f : Data → Data) (ms : Members) → IsAbove k ms → IsAbove k (each_member f ms)
above_each k f no_members h = tt
above_each k f (member l d ms) h = (h.0, above_each k f ms h.1)

-- each value is changed, the last one too
each_added : (f : Data → Data) (done : List Entry) (e : Entry)
    → add_last (string_bytes e.0) (f (view e.1)) (each_member f (members_view done)) ≡ each_member f (members_view (done ++ e ∷ []))
each_added f [] e = refl
each_added f (x ∷ done) e = ap (member (string_bytes x.0) (f (view x.1))) (each_added f done e)

-- the next member is changed
pub each_next : (f : Data → Data) (done : List Entry) (e : Entry) (more : List Entry) → IsStrictlySortedBy string_cmp (keys_of (done ++ e ∷ more))
    → put (string_bytes e.0) (f (view e.1)) (each_member f (members_view done)) ≡ each_member f (members_view (done ++ e ∷ []))
each_next f done e more h =
    put_above (string_bytes e.0) (f (view e.1)) (each_member f (members_view done)) (above_each (string_bytes e.0) f (members_view done) (above_done done e more h))
    ∙ each_added f done e

-- ---- a value that is put in the place of a member

-- names are equal where their order is
equal_by : (o : Ordering) (k l : List ℕ) → slice_cmp nat_cmp k l ≡ o → bytes_eq k l ≡ is_eq o
equal_by o k l e = sym (is_eq-slice_cmp k l) ∙ ap is_eq e

-- a name below all others isn't there
above : (k : List ℕ) (e : Entry) (es : List Entry) → slice_cmp nat_cmp k (string_bytes e.0) ≡ Less
    → AllByRecursion (λ (y : String Global). slice_cmp nat_cmp (string_bytes e.0) (string_bytes y) ≡ Less) (keys_of es) → get_member k (members_view es) ≡ None
above k e [] less h = refl
above k e (f ∷ es) less h =
    let further : slice_cmp nat_cmp k (string_bytes f.0) ≡ Less = nat_list_cmp_total.trans k (string_bytes e.0) (string_bytes f.0) less h.0 in
    rw further (above k e es less h.1)

-- one step of `put_changes`
put_by : (o : Ordering) (k : List ℕ) (f : Data → Data) (d : Data) (x : Entry) (es : List Entry) → slice_cmp nat_cmp k (string_bytes x.0) ≡ o
    → AllByRecursion (λ (y : String Global). slice_cmp nat_cmp (string_bytes x.0) (string_bytes y) ≡ Less) (keys_of es)
    → get_member k (members_view (x ∷ es)) ≡ Some d
    → (get_member k (members_view es) ≡ Some d → put k (f d) (members_view es) ≡ change_member k f (members_view es))
    → put k (f d) (members_view (x ∷ es)) ≡ change_member k f (members_view (x ∷ es))
put_by Less k f d x es is h e later =
    let none : get_member k (members_view es) ≡ None = above k x es is h in
    let some : get_member k (members_view es) ≡ Some d = rw is at e in
    absurd (let both : None ≡ Some d = sym none ∙ some in cc)
put_by Equal k f d x es is h e later =
    let here : Some (view x.1) ≡ Some d = rw is at e in
    let same : view x.1 ≡ d = cc in
    rw (is, equal_by Equal k (string_bytes x.0) is, same) refl
put_by Greater k f d x es is h e later =
    rw (is, equal_by Greater k (string_bytes x.0) is) (ap (member (string_bytes x.0) (view x.1)) (later (rw is at e)))

-- where the name is there, putting a value in changes that member alone
pub put_changes : (es : List Entry) (k : List ℕ) (f : Data → Data) (d : Data) → IsStrictlySortedBy string_cmp (keys_of es) → get_member k (members_view es) ≡ Some d
    → put k (f d) (members_view es) ≡ change_member k f (members_view es)
unfolding IsStrictlySortedBy
put_changes [] k f d h e = absurd (cc)
put_changes (x ∷ es) k f d h e = put_by (slice_cmp nat_cmp k (string_bytes x.0)) k f d x es refl h.0 e (λ g. put_changes es k f d h.1 g)

-- a value that has members is an object
pub is_object : (d : Data) (ms : Members) → Some ms ≡ as_object d → d ≡ object ms
is_object (object os) ms e = let same : ms ≡ os = cc in ap object (sym same)
is_object d ms e = absurd (cc)

-- the object after a value was inserted at a name that it had
pub inserted : (j : Data) (es : List Entry) (m : BTreeMap (String Global) Value) (key : String Global) (v : Value) (name : List ℕ) (f : Data → Data) (d : Data)
    → Some (members_view es) ≡ as_object j → m.entries ≡ insert_entry string_cmp es key v → string_bytes key ≡ name → IsStrictlySortedBy string_cmp (keys_of es)
    → get name j ≡ Some d → view v ≡ f d → view (Object m) ≡ at_member name f j
inserted j es m key v name f d is made named sorted found same =
    let e : j ≡ object (members_view es) = is_object j (members_view es) is in
    let there : get_member name (members_view es) ≡ Some d = rw e at found in
    view-Object m ∙ (ap (λ xs. object (members_view xs)) made ∙ (ap object (members_view-insert_entry es key v)
    ∙ rw (named, same, e) (ap object (put_changes es name f d sorted there))))

-- a text is seen as its bytes
view_text : (s : String Global) → view (Text s) ≡ string (string_bytes s)
view_text s = search (rules, the_lemmas)

-- an answer of one value is one of an equal value
pub same_ok : {E : Type 0} (r : Result Value E) (a b : Data) → a ≡ b → IfOk r (λ v. view v ≡ a) → IfOk r (λ v. view v ≡ b)
same_ok (Ok v) a b same h = h ∙ same
same_ok (Err e) a b same h = tt

-- a text with these bytes
pub text_view : (s : String Global) (t : List ℕ) → string_bytes s ≡ t → view (Text s) ≡ string t
text_view s t is = view_text s ∙ ap string is

-- ---- members that are taken out of an object, changed and put back

-- of two values that are put at a name the last one stays
last_stays : (k : List ℕ) (e x : Data) (ms : Members) → change_member k (λ _. e) (change_member k (λ _. x) ms) ≡ change_member k (λ _. e) ms
last_stays k e x no_members = refl
last_stays k e x (member l d ms) = elim (cases_Bool (bytes_eq k l)) [
  | inl same ↦ rw (same, same) refl
  | inr off ↦ rw (off, off) (ap (member l d) (last_stays k e x ms))
]

-- the value that a change makes of the member is put in its place
put_made : (k : List ℕ) (f : Data → Data) (d : Data) (ms : Members) → get_member k ms ≡ Some d → change_member k (λ _. f d) ms ≡ change_member k f ms
put_made k f d no_members there = refl
put_made k f d (member l x ms) there = elim (cases_Bool (bytes_eq k l)) [
  | inl same ↦ (
      let here : get_member k (member l x ms) ≡ Some x = rw same at (seek k l x ms) in
      let is : d ≡ x = some_same d x (sym there ∙ here) in
      rw (same, is) refl)
  | inr other ↦ (
      let later : get_member k (member l x ms) ≡ get_member k ms = rw other at (seek k l x ms) in
      rw other (ap (member l x) (put_made k f d ms (sym later ∙ there))))
]

-- the object once the member is put back that was taken out and changed
pub put_back : (k : List ℕ) (f : Data → Data) (j d e : Data) → get k j ≡ Some d → e ≡ f d → at_member k (λ _. e) (set_member k null j) ≡ at_member k f j
put_back k f (object ms) d e there is = ap object (last_stays k e null ms ∙ (rw is (put_made k f d ms there)))
put_back k f v d e there is = refl

-- null stands where a member was taken out
pub null_left : (k : List ℕ) (j d : Data) → get k j ≡ Some d → get k (set_member k null j) ≡ Some null
null_left k j d there = get_changed k (λ _. null) j ∙ ap (option_map (λ _. null)) there

-- where no member was taken out, the object is as it was, and so is the changed one
pub none_taken : (k : List ℕ) (f : Data → Data) (j w : Data) → None ≡ get k j → w ≡ set_member k null j → w ≡ at_member k f j
none_taken k f j w none left = left ∙ (at_none k (λ _. null) j (sym none) ∙ sym (at_none k f j (sym none)))

-- ---- what a map lends, writes back and gives up

-- the test of a name in a map
abbrev pub at_name : List ℕ → String Global → Bool
at_name k = is_at (λ n. slice_cmp nat_cmp k (string_bytes n))

-- one step of `set_changes`
set_by : (b : Bool) (k : List ℕ) (w : Value) (e : Entry) (es more : List Entry) → members_view more ≡ change_member k (λ _. view w) (members_view es)
    → members_view (cond b ((e.0, w) ∷ es) (e ∷ more))
    ≡ cond b (member (string_bytes e.0) (view w) (members_view es)) (member (string_bytes e.0) (view e.1) (change_member k (λ _. view w) (members_view es)))
set_by true k w e es more later = refl
set_by false k w e es more later = ap (member (string_bytes e.0) (view e.1)) later

-- the members after a value was written at a name
pub set_changes : (k : List ℕ) (w : Value) (es : List Entry) → members_view (set_value (at_name k) es w) ≡ change_member k (λ _. view w) (members_view es)
set_changes k w [] = refl
set_changes k w (e ∷ es) = rw (is_eq-slice_cmp k (string_bytes e.0)) (set_by (bytes_eq k (string_bytes e.0)) k w e es (set_value (at_name k) es w) (set_changes k w es))

-- what a lookup in the map finds is the member
pub taken_of : (j : Data) (es : List Entry) (k : List ℕ) (o : Option Value) → Some (members_view es) ≡ as_object j → o ≡ lookup (at_name k) es → option_map view o ≡ get k j
taken_of j es k o is found = ap (option_map view) found ∙ (view-lookup k es ∙ ap (get k) (sym (is_object j (members_view es) is)))

-- the object after a value was written at the name
pub written : (j : Data) (es : List Entry) (m : BTreeMap (String Global) Value) (w : Value) (k : List ℕ) (x : Data)
    → Some (members_view es) ≡ as_object j → m.entries ≡ set_value (at_name k) es w → view w ≡ x → view (Object m) ≡ set_member k x j
written j es m w k x is made same =
    let e : j ≡ object (members_view es) = is_object j (members_view es) is in
    view-Object m ∙ (ap (λ xs. object (members_view xs)) made ∙ (ap object (set_changes k w es)
    ∙ (ap (λ y. set_member k y (object (members_view es))) same ∙ ap (set_member k x) (sym e))))

-- the object where there is no member of the name
pub unwritten : (j : Data) (es : List Entry) (m : BTreeMap (String Global) Value) (k : List ℕ)
    → Some (members_view es) ≡ as_object j → m.entries ≡ es → None ≡ get k j → view (Object m) ≡ set_member k null j
unwritten j es m k is same none =
    let e : j ≡ object (members_view es) = is_object j (members_view es) is in
    view-Object m ∙ (ap (λ xs. object (members_view xs)) same ∙ (sym e ∙ sym (at_none k (λ _. null) j (sym none))))

-- one step of `absent`
absent_by : (b : Bool) (k : List ℕ) (e : Entry) (es : List Entry) → cond b (Some e.1) (lookup (at_name k) es) ≡ None
    → (lookup (at_name k) es ≡ None → drop_member k (members_view es) ≡ members_view es)
    → cond b (drop_member k (members_view es)) (member (string_bytes e.0) (view e.1) (drop_member k (members_view es))) ≡ member (string_bytes e.0) (view e.1) (members_view es)
absent_by true k e es none later = absurd (cc)
absent_by false k e es none later = ap (member (string_bytes e.0) (view e.1)) (later none)

-- where a name isn't found no member is left out
absent : (k : List ℕ) (es : List Entry) → lookup (at_name k) es ≡ None → drop_member k (members_view es) ≡ members_view es
absent k [] none = refl
absent k (e ∷ es) none = absent_by (bytes_eq k (string_bytes e.0)) k e es (rw (is_eq-slice_cmp k (string_bytes e.0)) at none) (absent k es)

-- one step of `removed`
removed_by : (b : Bool) (k : List ℕ) (e : Entry) (es : List Entry) → bytes_eq k (string_bytes e.0) ≡ b → lookup (at_name k) (cond b es (e ∷ remove_entry (at_name k) es)) ≡ None
    → (lookup (at_name k) (remove_entry (at_name k) es) ≡ None → members_view (remove_entry (at_name k) es) ≡ drop_member k (members_view es))
    → members_view (cond b es (e ∷ remove_entry (at_name k) es)) ≡ cond b (drop_member k (members_view es)) (member (string_bytes e.0) (view e.1) (drop_member k (members_view es)))
removed_by true k e es is none later = sym (absent k es none)
removed_by false k e es is none later = ap (member (string_bytes e.0) (view e.1)) (later (rw (is_eq-slice_cmp k (string_bytes e.0), is) at none))

-- the members that a map has left, once the name isn't found any more
pub removed : (k : List ℕ) (es : List Entry) → lookup (at_name k) (remove_entry (at_name k) es) ≡ None → members_view (remove_entry (at_name k) es) ≡ drop_member k (members_view es)
removed k [] none = refl
removed k (e ∷ es) none = rw (is_eq-slice_cmp k (string_bytes e.0))
    (removed_by (bytes_eq k (string_bytes e.0)) k e es refl (rw (is_eq-slice_cmp k (string_bytes e.0)) at none) (removed k es))

-- what the entries that are left don't have
pub found_in_map : (k : List ℕ) (left es : List Entry) → left ≡ remove_entry (at_name k) es → lookup (at_name k) left ≡ None → lookup (at_name k) (remove_entry (at_name k) es) ≡ None
found_in_map k left es is none = ap (lookup (at_name k)) (sym is) ∙ none
