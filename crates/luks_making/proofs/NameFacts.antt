-- Names of objects, and arrays of names with one text less or more.
use Rattle.std.proofs.Common.{◌≡◌, ℕ, ◌+◌, ◌-◌, ◌*◌, Bool, true, false, cond, List, [], ◌∷◌, Option, Some, None, option_map, option_and_then, is_some, bytes_eq, refl, sym, ap, ◌∙◌, inl, inr, arith}
use Rattle.std.specs.Prelude.{◌||◌, not, ◌++◌}
use Rattle.std.specs.List.{filter}
use Rattle.std.proofs.lemmas.Bool.{cases_Bool, cases_lt, lt-ltb, le-ltb, and_from, and_parts}
use Rattle.std.proofs.lemmas.Slice.Eq.{bytes_eq-Decides}
use Rattle.serde_json.specs.Data.{Data, string, array, object, Items, no_items, item, Members, no_members, member}
use Rattle.serde_json.specs.Find.{get, get_member, as_str}
use Rattle.luks_json.specs.Arrays.{all_there, has_repeat, has_text, is_text, is_there, names, naming_count, naming_members, repeats}
use Rattle.luks_json.specs.Number.{number_text}
use Rattle.luks_rules.specs.Reading.{item_texts, texts_of}
use Rattle.luks_rules.specs.Reading.{names as names_field}
use Rattle.luks_making.specs.Changing.{add_text, change_member, drop_text, each_member, in_array, in_object}
use Rattle.luks_making.proofs.MemberFacts.{different, map_is_some, same_name, seek}
use Rattle.luks_making.proofs.RowFacts.{KeepsNames}
use Rattle.luks_making.proofs.EachFacts.{neither, or_off}

-- ---- the names of two numbers differ

-- the number of one digit or two
abbrev value_of : List ℕ → ℕ
value_of (a ∷ b ∷ rest) = 10 * (a - 48) + (b - 48)
value_of (a ∷ rest) = a - 48
value_of text = 0

text_value : (n : ℕ) → value_of (number_text n) ≡ n
text_value n = elim (cases_lt n 10) [
  | inl low ↦ rw (lt-ltb n 10 low) (omega arith)
  | inr high ↦ rw (le-ltb n 10 high) (omega arith)
]

-- one name is that of one number
pub same_number : (m n : ℕ) → number_text m ≡ number_text n → m ≡ n
same_number m n e = sym (text_value m) ∙ (ap value_of e ∙ text_value n)

-- the test tells the names of two numbers apart
pub texts_differ : (m n : ℕ) → (m ≡ n → ⊥) → bytes_eq (number_text m) (number_text n) ≡ false
texts_differ m n other = elim (cases_Bool (bytes_eq (number_text m) (number_text n))) [
  | inl same ↦ absurd (other (same_number m n ((bytes_eq-Decides (number_text m) (number_text n)).0 same)))
  | inr is ↦ is
]

-- ---- an array with one text less

other_text : (t s : List ℕ) (d : Data) → bytes_eq s t ≡ false → is_text t d ≡ true → is_text s d ≡ false
other_text t s (string u) off on = let e : u ≡ t = (bytes_eq-Decides u t).0 on in rw e (different s t off)
other_text t s d off on = refl

-- the other texts stay
has_kept : (t s : List ℕ) (ds : Items) → bytes_eq s t ≡ false → has_text s (drop_text t ds) ≡ has_text s ds
has_kept t s no_items off = refl
has_kept t s (item d ds) off = elim (cases_Bool (is_text t d)) [
  | inl same ↦ rw (same, other_text t s d off same) (has_kept t s ds off)
  | inr other ↦ rw other (ap (λ b. is_text s d || b) (has_kept t s ds off))
]

-- a text that wasn't there isn't
fewer : (t s : List ℕ) (ds : Items) → has_text s ds ≡ false → has_text s (drop_text t ds) ≡ false
fewer t s no_items h = refl
fewer t s (item d ds) h =
    let p = neither _ _ h in
    elim (cases_Bool (is_text t d)) [
      | inl same ↦ rw same (fewer t s ds p.1)
      | inr other ↦ rw other (or_off _ _ p.0 (fewer t s ds p.1))
    ]

alone : (t : List ℕ) (d : Data) (ds : Items) → repeats d ds ≡ false → repeats d (drop_text t ds) ≡ false
alone t (string s) ds h = fewer t s ds h
alone t d ds h = refl

-- no text comes twice that didn't
pub once_dropped : (t : List ℕ) (ds : Items) → has_repeat ds ≡ false → has_repeat (drop_text t ds) ≡ false
once_dropped t no_items h = refl
once_dropped t (item d ds) h =
    let p = neither _ _ h in
    elim (cases_Bool (is_text t d)) [
      | inl same ↦ rw same (once_dropped t ds p.1)
      | inr other ↦ rw other (or_off _ _ (alone t d ds p.0) (once_dropped t ds p.1))
    ]

-- the members of other names than the text are those of the map
abbrev pub HasOthers : List ℕ → Option Data → Option Data → Type 0
HasOthers t map left = (s : List ℕ) → bytes_eq s t ≡ false → option_and_then (get s) left ≡ option_and_then (get s) map

there_by : (t : List ℕ) (map left : Option Data) (d : Data) → HasOthers t map left → is_text t d ≡ false → is_there map d ≡ true → is_there left d ≡ true
there_by t map left (string s) h off e = rw (h s off) e
there_by t map left d h off e = refl

-- each text that is left still names a member
pub all_dropped : (t : List ℕ) (map left : Option Data) (ds : Items) → HasOthers t map left → all_there map ds ≡ true → all_there left (drop_text t ds) ≡ true
all_dropped t map left no_items h e = refl
all_dropped t map left (item d ds) h e =
    let p = and_parts _ _ e in
    elim (cases_Bool (is_text t d)) [
      | inl same ↦ rw same (all_dropped t map left ds h p.1)
      | inr other ↦ rw other (and_from _ _ (there_by t map left d h other p.0) (all_dropped t map left ds h p.1))
    ]

-- nothing is taken out where the text isn't
dropped_none : (t : List ℕ) (ds : Items) → has_text t ds ≡ false → drop_text t ds ≡ ds
dropped_none t no_items h = refl
dropped_none t (item d ds) h = let p = neither (is_text t d) (has_text t ds) h in rw p.0 (ap (item d) (dropped_none t ds p.1))

-- ---- an array with one text more

or_true : (a b : Bool) → b ≡ true → (a || b) ≡ true
or_true true b e = refl
or_true false b e = e

-- the text is there, and the others as before
pub has_added : (t : List ℕ) (ds : Items) → has_text t (add_text t ds) ≡ true
has_added t no_items = rw (same_name t) refl
has_added t (item d ds) = or_true (is_text t d) (has_text t (add_text t ds)) (has_added t ds)

has_others : (t s : List ℕ) (ds : Items) → bytes_eq t s ≡ false → has_text s (add_text t ds) ≡ has_text s ds
has_others t s no_items off = rw off refl
has_others t s (item d ds) off = ap (λ x. is_text s d || x) (has_others t s ds off)

still_alone : (t : List ℕ) (d : Data) (ds : Items) → repeats d ds ≡ false → is_text t d ≡ false → repeats d (add_text t ds) ≡ false
still_alone t (string s) ds h off = has_others t s ds (different s t off) ∙ h
still_alone t d ds h off = refl

-- no text comes twice, where the new one wasn't there
pub once_added : (t : List ℕ) (ds : Items) → has_repeat ds ≡ false → has_text t ds ≡ false → has_repeat (add_text t ds) ≡ false
once_added t no_items h off = refl
once_added t (item d ds) h off =
    let p = neither _ _ h in
    let q = neither _ _ off in
    or_off _ _ (still_alone t d ds p.0 q.0) (once_added t ds p.1 q.1)

-- each member of the map is there in the other
abbrev pub HasMore : Option Data → Option Data → Type 0
HasMore map more = (s : List ℕ) → is_some (option_and_then (get s) map) ≡ true → is_some (option_and_then (get s) more) ≡ true

there_more : (map more : Option Data) (d : Data) → HasMore map more → is_there map d ≡ true → is_there more d ≡ true
there_more map more (string s) h e = h s e
there_more map more d h e = refl

-- each text still names a member, and so does the new one
pub all_more : (map more : Option Data) (ds : Items) → HasMore map more → all_there map ds ≡ true → all_there more ds ≡ true
all_more map more no_items h e = refl
all_more map more (item d ds) h e = let p = and_parts _ _ e in and_from _ _ (there_more map more d h p.0) (all_more map more ds h p.1)

pub all_added : (t : List ℕ) (more : Option Data) (ds : Items) → is_some (option_and_then (get t) more) ≡ true → all_there more ds ≡ true → all_there more (add_text t ds) ≡ true
all_added t more no_items h e = and_from _ _ h refl
all_added t more (item d ds) h e = let p = and_parts _ _ e in and_from _ _ p.0 (all_added t more ds h p.1)

-- ---- the texts of an array

-- its texts without one, in their order
abbrev pub OtherTexts : List ℕ → List (List ℕ) → List (List ℕ)
OtherTexts t = filter (λ s. not (bytes_eq s t))

skip_text : (t s : List ℕ) (o : Option (List (List ℕ))) → bytes_eq s t ≡ true → option_map (OtherTexts t) o ≡ option_map (OtherTexts t) (option_map (λ ts. s ∷ ts) o)
skip_text t s None on = refl
skip_text t s (Some ts) on = rw on refl

keep_text : (t s : List ℕ) (o : Option (List (List ℕ))) → bytes_eq s t ≡ false → option_map (λ ts. s ∷ ts) (option_map (OtherTexts t) o) ≡ option_map (OtherTexts t) (option_map (λ ts. s ∷ ts) o)
keep_text t s None off = refl
keep_text t s (Some ts) off = rw off refl

other_by : (t : List ℕ) (d : Data) (ds : Items) (u : Option (List ℕ)) → as_str d ≡ u → item_texts (drop_text t ds) ≡ option_map (OtherTexts t) (item_texts ds)
    → item_texts (drop_text t (item d ds)) ≡ option_map (OtherTexts t) (item_texts (item d ds))
other_by t d ds None is later = rw (is, is) refl
other_by t d ds (Some s) is later = elim (cases_Bool (bytes_eq s t)) [
  | inl on ↦ rw (is, on) (later ∙ skip_text t s (item_texts ds) on)
  | inr off ↦ rw (is, off, is) (ap (option_map (λ ts. s ∷ ts)) later ∙ keep_text t s (item_texts ds) off)
]

other_texts : (t : List ℕ) (ds : Items) → item_texts (drop_text t ds) ≡ option_map (OtherTexts t) (item_texts ds)
other_texts t no_items = refl
other_texts t (item d ds) = other_by t d ds (as_str d) refl (other_texts t ds)

pub dropped_texts : (t : List ℕ) (v : Option Data) → texts_of (option_map (in_array (drop_text t)) v) ≡ option_map (OtherTexts t) (texts_of v)
dropped_texts t (Some (array ds)) = other_texts t ds
dropped_texts t d = refl

-- its texts with one more, the last
last_by : (t : List ℕ) (u : Option (List ℕ)) (o : Option (List (List ℕ)))
    → option_and_then (λ s. option_map (λ ts. s ∷ ts) (option_map (λ ts. ts ++ t ∷ []) o)) u ≡ option_map (λ ts. ts ++ t ∷ []) (option_and_then (λ s. option_map (λ ts. s ∷ ts) o) u)
last_by t None None = refl
last_by t None (Some ts) = refl
last_by t (Some s) None = refl
last_by t (Some s) (Some ts) = refl

last_text : (t : List ℕ) (ds : Items) → item_texts (add_text t ds) ≡ option_map (λ ts. ts ++ t ∷ []) (item_texts ds)
last_text t no_items = refl
last_text t (item d ds) = ap (λ o. option_and_then (λ s. option_map (λ ts. s ∷ ts) o) (as_str d)) (last_text t ds) ∙ last_by t (as_str d) (item_texts ds)

pub added_text : (t : List ℕ) (v : Option Data) → texts_of (option_map (in_array (add_text t)) v) ≡ option_map (λ ts. ts ++ t ∷ []) (texts_of v)
added_text t (Some (array ds)) = last_text t ds
added_text t d = refl

-- a row of names is read where an edit of the array is one of its texts
names_by : (f : Items → Items) (g : List (List ℕ) → List (List ℕ)) → ((ds : Items) → item_texts (f ds) ≡ option_map g (item_texts ds)) → KeepsNames f
names_by f g texts (Some (array ds)) h =
    map_is_some names_field (item_texts (f ds)) ∙ (ap is_some (texts ds) ∙ (map_is_some g (item_texts ds) ∙ (sym (map_is_some names_field (item_texts ds)) ∙ h)))
names_by f g texts v h = h

-- so with one text less, and with one more
pub names_dropped : (t : List ℕ) → KeepsNames (drop_text t)
names_dropped t = names_by (drop_text t) (OtherTexts t) (other_texts t)

pub names_added : (t : List ℕ) → KeepsNames (add_text t)
names_added t = names_by (add_text t) (λ ts. ts ++ t ∷ []) (last_text t)

-- ---- which texts a value names

-- another text is named by a value exactly where it was
pub others_dropped : (t s : List ℕ) (v : Option Data) → bytes_eq s t ≡ false → names s (option_map (in_array (drop_text t)) v) ≡ names s v
others_dropped t s (Some (array ds)) off = has_kept t s ds off
others_dropped t s d off = refl

pub others_added : (t s : List ℕ) (v : Option Data) → bytes_eq t s ≡ false → names s (option_map (in_array (add_text t)) v) ≡ names s v
others_added t s (Some (array ds)) off = has_others t s ds off
others_added t s d off = refl

-- a value that doesn't name the text is as it was without it
pub unnamed_same : (t : List ℕ) (v : Option Data) → names t v ≡ false → option_map (in_array (drop_text t)) v ≡ v
unnamed_same t (Some (array ds)) off = ap (λ es. Some (array es)) (dropped_none t ds off)
unnamed_same t d off = refl

-- ---- how many members name a text

counted_by : (b c : Bool) (n m : ℕ) → b ≡ c → n ≡ m → cond b (n + 1) n ≡ cond c (m + 1) m
counted_by true c n m e f = rw (← e, f) refl
counted_by false c n m e f = rw (← e, f) refl

-- the edit leaves which texts a member names
abbrev pub KeepsNaming : List ℕ → List ℕ → (Data → Data) → Type 0
KeepsNaming list s f = (d : Data) → names s (get list (f d)) ≡ names s (get list d)

count_members : (list s : List ℕ) (f : Data → Data) (ms : Members) → KeepsNaming list s f → naming_members list s (each_member f ms) ≡ naming_members list s ms
count_members list s f no_members h = refl
count_members list s f (member l d ms) h = counted_by (names s (get list (f d))) (names s (get list d)) _ _ (h d) (count_members list s f ms h)

-- as many members of a map name the text as before, if each is edited like this, or one is
pub count_each : (list s : List ℕ) (f : Data → Data) (v : Option Data) → KeepsNaming list s f → naming_count list s (option_map (in_object (each_member f)) v) ≡ naming_count list s v
count_each list s f (Some (object ms)) h = count_members list s f ms h
count_each list s f d h = refl

count_member : (list s k : List ℕ) (f : Data → Data) (ms : Members) → KeepsNaming list s f → naming_members list s (change_member k f ms) ≡ naming_members list s ms
count_member list s k f no_members h = refl
count_member list s k f (member l d ms) h = elim (cases_Bool (bytes_eq k l)) [
  | inl same ↦ rw same (counted_by (names s (get list (f d))) (names s (get list d)) _ _ (h d) refl)
  | inr other ↦ rw other (counted_by (names s (get list d)) (names s (get list d)) _ _ refl (count_member list s k f ms h))
]

pub count_changed : (list s k : List ℕ) (f : Data → Data) (v : Option Data) → KeepsNaming list s f → naming_count list s (option_map (in_object (change_member k f)) v) ≡ naming_count list s v
count_changed list s k f (Some (object ms)) h = count_member list s k f ms h
count_changed list s k f d h = refl

none_first : (b : Bool) (n : ℕ) → cond b (n + 1) n ≡ 0 → (b ≡ false) × (n ≡ 0)
none_first true n e = absurd (omega (arith, e))
none_first false n e = (refl, e)

-- where no member names the text, one that is found doesn't
pub none_names : (list t k : List ℕ) (d : Data) (ms : Members) → naming_members list t ms ≡ 0 → get_member k ms ≡ Some d → names t (get list d) ≡ false
none_names list t k d no_members off found = absurd (cc)
none_names list t k d (member l e ms) off found =
    let p = none_first (names t (get list e)) (naming_members list t ms) off in
    elim (cases_Bool (bytes_eq k l)) [
      | inl same ↦ (let here : Some e ≡ Some d = sym (rw same at (seek k l e ms)) ∙ found in let is : e ≡ d = cc in rw (← is) p.0)
      | inr other ↦ none_names list t k d ms p.1 (sym (rw other at (seek k l e ms)) ∙ found)
    ]

-- where no member names the text, one does once the member of a name names it
pub count_added : (list t k : List ℕ) (f : Data → Data) (d0 : Data) (ms : Members) → naming_members list t ms ≡ 0 → get_member k ms ≡ Some d0 → names t (get list (f d0)) ≡ true
    → naming_members list t (change_member k f ms) ≡ 1
count_added list t k f d0 no_members off found on = absurd (cc)
count_added list t k f d0 (member l d ms) off found on =
    let p = none_first (names t (get list d)) (naming_members list t ms) off in
    elim (cases_Bool (bytes_eq k l)) [
      | inl same ↦ (let here : Some d ≡ Some d0 = sym (rw same at (seek k l d ms)) ∙ found in let is : d ≡ d0 = cc in rw (same, is, on, p.1) refl)
      | inr other ↦ rw (other, p.0) (count_added list t k f d0 ms p.1 (sym (rw other at (seek k l d ms)) ∙ found) on)
    ]
