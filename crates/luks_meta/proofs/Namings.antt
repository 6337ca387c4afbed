-- The one digest that names a keyslot.
use Rattle.std.proofs.Common.{◌≡◌, ℕ, ◌+◌, ◌<◌, Bool, true, false, List, [], ◌∷◌, Option, Some, None, Ordering, Less, Equal, Greater, String, Global, string_bytes, string_cmp, option_map, option_and_then, is_some, is_eq, IfSome, codes, length, refl, sym, ap, ◌∙◌, inl, inr, subst, arith}
use Rattle.std.proofs.lemmas.Bool.{false≢true, true≢false, and_parts, cases_Bool}
use Rattle.std.proofs.lemmas.Cmp.{nat_list_cmp_total, tied_itself}
use Rattle.std.proofs.lemmas.Map.Text.{is_eq-slice_cmp}
use Rattle.std.proofs.lemmas.Slice.Eq.{bytes_eq-Decides}
use Rattle.std.specs.Cmp.Lexicographic.{slice_cmp}
use Rattle.std.specs.List.{AllByRecursion}
use Rattle.std.specs.List.Sorted.{IsStrictlySortedBy}
use Rattle.std.specs.Map.{keys_of}
use Rattle.std.specs.Option.{option_map_or}
use Rattle.std.specs.Ordering.{nat_cmp}
use Rattle.serde_json.specs.Data.{Data, null, boolean, number, string, array, object, Members, no_members, member}
use Rattle.serde_json.specs.Find.{get, get_member, as_object}
use Rattle.serde_json.specs.View.{members_view}
use Rattle.serde_json.proofs.Views.{Entry}
use Rattle.luks_rules.specs.declared.table.Section.TheVariants.{Digests, Keyslots}
use Rattle.luks_json.specs.Number.{number_of, number_text}
use Rattle.luks_json.proofs.Numbers.{number_of_text, text_of_named}
use Rattle.luks_json.specs.Arrays.{all_named, names, naming_members, naming_count}
use Rattle.luks_rules.specs.Faults.{object_at, section_at, is_section}
use Rattle.luks_rules.specs.Accepted.{IsContent, IsMeta, HasObject}
use Rattle.luks_meta.specs.Naming.{HasUniqueDigests, IsDigestOf, first_naming, IsUnique}

-- ---- names that ascend are unique

above : (k : List ℕ) (es : List Entry) → AllByRecursion (λ (y : String Global). slice_cmp nat_cmp k (string_bytes y) ≡ Less) (keys_of es) → get_member k (members_view es) ≡ None
above k [] h = refl
above k (e ∷ es) h = rw h.0 (above k es h.1)

pub unique : (es : List Entry) → IsStrictlySortedBy string_cmp (keys_of es) → IsUnique (members_view es)
unfolding IsStrictlySortedBy
unique [] h = tt
unique (e ∷ es) h = (above (string_bytes e.0) es h.0, unique es h.1)

-- ---- where a member stands

same_text : (k : List ℕ) → slice_cmp nat_cmp k k ≡ Equal
same_text k = tied_itself nat_list_cmp_total k

tied : (k l : List ℕ) → slice_cmp nat_cmp k l ≡ Equal → k ≡ l
tied k l e = (bytes_eq-Decides k l).0 (sym (is_eq-slice_cmp k l) ∙ ap is_eq e)

abbrev lists : List ℕ → Data → Bool
lists t d = names t (get (codes "keyslots") d)

-- where the name's member is, by how the name stands to the first
data At (k l : List ℕ) (e : Data) (ms : Members) : Type 0 where
  here : k ≡ l → get_member k (member l e ms) ≡ Some e → At k l e ms
  later : get_member k (member l e ms) ≡ get_member k ms → At k l e ms

at_of : (o : Ordering) (k l : List ℕ) (e : Data) (ms : Members) → slice_cmp nat_cmp k l ≡ o → At k l e ms
at_of Less k l e ms is = later (rw is refl)
at_of Equal k l e ms is = here (tied k l is) (rw is refl)
at_of Greater k l e ms is = later (rw is refl)

at : (k l : List ℕ) (e : Data) (ms : Members) → At k l e ms
at k l e ms = at_of _ k l e ms refl

some_same : {A : Type 0} (x y : A) → Some x ≡ Some y → x ≡ y
some_same x y e = cc

-- ---- how many name it

counted : (k t : List ℕ) (d : Data) (ms : Members) → get_member k ms ≡ Some d → lists t d ≡ true → 0 < naming_members (codes "keyslots") t ms
counted k t d no_members found is = absurd (cc)
counted k t d (member l e ms) found is = elim (cases_Bool (lists t e)) [
  | inl listed ↦ rw listed (omega arith)
  | inr off ↦ rw off (elim (at k l e ms) [
    | here same first ↦ absurd (true≢false (sym is ∙ (ap (lists t) (some_same d e (sym found ∙ first)) ∙ off)))
    | later rest ↦ counted k t d ms (sym rest ∙ found) is
  ])
]

pub first_is : (k t : List ℕ) (d : Data) (ms : Members) → naming_members (codes "keyslots") t ms ≡ 1 → get_member k ms ≡ Some d → lists t d ≡ true
    → first_naming t ms ≡ number_of k
first_is k t d no_members once found is = absurd (cc)
first_is k t d (member l e ms) once found is = elim (cases_Bool (lists t e)) [
  | inl listed ↦ elim (at k l e ms) [
    | here same first ↦ rw (listed, same) refl
    | later rest ↦
        let some : 0 < naming_members (codes "keyslots") t ms = counted k t d ms (sym rest ∙ found) is in
        let one : naming_members (codes "keyslots") t ms + 1 ≡ 1 = rw listed at once in
        absurd (omega arith)
  ]
  | inr off ↦ elim (at k l e ms) [
    | here same first ↦ absurd (true≢false (sym is ∙ (ap (lists t) (some_same d e (sym found ∙ first)) ∙ off)))
    | later rest ↦ rw off (first_is k t d ms (rw off at once) (sym rest ∙ found) is)
  ]
]

pub one_is : (t : List ℕ) (ms : Members) → naming_members (codes "keyslots") t ms ≡ 1 → all_named ms ≡ true → is_some (first_naming t ms) ≡ true
one_is t no_members once named = absurd (omega (arith, once))
one_is t (member l e ms) once named =
    let p = and_parts _ _ named in
    elim (cases_Bool (lists t e)) [
      | inl listed ↦ rw listed p.0
      | inr off ↦ rw off (one_is t ms (rw off at once) p.1)
    ]

pub record Found (t : List ℕ) (ms : Members) (m : ℕ) : Type 0 where
  pub numbered : m < 32
  pub object : Data
  pub is : get_member (number_text m) ms ≡ Some object
  pub lists_it : lists t object ≡ true

further : (t l : List ℕ) (e : Data) (ms : Members) (m : ℕ) → get_member l ms ≡ None → Found t ms m → Found t (member l e ms) m
further t l e ms m alone f = elim (at (number_text m) l e ms) [
  | here same first ↦ let both : None ≡ Some f.object = sym alone ∙ (ap (λ k. get_member k ms) (sym same) ∙ f.is) in absurd (cc)
  | later rest ↦ record { numbered = f.numbered; object = f.object; is = rest ∙ f.is; lists_it = f.lists_it }
]

pub found : (t : List ℕ) (ms : Members) (m : ℕ) → IsUnique ms → first_naming t ms ≡ Some m → Found t ms m
found t no_members m alone e = absurd (cc)
found t (member l d ms) m alone e = elim (cases_Bool (lists t d)) [
  | inl listed ↦
      let named : number_of l ≡ Some m = rw listed at e in
      let text = text_of_named l m named in
      record { numbered = text.1; object = d; is = rw (text.0, same_text (number_text m)) refl; lists_it = listed }
  | inr off ↦ further t l d ms m alone.0 (found t ms m alone.1 (rw off at e))
]

-- ---- the digests of a value

as_map : (v : Option Data) (ms : Members) (k : List ℕ) → option_and_then as_object v ≡ Some ms → option_and_then (get k) v ≡ get_member k ms
as_map None ms k e = absurd (cc)
as_map (Some null) ms k e = absurd (cc)
as_map (Some (boolean b)) ms k e = absurd (cc)
as_map (Some (number n)) ms k e = absurd (cc)
as_map (Some (string s)) ms k e = absurd (cc)
as_map (Some (array ds)) ms k e = absurd (cc)
as_map (Some (object os)) ms k e = ap (get_member k) (some_same os ms e)

pub section_there : {A : Type 0} (f : A → Data) (r : Option A) (v : Option Data) → option_map f r ≡ v → is_section Digests v ≡ true → is_some r ≡ true
section_there f None v e h = absurd (false≢true (rw (← e) at h))
section_there f (Some x) v e h = refl

pub section_is : {A : Type 0} (f : A → Data) (r : Option A) (x : A) (v : Option Data) → option_map f r ≡ v → r ≡ Some x → is_section Digests v ≡ true → is_section Digests (Some (f x)) ≡ true
section_is f r x v e u h = let same : Some (f x) ≡ v = rw u at e in let P : Option Data → Type 0 = λ o. is_section Digests o ≡ true in subst P (sym same) h

pub object_there : {A : Type 0} (f : A → Members) (r : Option A) (d : Data) → option_map f r ≡ as_object d → is_section Digests (Some d) ≡ true → is_some r ≡ true
object_there f None d e h = absurd (false≢true (rw (← e) at h))
object_there f (Some x) d e h = refl

-- the digests, where exactly one names the keyslot
pub record Named (j : Data) (n : ℕ) (ms : Members) : Type 0 where
  pub small : n < 32
  pub keyslot : is_some (object_at j Keyslots n) ≡ true
  pub digests : option_and_then as_object (section_at j Digests) ≡ Some ms
  pub once : naming_members (codes "keyslots") (number_text n) ms ≡ 1
  pub all : all_named ms ≡ true
  pub alone : IsUnique ms

pub named_by : (len : ℕ) (j : Data) (n : ℕ) (d : Data) (ms : Members) → IsContent len j → (n < 32) × (object_at j Keyslots n ≡ Some d)
    → option_and_then as_object (section_at j Digests) ≡ Some ms → IsUnique ms → Named j n ms
named_by len j n d ms c h e alone =
    let held : HasObject j Keyslots n d = record { numbered = refl; named = h.0; is = h.1 } in
    let once : naming_count (codes "keyslots") (number_text n) (section_at j Digests) ≡ 1 = c.resolves.keyslots n d held in
    let all : is_section Digests (section_at j Digests) ≡ true = c.sections Digests in
    record {
      small = h.0;
      keyslot = rw h.1 refl;
      digests = e;
      once = rw e at once;
      all = rw e at all;
      alone = alone;
    }

pub digest_some : (j : Data) (n : ℕ) (ms : Members) (r : Option ℕ) → Named j n ms → r ≡ first_naming (number_text n) ms → IfSome r (IsDigestOf j n)
digest_some j n ms None h e = tt
digest_some j n ms (Some m) h e =
    let f = found (number_text n) ms m h.alone (sym e) in
    record {
      named = h.small;
      keyslot = h.keyslot;
      numbered = f.numbered;
      object = f.object;
      is = as_map (section_at j Digests) ms (number_text m) h.digests ∙ f.is;
      lists = f.lists_it;
    }

pub digest_only : (j : Data) (n : ℕ) (ms : Members) (r : Option ℕ) → Named j n ms → r ≡ first_naming (number_text n) ms → (m : ℕ) → IsDigestOf j n m → r ≡ Some m
digest_only j n ms r h e m d =
    e ∙ (first_is (number_text m) (number_text n) d.object ms h.once (sym (as_map (section_at j Digests) ms (number_text m) h.digests) ∙ d.is) d.lists
    ∙ number_of_text m d.numbered)

pub digest_there : (j : Data) (n : ℕ) (ms : Members) (r : Option ℕ) → Named j n ms → r ≡ first_naming (number_text n) ms → is_some r ≡ true
digest_there j n ms r h e = rw e (one_is (number_text n) ms h.once h.all)

pub no_digest : (j : Data) (n : ℕ) → (n < 32 → object_at j Keyslots n ≡ None) → (m : ℕ) → IsDigestOf j n m → ⊥
no_digest j n missing m d = false≢true (rw (missing d.named) at d.keyslot)

-- ---- one digest

maps_there : (o : Option Members) → option_map_or all_named o false ≡ true → (ms : Members) × (o ≡ Some ms)
maps_there None h = absurd (false≢true h)
maps_there (Some ms) h = (ms, refl)

some_there : {A : Type 0} (o : Option A) → is_some o ≡ true → (x : A) × (o ≡ Some x)
some_there None h = absurd (false≢true h)
some_there (Some x) h = (x, refl)

-- the first digest that names the keyslot, by any that does
first_names : (len : ℕ) (j : Data) → IsContent len j → (ms : Members) → option_and_then as_object (section_at j Digests) ≡ Some ms
    → (n m : ℕ) → IsDigestOf j n m → first_naming (number_text n) ms ≡ Some m
first_names len j c ms there n m d =
    let slot = some_there (object_at j Keyslots n) d.keyslot in
    let held : HasObject j Keyslots n slot.0 = record { numbered = refl; named = d.named; is = slot.1 } in
    let once : naming_count (codes "keyslots") (number_text n) (section_at j Digests) ≡ 1 = c.resolves.keyslots n slot.0 held in
    first_is (number_text m) (number_text n) d.object ms (rw there at once) (sym (as_map (section_at j Digests) ms (number_text m) there) ∙ d.is) d.lists
    ∙ number_of_text m d.numbered

pub one_digest : (area : List ℕ) (j : Data) → IsMeta area j → (n m k : ℕ) → IsDigestOf j n m → IsDigestOf j n k → m ≡ k
one_digest area j is n m k d e =
    let c : IsContent (length area) j = is.content in
    let p = maps_there (option_and_then as_object (section_at j Digests)) (c.sections Digests) in
    let a = first_names (length area) j c p.0 p.1 n m d in
    let b = first_names (length area) j c p.0 p.1 n k e in
    some_same m k (sym a ∙ b)

-- where a digest was looked for, each digest's name stands once
pub all_unique : (j : Data) (ms : Members) (r : Option ℕ) → option_and_then as_object (section_at j Digests) ≡ Some ms → IsUnique ms → IfSome r (λ _. HasUniqueDigests j)
all_unique j ms None is alone = tt
all_unique j ms (Some m) is alone = λ other same. subst IsUnique (some_same ms other (sym is ∙ same)) alone
