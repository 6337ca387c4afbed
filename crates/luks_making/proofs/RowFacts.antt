-- The rows of the member table: how one is read, and which of them are arrays of names.
use Rattle.std.proofs.Common.{◌≡◌, ℕ, zero, suc, Bool, true, false, List, [], ◌∷◌, Option, Some, option_map, option_and_then, is_some, bytes_eq, codes, refl, sym, ap, subst, ◌∙◌, inl, inr}
use Rattle.std.specs.Prelude.{slice_get}
use Rattle.std.specs.List.{AllByRecursion, list_any}
use Rattle.std.proofs.lemmas.Bool.{false≢true, and_from}
use Rattle.serde_json.specs.Data.{Data, array, Items}
use Rattle.serde_json.specs.Find.{as_array, as_object, get}
use Rattle.luks_rules.specs.declared.table.Section.{Section}
use Rattle.luks_rules.specs.declared.table.Section.TheVariants.{Digests, Keyslots, Segments}
use Rattle.luks_rules.specs.declared.table.Outer.TheVariants as outer
use Rattle.luks_rules.specs.declared.table.Member.{Member}
use Rattle.luks_rules.specs.declared.table.Member.TheVariants as name
use Rattle.luks_rules.specs.declared.table.Rule.{Rule}
use Rattle.luks_rules.specs.declared.table.Rule.TheVariants as rule
use Rattle.luks_rules.specs.declared.table.When.TheVariants as when
use Rattle.luks_rules.specs.declared.table.Row.{Row}
use Rattle.luks_rules.specs.Accepted.{HasNames, HasObject, IsContent, IsRead}
use Rattle.luks_rules.specs.Faults.{Among, is_judged, value_at}
use Rattle.luks_rules.specs.Reading.{reads}
use Rattle.luks_rules.specs.Table.{member as row, digest_rows, member_name, rows_of, token_rows}
use Rattle.luks_making.specs.Changing.{at_member, in_array}
use Rattle.luks_making.specs.Unchanged.{KeepsOthers}
use Rattle.luks_making.proofs.EachFacts.{neither}
use Rattle.luks_making.proofs.MemberFacts.{get_changed, get_kept, some_same, still_object}

-- ---- reading

-- what holds of each row of a list holds of the row at a place
each_of : {A : Type 0} (P : A → Type 0) (xs : List A) → AllByRecursion P xs → (i : ℕ) (x : A) → slice_get xs i ≡ Some x → P x
each_of P [] h i x e = absurd (cc)
each_of P (y ∷ ys) h zero x e = subst P (some_same y x e) h.0
each_of P (y ∷ ys) h (suc i) x e = each_of P ys h.1 i x e

-- the row is read, where it is judged
abbrev pub RowRead : Data → Row → Type 0
RowRead d r = is_judged d r ≡ true → is_some (reads r.rule (value_at d r)) ≡ true

-- facts one after another, of each of a list, that together give another
abbrev pub Given : {A : Type 0} → (A → Type 0) → Type 0 → List A → Type 0
Given P G [] = G
Given P G (x ∷ xs) = P x → Given P G xs

given : {A : Type 0} (P : A → Type 0) (G : Type 0) (xs : List A) → (AllByRecursion P xs → G) → Given P G xs
given P G [] k = k tt
given P G (x ∷ xs) k = λ h. given P G xs (λ hs. k (h, hs))

-- an object whose rows are read, one after another
pub rows_read : (rows : List Row) (d : Data) → is_some (as_object d) ≡ true → Given (RowRead d) (IsRead rows d) rows
rows_read rows d is = given (RowRead d) (IsRead rows d) rows (λ hs. record { is_object = is; each = each_of (RowRead d) rows hs })

-- a row that is always judged, of the object itself
at_top : (rows : List Row) (d : Data) (i : ℕ) (r : Row) → IsRead rows d → slice_get rows i ≡ Some r → r.outer ≡ outer.Top → r.when ≡ when.Always
    → is_some (reads r.rule (value_at d r)) ≡ true
at_top rows d i r read here top always = read.each i r here (rw (top, always) (and_from _ _ read.is_object refl))

-- ---- arrays of names

abbrev is_names : Rule → Bool
is_names (rule.Names s) = true
is_names d = false

no_names : (r q : Row) (target : Section) → r ≡ q → is_names q.rule ≡ false → r.rule ≡ rule.Names target → ⊥
no_names r q target e off speaks = let f : q.rule ≡ rule.Names target = sym (ap (λ x. x.rule) e) ∙ speaks in false≢true (sym off ∙ ap is_names f)

-- rows without such an array
pub none_among : (rows : List Row) (r : Row) (target : Section) → list_any (λ q. is_names q.rule) rows ≡ false → Among r rows → r.rule ≡ rule.Names target → ⊥
none_among [] r target off m speaks = elim m [ ]
none_among (q ∷ rows) r target off m speaks =
    let p = neither _ _ off in
    elim m [ inl e ↦ no_names r q target e p.0 speaks | inr k ↦ none_among rows r target p.1 k speaks ]

-- which array of names a row is
pub data NamesRow (r : Row) (target : Section) : Type 0 where
  of_slots : r ≡ row name.Keyslots (rule.Names Keyslots) → target ≡ Keyslots → NamesRow r target
  of_segments : r ≡ row name.Segments (rule.Names Segments) → target ≡ Segments → NamesRow r target

target_of : (s target : Section) → rule.Names s ≡ rule.Names target → target ≡ s
target_of s target e = cc

-- the arrays of a digest, and the one of a token
pub digest_row : (r : Row) (target : Section) → Among r digest_rows → r.rule ≡ rule.Names target → NamesRow r target
digest_row r target m speaks = elim m [
  | inl e ↦ absurd (no_names r _ target e refl speaks)
  | inr m1 ↦ elim m1 [
    | inl e ↦ absurd (no_names r _ target e refl speaks)
    | inr m2 ↦ elim m2 [
      | inl e ↦ absurd (no_names r _ target e refl speaks)
      | inr m3 ↦ elim m3 [
        | inl e ↦ of_slots e (target_of Keyslots target (sym (ap (λ x. x.rule) e) ∙ speaks))
        | inr m4 ↦ elim m4 [
          | inl e ↦ absurd (no_names r _ target e refl speaks)
          | inr m5 ↦ elim m5 [
            | inl e ↦ of_segments e (target_of Segments target (sym (ap (λ x. x.rule) e) ∙ speaks))
            | inr m6 ↦ elim m6 [
              | inl e ↦ absurd (no_names r _ target e refl speaks)
              | inr m7 ↦ elim m7 [ ]
            ]
          ]
        ]
      ]
    ]
  ]
]

pub token_row : (r : Row) (target : Section) → Among r token_rows → r.rule ≡ rule.Names target → NamesRow r target
token_row r target m speaks = elim m [
  | inl e ↦ of_slots e (target_of Keyslots target (sym (ap (λ x. x.rule) e) ∙ speaks))
  | inr m1 ↦ elim m1 [
    | inl e ↦ absurd (no_names r _ target e refl speaks)
    | inr m2 ↦ elim m2 [ ]
  ]
]

-- a row of names that is read is an array
the_array : (s : Section) (v : Option Data) → is_some (reads (rule.Names s) v) ≡ true → (items : Items) × (option_and_then as_array v ≡ Some items)
the_array s (Some (array ds)) h = (ds, refl)
the_array s d h = absurd (false≢true h)

-- the array of a digest's keyslots, in a value that meets the rules
pub digest_array : (len : ℕ) (j : Data) → IsContent len j → (m : ℕ) (d : Data) → HasObject j Digests m d → (items : Items) × (option_and_then as_array (get (codes "keyslots") d) ≡ Some items)
digest_array len j c m d h =
    the_array Keyslots (get (codes "keyslots") d) (at_top digest_rows d 3 (row name.Keyslots (rule.Names Keyslots)) (c.objects Digests m d h) refl refl refl)

-- the row of the array of an object's keyslots
abbrev pub slots_row : Row
slots_row = row name.Keyslots (rule.Names Keyslots)

-- that array is one of names of keyslots
pub slots_named : (j : Data) (k : Section) (i : ℕ) (d : Data) (list : Items) → Among slots_row (rows_of k) → HasObject j k i d → option_and_then as_array (get (codes "keyslots") d) ≡ Some list → HasNames j k Keyslots list
slots_named j k i d list listed held is = record { number = i; object = d; held = held; row = slots_row; listed = listed; speaks = refl; is = is }

-- ---- an object whose array of keyslots is edited

abbrev pub with_array : (Items → Items) → Data → Data
with_array g = at_member (codes "keyslots") (in_array g)

-- its other members are as they were
pub array_beside : (g : Items → Items) (d : Data) → KeepsOthers (codes "keyslots" ∷ []) d (with_array g d)
array_beside g d k off = get_kept k (codes "keyslots") (in_array g) d (neither _ _ off).0

-- the edit leaves an array of names one
abbrev pub KeepsNames : (Items → Items) → Type 0
KeepsNames g = (v : Option Data) → is_some (reads (rule.Names Keyslots) v) ≡ true → is_some (reads (rule.Names Keyslots) (option_map (in_array g) v)) ≡ true

-- its rows are read
module _ (g : Items → Items) (keeps : KeepsNames g) (rows : List Row) (d : Data) (read : IsRead rows d) where
  still : is_some (as_object (with_array g d)) ≡ true
  still = still_object _ d ∙ read.is_object

  kept : (i : ℕ) (m : Member) (q : Rule) → slice_get rows i ≡ Some (row m q) → list_any (bytes_eq (member_name m)) (codes "keyslots" ∷ []) ≡ false → RowRead (with_array g d) (row m q)
  kept i m q here off judged = rw (array_beside g d (member_name m) off) (at_top rows d i (row m q) read here refl refl)

  edited : (i : ℕ) → slice_get rows i ≡ Some slots_row → RowRead (with_array g d) slots_row
  edited i here judged = rw (get_changed (codes "keyslots") (in_array g) d) (keeps (get (codes "keyslots") d) (at_top rows d i slots_row read here refl refl))

pub digest_edited : (g : Items → Items) → KeepsNames g → (d : Data) → IsRead digest_rows d → IsRead digest_rows (with_array g d)
digest_edited g keeps d read =
    let same = kept g keeps digest_rows d read in
    rows_read digest_rows (with_array g d) (still g keeps digest_rows d read)
    (same 0 _ _ refl refl) (same 1 _ _ refl refl) (same 2 _ _ refl refl) (edited g keeps digest_rows d read 3 refl) (same 4 _ _ refl refl) (same 5 _ _ refl refl) (same 6 _ _ refl refl)

pub token_edited : (g : Items → Items) → KeepsNames g → (d : Data) → IsRead token_rows d → IsRead token_rows (with_array g d)
token_edited g keeps d read =
    rows_read token_rows (with_array g d) (still g keeps token_rows d read) (edited g keeps token_rows d read 0 refl) (kept g keeps token_rows d read 1 _ _ refl refl)
