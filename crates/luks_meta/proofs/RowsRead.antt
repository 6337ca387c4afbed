-- The rows of an object that is read, and the types of objects.
use Rattle.std.proofs.Common.{◌≡◌, ℕ, zero, suc, Bool, true, false, List, [], ◌∷◌, ◌++◌, find, inl, inr, Option, Some, None, option_map, option_and_then, is_some, bytes_eq, refl, sym, ap}
use Rattle.std.proofs.lemmas.Bool.{true≢false, false≢true, and_from, cases_Bool}
use Rattle.std.proofs.lemmas.Slice.Eq.{bytes_eq-Decides}
use Rattle.std.specs.List.{AllByRecursion, slice_get, list_any}
use Rattle.std.specs.Option.{option_map_or}
use Rattle.serde_json.specs.Data.{Data}
use Rattle.serde_json.specs.Find.{as_object}
use Rattle.luks_rules.specs.declared.table.Outer.{Outer}
use Rattle.luks_rules.specs.declared.table.Outer.TheVariants as outer
use Rattle.luks_rules.specs.declared.table.Member.{Member}
use Rattle.luks_rules.specs.declared.table.When.TheVariants as when
use Rattle.luks_rules.specs.declared.table.Row.{Row}
use Rattle.luks_rules.specs.Table.{member_name}
use Rattle.luks_rules.specs.Reading.{text, reads, kept}
use Rattle.luks_rules.specs.Faults.{Among, row_path, outer_path, outer_at, value_at, type_at, suits}
use Rattle.luks_rules.specs.Accepted.{IsRead}

-- ---- members that aren't there

pub lost : {A B : Type 0} (f : A → B) (o : Option A) → None ≡ o → is_some (option_map f o) ≡ true → ⊥
lost f None e h = false≢true h
lost f (Some x) e h = cc

pub absent_one : {A : Type 0} (o : Option A) → None ≡ o → is_some o ≡ true → ⊥
absent_one None e h = false≢true h
absent_one (Some x) e h = cc

-- the row of the member that is in the object itself, or in the one inside it
abbrev pub is_row_of : Outer → Member → Row → Bool
is_row_of o n r = bytes_eq (row_path r) (outer_path o ++ member_name n)

some_same : {A : Type 0} (x y : A) → Some x ≡ Some y → x ≡ y
some_same x y e = cc

place_of : (test : Row → Bool) (rows : List Row) (r : Row) → find test rows ≡ Some r → (i : ℕ) × (slice_get rows i ≡ Some r)
place_of test [] r e = absurd (cc)
place_of test (q ∷ qs) r e = elim (cases_Bool (test q)) [
  | inl here ↦ (zero, rw here at e)
  | inr away ↦ (let p = place_of test qs r (rw away at e) in (suc p.0, p.1))
]

pub among_of : (test : Row → Bool) (rows : List Row) (r : Row) → find test rows ≡ Some r → Among r rows
among_of test [] r e = absurd (cc)
among_of test (q ∷ qs) r e = elim (cases_Bool (test q)) [
  | inl here ↦ inl (some_same r q (sym (rw here at e)))
  | inr away ↦ inr (among_of test qs r (rw away at e))
]

-- a row by its object and member, where the object is there and of a type that has it
pub at_row : (rows : List Row) (d : Data) (o : Outer) (n : Member) (r : Row) → IsRead rows d → find (is_row_of o n) rows ≡ Some r
    → is_some (option_and_then as_object (outer_at d r.outer)) ≡ true → suits r.when (type_at d r.outer) ≡ true → is_some (reads r.rule (value_at d r)) ≡ true
at_row rows d o n r read row home suited =
    let p = place_of (is_row_of o n) rows r row in
    read.each p.0 r p.1 (and_from _ _ home suited)

-- a row that is always judged, of the object itself
pub at_top : (rows : List Row) (d : Data) (n : Member) (r : Row) → IsRead rows d → find (is_row_of outer.Top n) rows ≡ Some r → r.outer ≡ outer.Top
    → r.when ≡ when.Always → is_some (reads r.rule (value_at d r)) ≡ true
at_top rows d n r read row top always =
    let p = place_of (is_row_of outer.Top n) rows r row in
    read.each p.0 r p.1 (rw (top, always) (and_from _ _ read.is_object refl))

-- ---- types

pub typed : (o : Option (List ℕ)) (k : List ℕ) → true ≡ option_map_or (λ t. bytes_eq t k) o false → o ≡ Some k
typed None k e = absurd (true≢false e)
typed (Some t) k e = ap Some ((bytes_eq-Decides t k).0 (sym e))

abbrev IsOther : Option (List ℕ) → List ℕ → Type 0
IsOther o k = false ≡ option_map_or (λ t. bytes_eq t k) o false

none_of : (t : List ℕ) (ks : List (List ℕ)) → AllByRecursion (IsOther (Some t)) ks → list_any (λ k. bytes_eq t k) ks ≡ false
none_of t [] h = refl
none_of t (k ∷ ks) h = rw (← h.0) (none_of t ks h.1)

pub unlisted : (o : Option (List ℕ)) (ks : List (List ℕ)) → AllByRecursion (IsOther o) ks
    → is_some (option_map text (option_and_then (kept (λ t. list_any (λ k. bytes_eq t k) ks)) o)) ≡ true → ⊥
unlisted None ks h e = false≢true e
unlisted (Some t) ks h e = false≢true (rw (none_of t ks h) at e)
