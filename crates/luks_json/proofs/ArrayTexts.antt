-- The steps over an array of names, beside the texts that it has.
use Rattle.std.proofs.Common.{◌≡◌, ◌||◌, ℕ, Bool, true, false, List, Option, Some, None, option_and_then, is_some, bytes_eq, refl, sym, ap, ◌∙◌, inl, inr}
use Rattle.std.proofs.lemmas.Bool.{false≢true, and_from, and_parts, false_from_ne_true, or_cases}
use Rattle.std.proofs.lemmas.Slice.Eq.{bytes_eq-Decides}
use Rattle.std.specs.Option.{option_map_or}
use Rattle.serde_json.specs.Data.{Data, Items, no_items, item}
use Rattle.serde_json.specs.Find.{get, as_str}
use Rattle.luks_json.specs.Arrays.{all_there, has_repeat, has_text}
use Rattle.luks_json.specs.NameSets.{HasEachOnce, HasName}

text_is : (o : Option (List ℕ)) (t : List ℕ) → option_map_or (λ s. bytes_eq s t) o false ≡ true → o ≡ Some t
text_is None t e = absurd (false≢true e)
text_is (Some s) t e = ap Some ((bytes_eq-Decides s t).0 e)

is_text_of : (o : Option (List ℕ)) (t : List ℕ) → o ≡ Some t → option_map_or (λ s. bytes_eq s t) o false ≡ true
is_text_of o t e = rw e ((bytes_eq-Decides t t).1 refl)

either : (a b : Bool) → b ≡ true → (a || b) ≡ true
either true b e = refl
either false b e = e

neither : (a b : Bool) → (a || b) ≡ false → (a ≡ false) × (b ≡ false)
neither true b e = absurd (cc)
neither false b e = (refl, e)

pub has_name : (t : List ℕ) (items : Items) → has_text t items ≡ true → HasName items t
has_name t no_items h = absurd (false≢true h)
has_name t (item d ds) h = elim (or_cases _ _ h) [ inl e ↦ inl (text_is (as_str d) t e) | inr e ↦ inr (has_name t ds e) ]

pub name_had : (t : List ℕ) (items : Items) → HasName items t → has_text t items ≡ true
name_had t no_items h = elim h [ ]
name_had t (item d ds) (inl e) = rw (is_text_of (as_str d) t e) refl
name_had t (item d ds) (inr n) = either _ _ (name_had t ds n)

there_by : (o : Option (List ℕ)) (map : Option Data) → ((t : List ℕ) → o ≡ Some t → is_some (option_and_then (get t) map) ≡ true)
    → option_map_or (λ t. is_some (option_and_then (get t) map)) o true ≡ true
there_by None map f = refl
there_by (Some t) map f = f t refl

pub each_there : (map : Option Data) (items : Items) → all_there map items ≡ true → (t : List ℕ) → HasName items t → is_some (option_and_then (get t) map) ≡ true
each_there map no_items h t n = elim n [ ]
each_there map (item d ds) h t (inl e) =
    let here : option_map_or (λ u. is_some (option_and_then (get u) map)) (as_str d) true ≡ true = (and_parts _ _ h).0 in
    rw e at here
each_there map (item d ds) h t (inr n) = each_there map ds (and_parts _ _ h).1 t n

pub there_each : (map : Option Data) (items : Items) → ((t : List ℕ) → HasName items t → is_some (option_and_then (get t) map) ≡ true) → all_there map items ≡ true
there_each map no_items f = refl
there_each map (item d ds) f = and_from _ _ (there_by (as_str d) map (λ t e. f t (inl e))) (there_each map ds (λ t n. f t (inr n)))

once_by : (o : Option (List ℕ)) (ds : Items) → ((t : List ℕ) → o ≡ Some t → HasName ds t → ⊥) → option_map_or (λ t. has_text t ds) o false ≡ false
once_by None ds f = refl
once_by (Some t) ds f = false_from_ne_true _ (λ e. f t refl (has_name t ds e))

not_twice : (o : Option (List ℕ)) (ds : Items) → option_map_or (λ t. has_text t ds) o false ≡ false → (t : List ℕ) → o ≡ Some t → HasName ds t → ⊥
not_twice o ds off t e n = let none : has_text t ds ≡ false = rw e at off in false≢true (sym none ∙ name_had t ds n)

pub each_once : (items : Items) → has_repeat items ≡ false → HasEachOnce items
each_once no_items h = tt
each_once (item d ds) h = let p = neither _ _ h in (not_twice (as_str d) ds p.0, each_once ds p.1)

pub once_each : (items : Items) → HasEachOnce items → has_repeat items ≡ false
once_each no_items s = refl
once_each (item d ds) s = rw (once_by (as_str d) ds s.0, once_each ds s.1) refl
