-- Arrays of names.
use Rattle.std.proofs.Common.{◌≡◌, ℕ, suc, ◌<◌, ◌≤◌, ◌||◌, Bool, true, false, cond, List, [], ◌∷◌, length, map, nat_le, Option, Some, None, option_map, option_and_then, is_some, unwrap_or, bytes_eq, refl, sym, ap, ◌∙◌, inl, inr, arith}
use Rattle.std.proofs.lemmas.Bool.{false≢true, true≢false, and_parts, le-leb, both_ways, ne_eqb, eqb-true, or_cases}
use Rattle.std.proofs.Math.Dec.{eqb}
use Rattle.std.proofs.lemmas.Map.Steps.{length-le_from_distinct_below}
use Rattle.std.proofs.lemmas.Slice.Eq.{bytes_eq-Decides}
use Rattle.std.specs.List.{AllByRecursion, IsDistinct, list_any}
use Rattle.std.specs.Option.{option_map_or}
use Rattle.serde_json.specs.Data.{Data, Items, no_items, item}
use Rattle.serde_json.specs.Events.{items_len}
use Rattle.serde_json.specs.Find.{as_str, as_array}
use Rattle.serde_json.specs.View.{items_view}
use Rattle.serde_json.specs.declared.value.Value.{Value}
use Rattle.serde_json.proofs.Views.{items_len-items_view}
use Rattle.luks_json.specs.Number.{number_text, number_of, is_name}
use Rattle.luks_json.specs.Arrays.{has_text, has_repeat}
use Rattle.luks_json.specs.Values.{item_texts, texts_of}
use Rattle.luks_json.specs.Names.{item_numbers, few_numbers, numbers_of_array, all_names, IsNameList}
use Rattle.luks_json.proofs.Numbers.{text_of_named}

pub of_array : (d : Data) (vs : List Value) (r : Option (List ℕ)) → Some (items_view vs) ≡ as_array d
    → r ≡ cond (nat_le (length vs) 32) (item_numbers (items_view vs)) None → r ≡ numbers_of_array (Some d)
of_array d vs r e f = rw (← e, items_len-items_view vs) f

-- ---- the numbers name the texts

consed : (o : Option ℕ) (r : Option (List ℕ)) (ns : List ℕ) → option_and_then (λ n. option_map (λ ms. n ∷ ms) r) o ≡ Some ns
    → (n : ℕ) × (ms : List ℕ) × (o ≡ Some n) × (r ≡ Some ms) × (ns ≡ n ∷ ms)
consed None r ns e = absurd (cc)
consed (Some n) None ns e = absurd (cc)
consed (Some n) (Some ms) ns e = (n, ms, refl, refl, cc)

named : (o : Option (List ℕ)) (n : ℕ) → option_and_then number_of o ≡ Some n → o ≡ Some (number_text n)
named None n e = absurd (cc)
named (Some t) n e = ap Some (text_of_named t n e).0

both : (o : Option (List ℕ)) (r : Option (List (List ℕ))) (t : List ℕ) (ts : List (List ℕ)) → o ≡ Some t → r ≡ Some ts
    → option_and_then (λ u. option_map (λ us. u ∷ us) r) o ≡ Some (t ∷ ts)
both o r t ts e f = rw (e, f) refl

pub texts_named : (items : Items) (ns : List ℕ) → item_numbers items ≡ Some ns → item_texts items ≡ Some (map number_text ns)
texts_named no_items ns e = let same : [] ≡ ns = cc in rw (← same) refl
texts_named (item d ds) ns e =
    let c = consed (option_and_then number_of (as_str d)) (item_numbers ds) ns e in
    both (as_str d) (item_texts ds) (number_text c.0) (map number_text c.1) (named (as_str d) c.0 c.2) (texts_named ds c.1 c.3)
    ∙ ap (λ l. Some (map number_text l)) (sym c.4)

few : (items : Items) (b : Bool) (ns : List ℕ) → cond b (item_numbers items) None ≡ Some ns → item_numbers items ≡ Some ns
few items true ns e = e
few items false ns e = absurd (cc)

of_items : (o : Option Items) (ns : List ℕ) → option_and_then few_numbers o ≡ Some ns → option_and_then item_texts o ≡ Some (map number_text ns)
of_items None ns e = absurd (cc)
of_items (Some items) ns e = texts_named items ns (few items (nat_le (items_len items) 32) ns e)

pub reads_names : (v : Option Data) (ns : List ℕ) → numbers_of_array v ≡ Some ns → texts_of v ≡ Some (map number_text ns)
reads_names v ns e = of_items (option_and_then as_array v) ns e

-- ---- a list of names is read

some_number : (t : List ℕ) (r : Option ℕ) → number_of t ≡ r → is_some r ≡ true → (u : List ℕ) × (n : ℕ) × (Some t ≡ Some u) × (number_of u ≡ Some n)
some_number t None e h = absurd (false≢true h)
some_number t (Some n) e h = (t, n, refl, e)

some_head : (o : Option (List ℕ)) → option_map_or is_name o false ≡ true → (t : List ℕ) × (n : ℕ) × (o ≡ Some t) × (number_of t ≡ Some n)
some_head None e = absurd (false≢true e)
some_head (Some t) e = some_number t (number_of t) refl e

head_read : (o r : Option (List ℕ)) (t : List ℕ) (n : ℕ) → o ≡ Some t → number_of t ≡ Some n → is_some r ≡ true
    → is_some (option_and_then (λ m. option_map (λ ns. m ∷ ns) r) (option_and_then number_of o)) ≡ true
head_read o None t n e f h = absurd (false≢true h)
head_read o (Some ns) t n e f h = rw (e, f) refl

all_read : (items : Items) → all_names items ≡ true → is_some (item_numbers items) ≡ true
all_read no_items h = refl
all_read (item d ds) h =
    let p = and_parts _ _ h in
    let s = some_head (as_str d) p.0 in
    head_read (as_str d) (item_numbers ds) s.0 s.1 s.2 s.3 (all_read ds p.1)

-- the numbers that the items name
abbrev numbers_named : Items → List ℕ
numbers_named no_items = []
numbers_named (item d ds) = unwrap_or (option_and_then number_of (as_str d)) 0 ∷ numbers_named ds

length_named : (items : Items) → length (numbers_named items) ≡ items_len items
length_named no_items = refl
length_named (item d ds) = ap suc (length_named ds)

value_named : (o : Option (List ℕ)) (t : List ℕ) (n : ℕ) → o ≡ Some t → number_of t ≡ Some n → unwrap_or (option_and_then number_of o) 0 ≡ n
value_named o t n e f = rw (e, f) refl

below : (items : Items) → all_names items ≡ true → (q : ℕ) → list_any (eqb q) (numbers_named items) ≡ true → q < 32
below no_items h q e = absurd (false≢true e)
below (item d ds) h q e =
    let p = and_parts _ _ h in
    let s = some_head (as_str d) p.0 in
    elim (or_cases _ _ e) [
      | inl here ↦
          let small : s.1 < 32 = (text_of_named s.0 s.1 s.3).1 in
          let same : q ≡ s.1 = eqb-true q _ here ∙ value_named (as_str d) s.0 s.1 s.2 s.3 in
          omega arith
      | inr later ↦ below ds p.1 q later
    ]

or_false : (a b : Bool) → (a || b) ≡ false → (a ≡ false) × (b ≡ false)
or_false true b e = absurd (true≢false e)
or_false false b e = (refl, e)

differs : (o : Option (List ℕ)) (t u : List ℕ) (n m : ℕ) → t ≡ number_text n → o ≡ Some u → number_of u ≡ Some m
    → option_map_or (λ s. bytes_eq s t) o false ≡ false → eqb n (unwrap_or (option_and_then number_of o) 0) ≡ false
differs o t u n m is e f h =
    let apart : bytes_eq u t ≡ false = rw e at h in
    rw (value_named o u m e f) (ne_eqb n m (λ same. both_ways (bytes_eq u t) apart
    ((bytes_eq-Decides u t).1 ((text_of_named u m f).0 ∙ (ap number_text (sym same) ∙ sym is)))))

all_differ : (n : ℕ) (t : List ℕ) (ds : Items) → t ≡ number_text n → all_names ds ≡ true → has_text t ds ≡ false → AllByRecursion (λ y. eqb n y ≡ false) (numbers_named ds)
all_differ n t no_items is h r = tt
all_differ n t (item d ds) is h r =
    let p = and_parts _ _ h in
    let q = or_false _ _ r in
    let s = some_head (as_str d) p.0 in
    (differs (as_str d) t s.0 n s.1 is s.2 s.3 q.0, all_differ n t ds is p.1 q.1)

-- the head does not stand among the rest
alone : (o : Option (List ℕ)) (t : List ℕ) (ds : Items) → o ≡ Some t → option_map_or (λ u. has_text u ds) o false ≡ false → has_text t ds ≡ false
alone o t ds e h = rw e at h

distinct : (items : Items) → all_names items ≡ true → has_repeat items ≡ false → IsDistinct eqb (numbers_named items)
unfolding IsDistinct
distinct no_items h once = tt
distinct (item d ds) h once =
    let p = and_parts _ _ h in
    let q = or_false _ _ once in
    let s = some_head (as_str d) p.0 in
    let here = all_differ s.1 s.0 ds (text_of_named s.0 s.1 s.3).0 p.1 (alone (as_str d) s.0 ds s.2 q.0) in
    (rw (value_named (as_str d) s.0 s.1 s.2 s.3) here, distinct ds p.1 q.1)

at_most_32 : (items : Items) → all_names items ≡ true → has_repeat items ≡ false → items_len items ≤ 32
at_most_32 items h once =
    let few : length (numbers_named items) ≤ 32 = length-le_from_distinct_below (numbers_named items) 32 (distinct items h once) (below items h) in
    omega (arith, length_named items)

pub is_read : (v : Option Data) → IsNameList v → is_some (numbers_of_array v) ≡ true
is_read v l = rw (l.array, le-leb (items_len l.items) 32 (at_most_32 l.items l.named l.once)) (all_read l.items l.named)

-- what maps to something is there
pub some_of : {A B : Type 0} (f : A → B) (r : Option A) (o : Option B) → option_map f r ≡ o → is_some o ≡ true → is_some r ≡ true
some_of f None o e h = absurd (false≢true (rw (← e) at h))
some_of f (Some x) o e h = refl
