-- The first place that the walk meets is the least.
use Rattle.std.proofs.Common.{◌≡◌, ℕ, ◌<◌, Bool, true, false, List, [], ◌∷◌, ◌++◌, Option, Some, None, cond, refl, sym, ap, ◌∙◌, arith, inl, inr, ◌⊎◌}
use Rattle.std.specs.Prelude.{find, option_map, ◌==◌, nat_lt}
use Rattle.std.specs.Option.{option_map_or}
use Rattle.std.specs.List.{list_all, list_any}
use Rattle.std.proofs.lemmas.Bool.{and_parts, or_cases, eqb-true, ltb-true, agree_below_at}
use Rattle.serde_json.specs.Data.{Data}
use Rattle.luks_area.specs.First.{IsLeast, NotAfter}
use Rattle.luks_rules.specs.declared.table.Section.{Section}
use Rattle.luks_rules.specs.declared.table.Section.TheVariants.{Config, Digests, Keyslots, Segments, Tokens}
use Rattle.luks_rules.specs.declared.place.Test.{Test}
use Rattle.luks_rules.specs.Table.{section_name}
use Rattle.luks_json.specs.Number.{number_text}
use Rattle.luks_rules.specs.Faults.{Among, after_point, is_numbered, object_at, section_at, section_fault}
use Rattle.luks_rules.proofs.Order.{IsTail, after_prefix, apart, before, not_after, pairwise, sections, sections_in_order, strictly, told}
use Rattle.luks_wider.specs.declared.place.WidePlace.{WidePlace}
use Rattle.luks_wider.specs.declared.rows.WideRow.{WideRow}
use Rattle.luks_wider.specs.Places.{HasWidePlace, has_wide_fault, IsWideFaulty, IsWidePlace, wide_object_fault, wide_place_path, wide_row_fault}
use Rattle.luks_wider.specs.Rows.{rows_for, wide_path}
use Rattle.luks_wider.specs.WideWalk.{numbers, after_section, first_in, first_numbered, first_of_config, first_of_section, first_place, first_row, or_else, place}
use Rattle.luks_wider.proofs.WideOrder.{InOrder, rows_in_order}

-- of the places of `S`, `o` is the least where the test holds
pub record Finds (S : WidePlace → Type 0) (t : WidePlace → Bool) (o : Option WidePlace) : Type 0 where
  pub none : o ≡ None → (q : WidePlace) → S q → t q ≡ false
  pub some : (p : WidePlace) → o ≡ Some p → S p × ((t p ≡ true) × ((q : WidePlace) → S q → t q ≡ true → NotAfter (wide_place_path p) (wide_place_path q)))

-- ---- joining

joined_by : (S U : WidePlace → Type 0) (t : WidePlace → Bool) (o u : Option WidePlace) → Finds S t o → Finds U t u
    → ((p q : WidePlace) → S p → U q → NotAfter (wide_place_path p) (wide_place_path q)) → Finds (λ q. S q ⊎ U q) t (or_else o u)
joined_by S U t None u f g ord = record {
  none = λ e q. λ m. elim m [ inl s ↦ f.none refl q s | inr r ↦ g.none e q r ];
  some = λ p e. let h = g.some p e in (inr h.0, (h.1.0, λ q m yes. elim m [ inl s ↦ absurd (let no : t q ≡ false = f.none refl q s in cc) | inr r ↦ h.1.1 q r yes ]));
}
joined_by S U t (Some o) u f g ord = record {
  none = λ e. absurd (cc);
  some = λ p e. let h = f.some p e in (inl h.0, (h.1.0, λ q m yes. elim m [ inl s ↦ h.1.1 q s yes | inr r ↦ ord p q h.0 r ]));
}

moved : (S U : WidePlace → Type 0) (t : WidePlace → Bool) (o : Option WidePlace) → ((q : WidePlace) → S q → U q) → ((q : WidePlace) → U q → S q) → Finds S t o → Finds U t o
moved S U t o into from f = record {
  none = λ e q m. f.none e q (from q m);
  some = λ p e. let h = f.some p e in (into p h.0, (h.1.0, λ q m yes. h.1.1 q (from q m) yes));
}

-- no path stands after itself
same : (xs : List ℕ) → NotAfter xs xs
same [] = tt
same (x ∷ xs) = (omega arith, λ _. same xs)

single : (a : WidePlace) (t : WidePlace → Bool) (b : Bool) → t a ≡ b → Finds (λ q. q ≡ a) t (cond b (Some a) None)
single a t true e = record {
  none = λ n. absurd (cc);
  some = λ p is. let h : a ≡ p = cc in (sym h, (cc, λ q at yes. rw (← h, at) (same (wide_place_path a))));
}
single a t false e = record { none = λ n q at. cc; some = λ p is. absurd (cc) }

find_split : (g : WideRow → WidePlace) (b : Bool) (r : WideRow) (o : Option WideRow) → option_map g (cond b (Some r) o) ≡ or_else (cond b (Some (g r)) None) (option_map g o)
find_split g true r o = refl
find_split g false r o = refl

cond_split : (b : Bool) (a : WidePlace) (o : Option WidePlace) → cond b (Some a) o ≡ or_else (cond b (Some a) None) o
cond_split true a o = refl
cond_split false a o = refl

-- ---- rows

abbrev IsOfRows : Section → Option ℕ → List WideRow → WidePlace → Type 0
IsOfRows s n rows q = (r : WideRow) × ((q ≡ place s n (Some r)) × Among r rows)

row_order : (s : Section) (n : Option ℕ) (r q : WideRow) → not_after (wide_path r) (wide_path q) ≡ true
    → NotAfter (wide_place_path (place s n (Some r))) (wide_place_path (place s n (Some q)))
row_order s n r q h = after_prefix (section_name s) _ _ (after_prefix (option_map_or (λ m. after_point (number_text m)) n []) _ _ (omega arith, λ _. told _ _ h))

to_all : (f : WideRow → Bool) (rows : List WideRow) → list_all f rows ≡ true → (r : WideRow) → Among r rows → f r ≡ true
to_all f [] h r m = elim m [ ]
to_all f (x ∷ xs) h r m = let p = and_parts _ _ h in elim m [ inl e ↦ rw e p.0 | inr k ↦ to_all f xs p.1 r k ]

rows_found : (s : Section) (n : Option ℕ) (t : WidePlace → Bool) (f : WideRow → Bool) → ((r : WideRow) → t (place s n (Some r)) ≡ f r)
    → (rows : List WideRow) → InOrder rows → Finds (IsOfRows s n rows) t (option_map (λ r. place s n (Some r)) (find f rows))
rows_found s n t f is [] ord = record { none = λ e q m. elim m.1.1 [ ]; some = λ p e. absurd (cc) }
rows_found s n t f is (r ∷ rs) ord =
    let p = and_parts _ _ ord in
    rw (find_split (λ x. place s n (Some x)) (f r) r (find f rs))
    (moved (λ q. (q ≡ place s n (Some r)) ⊎ IsOfRows s n rs q) (IsOfRows s n (r ∷ rs)) t _
    (λ q m. elim m [ inl e ↦ (r, (e, inl refl)) | inr k ↦ (k.0, (k.1.0, inr k.1.1)) ])
    (λ q m. elim m.1.1 [ inl e ↦ inl (rw (ap (λ x. place s n (Some x)) e) at m.1.0) | inr k ↦ inr (m.0, (m.1.0, k)) ])
    (joined_by (λ q. q ≡ place s n (Some r)) (IsOfRows s n rs) t _ _
    (single (place s n (Some r)) t (f r) (is r)) (rows_found s n t f is rs p.1)
    (λ a b at m. rw (at, m.1.0) (row_order s n r m.0 (to_all _ rs p.0 m.0 m.1.1)))))

-- ---- an object, and the objects of a section

-- a member of the object that is there
abbrev IsOfMembers : Data → Section → ℕ → WidePlace → Type 0
IsOfMembers j s n q = (d : Data) × ((object_at j s n ≡ Some d) × IsOfRows s (Some n) (rows_for s d) q)

abbrev IsOfObject : Data → Section → ℕ → WidePlace → Type 0
IsOfObject j s n q = (q ≡ place s (Some n) None) ⊎ IsOfMembers j s n q

object_order : (j : Data) (s : Section) (n : ℕ) (a b : WidePlace) → a ≡ place s (Some n) None → IsOfMembers j s n b → NotAfter (wide_place_path a) (wide_place_path b)
object_order j s n a b at m = rw (at, m.1.1.1.0) (after_prefix (section_name s) _ _ (after_prefix (after_point (number_text n)) [] _ tt))

test_at : (t : Test) (j : Data) (s : Section) (n : ℕ) (d : Data) → object_at j s n ≡ Some d → (r : WideRow) → has_wide_fault t j (place s (Some n) (Some r)) ≡ wide_row_fault t s j d r
test_at t j s n d e r = rw e refl

some_same : {A : Type 0} (x y : A) → Some x ≡ Some y → x ≡ y
some_same x y e = cc

none_there : (t : Test) (j : Data) (s : Section) (n : ℕ) → object_at j s n ≡ None → (q : WidePlace) → IsOfObject j s n q → has_wide_fault t j q ≡ false
none_there t j s n e q m = elim m [ inl at ↦ rw (at, e) refl | inr k ↦ absurd (let both : None ≡ Some k.0 = sym e ∙ k.1.0 in cc) ]

members_of : (j : Data) (s : Section) (n : ℕ) (d : Data) → object_at j s n ≡ Some d → (q : WidePlace) → IsOfMembers j s n q → IsOfRows s (Some n) (rows_for s d) q
members_of j s n d e q m = let same_object : m.0 ≡ d = some_same m.0 d (sym m.1.0 ∙ e) in rw same_object at m.1.1

in_found : (t : Test) (j : Data) (s : Section) (n : ℕ) (o : Option Data) → object_at j s n ≡ o → Finds (IsOfObject j s n) (has_wide_fault t j) (first_in t j s n o)
in_found t j s n None e = record { none = λ _ q m. none_there t j s n e q m; some = λ p is. absurd (cc) }
in_found t j s n (Some d) e =
    rw (cond_split (wide_object_fault t j s n d) (place s (Some n) None) (first_row t j s (Some n) d))
    (joined_by (λ q. q ≡ place s (Some n) None) (IsOfMembers j s n) (has_wide_fault t j) _ _
    (single (place s (Some n) None) (has_wide_fault t j) (wide_object_fault t j s n d) (rw e refl))
    (moved (IsOfRows s (Some n) (rows_for s d)) (IsOfMembers j s n) (has_wide_fault t j) _ (λ q m. (d, (e, m))) (members_of j s n d e)
    (rows_found s (Some n) (has_wide_fault t j) (wide_row_fault t s j d) (test_at t j s n d e) (rows_for s d) (rows_in_order s d)))
    (object_order j s n))

abbrev IsOfNumbers : Data → Section → List ℕ → WidePlace → Type 0
IsOfNumbers j s [] q = ⊥
IsOfNumbers j s (n ∷ ns) q = IsOfObject j s n q ⊎ IsOfNumbers j s ns q

tail_of : (r : Option WideRow) → IsTail (option_map_or (λ x. after_point (wide_path x)) r [])
tail_of None = tt
tail_of (Some r) = refl

number_order : (s : Section) (m n : ℕ) (x y : Option WideRow) → strictly (number_text m ++ 46 ∷ []) (number_text n) ≡ true
    → NotAfter (wide_place_path (place s (Some m) x)) (wide_place_path (place s (Some n) y))
number_order s m n x y h = after_prefix (section_name s) _ _ (omega arith, λ _. before (number_text m) (number_text n) _ _ h (tail_of x))

-- a place of an object has this form
object_place : (j : Data) (s : Section) (n : ℕ) (q : WidePlace) → IsOfObject j s n q → (x : Option WideRow) × (q ≡ place s (Some n) x)
object_place j s n q m = elim m [ inl at ↦ (None, at) | inr k ↦ (Some k.1.1.0, k.1.1.1.0) ]

abbrev IsStrict : ℕ → ℕ → Bool
IsStrict m n = strictly (number_text m ++ 46 ∷ []) (number_text n)

later_numbers : (j : Data) (s : Section) (m : ℕ) (ns : List ℕ) → list_all (IsStrict m) ns ≡ true → (a b : WidePlace) → IsOfObject j s m a → IsOfNumbers j s ns b → NotAfter (wide_place_path a) (wide_place_path b)
later_numbers j s m [] h a b x y = elim y [ ]
later_numbers j s m (n ∷ ns) h a b x y =
    let p = and_parts _ _ h in
    elim y [
      | inl k ↦ let u = object_place j s m a x in let v = object_place j s n b k in rw (u.1, v.1) (number_order s m n u.0 v.0 p.0)
      | inr k ↦ later_numbers j s m ns p.1 a b x k
    ]

numbers_found : (t : Test) (j : Data) (s : Section) (ns : List ℕ) → pairwise IsStrict ns ≡ true → Finds (IsOfNumbers j s ns) (has_wide_fault t j) (first_numbered t j s ns)
numbers_found t j s [] h = record { none = λ e q m. elim m [ ]; some = λ p e. absurd (cc) }
numbers_found t j s (n ∷ ns) h =
    let p = and_parts _ _ h in
    joined_by (IsOfObject j s n) (IsOfNumbers j s ns) (has_wide_fault t j) _ _
    (in_found t j s n (object_at j s n) refl) (numbers_found t j s ns p.1) (later_numbers j s n ns p.0)

numbers_in_order : pairwise IsStrict numbers ≡ true
numbers_in_order = refl

-- ---- a section, and all

abbrev IsOfConfig : Data → WidePlace → Type 0
IsOfConfig j q = (d : Data) × ((section_at j Config ≡ Some d) × IsOfRows Config None (rows_for Config d) q)

abbrev IsInside : Data → Section → WidePlace → Type 0
IsInside j Config = IsOfConfig j
IsInside j Digests = IsOfNumbers j Digests numbers
IsInside j Keyslots = IsOfNumbers j Keyslots numbers
IsInside j Segments = IsOfNumbers j Segments numbers
IsInside j Tokens = IsOfNumbers j Tokens numbers

abbrev IsOfSection : Data → Section → WidePlace → Type 0
IsOfSection j s q = (q ≡ place s None None) ⊎ IsInside j s q

abbrev Parts : Section → WidePlace → Type 0
Parts s q = (n : Option ℕ) × ((r : Option WideRow) × (q ≡ place s n r))

number_parts : (j : Data) (s : Section) (ns : List ℕ) (q : WidePlace) → IsOfNumbers j s ns q → Parts s q
number_parts j s [] q m = elim m [ ]
number_parts j s (n ∷ ns) q m = elim m [ inl k ↦ (let u = object_place j s n q k in (Some n, (u.0, u.1))) | inr k ↦ number_parts j s ns q k ]

inside_parts : (j : Data) (s : Section) (q : WidePlace) → IsInside j s q → Parts s q
inside_parts j Config q m = (None, (Some m.1.1.0, m.1.1.1.0))
inside_parts j Digests q m = number_parts j Digests numbers q m
inside_parts j Keyslots q m = number_parts j Keyslots numbers q m
inside_parts j Segments q m = number_parts j Segments numbers q m
inside_parts j Tokens q m = number_parts j Tokens numbers q m

section_parts : (j : Data) (s : Section) (q : WidePlace) → IsOfSection j s q → Parts s q
section_parts j s q m = elim m [ inl e ↦ (None, (None, e)) | inr k ↦ inside_parts j s q k ]

inside_order : (j : Data) (s : Section) (a b : WidePlace) → a ≡ place s None None → IsInside j s b → NotAfter (wide_place_path a) (wide_place_path b)
inside_order j s a b at m = let u = inside_parts j s b m in rw (at, u.1.1) (after_prefix (section_name s) [] _ tt)

no_config : (t : Test) (j : Data) → section_at j Config ≡ None → (q : WidePlace) → IsInside j Config q → has_wide_fault t j q ≡ false
no_config t j e q m = absurd (let both : None ≡ Some m.0 = sym e ∙ m.1.0 in cc)

config_test : (t : Test) (j : Data) (d : Data) → section_at j Config ≡ Some d → (r : WideRow) → has_wide_fault t j (place Config None (Some r)) ≡ wide_row_fault t Config j d r
config_test t j d e r = rw e refl

members_of_config : (j : Data) (d : Data) → section_at j Config ≡ Some d → (q : WidePlace) → IsOfConfig j q → IsOfRows Config None (rows_for Config d) q
members_of_config j d e q m = m.1.1

config_found : (t : Test) (j : Data) (o : Option Data) → section_at j Config ≡ o → Finds (IsInside j Config) (has_wide_fault t j) (first_of_config t j o)
config_found t j None e = record { none = λ _ q m. no_config t j e q m; some = λ p is. absurd (cc) }
config_found t j (Some d) e =
    moved (IsOfRows Config None (rows_for Config d)) (IsOfConfig j) (has_wide_fault t j) _ (λ q m. (d, (e, m))) (members_of_config j d e)
    (rows_found Config None (has_wide_fault t j) (wide_row_fault t Config j d) (config_test t j d e) (rows_for Config d) (rows_in_order Config d))

after_found : (t : Test) (j : Data) (s : Section) (o : Option WidePlace) → Finds (IsInside j s) (has_wide_fault t j) o → Finds (IsOfSection j s) (has_wide_fault t j) (after_section t j s o)
after_found t j s o f =
    rw (cond_split (section_fault t j s) (place s None None) o)
    (joined_by (λ q. q ≡ place s None None) (IsInside j s) (has_wide_fault t j) _ _ (single (place s None None) (has_wide_fault t j) (section_fault t j s) refl) f (inside_order j s))

section_found : (t : Test) (j : Data) (s : Section) → Finds (IsOfSection j s) (has_wide_fault t j) (first_of_section t numbers j s)
section_found t j Config = after_found t j Config _ (config_found t j (section_at j Config) refl)
section_found t j Digests = after_found t j Digests _ (numbers_found t j Digests numbers numbers_in_order)
section_found t j Keyslots = after_found t j Keyslots _ (numbers_found t j Keyslots numbers numbers_in_order)
section_found t j Segments = after_found t j Segments _ (numbers_found t j Segments numbers numbers_in_order)
section_found t j Tokens = after_found t j Tokens _ (numbers_found t j Tokens numbers numbers_in_order)

abbrev IsOfSections : Data → List Section → WidePlace → Type 0
IsOfSections j [] q = ⊥
IsOfSections j (s ∷ ss) q = IsOfSection j s q ⊎ IsOfSections j ss q

abbrev IsEarlier : Section → Section → Bool
IsEarlier s t = strictly (section_name s) (section_name t)

section_order : (j : Data) (s u : Section) (a b : WidePlace) → IsEarlier s u ≡ true → IsOfSection j s a → IsOfSection j u b → NotAfter (wide_place_path a) (wide_place_path b)
section_order j s u a b h x y =
    let v = section_parts j s a x in
    let w = section_parts j u b y in
    rw (v.1.1, w.1.1) (apart (section_name s) (section_name u) _ _ h)

later_sections : (j : Data) (s : Section) (ss : List Section) → list_all (IsEarlier s) ss ≡ true → (a b : WidePlace) → IsOfSection j s a → IsOfSections j ss b → NotAfter (wide_place_path a) (wide_place_path b)
later_sections j s [] h a b x y = elim y [ ]
later_sections j s (u ∷ us) h a b x y =
    let p = and_parts _ _ h in
    elim y [ inl k ↦ section_order j s u a b p.0 x k | inr k ↦ later_sections j s us p.1 a b x k ]

sections_found : (t : Test) (j : Data) (ss : List Section) → pairwise IsEarlier ss ≡ true → Finds (IsOfSections j ss) (has_wide_fault t j) (first_place t j ss)
sections_found t j [] h = record { none = λ e q m. elim m [ ]; some = λ p e. absurd (cc) }
sections_found t j (s ∷ ss) h =
    let p = and_parts _ _ h in
    joined_by (IsOfSection j s) (IsOfSections j ss) (has_wide_fault t j) _ _ (section_found t j s) (sections_found t j ss p.1) (later_sections j s ss p.0)

-- ---- each place is visited, and nothing else

among_any : (n : ℕ) (ns : List ℕ) → list_any (λ m. n == m) ns ≡ true → Among n ns
among_any n [] h = absurd (cc)
among_any n (m ∷ ns) h = elim (or_cases _ _ h) [ inl e ↦ inl (eqb-true n m e) | inr k ↦ inr (among_any n ns k) ]

each_number : (n : ℕ) → n < 32 → Among n numbers
each_number n lt = among_any n numbers (agree_below_at (λ k. list_any (λ m. k == m) numbers) (λ k. true) 32 n refl lt)

in_numbers : (j : Data) (s : Section) (n : ℕ) (q : WidePlace) → IsOfObject j s n q → (ns : List ℕ) → Among n ns → IsOfNumbers j s ns q
in_numbers j s n q k [] m = elim m [ ]
in_numbers j s n q k (i ∷ ns) m = elim m [ inl e ↦ inl (rw e at k) | inr l ↦ inr (in_numbers j s n q k ns l) ]

numbered_inside : (j : Data) (s : Section) → is_numbered s ≡ true → (q : WidePlace) → IsOfNumbers j s numbers q → IsInside j s q
numbered_inside j Config h q m = absurd (cc)
numbered_inside j Digests h q m = m
numbered_inside j Keyslots h q m = m
numbered_inside j Segments h q m = m
numbered_inside j Tokens h q m = m

visited : (j : Data) (s : Section) (n : Option ℕ) (r : Option WideRow) → HasWidePlace j s n r → IsOfSection j s (place s n r)
visited j s None None h = inl refl
visited j Config None (Some r) h = inr (h.1.0, (h.1.1, (r, (refl, h.1.2))))
visited j Digests None (Some r) h = absurd (let e = h.0 in cc)
visited j Keyslots None (Some r) h = absurd (let e = h.0 in cc)
visited j Segments None (Some r) h = absurd (let e = h.0 in cc)
visited j Tokens None (Some r) h = absurd (let e = h.0 in cc)
visited j s (Some n) None h = inr (numbered_inside j s h.0 _ (in_numbers j s n _ (inl refl) numbers (each_number n h.1)))
visited j s (Some n) (Some r) h = inr (numbered_inside j s h.0 _ (in_numbers j s n _ (inr (h.2.0, (h.2.1, (r, (refl, h.2.2))))) numbers (each_number n h.1)))

in_sections : (j : Data) (s : Section) (q : WidePlace) → IsOfSection j s q → IsOfSections j sections q
in_sections j Config q m = inl m
in_sections j Digests q m = inr (inl m)
in_sections j Keyslots q m = inr (inr (inl m))
in_sections j Segments q m = inr (inr (inr (inl m)))
in_sections j Tokens q m = inr (inr (inr (inr (inl m))))

place_in : (j : Data) (q : WidePlace) → IsWidePlace j q → IsOfSections j sections q
place_in j q h = in_sections j q.section q (visited j q.section q.number q.row h)

object_has : (j : Data) (s : Section) (n : ℕ) (q : WidePlace) → is_numbered s ≡ true → n < 32 → IsOfObject j s n q → IsWidePlace j q
object_has j s n q h lt m = elim m [ inl e ↦ rw e (h, lt) | inr k ↦ rw k.1.1.1.0 (h, lt, (k.0, k.1.0, k.1.1.1.1)) ]

numbers_have : (j : Data) (s : Section) (ns : List ℕ) (q : WidePlace) → is_numbered s ≡ true → list_all (λ n. nat_lt n 32) ns ≡ true → IsOfNumbers j s ns q → IsWidePlace j q
numbers_have j s [] q h all m = elim m [ ]
numbers_have j s (n ∷ ns) q h all m =
    let p = and_parts _ _ all in
    elim m [ inl k ↦ object_has j s n q h (ltb-true n 32 p.0) k | inr k ↦ numbers_have j s ns q h p.1 k ]

inside_has : (j : Data) (s : Section) (q : WidePlace) → IsInside j s q → IsWidePlace j q
inside_has j Config q m = rw m.1.1.1.0 (refl, (m.0, m.1.0, m.1.1.1.1))
inside_has j Digests q m = numbers_have j Digests numbers q refl refl m
inside_has j Keyslots q m = numbers_have j Keyslots numbers q refl refl m
inside_has j Segments q m = numbers_have j Segments numbers q refl refl m
inside_has j Tokens q m = numbers_have j Tokens numbers q refl refl m

section_has : (j : Data) (s : Section) (q : WidePlace) → IsOfSection j s q → IsWidePlace j q
section_has j s q m = elim m [ inl e ↦ rw e tt | inr k ↦ inside_has j s q k ]

in_place : (j : Data) (ss : List Section) (q : WidePlace) → IsOfSections j ss q → IsWidePlace j q
in_place j [] q m = elim m [ ]
in_place j (s ∷ ss) q m = elim m [ inl k ↦ section_has j s q k | inr k ↦ in_place j ss q k ]

pub place_found : (t : Test) (j : Data) → Finds (IsWidePlace j) (has_wide_fault t j) (first_place t j sections)
place_found t j = moved (IsOfSections j sections) (IsWidePlace j) (has_wide_fault t j) _ (in_place j sections) (place_in j) (sections_found t j sections sections_in_order)

pub least_place : (t : Test) (j : Data) (p : WidePlace) → Some p ≡ first_place t j sections → IsLeast wide_place_path (IsWideFaulty t j) p
least_place t j p e =
    let h = (place_found t j).some p (sym e) in
    (record { place = h.0; fault = h.1.0 }, λ g f. h.1.1 g f.place f.fault)

pub no_place : (t : Test) (j : Data) → None ≡ first_place t j sections → (p : WidePlace) → IsWidePlace j p → has_wide_fault t j p ≡ false
no_place t j e = (place_found t j).none (sym e)
