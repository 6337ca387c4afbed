-- The first place that the walk meets is the least.
use Rattle.std.proofs.Common.{◌≡◌, ℕ, ◌<◌, Bool, true, false, List, [], ◌∷◌, ◌++◌, Option, Some, None, cond, refl, sym, ap, arith, inl, inr, ◌⊎◌}
use Rattle.std.specs.Prelude.{find, option_map, ◌==◌, nat_lt}
use Rattle.std.specs.Option.{option_map_or}
use Rattle.std.specs.List.{list_all, list_any}
use Rattle.std.proofs.lemmas.Bool.{and_parts, or_cases, eqb-true, ltb-true, agree_below_at}
use Rattle.serde_json.specs.Data.{Data}
use Rattle.luks_area.specs.First.{IsLeast, NotAfter}
use Rattle.luks_rules.specs.declared.table.Section.{Section}
use Rattle.luks_rules.specs.declared.table.Section.TheVariants.{Config, Digests, Keyslots, Segments, Tokens}
use Rattle.luks_rules.specs.declared.table.Row.{Row}
use Rattle.luks_rules.specs.declared.place.Place.{Place}
use Rattle.luks_rules.specs.declared.place.Test.{Test}
use Rattle.luks_rules.specs.Table.{section_name, rows_of}
use Rattle.luks_json.specs.Number.{number_text}
use Rattle.luks_rules.specs.Faults.{Among, HasPlace, IsPlace, IsFaulty, after_point, has_fault, is_numbered, object_at, object_fault, place_path, row_fault, row_path, section_at, section_fault}
use Rattle.luks_rules.specs.Walk.{numbers, after_section, first_in, first_numbered, first_of_config, first_of_section, first_place, first_row, or_else, place}
use Rattle.luks_rules.proofs.Order.{IsTail, after_prefix, apart, before, not_after, numbers_in_order, pairwise, rows_in_order, sections, sections_in_order, strictly, told}

-- of the places of `S`, `o` is the least where the test holds
pub record Finds (S : Place → Type 0) (t : Place → Bool) (o : Option Place) : Type 0 where
  pub none : o ≡ None → (q : Place) → S q → t q ≡ false
  pub some : (p : Place) → o ≡ Some p → S p × ((t p ≡ true) × ((q : Place) → S q → t q ≡ true → NotAfter (place_path p) (place_path q)))

-- ---- joining

joined_by : (S U : Place → Type 0) (t : Place → Bool) (o u : Option Place) → Finds S t o → Finds U t u
    → ((p q : Place) → S p → U q → NotAfter (place_path p) (place_path q)) → Finds (λ q. S q ⊎ U q) t (or_else o u)
joined_by S U t None u f g ord = record {
  none = λ e q. λ m. elim m [ inl s ↦ f.none refl q s | inr r ↦ g.none e q r ];
  some = λ p e. let h = g.some p e in (inr h.0, (h.1.0, λ q m yes. elim m [ inl s ↦ absurd (let no : t q ≡ false = f.none refl q s in cc) | inr r ↦ h.1.1 q r yes ]));
}
joined_by S U t (Some o) u f g ord = record {
  none = λ e. absurd (cc);
  some = λ p e. let h = f.some p e in (inl h.0, (h.1.0, λ q m yes. elim m [ inl s ↦ h.1.1 q s yes | inr r ↦ ord p q h.0 r ]));
}

moved : (S U : Place → Type 0) (t : Place → Bool) (o : Option Place) → ((q : Place) → S q → U q) → ((q : Place) → U q → S q) → Finds S t o → Finds U t o
moved S U t o into from f = record {
  none = λ e q m. f.none e q (from q m);
  some = λ p e. let h = f.some p e in (into p h.0, (h.1.0, λ q m yes. h.1.1 q (from q m) yes));
}

-- no path stands after itself
same : (xs : List ℕ) → NotAfter xs xs
same [] = tt
same (x ∷ xs) = (omega arith, λ _. same xs)

single : (a : Place) (t : Place → Bool) (b : Bool) → t a ≡ b → Finds (λ q. q ≡ a) t (cond b (Some a) None)
single a t true e = record {
  none = λ n. absurd (cc);
  some = λ p is. let h : a ≡ p = cc in (sym h, (cc, λ q at yes. rw (← h, at) (same (place_path a))));
}
single a t false e = record { none = λ n q at. cc; some = λ p is. absurd (cc) }

find_split : (g : Row → Place) (b : Bool) (r : Row) (o : Option Row) → option_map g (cond b (Some r) o) ≡ or_else (cond b (Some (g r)) None) (option_map g o)
find_split g true r o = refl
find_split g false r o = refl

cond_split : (b : Bool) (a : Place) (o : Option Place) → cond b (Some a) o ≡ or_else (cond b (Some a) None) o
cond_split true a o = refl
cond_split false a o = refl

-- ---- rows

abbrev IsOfRows : Section → Option ℕ → List Row → Place → Type 0
IsOfRows s n rows q = (r : Row) × ((q ≡ place s n (Some r)) × Among r rows)

abbrev InOrder : List Row → Type 0
InOrder rows = pairwise (λ r q. not_after (row_path r) (row_path q)) rows ≡ true

row_order : (s : Section) (n : Option ℕ) (r q : Row) → not_after (row_path r) (row_path q) ≡ true
    → NotAfter (place_path (place s n (Some r))) (place_path (place s n (Some q)))
row_order s n r q h = after_prefix (section_name s) _ _ (after_prefix (option_map_or (λ m. after_point (number_text m)) n []) _ _ (omega arith, λ _. told _ _ h))

to_all : (f : Row → Bool) (rows : List Row) → list_all f rows ≡ true → (r : Row) → Among r rows → f r ≡ true
to_all f [] h r m = elim m [ ]
to_all f (x ∷ xs) h r m = let p = and_parts _ _ h in elim m [ inl e ↦ rw e p.0 | inr k ↦ to_all f xs p.1 r k ]

rows_found : (s : Section) (n : Option ℕ) (t : Place → Bool) (f : Row → Bool) → ((r : Row) → t (place s n (Some r)) ≡ f r)
    → (rows : List Row) → InOrder rows → Finds (IsOfRows s n rows) t (option_map (λ r. place s n (Some r)) (find f rows))
rows_found s n t f is [] ord = record { none = λ e q m. elim m.1.1 [ ]; some = λ p e. absurd (cc) }
rows_found s n t f is (r ∷ rs) ord =
    let p = and_parts _ _ ord in
    rw (find_split (λ x. place s n (Some x)) (f r) r (find f rs))
    (moved (λ q. (q ≡ place s n (Some r)) ⊎ IsOfRows s n rs q) (IsOfRows s n (r ∷ rs)) t _
    (λ q m. elim m [ inl e ↦ (r, (e, inl refl)) | inr k ↦ (k.0, (k.1.0, inr k.1.1)) ])
    (λ q m. elim m.1.1 [ inl e ↦ inl (rw (ap (λ x. place s n (Some x)) e) at m.1.0) | inr k ↦ inr (m.0, (m.1.0, k)) ])
    (joined_by (λ q. q ≡ place s n (Some r)) (IsOfRows s n rs) t _ _
    (single (place s n (Some r)) t (f r) (is r)) (rows_found s n t f is rs p.1)
    (λ a b at m. rw (at, m.1.0) (row_order s n r m.0 (to_all _ rs p.0 m.0 m.1.1)))))

-- ---- an object, and the objects of a section

abbrev IsOfObject : Section → ℕ → Place → Type 0
IsOfObject s n q = (q ≡ place s (Some n) None) ⊎ IsOfRows s (Some n) (rows_of s) q

object_order : (s : Section) (n : ℕ) (a b : Place) → a ≡ place s (Some n) None → IsOfRows s (Some n) (rows_of s) b → NotAfter (place_path a) (place_path b)
object_order s n a b at m = rw (at, m.1.0) (after_prefix (section_name s) _ _ (after_prefix (after_point (number_text n)) [] _ tt))

test_at : (t : Test) (j : Data) (s : Section) (n : ℕ) (d : Data) → object_at j s n ≡ Some d → (r : Row) → has_fault t j (place s (Some n) (Some r)) ≡ row_fault t (rows_of s) j d r
test_at t j s n d e r = rw e refl

none_there : (t : Test) (j : Data) (s : Section) (n : ℕ) → object_at j s n ≡ None → (q : Place) → IsOfObject s n q → has_fault t j q ≡ false
none_there t j s n e q m = elim m [ inl at ↦ rw (at, e) refl | inr k ↦ rw (k.1.0, e) refl ]

in_found : (t : Test) (j : Data) (s : Section) (n : ℕ) (o : Option Data) → object_at j s n ≡ o → Finds (IsOfObject s n) (has_fault t j) (first_in t (rows_of s) j s n o)
in_found t j s n None e = record { none = λ _ q m. none_there t j s n e q m; some = λ p is. absurd (cc) }
in_found t j s n (Some d) e =
    rw (cond_split (object_fault t j s n d) (place s (Some n) None) (first_row t (rows_of s) j s (Some n) d))
    (joined_by (λ q. q ≡ place s (Some n) None) (IsOfRows s (Some n) (rows_of s)) (has_fault t j) _ _
    (single (place s (Some n) None) (has_fault t j) (object_fault t j s n d) (rw e refl))
    (rows_found s (Some n) (has_fault t j) (row_fault t (rows_of s) j d) (test_at t j s n d e) (rows_of s) (rows_in_order s))
    (object_order s n))

abbrev IsOfNumbers : Section → List ℕ → Place → Type 0
IsOfNumbers s [] q = ⊥
IsOfNumbers s (n ∷ ns) q = IsOfObject s n q ⊎ IsOfNumbers s ns q

tail_of : (r : Option Row) → IsTail (option_map_or (λ x. after_point (row_path x)) r [])
tail_of None = tt
tail_of (Some r) = refl

number_order : (s : Section) (m n : ℕ) (x y : Option Row) → strictly (number_text m ++ 46 ∷ []) (number_text n) ≡ true
    → NotAfter (place_path (place s (Some m) x)) (place_path (place s (Some n) y))
number_order s m n x y h = after_prefix (section_name s) _ _ (omega arith, λ _. before (number_text m) (number_text n) _ _ h (tail_of x))

-- a place of an object has this form
object_place : (s : Section) (n : ℕ) (q : Place) → IsOfObject s n q → (x : Option Row) × (q ≡ place s (Some n) x)
object_place s n q m = elim m [ inl at ↦ (None, at) | inr k ↦ (Some k.0, k.1.0) ]

abbrev IsStrict : ℕ → ℕ → Bool
IsStrict m n = strictly (number_text m ++ 46 ∷ []) (number_text n)

later_numbers : (s : Section) (m : ℕ) (ns : List ℕ) → list_all (IsStrict m) ns ≡ true → (a b : Place) → IsOfObject s m a → IsOfNumbers s ns b → NotAfter (place_path a) (place_path b)
later_numbers s m [] h a b x y = elim y [ ]
later_numbers s m (n ∷ ns) h a b x y =
    let p = and_parts _ _ h in
    elim y [
      | inl k ↦ let u = object_place s m a x in let v = object_place s n b k in rw (u.1, v.1) (number_order s m n u.0 v.0 p.0)
      | inr k ↦ later_numbers s m ns p.1 a b x k
    ]

numbers_found : (t : Test) (j : Data) (s : Section) (ns : List ℕ) → pairwise IsStrict ns ≡ true → Finds (IsOfNumbers s ns) (has_fault t j) (first_numbered t (rows_of s) j s ns)
numbers_found t j s [] h = record { none = λ e q m. elim m [ ]; some = λ p e. absurd (cc) }
numbers_found t j s (n ∷ ns) h =
    let p = and_parts _ _ h in
    joined_by (IsOfObject s n) (IsOfNumbers s ns) (has_fault t j) _ _
    (in_found t j s n (object_at j s n) refl) (numbers_found t j s ns p.1) (later_numbers s n ns p.0)

-- ---- a section, and all

abbrev IsInside : Section → Place → Type 0
IsInside Config = IsOfRows Config None (rows_of Config)
IsInside Digests = IsOfNumbers Digests numbers
IsInside Keyslots = IsOfNumbers Keyslots numbers
IsInside Segments = IsOfNumbers Segments numbers
IsInside Tokens = IsOfNumbers Tokens numbers

abbrev IsOfSection : Section → Place → Type 0
IsOfSection s q = (q ≡ place s None None) ⊎ IsInside s q

abbrev Parts : Section → Place → Type 0
Parts s q = (n : Option ℕ) × ((r : Option Row) × (q ≡ place s n r))

number_parts : (s : Section) (ns : List ℕ) (q : Place) → IsOfNumbers s ns q → Parts s q
number_parts s [] q m = elim m [ ]
number_parts s (n ∷ ns) q m = elim m [ inl k ↦ (let u = object_place s n q k in (Some n, (u.0, u.1))) | inr k ↦ number_parts s ns q k ]

inside_parts : (s : Section) (q : Place) → IsInside s q → Parts s q
inside_parts Config q m = (None, (Some m.0, m.1.0))
inside_parts Digests q m = number_parts Digests numbers q m
inside_parts Keyslots q m = number_parts Keyslots numbers q m
inside_parts Segments q m = number_parts Segments numbers q m
inside_parts Tokens q m = number_parts Tokens numbers q m

section_parts : (s : Section) (q : Place) → IsOfSection s q → Parts s q
section_parts s q m = elim m [ inl e ↦ (None, (None, e)) | inr k ↦ inside_parts s q k ]

inside_order : (s : Section) (a b : Place) → a ≡ place s None None → IsInside s b → NotAfter (place_path a) (place_path b)
inside_order s a b at m = let u = inside_parts s b m in rw (at, u.1.1) (after_prefix (section_name s) [] _ tt)

no_config : (t : Test) (j : Data) → section_at j Config ≡ None → (q : Place) → IsInside Config q → has_fault t j q ≡ false
no_config t j e q m = rw (m.1.0, e) refl

config_test : (t : Test) (j : Data) (d : Data) → section_at j Config ≡ Some d → (r : Row) → has_fault t j (place Config None (Some r)) ≡ row_fault t (rows_of Config) j d r
config_test t j d e r = rw e refl

config_found : (t : Test) (j : Data) (o : Option Data) → section_at j Config ≡ o → Finds (IsInside Config) (has_fault t j) (first_of_config t (rows_of Config) j o)
config_found t j None e = record { none = λ _ q m. no_config t j e q m; some = λ p is. absurd (cc) }
config_found t j (Some d) e = rows_found Config None (has_fault t j) (row_fault t (rows_of Config) j d) (config_test t j d e) (rows_of Config) (rows_in_order Config)

after_found : (t : Test) (j : Data) (s : Section) (o : Option Place) → Finds (IsInside s) (has_fault t j) o → Finds (IsOfSection s) (has_fault t j) (after_section t j s o)
after_found t j s o f =
    rw (cond_split (section_fault t j s) (place s None None) o)
    (joined_by (λ q. q ≡ place s None None) (IsInside s) (has_fault t j) _ _ (single (place s None None) (has_fault t j) (section_fault t j s) refl) f (inside_order s))

section_found : (t : Test) (j : Data) (s : Section) → Finds (IsOfSection s) (has_fault t j) (first_of_section t (rows_of s) numbers j s)
section_found t j Config = after_found t j Config _ (config_found t j (section_at j Config) refl)
section_found t j Digests = after_found t j Digests _ (numbers_found t j Digests numbers numbers_in_order)
section_found t j Keyslots = after_found t j Keyslots _ (numbers_found t j Keyslots numbers numbers_in_order)
section_found t j Segments = after_found t j Segments _ (numbers_found t j Segments numbers numbers_in_order)
section_found t j Tokens = after_found t j Tokens _ (numbers_found t j Tokens numbers numbers_in_order)

abbrev IsOfSections : List Section → Place → Type 0
IsOfSections [] q = ⊥
IsOfSections (s ∷ ss) q = IsOfSection s q ⊎ IsOfSections ss q

abbrev IsEarlier : Section → Section → Bool
IsEarlier s t = strictly (section_name s) (section_name t)

section_order : (s u : Section) (a b : Place) → IsEarlier s u ≡ true → IsOfSection s a → IsOfSection u b → NotAfter (place_path a) (place_path b)
section_order s u a b h x y =
    let v = section_parts s a x in
    let w = section_parts u b y in
    rw (v.1.1, w.1.1) (apart (section_name s) (section_name u) _ _ h)

later_sections : (s : Section) (ss : List Section) → list_all (IsEarlier s) ss ≡ true → (a b : Place) → IsOfSection s a → IsOfSections ss b → NotAfter (place_path a) (place_path b)
later_sections s [] h a b x y = elim y [ ]
later_sections s (u ∷ us) h a b x y =
    let p = and_parts _ _ h in
    elim y [ inl k ↦ section_order s u a b p.0 x k | inr k ↦ later_sections s us p.1 a b x k ]

sections_found : (t : Test) (j : Data) (ss : List Section) → pairwise IsEarlier ss ≡ true → Finds (IsOfSections ss) (has_fault t j) (first_place t j ss)
sections_found t j [] h = record { none = λ e q m. elim m [ ]; some = λ p e. absurd (cc) }
sections_found t j (s ∷ ss) h =
    let p = and_parts _ _ h in
    joined_by (IsOfSection s) (IsOfSections ss) (has_fault t j) _ _ (section_found t j s) (sections_found t j ss p.1) (later_sections s ss p.0)

-- ---- each place is visited, and nothing else

among_any : (n : ℕ) (ns : List ℕ) → list_any (λ m. n == m) ns ≡ true → Among n ns
among_any n [] h = absurd (cc)
among_any n (m ∷ ns) h = elim (or_cases _ _ h) [ inl e ↦ inl (eqb-true n m e) | inr k ↦ inr (among_any n ns k) ]

each_number : (n : ℕ) → n < 32 → Among n numbers
each_number n lt = among_any n numbers (agree_below_at (λ k. list_any (λ m. k == m) numbers) (λ k. true) 32 n refl lt)

in_numbers : (s : Section) (n : ℕ) (q : Place) → IsOfObject s n q → (ns : List ℕ) → Among n ns → IsOfNumbers s ns q
in_numbers s n q k [] m = elim m [ ]
in_numbers s n q k (i ∷ ns) m = elim m [ inl e ↦ inl (rw e at k) | inr l ↦ inr (in_numbers s n q k ns l) ]

numbered_inside : (s : Section) → is_numbered s ≡ true → (q : Place) → IsOfNumbers s numbers q → IsInside s q
numbered_inside Config h q m = absurd (cc)
numbered_inside Digests h q m = m
numbered_inside Keyslots h q m = m
numbered_inside Segments h q m = m
numbered_inside Tokens h q m = m

visited : (s : Section) (n : Option ℕ) (r : Option Row) → HasPlace s n r → IsOfSection s (place s n r)
visited s None None h = inl refl
visited Config None (Some r) h = inr (r, (refl, h.1))
visited Digests None (Some r) h = absurd (let e = h.0 in cc)
visited Keyslots None (Some r) h = absurd (let e = h.0 in cc)
visited Segments None (Some r) h = absurd (let e = h.0 in cc)
visited Tokens None (Some r) h = absurd (let e = h.0 in cc)
visited s (Some n) None h = inr (numbered_inside s h.0 _ (in_numbers s n _ (inl refl) numbers (each_number n h.1)))
visited s (Some n) (Some r) h = inr (numbered_inside s h.0 _ (in_numbers s n _ (inr (r, (refl, h.2))) numbers (each_number n h.1)))

in_sections : (s : Section) (q : Place) → IsOfSection s q → IsOfSections sections q
in_sections Config q m = inl m
in_sections Digests q m = inr (inl m)
in_sections Keyslots q m = inr (inr (inl m))
in_sections Segments q m = inr (inr (inr (inl m)))
in_sections Tokens q m = inr (inr (inr (inr (inl m))))

place_in : (q : Place) → IsPlace q → IsOfSections sections q
place_in q h = in_sections q.section q (visited q.section q.number q.row h)

object_has : (s : Section) (n : ℕ) (q : Place) → is_numbered s ≡ true → n < 32 → IsOfObject s n q → IsPlace q
object_has s n q h lt m = elim m [ inl e ↦ rw e (h, lt) | inr k ↦ rw k.1.0 (h, lt, k.1.1) ]

numbers_have : (s : Section) (ns : List ℕ) (q : Place) → is_numbered s ≡ true → list_all (λ n. nat_lt n 32) ns ≡ true → IsOfNumbers s ns q → IsPlace q
numbers_have s [] q h all m = elim m [ ]
numbers_have s (n ∷ ns) q h all m =
    let p = and_parts _ _ all in
    elim m [ inl k ↦ object_has s n q h (ltb-true n 32 p.0) k | inr k ↦ numbers_have s ns q h p.1 k ]

inside_has : (s : Section) (q : Place) → IsInside s q → IsPlace q
inside_has Config q m = rw m.1.0 (refl, m.1.1)
inside_has Digests q m = numbers_have Digests numbers q refl refl m
inside_has Keyslots q m = numbers_have Keyslots numbers q refl refl m
inside_has Segments q m = numbers_have Segments numbers q refl refl m
inside_has Tokens q m = numbers_have Tokens numbers q refl refl m

section_has : (s : Section) (q : Place) → IsOfSection s q → IsPlace q
section_has s q m = elim m [ inl e ↦ rw e tt | inr k ↦ inside_has s q k ]

in_place : (ss : List Section) (q : Place) → IsOfSections ss q → IsPlace q
in_place [] q m = elim m [ ]
in_place (s ∷ ss) q m = elim m [ inl k ↦ section_has s q k | inr k ↦ in_place ss q k ]

pub place_found : (t : Test) (j : Data) → Finds IsPlace (has_fault t j) (first_place t j sections)
place_found t j = moved (IsOfSections sections) IsPlace (has_fault t j) _ (in_place sections) place_in (sections_found t j sections sections_in_order)

pub least_place : (t : Test) (j : Data) (p : Place) → Some p ≡ first_place t j sections → IsLeast place_path (IsFaulty t j) p
least_place t j p e =
    let h = (place_found t j).some p (sym e) in
    (record { place = h.0; fault = h.1.0 }, λ g f. h.1.1 g f.place f.fault)

pub no_place : (t : Test) (j : Data) → None ≡ first_place t j sections → (p : Place) → IsPlace p → has_fault t j p ≡ false
no_place t j e = (place_found t j).none (sym e)
