-- The first place that is met is the least.
use Rattle.std.proofs.Common.{◌≡◌, ℕ, ◌<◌, Bool, true, false, List, [], ◌∷◌, ◌⊎◌, Option, Some, None, cond, codes, refl, sym, ◌∙◌, arith, inl, inr}
use Rattle.std.specs.Prelude.{find, ◌==◌, nat_lt, option_map}
use Rattle.std.specs.List.{list_all, list_any}
use Rattle.std.proofs.lemmas.Bool.{agree_below_at, and_from, and_parts, cases_Bool, eqb-true, false≢true, ltb-true, or_cases, true≢false}
use Rattle.serde_json.specs.Data.{Data}
use Rattle.luks_area.specs.First.{IsLeast, NotAfter}
use Rattle.luks_json.specs.Number.{number_text}
use Rattle.luks_rules.specs.Faults.{Among}
use Rattle.luks_rules.specs.Walk.{numbers, or_else}
use Rattle.luks_rules.proofs.Order.{after_prefix, apart, not_after, pairwise, told}
use Rattle.luks_contradictions.specs.Contradicted.{contradiction_path, contradicts, has_out_of_place}
use Rattle.luks_contradictions.specs.Contradictions.{is_misparted, is_second, lacks_requirement}
use Rattle.luks_contradictions.specs.Walk.{first_of_segments, first_place}
use Rattle.luks_contradictions.specs.declared.contradiction.Contradiction.{Contradiction}
use Rattle.luks_contradictions.specs.declared.contradiction.Contradiction.TheVariants.{Keyslot, Requirements, Segment, Segments}

-- ---- among numbers

-- no text stands after itself
same : (xs : List ℕ) → NotAfter xs xs
same [] = tt
same (x ∷ xs) = (omega arith, λ _. same xs)

abbrev IsInOrder : List ℕ → Type 0
IsInOrder ns = pairwise (λ m n. not_after (number_text m) (number_text n)) ns ≡ true

in_order : IsInOrder numbers
in_order = refl

to_all : (f : ℕ → Bool) (ns : List ℕ) → list_all f ns ≡ true → (n : ℕ) → Among n ns → f n ≡ true
to_all f [] h n m = elim m [ ]
to_all f (x ∷ xs) h n m = let p = and_parts _ _ h in elim m [ inl e ↦ rw e p.0 | inr k ↦ to_all f xs p.1 n k ]

-- the first of the numbers that the test holds of
record IsFound (test : ℕ → Bool) (ns : List ℕ) (n : ℕ) : Type 0 where
  holds : test n ≡ true
  among : Among n ns
  least : (m : ℕ) → Among m ns → test m ≡ true → NotAfter (number_text n) (number_text m)

some_same : {A : Type 0} (x y : A) → Some x ≡ Some y → x ≡ y
some_same x y e = cc

found : (test : ℕ → Bool) (ns : List ℕ) → IsInOrder ns → (n : ℕ) → Some n ≡ find test ns → IsFound test ns n
found test [] ord n e = absurd (cc)
found test (x ∷ xs) ord n e =
    let p = and_parts (list_all (λ m. not_after (number_text x) (number_text m)) xs) (pairwise (λ k m. not_after (number_text k) (number_text m)) xs) ord in
    elim (cases_Bool (test x)) [
      | inl is ↦
          let here : n ≡ x = some_same n x (rw is at e) in
          rw here record {
            holds = is;
            among = inl refl;
            least = λ m k yes. elim k [ inl one ↦ rw one (same (number_text x)) | inr rest ↦ told (number_text x) (number_text m) (to_all (λ k. not_after (number_text x) (number_text k)) xs p.0 m rest) ];
          }
      | inr off ↦
          let r = found test xs p.1 n (rw off at e) in
          record {
            holds = r.holds;
            among = inr r.among;
            least = λ m k yes. elim k [ inl one ↦ absurd (let lost : test x ≡ true = rw one at yes in false≢true (sym off ∙ lost)) | inr rest ↦ r.least m rest yes ];
          }
    ]

not_found : (test : ℕ → Bool) (ns : List ℕ) → None ≡ find test ns → (m : ℕ) → Among m ns → test m ≡ false
not_found test [] e m k = elim k [ ]
not_found test (x ∷ xs) e m k = elim (cases_Bool (test x)) [
  | inl is ↦ absurd (let lost : None ≡ Some x = rw is at e in cc)
  | inr off ↦ elim k [ inl one ↦ rw one off | inr rest ↦ not_found test xs (rw off at e) m rest ]
]

-- each number below 32 is met, and no other
among_any : (n : ℕ) (ns : List ℕ) → list_any (λ m. n == m) ns ≡ true → Among n ns
among_any n [] h = absurd (cc)
among_any n (m ∷ ns) h = elim (or_cases _ _ h) [ inl e ↦ inl (eqb-true n m e) | inr k ↦ inr (among_any n ns k) ]

each_number : (n : ℕ) → n < 32 → Among n numbers
each_number n lt = among_any n numbers (agree_below_at (λ k. list_any (λ m. k == m) numbers) (λ k. true) 32 n refl lt)

all_small : list_all (λ n. nat_lt n 32) numbers ≡ true
all_small = refl

-- ---- among places

abbrev Contradicts : Data → Contradiction → Type 0
Contradicts j p = contradicts j p ≡ true

least_requirements : (j : Data) → lacks_requirement j ≡ true → IsLeast contradiction_path (Contradicts j) Requirements
least_requirements j is = (is, λ q h. by q)
  where
    by : (q : Contradiction) → NotAfter (contradiction_path Requirements) (contradiction_path q)
    by Requirements = same (codes "config.requirements")
    by (Keyslot n) = apart (codes "config.requirements") (codes "keyslots.") [] (number_text n) refl
    by Segments = apart (codes "config.requirements") (codes "segments") [] [] refl
    by (Segment n) = apart (codes "config.requirements") (codes "segments.") [] (number_text n) refl

least_keyslot : (j : Data) (n : ℕ) → lacks_requirement j ≡ false → Some n ≡ find (is_second j) numbers → IsLeast contradiction_path (Contradicts j) (Keyslot n)
least_keyslot j n off e =
    let f = found (is_second j) numbers in_order n e in
    (and_from _ _ (to_all (λ k. nat_lt k 32) numbers all_small n f.among) f.holds, by f)
  where
    by : IsFound (is_second j) numbers n → (q : Contradiction) → Contradicts j q → NotAfter (contradiction_path (Keyslot n)) (contradiction_path q)
    by f Requirements h = absurd (false≢true (sym off ∙ h))
    by f (Keyslot m) h = let p = and_parts _ _ h in after_prefix (codes "keyslots.") _ _ (f.least m (each_number m (ltb-true m 32 p.0)) p.1)
    by f Segments h = apart (codes "keyslots.") (codes "segments") (number_text n) [] refl
    by f (Segment m) h = apart (codes "keyslots.") (codes "segments.") (number_text n) (number_text m) refl

-- no keyslot is a second one
abbrev NoSecond : Data → Type 0
NoSecond j = None ≡ find (is_second j) numbers

no_keyslot : (j : Data) → NoSecond j → (m : ℕ) → contradicts j (Keyslot m) ≡ true → ⊥
no_keyslot j none m h =
    let p = and_parts _ _ h in
    false≢true (sym (not_found (is_second j) numbers none m (each_number m (ltb-true m 32 p.0))) ∙ p.1)

least_segments : (j : Data) → lacks_requirement j ≡ false → NoSecond j → is_misparted j ≡ true → IsLeast contradiction_path (Contradicts j) Segments
least_segments j off none is = (is, by)
  where
    by : (q : Contradiction) → Contradicts j q → NotAfter (contradiction_path Segments) (contradiction_path q)
    by Requirements h = absurd (false≢true (sym off ∙ h))
    by (Keyslot m) h = absurd (no_keyslot j none m h)
    by Segments h = same (codes "segments")
    by (Segment m) h = after_prefix (codes "segments") [] (46 ∷ number_text m) tt

least_segment : (j : Data) (n : ℕ) → lacks_requirement j ≡ false → NoSecond j → is_misparted j ≡ false → Some n ≡ find (has_out_of_place j) numbers
    → IsLeast contradiction_path (Contradicts j) (Segment n)
least_segment j n off none whole e =
    let f = found (has_out_of_place j) numbers in_order n e in
    (and_from _ _ (to_all (λ k. nat_lt k 32) numbers all_small n f.among) f.holds, by f)
  where
    by : IsFound (has_out_of_place j) numbers n → (q : Contradiction) → Contradicts j q → NotAfter (contradiction_path (Segment n)) (contradiction_path q)
    by f Requirements h = absurd (false≢true (sym off ∙ h))
    by f (Keyslot m) h = absurd (no_keyslot j none m h)
    by f Segments h = absurd (false≢true (sym whole ∙ h))
    by f (Segment m) h = let p = and_parts _ _ h in after_prefix (codes "segments.") _ _ (f.least m (each_number m (ltb-true m 32 p.0)) p.1)

none_contradicts : (j : Data) → lacks_requirement j ≡ false → NoSecond j → is_misparted j ≡ false → None ≡ find (has_out_of_place j) numbers
    → (p : Contradiction) → contradicts j p ≡ false
none_contradicts j off none whole e Requirements = off
none_contradicts j off none whole e (Keyslot n) = elim (cases_Bool (nat_lt n 32)) [
  | inl lt ↦ rw lt (not_found (is_second j) numbers none n (each_number n (ltb-true n 32 lt)))
  | inr ge ↦ rw ge refl
]
none_contradicts j off none whole e Segments = whole
none_contradicts j off none whole e (Segment n) = elim (cases_Bool (nat_lt n 32)) [
  | inl lt ↦ rw lt (not_found (has_out_of_place j) numbers e n (each_number n (ltb-true n 32 lt)))
  | inr ge ↦ rw ge refl
]

-- ---- the walk

-- what a test answers
pub take_then : {A : Type 0} (b : Bool) (x : A) (o : Option A) → true ≡ b → Some x ≡ cond b (Some x) o
take_then true x o e = refl
take_then false x o e = absurd (true≢false e)

pub take_else : {A : Type 0} (b : Bool) (x : A) (o p : Option A) → false ≡ b → p ≡ o → p ≡ cond b (Some x) o
take_else true x o p e h = absurd (false≢true e)
take_else false x o p e h = h

-- what was answered is the one, or what is answered where that doesn't hold
from_test : {A : Type 0} (b : Bool) (x p : A) (o : Option A) → Some p ≡ cond b (Some x) o → ((b ≡ true) × (p ≡ x)) ⊎ ((b ≡ false) × (Some p ≡ o))
from_test true x p o e = inl (refl, some_same p x e)
from_test false x p o e = inr (refl, e)

from_found : {A B : Type 0} (f : B → A) (b : Option B) (p : A) (o : Option A) → Some p ≡ or_else (option_map f b) o → ((x : B) × (Some x ≡ b) × (p ≡ f x)) ⊎ ((None ≡ b) × (Some p ≡ o))
from_found f None p o e = inr (refl, e)
from_found f (Some x) p o e = inl (x, refl, some_same p (f x) e)

from_map : {A B : Type 0} (f : B → A) (b : Option B) (p : A) → Some p ≡ option_map f b → (x : B) × (Some x ≡ b) × (p ≡ f x)
from_map f None p e = absurd (cc)
from_map f (Some x) p e = (x, refl, some_same p (f x) e)

none_test : {A : Type 0} (b : Bool) (x : A) (o : Option A) → None ≡ cond b (Some x) o → (b ≡ false) × (None ≡ o)
none_test true x o e = absurd (cc)
none_test false x o e = (refl, e)

none_found : {A B : Type 0} (f : B → A) (b : Option B) (o : Option A) → None ≡ or_else (option_map f b) o → (None ≡ b) × (None ≡ o)
none_found f None o e = (refl, e)
none_found f (Some x) o e = absurd (cc)

none_map : {A B : Type 0} (f : B → A) (b : Option B) → None ≡ option_map f b → None ≡ b
none_map f None e = refl
none_map f (Some x) e = absurd (cc)

least_of_segments : (j : Data) (p : Contradiction) → lacks_requirement j ≡ false → NoSecond j → Some p ≡ first_of_segments j → IsLeast contradiction_path (Contradicts j) p
least_of_segments j p off none e = elim (from_test (is_misparted j) Segments p (option_map Segment (find (has_out_of_place j) numbers)) e) [
  | inl h ↦ rw h.1 (least_segments j off none h.0)
  | inr h ↦
      let q = from_map Segment (find (has_out_of_place j) numbers) p h.1 in
      rw q.2 (least_segment j q.0 off none h.0 q.1)
]

least_after : (j : Data) (p : Contradiction) → lacks_requirement j ≡ false → Some p ≡ or_else (option_map Keyslot (find (is_second j) numbers)) (first_of_segments j)
    → IsLeast contradiction_path (Contradicts j) p
least_after j p off e = elim (from_found Keyslot (find (is_second j) numbers) p (first_of_segments j) e) [
  | inl q ↦ rw q.2 (least_keyslot j q.0 off q.1)
  | inr h ↦ least_of_segments j p off h.0 h.1
]

pub least_place : (j : Data) (p : Contradiction) → Some p ≡ first_place j → IsLeast contradiction_path (Contradicts j) p
least_place j p e = elim (from_test (lacks_requirement j) Requirements p (or_else (option_map Keyslot (find (is_second j) numbers)) (first_of_segments j)) e) [
  | inl h ↦ rw h.1 (least_requirements j h.0)
  | inr h ↦ least_after j p h.0 h.1
]

pub no_place : (j : Data) → None ≡ first_place j → (p : Contradiction) → contradicts j p ≡ false
no_place j e =
    let a = none_test (lacks_requirement j) Requirements (or_else (option_map Keyslot (find (is_second j) numbers)) (first_of_segments j)) e in
    let b = none_found Keyslot (find (is_second j) numbers) (first_of_segments j) a.1 in
    let d = none_test (is_misparted j) Segments (option_map Segment (find (has_out_of_place j) numbers)) b.1 in
    none_contradicts j a.0 b.0 d.0 (none_map Segment (find (has_out_of_place j) numbers) d.1)
