-- The scans of `fit` over a list of entries find the least fault of the set of areas.
use Rattle.std.proofs.Common.{◌≡◌, ◌≢◌, ℕ, ◌+◌, ◌<◌, Bool, true, false, nat_lt, List, [], ◌∷◌, Option, None, Some, option_map, unwrap_or, ◌&&◌, ◌⊎◌, inl, inr, sym, ◌∙◌, ap, subst, refl, arith}
use Rattle.std.specs.List.{find}
use Rattle.std.proofs.lemmas.Bool.{cond_both, ltb-true, lt-ltb, and_parts, and_from, cases_lt, cases_order}
use Rattle.luks_area.specs.declared.area.Area.{Area}
use Rattle.luks_area.specs.declared.area.AreaName.{AreaName}
use Rattle.luks_area.specs.declared.area.AreaName.TheVariants.{Head1, Head2, Slot, Segment}
use Rattle.luks_area.specs.declared.area.AreaFault.{AreaFault}
use Rattle.luks_area.specs.declared.area.AreaFault.TheVariants.{Outside, Overlap}
use Rattle.luks_area.specs.declared.areas.Entry.{Entry}
use Rattle.luks_area.specs.Area.{LiesIn, IsInside, Meet, name_kind, name_number, name_key, IsBefore, Fit, IsAreaFault, area_row, area_place, area_key}
use Rattle.luks_area.specs.First.{NotAfter, IsLeast}
use Rattle.luks_area.specs.Names.{HasArea, IsIncreasing}
use Rattle.luks_area.specs.Scan.{is_outside, do_meet, pair_or, first_pair}

unfoldable entry : AreaName → Area → Entry
entry n a = record { name = n; area = a }

-- names

same_name : (m n : AreaName) → name_kind m ≡ name_kind n → name_number m ≡ name_number n → m ≡ n
same_name Head1 Head1 k e = refl
same_name Head2 Head2 k e = refl
same_name (Slot i) (Slot j) k e = ap Slot e
same_name (Segment i) (Segment j) k e = ap Segment e
same_name Head1 Head2 k e = absurd (omega (arith, k))
same_name Head1 (Slot j) k e = absurd (omega (arith, k))
same_name Head1 (Segment j) k e = absurd (omega (arith, k))
same_name Head2 Head1 k e = absurd (omega (arith, k))
same_name Head2 (Slot j) k e = absurd (omega (arith, k))
same_name Head2 (Segment j) k e = absurd (omega (arith, k))
same_name (Slot i) Head1 k e = absurd (omega (arith, k))
same_name (Slot i) Head2 k e = absurd (omega (arith, k))
same_name (Slot i) (Segment j) k e = absurd (omega (arith, k))
same_name (Segment i) Head1 k e = absurd (omega (arith, k))
same_name (Segment i) Head2 k e = absurd (omega (arith, k))
same_name (Segment i) (Slot j) k e = absurd (omega (arith, k))

pub before_or_after : (m n : AreaName) → m ≢ n → IsBefore m n ⊎ IsBefore n m
before_or_after m n differ =
    elim (cases_order (name_kind m) (name_kind n)) [
      | inl k ↦ elim (cases_order (name_number m) (name_number n)) [
        | inl e ↦ absurd (differ (same_name m n k e))
        | inr (inl lt) ↦ inl (omega (arith, k), λ _. lt)
        | inr (inr gt) ↦ inr (omega (arith, k), λ _. gt)
      ]
      | inr (inl lt) ↦ inl (omega (arith, lt), λ e. absurd (omega (arith, lt, e)))
      | inr (inr gt) ↦ inr (omega (arith, gt), λ e. absurd (omega (arith, gt, e)))
    ]

pub before-differs : (m n : AreaName) → IsBefore m n → m ≢ n
before-differs m n h e =
    let lt : name_number m < name_number n = h.1 (ap name_kind e) in
    let same : name_number m ≡ name_number n = ap name_number e in
    omega (arith, lt, same)

not_after-before : (m n : AreaName) → IsBefore m n → NotAfter (name_key m) (name_key n)
not_after-before m n h = (h.0, λ e. (let lt : name_number m < name_number n = h.1 e in omega (arith, lt), λ _. tt))

not_after-same : (m n : AreaName) → m ≡ n → NotAfter (name_key m) (name_key n)
not_after-same m n e =
    let k : name_kind m ≡ name_kind n = ap name_kind e in
    let i : name_number m ≡ name_number n = ap name_number e in
    (omega (arith, k), λ _. (omega (arith, i), λ _. tt))

-- the first area that passes a test

FindsFirst : (Area → Bool) → List Entry → Option Entry → Type 0
FindsFirst t es None = (n : AreaName) (a : Area) → HasArea es n a → t a ≡ true → ⊥
FindsFirst t es (Some e) = HasArea es e.name e.area × (t e.area ≡ true) × ((n : AreaName) (a : Area) → HasArea es n a → t a ≡ true → NotAfter (name_key e.name) (name_key n))

passed_by : (t : Area → Bool) (x : Entry) (n : AreaName) (a : Area) → t x.area ≡ false → (x.name ≡ n) × (x.area ≡ a) → t a ≡ true → ⊥
passed_by t x n a fails same p = let q : t x.area ≡ true = ap t same.1 ∙ p in absurd (cc)

found_later : (t : Area → Bool) (x : Entry) (es : List Entry) (o : Option Entry) → t x.area ≡ false → FindsFirst t es o → FindsFirst t (x ∷ es) o
unfolding FindsFirst
found_later t x es None fails f = λ n a g p. elim g [ inl same ↦ passed_by t x n a fails same p | inr later ↦ f n a later p ]
found_later t x es (Some e) fails f =
    (inr f.0, f.1, λ n a g p. elim g [ inl same ↦ absurd (passed_by t x n a fails same p) | inr later ↦ f.2 n a later p ])

find_first : (t : Area → Bool) (es : List Entry) → IsIncreasing es → FindsFirst t es (find (λ e. t e.area) es)
unfolding FindsFirst
find_first t [] h = λ n a g p. absurd g
find_first t (x ∷ es) h =
    cond_both (t x.area) (Some x) (find (λ e. t e.area) es) (FindsFirst t (x ∷ es))
    (λ yes. (
      inl (refl, refl),
      yes,
      λ n a g p. elim g [
        | inl same ↦ not_after-same x.name n same.0
        | inr later ↦ not_after-before x.name n (h.0 n a later)
      ],
    ))
    (λ no. found_later t x es (find (λ e. t e.area) es) no (find_first t es h.1))

-- areas outside

outside_is : (total : ℕ) (a : Area) → is_outside total a ≡ true → total < a.start + a.len
outside_is total a h = ltb-true total (a.start + a.len) h

is_outside-from : (total : ℕ) (a : Area) → total < a.start + a.len → is_outside total a ≡ true
is_outside-from total a h = lt-ltb total (a.start + a.len) h

least_outside_of : (total : ℕ) (es : List Entry) (o : Option Entry) (n : AreaName) → FindsFirst (is_outside total) es o
    → option_map (λ e. e.name) o ≡ Some n → IsLeast area_key (IsAreaFault (HasArea es) total) (Outside n)
unfolding FindsFirst
least_outside_of total es None n f is = absurd (cc)
least_outside_of total es (Some e) n f is =
    let named : e.name ≡ n = ap (λ o. unwrap_or o n) is in
    let faults : AreaFault → Type 0 = IsAreaFault (HasArea es) total in
    subst (λ m. IsLeast area_key faults (Outside m)) named
    ((e.area, (f.0, outside_is total e.area f.1)), least)
  where
    least : (g : AreaFault) → IsAreaFault (HasArea es) total g → NotAfter (area_key (Outside e.name)) (area_key g)
    least (Outside m) h = (omega arith, λ _. f.2 m h.0 h.1.0 (is_outside-from total h.0 h.1.1))
    least (Overlap m k) h = (omega arith, λ same. absurd (omega (arith, same)))

pub least_outside : (total : ℕ) (es : List Entry) (n : AreaName) → IsIncreasing es
    → option_map (λ e. e.name) (find (λ e. is_outside total e.area) es) ≡ Some n → IsLeast area_key (IsAreaFault (HasArea es) total) (Outside n)
least_outside total es n h is = least_outside_of total es (find (λ e. is_outside total e.area) es) n (find_first (is_outside total) es h) is

none_outside_of : (total : ℕ) (es : List Entry) (o : Option Entry) → FindsFirst (is_outside total) es o
    → option_map (λ e. e.name) o ≡ None → (n : AreaName) (a : Area) → HasArea es n a → IsInside a total
unfolding FindsFirst
none_outside_of total es None f is n a g =
    elim (cases_lt total (a.start + a.len)) [ inl past ↦ absurd (f n a g (is_outside-from total a past)) | inr inside ↦ inside ]
none_outside_of total es (Some e) f is n a g = absurd (cc)

pub none_outside : (total : ℕ) (es : List Entry) → IsIncreasing es
    → option_map (λ e. e.name) (find (λ e. is_outside total e.area) es) ≡ None → (n : AreaName) (a : Area) → HasArea es n a → IsInside a total
none_outside total es h is = none_outside_of total es (find (λ e. is_outside total e.area) es) (find_first (is_outside total) es h) is

-- areas that meet

meet-from : (a b : Area) → do_meet a b ≡ true → Meet a b
meet-from a b h =
    let four = and_parts (nat_lt 0 a.len && nat_lt 0 b.len && nat_lt a.start (b.start + b.len)) (nat_lt b.start (a.start + a.len)) h in
    let three = and_parts (nat_lt 0 a.len && nat_lt 0 b.len) (nat_lt a.start (b.start + b.len)) four.0 in
    let two = and_parts (nat_lt 0 a.len) (nat_lt 0 b.len) three.0 in
    let a_some : 0 < a.len = ltb-true 0 a.len two.0 in
    let b_some : 0 < b.len = ltb-true 0 b.len two.1 in
    let a_first : a.start < b.start + b.len = ltb-true a.start (b.start + b.len) three.1 in
    let b_first : b.start < a.start + a.len = ltb-true b.start (a.start + a.len) four.1 in
    elim (cases_lt a.start b.start) [
      | inl lt ↦ (b.start, ((omega (arith, lt), b_first), (omega arith, omega (arith, b_some))))
      | inr ge ↦ (a.start, ((omega arith, omega (arith, a_some)), (omega (arith, ge), a_first)))
    ]

do_meet-from : (a b : Area) → Meet a b → do_meet a b ≡ true
do_meet-from a b h =
    let p = h.0 in
    let in_a : LiesIn p a = h.1.0 in
    let in_b : LiesIn p b = h.1.1 in
    and_from _ _ (and_from _ _ (and_from _ _
    (lt-ltb 0 a.len (omega (arith, in_a.0, in_a.1)))
    (lt-ltb 0 b.len (omega (arith, in_b.0, in_b.1))))
    (lt-ltb a.start (b.start + b.len) (omega (arith, in_a.0, in_b.1))))
    (lt-ltb b.start (a.start + a.len) (omega (arith, in_b.0, in_a.1)))

PairSays : ℕ → List Entry → Option AreaFault → Type 0
PairSays total es None = (m n : AreaName) (a b : Area) → HasArea es m a → HasArea es n b → IsBefore m n → Meet a b → ⊥
PairSays total es (Some f) = (area_row f ≡ 2) × IsAreaFault (HasArea es) total f × ((m n : AreaName) → IsAreaFault (HasArea es) total (Overlap m n) → NotAfter (area_place f) (area_place (Overlap m n)))

fault_later : (total : ℕ) (x : Entry) (es : List Entry) (f : AreaFault) → IsAreaFault (HasArea es) total f → IsAreaFault (HasArea (x ∷ es)) total f
fault_later total x es (Outside n) h = (h.0, (inr h.1.0, h.1.1))
fault_later total x es (Overlap m n) h = (h.0, (h.1.0, (inr h.1.1.0, inr h.1.1.1, h.1.1.2, h.1.1.3)))

-- a pair in order that meets, of a list whose first entry meets none: both are later entries
later_pair : (x : Entry) (es : List Entry) (m n : AreaName) (a b : Area) → IsIncreasing (x ∷ es) → FindsFirst (do_meet x.area) es None
    → HasArea (x ∷ es) m a → HasArea (x ∷ es) n b → IsBefore m n → Meet a b → HasArea es m a × HasArea es n b
unfolding FindsFirst
later_pair x es m n a b h f (inl same) (inl again) before meet = absurd (before-differs m n before (sym same.0 ∙ again.0))
later_pair x es m n a b h f (inl same) (inr later) before meet =
    absurd (f n b later (do_meet-from x.area b (subst (λ q. Meet q b) (sym same.1) meet)))
later_pair x es m n a b h f (inr first) (inl again) before meet =
    let back : IsBefore n m = subst (λ q. IsBefore q m) again.0 (h.0 m a first) in
    absurd (both_ways m n before back)
  where
    both_ways : (m n : AreaName) → IsBefore m n → IsBefore n m → ⊥
    both_ways m n p q =
        let same : name_kind m ≡ name_kind n = omega (arith, p.0, q.0) in
        let one : name_number m < name_number n = p.1 same in
        let other : name_number n < name_number m = q.1 (sym same) in
        omega (arith, one, other)
later_pair x es m n a b h f (inr first) (inr later) before meet = (first, later)

pair_case : (total : ℕ) (x : Entry) (es : List Entry) (o : Option Entry) (rest : Option AreaFault) → IsIncreasing (x ∷ es)
    → FindsFirst (do_meet x.area) es o → PairSays total es rest → PairSays total (x ∷ es) (pair_or x o rest)
unfolding FindsFirst PairSays
pair_case total x es None None h f r = λ m n a b gm gn before meet.
    let both = later_pair x es m n a b h f gm gn before meet in r m n a b both.0 both.1 before meet
pair_case total x es None (Some fault) h f r = (
  r.0,
  fault_later total x es fault r.1,
  λ m n g. let both = later_pair x es m n g.0 g.1.0 h f g.1.1.0 g.1.1.1 g.1.1.2 g.1.1.3 in r.2 m n (g.0, (g.1.0, (both.0, both.1, g.1.1.2, g.1.1.3))),
)
pair_case total x es (Some l) rest h f r =
    (refl, (x.area, (l.area, (inl (refl, refl), inr f.0, h.0 l.name l.area f.0, meet-from x.area l.area f.1))), λ m n g. least m n g.0 g.1.0 g.1.1.0 g.1.1.1 g.1.1.2 g.1.1.3)
  where
    least : (m n : AreaName) (a b : Area) → HasArea (x ∷ es) m a → HasArea (x ∷ es) n b → IsBefore m n → Meet a b
        → NotAfter (area_place (Overlap x.name l.name)) (area_place (Overlap m n))
    least m n a b (inl same) (inl again) before meet = absurd (before-differs m n before (sym same.0 ∙ again.0))
    least m n a b (inl same) (inr later) before meet =
        let key = not_after-same x.name m same.0 in
        (key.0, λ e. ((key.1 e).0, λ _. f.2 n b later (do_meet-from x.area b (subst (λ q. Meet q b) (sym same.1) meet))))
    least m n a b (inr first) gn before meet =
        let key = h.0 m a first in
        (key.0, λ e. (let lt : name_number x.name < name_number m = key.1 e in omega (arith, lt), λ same. (let lt : name_number x.name < name_number m = key.1 e in absurd (omega (arith, lt, same)))))

pair_says : (total : ℕ) (es : List Entry) → IsIncreasing es → PairSays total es (first_pair es)
unfolding PairSays
pair_says total [] h = λ m n a b gm gn before meet. absurd gm
pair_says total (x ∷ es) h =
    pair_case total x es (find (λ l. do_meet x.area l.area) es) (first_pair es) h (find_first (do_meet x.area) es h.1) (pair_says total es h.1)

-- what `fit` answers

least_pair_of : (total : ℕ) (es : List Entry) (o : Option AreaFault) (f : AreaFault) → ((n : AreaName) (a : Area) → HasArea es n a → IsInside a total)
    → PairSays total es o → o ≡ Some f → IsLeast area_key (IsAreaFault (HasArea es) total) f
unfolding PairSays
least_pair_of total es None f inside says is = absurd (cc)
least_pair_of total es (Some g) f inside says is =
    let same : g ≡ f = ap (λ o. unwrap_or o f) is in
    let faults : AreaFault → Type 0 = IsAreaFault (HasArea es) total in
    subst (IsLeast area_key faults) same (says.1, least)
  where
    least : (k : AreaFault) → IsAreaFault (HasArea es) total k → NotAfter (area_key g) (area_key k)
    least (Outside n) h = let fits = inside n h.0 h.1.0 in let past = h.1.1 in absurd (omega (arith, fits, past))
    least (Overlap m n) h = let row = says.0 in (omega (arith, row), λ _. says.2 m n h)

pub least_pair : (total : ℕ) (es : List Entry) (f : AreaFault) → IsIncreasing es → ((n : AreaName) (a : Area) → HasArea es n a → IsInside a total)
    → first_pair es ≡ Some f → IsLeast area_key (IsAreaFault (HasArea es) total) f
least_pair total es f h inside is = least_pair_of total es (first_pair es) f inside (pair_says total es h) is

fits_of : (total : ℕ) (es : List Entry) (o : Option AreaFault) → ((n : AreaName) (a : Area) → HasArea es n a → IsInside a total)
    → PairSays total es o → o ≡ None → Fit (HasArea es) total
unfolding PairSays
fits_of total es None inside says is = record {
  inside = inside;
  disjoint = λ m n a b gm gn differ p in_a in_b.
      elim (before_or_after m n differ) [
        | inl before ↦ says m n a b gm gn before (p, (in_a, in_b))
        | inr after ↦ says n m b a gn gm after (p, (in_b, in_a))
      ];
}
fits_of total es (Some f) inside says is = absurd (cc)

pub fits : (total : ℕ) (es : List Entry) → IsIncreasing es → ((n : AreaName) (a : Area) → HasArea es n a → IsInside a total)
    → first_pair es ≡ None → Fit (HasArea es) total
fits total es h inside is = fits_of total es (first_pair es) inside (pair_says total es h) is

-- areas that fit have no fault
pub no_fault : (areas : AreaName → Area → Type 0) (total : ℕ) (f : AreaFault) → Fit areas total → IsAreaFault areas total f → ⊥
no_fault areas total (Outside n) fit h = let inside = fit.inside n h.0 h.1.0 in let past = h.1.1 in omega (arith, inside, past)
no_fault areas total (Overlap m n) fit h =
    fit.disjoint m n h.0 h.1.0 h.1.1.0 h.1.1.1 (before-differs m n h.1.1.2) h.1.1.3.0 h.1.1.3.1.0 h.1.1.3.1.1
