-- The copies whose binary header stands, as lists of places and of copies.
use Rattle.std.proofs.Common.{◌≡◌, ℕ, zero, suc, ◌+◌, ◌-◌, ◌<◌, ◌≤◌, ◌⊎◌, ◌==◌, List, [], ◌∷◌, ◌++◌, length, take, drop, get_or, map, true, inl, inr, arith, refl, sym, ap, ◌∙◌, subst, length-append}
use Rattle.std.proofs.lemmas.Bool.{or_cases, eqb-true, false≢true}
use Rattle.std.proofs.lemmas.List.{take_rest}
use Rattle.luks_area.specs.First.{NotAfter}
use Rattle.luks2_header.specs.Sizes.{is_among, listed_sizes, IsListed}
use Rattle.luks_rebuilding.specs.Candidates.{place_key}
use Rattle.luks_rebuilding.specs.Found.{copy_at, standing, standing_key, AddsStanding, AreCopies, AreStanding, GrowsBy, IsCopy, IsFirstAt, IsOf, TakesFirst}
use Rattle.luks_rebuilding.specs.Shares.{copies, first_of_size, second_of_size, Counts, StandsAt}
use Rattle.luks_rebuilding.specs.declared.place.Place.{Place}
use Rattle.luks_rebuilding.specs.declared.standing.Standing.{Standing}

-- ---- copies

-- one of a list has a number in it
pub of_at : (x : Standing) (xs : List Standing) → IsOf x xs → (k : ℕ) × (k < length xs) × (copy_at xs k ≡ x)
of_at x [] is = absurd is
of_at x (y ∷ ys) is = elim is [
  | inl here ↦ (0, omega arith, sym here)
  | inr there ↦ (let a = of_at x ys there in let below = a.1 in (suc a.0, omega (arith, below), a.2))
]

-- and each number names one of them
pub at_of : (xs : List Standing) (k : ℕ) → k < length xs → IsOf (copy_at xs k) xs
at_of [] k lt = absurd (omega (arith, lt))
at_of (x ∷ xs) zero lt = inl refl
at_of (x ∷ xs) (suc k) lt = inr (at_of xs k (omega (arith, lt)))

-- whatever is read past the end
pub at_any : {X : Type 0} (xs : List X) (k : ℕ) (d e : X) → k < length xs → get_or xs k d ≡ get_or xs k e
at_any [] k d e lt = absurd (omega (arith, lt))
at_any (x ∷ xs) zero d e lt = refl
at_any (x ∷ xs) (suc k) d e lt = at_any xs k d e (omega (arith, lt))

-- without the one of a number
removed : (xs : List Standing) (n : ℕ) (y : Standing) → IsOf y xs → (y ≡ copy_at xs n) ⊎ IsOf y (take n xs ++ drop (suc n) xs)
removed [] n y is = absurd is
removed (x ∷ xs) zero y is = is
removed (x ∷ xs) (suc n) y is = elim is [
  | inl here ↦ inr (inl here)
  | inr there ↦ elim (removed xs n y there) [ inl at ↦ inl at | inr rest ↦ inr (inr rest) ]
]

kept : (xs : List Standing) (n : ℕ) (y : Standing) → IsOf y (take n xs ++ drop (suc n) xs) → IsOf y xs
kept [] zero y is = absurd is
kept [] (suc n) y is = absurd is
kept (x ∷ xs) zero y is = inr is
kept (x ∷ xs) (suc n) y is = elim is [ inl here ↦ inl here | inr there ↦ inr (kept xs n y there) ]

shorter : (xs : List Standing) (n : ℕ) → n < length xs → length (take n xs ++ drop (suc n) xs) < length xs
shorter [] n lt = absurd (omega (arith, lt))
shorter (x ∷ xs) zero lt = omega arith
shorter (x ∷ xs) (suc n) lt = let less = shorter xs n (omega (arith, lt)) in omega (arith, less)

-- the first was taken away
pub taken_first : (old new : List Standing) (n : ℕ) (x : Standing) → n < length old → IsFirstAt old n → x ≡ get_or old n x → new ≡ take n old ++ drop (suc n) old → TakesFirst old x new
taken_first old new n x lt first is rest =
    let same : x ≡ copy_at old n = is ∙ at_any old n x _ lt in
    record {
      is = subst (λ (y : Standing). IsOf y old) (sym same) (at_of old n lt);
      first = λ y of.
          let a = of_at y old of in
          subst (λ (z : Standing). NotAfter (standing_key x) (standing_key z)) a.2
          (subst (λ (z : Standing). NotAfter (standing_key z) (standing_key (copy_at old a.0))) (sym same) (first a.0 a.1));
      rest = λ y of. elim (removed old n y of) [ inl at ↦ inl (at ∙ sym same) | inr left ↦ inr (subst (IsOf y) (sym rest) left) ];
      kept = λ y of. kept old n y (subst (IsOf y) rest of);
      fewer = subst (λ (l : List Standing). length l < length old) (sym rest) (shorter old n lt);
    }

of_left : (x : Standing) (xs ys : List Standing) → IsOf x xs → IsOf x (xs ++ ys)
of_left x [] ys is = absurd is
of_left x (y ∷ xs) ys is = elim is [ inl here ↦ inl here | inr there ↦ inr (of_left x xs ys there) ]

of_last : (x : Standing) (xs : List Standing) → IsOf x (xs ++ x ∷ [])
of_last x [] = inl refl
of_last x (y ∷ xs) = inr (of_last x xs)

of_either : (y x : Standing) (xs : List Standing) → IsOf y (xs ++ x ∷ []) → IsOf y xs ⊎ (y ≡ x)
of_either y x [] is = elim is [ inl here ↦ inr here | inr none ↦ absurd none ]
of_either y x (z ∷ xs) is = elim is [
  | inl here ↦ inl (inl here)
  | inr there ↦ elim (of_either y x xs there) [ inl of ↦ inl (inr of) | inr last ↦ inr last ]
]

-- ---- places

-- it is one of these
abbrev pub IsIn : Place → List Place → Type 0
IsIn p [] = ⊥
IsIn p (q ∷ qs) = (p ≡ q) ⊎ IsIn p qs

-- each is that of a copy of a listed size
abbrev pub AreRight : List Place → Type 0
AreRight [] = Unit {0}
AreRight (p ∷ ps) = IsListed p.size × ((p.at ≡ 0) ⊎ (p.at ≡ p.size)) × AreRight ps

in_left : (p : Place) (ps qs : List Place) → IsIn p ps → IsIn p (ps ++ qs)
in_left p [] qs is = absurd is
in_left p (x ∷ ps) qs is = elim is [ inl here ↦ inl here | inr there ↦ inr (in_left p ps qs there) ]

in_right : (p : Place) (ps qs : List Place) → IsIn p qs → IsIn p (ps ++ qs)
in_right p [] qs is = is
in_right p (x ∷ ps) qs is = inr (in_right p ps qs is)

in_sizes : (make : ℕ → Place) (size : ℕ) (xs : List ℕ) → is_among size xs ≡ true → IsIn (make size) (map make xs)
in_sizes make size [] among = absurd (false≢true among)
in_sizes make size (x ∷ xs) among = elim (or_cases (x == size) (is_among size xs) among) [
  | inl here ↦ inl (ap make (sym (eqb-true x size here)))
  | inr after ↦ inr (in_sizes make size xs after)
]

-- a copy that stands is one of all
in_copies : (v : List ℕ) (p : Place) → StandsAt v p → IsIn p copies
in_copies v p stands =
    let firsts : List Place = map first_of_size listed_sizes in
    let seconds : List Place = map second_of_size listed_sizes in
    elim stands.first_or_second [
      | inl at ↦
          let same : first_of_size p.size ≡ p = ap (λ o. let r : Place = record { size = p.size; at = o } in r) (sym at) in
          subst (λ (q : Place). IsIn q copies) same (in_left (first_of_size p.size) firsts seconds (in_sizes first_of_size p.size listed_sizes stands.listed))
      | inr at ↦
          let same : second_of_size p.size ≡ p = ap (λ o. let r : Place = record { size = p.size; at = o } in r) (sym at) in
          subst (λ (q : Place). IsIn q copies) same (in_right (second_of_size p.size) firsts seconds (in_sizes second_of_size p.size listed_sizes stands.listed))
    ]

pub copies_right : AreRight copies
copies_right = (refl, inl refl, (refl, inl refl, (refl, inl refl, (refl, inl refl, (refl, inl refl, (refl, inl refl, (refl, inl refl, (refl, inl refl, (refl, inl refl, (refl, inr refl, (refl, inr refl, (refl, inr refl, (refl, inr refl, (refl, inr refl, (refl, inr refl, (refl, inr refl, (refl, inr refl, (refl, inr refl, tt))))))))))))))))))

-- ---- the copies that were found so far, where these places are left

pub record Gathers (v : List ℕ) (left : List Place) (found : List Standing) : Type 0 where
  pub all : (p : Place) → StandsAt v p → IsOf (standing v p) found ⊎ IsIn p left
  pub told : (x : Standing) → IsOf x found → x ≡ standing v x.place
  pub counted : (n : ℕ) → Counts (StandsAt v) left n → Counts (StandsAt v) copies (length found + n)

-- before any
pub gathers_none : (v : List ℕ) → Gathers v copies []
gathers_none v = record {
  all = λ p stands. inr (in_copies v p stands);
  told = λ x is. absurd is;
  counted = λ n counts. let none : n ≡ 0 + n = omega arith in subst (Counts (StandsAt v) copies) none counts;
}

module _ (v : List ℕ) (p : Place) (ps : List Place) where
  gathers_one : (found new : List Standing) → Gathers v (p ∷ ps) found → AddsStanding v p found new → Gathers v ps new
  gathers_one found new x (inl one) = subst (Gathers v ps) (sym one.1) (record {
    all = λ q stands. elim (x.all q stands) [
      | inl of ↦ inl (of_left (standing v q) found (standing v p ∷ []) of)
      | inr left ↦ elim left [
        | inl here ↦ inl (subst (λ (r : Place). IsOf (standing v r) (found ++ standing v p ∷ [])) (sym here) (of_last (standing v p) found))
        | inr there ↦ inr there
      ]
    ];
    told = λ y is. elim (of_either y (standing v p) found is) [
      | inl of ↦ x.told y of
      | inr last ↦ last ∙ ap (λ (s : Standing). standing v s.place) (sym last)
    ];
    counted = λ n counts.
        let long : length (found ++ standing v p ∷ []) ≡ length found + 1 = length-append found (standing v p ∷ []) in
        let sum : length found + suc n ≡ length (found ++ standing v p ∷ []) + n = omega (arith, long) in
        subst (Counts (StandsAt v) copies) sum (x.counted (suc n) (inl (one.0, n, refl, counts)));
  })
  gathers_one found new x (inr none) = subst (Gathers v ps) (sym none.1) (record {
    all = λ q stands. elim (x.all q stands) [
      | inl of ↦ inl of
      | inr left ↦ elim left [
        | inl here ↦ absurd (none.0 (subst (StandsAt v) here stands))
        | inr there ↦ inr there
      ]
    ];
    told = x.told;
    counted = λ n counts. x.counted n (inr (none.0, counts));
  })

-- the places after the first
abbrev pub later : List Place → List Place
later ps = take (length ps - 1) (drop 1 ps)

-- of the first place that was left
pub gathers_next : (v w : List ℕ) (ps : List Place) (d : Place) (found new : List Standing) → w ≡ v → 1 ≤ length ps → Gathers v ps found → AddsStanding w (get_or ps 0 d) found new → Gathers v (later ps) new
gathers_next v w [] d found new same some x adds = absurd (omega (arith, some))
gathers_next v w (p ∷ ps) d found new same some x adds =
    subst (λ (l : List Place). Gathers v l new) (sym (take_rest (p ∷ ps) 1)) (gathers_one v p ps found new x (subst (λ (u : List ℕ). AddsStanding u p found new) same adds))

pub right_first : (ps : List Place) (d : Place) → 1 ≤ length ps → AreRight ps → IsListed (get_or ps 0 d).size × (((get_or ps 0 d).at ≡ 0) ⊎ ((get_or ps 0 d).at ≡ (get_or ps 0 d).size))
right_first [] d some right = absurd (omega (arith, some))
right_first (p ∷ ps) d some right = (right.0, right.1)

pub right_later : (ps : List Place) → AreRight ps → AreRight (later ps)
right_later [] right = tt
right_later (p ∷ ps) right = subst AreRight (sym (take_rest (p ∷ ps) 1)) right.2

pub later_long : (ps : List Place) → 1 ≤ length ps → length (later ps) + 1 ≡ length ps
later_long [] some = absurd (omega (arith, some))
later_long (p ∷ ps) some = let same : length (later (p ∷ ps)) ≡ length ps = ap length (take_rest (p ∷ ps) 1) in omega (arith, same)

-- where none is left
pub gathers_all : (v : List ℕ) (ps : List Place) (found : List Standing) → length ps < 1 → Gathers v ps found → AreStanding v found
gathers_all v [] found none x = record {
  all = λ p stands. elim (x.all p stands) [ inl of ↦ of | inr none ↦ absurd none ];
  told = x.told;
  counted = let all : length found + 0 ≡ length found = omega arith in subst (Counts (StandsAt v) copies) all (x.counted 0 refl);
}
gathers_all v (p ∷ ps) found none x = absurd (omega (arith, none))

-- a place of a copy of a listed size was added
pub copies_grown : (p : Place) (old new : List Standing) → IsListed p.size → (p.at ≡ 0) ⊎ (p.at ≡ p.size) → AreCopies old → GrowsBy p old new → AreCopies new
copies_grown p old new listed half x (inl same) = subst AreCopies (sym same) x
copies_grown p old new listed half x (inr one) = subst AreCopies (sym one.1) (λ y is. elim (of_either y (record { place = p; seqid = one.0 }) old is) [
  | inl of ↦ x y of
  | inr last ↦ subst IsCopy (sym last) (record { listed = listed; half = half })
])

-- the first place that was left was added
pub copies_next : (ps : List Place) (d : Place) (old new : List Standing) → 1 ≤ length ps → AreRight ps → AreCopies old → GrowsBy (get_or ps 0 d) old new → AreCopies new
copies_next [] d old new some right x grown = absurd (omega (arith, some))
copies_next (p ∷ ps) d old new some right x grown = copies_grown p old new right.0 right.1 x grown

pub grown_long : (p : Place) (old new : List Standing) → GrowsBy p old new → length new ≤ length old + 1
grown_long p old new (inl same) = subst (λ (l : List Standing). length l ≤ length old + 1) (sym same) (omega arith)
grown_long p old new (inr one) =
    let long : length (old ++ record { place = p; seqid = one.0 } ∷ []) ≡ length old + 1 = length-append old (record { place = p; seqid = one.0 } ∷ []) in
    subst (λ (l : List Standing). length l ≤ length old + 1) (sym one.1) (omega (arith, long))

-- ---- which of two stands first

module _ (a b : Standing) where
  -- the one with the higher sequence number
  pub newer_first : b.seqid < a.seqid → a.seqid ≤ 0xFFFF_FFFF_FFFF_FFFF → NotAfter (standing_key a) (standing_key b)
  newer_first newer fits = (omega (arith, newer, fits), λ same. absurd (omega (arith, newer, fits, same)))

  -- or of one number the one by its place
  pub same_number : a.seqid ≡ b.seqid → NotAfter (place_key a.place) (place_key b.place) → NotAfter (standing_key a) (standing_key b)
  same_number same places = (omega (arith, same), λ e. places)
