-- Facts that hold or don't, and the least member of a set that is decided at each of some candidates.
use Rattle.std.proofs.Common.{◌≡◌, ◌⊎◌, ℕ, zero, suc, ◌≤◌, ◌<◌, Bool, true, false, List, [], ◌∷◌, ◌++◌, map, Option, Some, None, refl, sym, ap, subst, ◌∙◌, arith, inl, inr}
use Rattle.std.proofs.lemmas.Bool.{cases_Bool, cases_eq, cases_lt, true≢false}
use Rattle.luks_area.specs.First.{IsLeast, NotAfter}
use Rattle.luks_rules.specs.Faults.{Among}

-- ---- decisions

abbrev pub Decided : Type 0 → Type 0
Decided A = A ⊎ (A → ⊥)

pub both_decided : (A B : Type 0) → Decided A → Decided B → Decided (A × B)
both_decided A B (inl a) (inl b) = inl (a, b)
both_decided A B (inl a) (inr b) = inr (λ x. b x.1)
both_decided A B (inr a) b = inr (λ x. a x.0)

pub three_decided : (A B C : Type 0) → Decided A → Decided B → Decided C → Decided (A × B × C)
three_decided A B C (inl a) (inl b) (inl c) = inl (a, b, c)
three_decided A B C (inl a) (inl b) (inr c) = inr (λ x. c x.2)
three_decided A B C (inl a) (inr b) c = inr (λ x. b x.1)
three_decided A B C (inr a) b c = inr (λ x. a x.0)

pub one_decided : (A B : Type 0) → Decided A → Decided B → Decided (A ⊎ B)
one_decided A B (inl a) b = inl (inl a)
one_decided A B (inr a) (inl b) = inl (inr b)
one_decided A B (inr a) (inr b) = inr (λ x. elim x [ inl here ↦ a here | inr there ↦ b there ])

pub not_decided : (A : Type 0) → Decided A → Decided (A → ⊥)
not_decided A (inl a) = inr (λ x. x a)
not_decided A (inr a) = inl a

pub alike_decided : (A B : Type 0) → (A → B) → (B → A) → Decided A → Decided B
alike_decided A B into back (inl a) = inl (into a)
alike_decided A B into back (inr a) = inr (λ b. a (back b))

pub less_decided : (a b : ℕ) → Decided (a < b)
less_decided a b = elim (cases_lt a b) [ inl low ↦ inl low | inr high ↦ inr (λ low. absurd (omega (arith, low, high))) ]

pub at_most_decided : (a b : ℕ) → Decided (a ≤ b)
at_most_decided a b = elim (cases_lt b a) [ inl over ↦ inr (λ low. absurd (omega (arith, low, over))) | inr low ↦ inl low ]

pub true_decided : (b : Bool) → Decided (b ≡ true)
true_decided b = elim (cases_Bool b) [ inl passed ↦ inl passed | inr failed ↦ inr (λ passed. true≢false (sym passed ∙ failed)) ]

pub false_decided : (b : Bool) → Decided (b ≡ false)
false_decided b = elim (cases_Bool b) [ inl passed ↦ inr (λ failed. true≢false (sym passed ∙ failed)) | inr failed ↦ inl failed ]

pub same_list_decided : (xs ys : List ℕ) → Decided (xs ≡ ys)
same_list_decided [] [] = inl refl
same_list_decided [] (y ∷ ys) = inr (λ e. cc)
same_list_decided (x ∷ xs) [] = inr (λ e. cc)
same_list_decided (x ∷ xs) (y ∷ ys) = elim (cases_eq x y) [
  | inl head ↦ elim (same_list_decided xs ys) [ inl tail ↦ inl (cc) | inr other ↦ inr (λ e. other (cc)) ]
  | inr other ↦ inr (λ e. other (cc))
]

-- some number below `n` has the property
pub some_below_decided : (P : ℕ → Type 0) → ((k : ℕ) → Decided (P k)) → (n : ℕ) → Decided ((k : ℕ) × (k < n) × P k)
some_below_decided P each zero = inr (λ x. let low = x.1 in omega (arith, low))
some_below_decided P each (suc n) = elim (each n) [
  | inl here ↦ inl (n, omega arith, here)
  | inr away ↦ elim (some_below_decided P each n) [
    | inl below ↦ (let low = below.1 in inl (below.0, omega (arith, low), below.2))
    | inr none ↦ inr (λ x. elim (cases_lt x.0 n) [
      | inl under ↦ none (x.0, under, x.2)
      | inr over ↦ (let low = x.1 in let e : x.0 ≡ n = omega (arith, low, over) in away (subst P e x.2))
    ])
  ]
]

-- ---- options

-- an option has a value or is none
pub option_there : {A : Type 0} (o : Option A) → ((x : A) × (o ≡ Some x)) ⊎ (o ≡ None)
option_there None = inr refl
option_there (Some x) = inl (x, refl)

-- an option has one value at most
pub some_same : {A : Type 0} (o : Option A) (x y : A) → o ≡ Some x → o ≡ Some y → x ≡ y
some_same o x y p q = let e : Some x ≡ Some y = sym p ∙ q in cc

-- none isn't a value
pub none_some : {A : Type 0} (o : Option A) (x : A) → o ≡ None → o ≡ Some x → ⊥
none_some o x p q = let e : None ≡ Some x = sym p ∙ q in cc

-- ---- keys

pub not_after_itself : (xs : List ℕ) → NotAfter xs xs
not_after_itself [] = tt
not_after_itself (x ∷ xs) = (omega arith, λ _. not_after_itself xs)

pub one_not_after : (xs ys : List ℕ) → NotAfter xs ys ⊎ NotAfter ys xs
one_not_after [] ys = inl tt
one_not_after (x ∷ xs) [] = inr tt
one_not_after (x ∷ xs) (y ∷ ys) = elim (cases_eq x y) [
  | inl same ↦ elim (one_not_after xs ys) [
    | inl first ↦ inl (omega (arith, same), λ _. first)
    | inr second ↦ inr (omega (arith, same), λ _. second)
  ]
  | inr other ↦ elim (cases_lt x y) [
    | inl low ↦ inl (omega (arith, low), λ same. absurd (other same))
    | inr high ↦ inr (high, λ same. absurd (other (sym same)))
  ]
]

pub not_after_trans : (xs ys zs : List ℕ) → NotAfter xs ys → NotAfter ys zs → NotAfter xs zs
not_after_trans [] ys zs a b = tt
not_after_trans (x ∷ xs) [] zs a b = absurd a
not_after_trans (x ∷ xs) (y ∷ ys) [] a b = absurd b
not_after_trans (x ∷ xs) (y ∷ ys) (z ∷ zs) a b =
    let low : x ≤ y = a.0 in
    let high : y ≤ z = b.0 in
    (omega (arith, low, high), λ same. not_after_trans xs ys zs (a.1 (omega (arith, low, high, same))) (b.1 (omega (arith, low, high, same))))

-- ---- candidates

abbrev pub each : {F : Type 0} → (ℕ → F) → ℕ → List F
each f zero = []
each f (suc n) = f n ∷ each f n

pub among_each : {F : Type 0} (f : ℕ → F) (n m : ℕ) → m < n → Among (f m) (each f n)
among_each f zero m low = absurd (omega (arith, low))
among_each f (suc n) m low = elim (cases_eq m n) [
  | inl same ↦ inl (ap f same)
  | inr other ↦ inr (among_each f n m (omega (arith, low, other)))
]

pub among_left : {F : Type 0} (f : F) (xs ys : List F) → Among f xs → Among f (xs ++ ys)
among_left f [] ys at = absurd at
among_left f (x ∷ xs) ys (inl here) = inl here
among_left f (x ∷ xs) ys (inr later) = inr (among_left f xs ys later)

pub among_right : {F : Type 0} (f : F) (xs ys : List F) → Among f ys → Among f (xs ++ ys)
among_right f [] ys at = at
among_right f (x ∷ xs) ys at = inr (among_right f xs ys at)

pub among_map : {F G : Type 0} (g : F → G) (f : F) (xs : List F) → Among f xs → Among (g f) (map g xs)
among_map g f [] at = absurd at
among_map g f (x ∷ xs) (inl here) = inl (ap g here)
among_map g f (x ∷ xs) (inr later) = inr (among_map g f xs later)

-- ---- the least member

abbrev pub LeastOrNone : (F : Type 0) → (F → List ℕ) → (F → Type 0) → Type 0
LeastOrNone F key faults = ((f : F) × IsLeast {F = F} key faults f) ⊎ ((f : F) → faults f → ⊥)

module _ (F : Type 0) (key : F → List ℕ) (faults : F → Type 0) (decide : (f : F) → Decided (faults f)) where
  -- the least of the candidates that are members
  abbrev LeastAmong : List F → F → Type 0
  LeastAmong cs g = faults g × ((h : F) → Among h cs → faults h → NotAfter (key g) (key h))

  search_candidates : (cs : List F) → ((g : F) × LeastAmong cs g) ⊎ ((h : F) → Among h cs → faults h → ⊥)
  search_candidates [] = inr (λ h at is. at)
  search_candidates (c ∷ cs) = elim (search_candidates cs) [
    | inl found ↦ elim (decide c) [
      | inl is ↦ elim (one_not_after (key c) (key found.0)) [
        | inl first ↦ inl (c, (is, λ h at other. first_of_all c is found.0 found.1 first h at other))
        | inr second ↦ inl (found.0, (found.1.0, λ h at other. second_of_all c found.0 found.1 second h at other))
      ]
      | inr isnt ↦ inl (
        found.0,
        (
          found.1.0,
          λ h at other. elim at [
            | inl here ↦ absurd (isnt (subst faults here other))
            | inr later ↦ found.1.1 h later other
          ],
        ),
      )
    ]
    | inr none ↦ elim (decide c) [
      | inl is ↦ inl (
        c,
        (
          is,
          λ h at other. elim at [
            | inl here ↦ subst (λ x. NotAfter (key c) (key x)) (sym here) (not_after_itself (key c))
            | inr later ↦ absurd (none h later other)
          ],
        ),
      )
      | inr isnt ↦ inr (λ h at other. elim at [
        | inl here ↦ isnt (subst faults here other)
        | inr later ↦ none h later other
      ])
    ]
  ]
    where
      first_of_all : (d : F) → faults d → (g : F) → LeastAmong cs g → NotAfter (key d) (key g) → (h : F) → Among h (d ∷ cs) → faults h → NotAfter (key d) (key h)
      first_of_all d is g least first h (inl here) other = subst (λ x. NotAfter (key d) (key x)) (sym here) (not_after_itself (key d))
      first_of_all d is g least first h (inr later) other = not_after_trans (key d) (key g) (key h) first (least.1 h later other)

      second_of_all : (d : F) (g : F) → LeastAmong cs g → NotAfter (key g) (key d) → (h : F) → Among h (d ∷ cs) → faults h → NotAfter (key g) (key h)
      second_of_all d g least second h (inl here) other = subst (λ x. NotAfter (key g) (key x)) (sym here) second
      second_of_all d g least second h (inr later) other = least.1 h later other

  -- a set all of whose members are candidates has a least one or none
  pub least_or_none : (cs : List F) → ((f : F) → faults f → Among f cs) → LeastOrNone F key faults
  least_or_none cs all = elim (search_candidates cs) [
    | inl found ↦ inl (found.0, (found.1.0, λ h is. found.1.1 h (all h is) is))
    | inr none ↦ inr (λ h is. none h (all h is) is)
  ]

  -- it is enough that a candidate has the same key
  pub least_or_none_by_key : (cs : List F) → ((f : F) → faults f → (g : F) × Among g cs × faults g × (key g ≡ key f)) → LeastOrNone F key faults
  least_or_none_by_key cs all = elim (search_candidates cs) [
    | inl found ↦ inl (found.0, (found.1.0, λ h is. let x = all h is in subst (NotAfter (key found.0)) x.3 (found.1.1 x.0 x.1 x.2)))
    | inr none ↦ inr (λ h is. let x = all h is in none x.0 x.1 x.2)
  ]

-- a set with the same members has the same least one
pub carry_least : (F : Type 0) (key : F → List ℕ) (few many : F → Type 0) → ((f : F) → few f → many f) → ((f : F) → many f → few f) → LeastOrNone F key few → LeastOrNone F key many
carry_least F key few many into back (inl found) = inl (found.0, (into found.0 found.1.0, λ h is. found.1.1 h (back h is)))
carry_least F key few many into back (inr none) = inr (λ h is. none h (back h is))
