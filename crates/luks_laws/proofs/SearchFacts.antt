-- What there is some of or none, and searches among numbers.
use Rattle.std.proofs.Common.{◌≡◌, ◌⊎◌, ℕ, zero, suc, ◌≤◌, ◌<◌, Option, Some, None, refl, sym, ap, subst, ◌∙◌, arith, inl, inr}
use Rattle.std.specs.Prelude.{IsSomeAnd}
use Rattle.std.proofs.lemmas.Bool.{cases_eq, cases_lt}
use Rattle.luks_edit.specs.declared.deed.Place.{Place}
use Rattle.luks_edit.specs.declared.deed.Place.TheVariants.{New, Opened}
use Rattle.luks_edit.specs.declared.edit.Opener.{Opener}
use Rattle.luks_edit.specs.declared.edit.Secret.{Secret}
use Rattle.luks_edit.specs.Asked.{MatchPlace}
use Rattle.luks_laws.proofs.DecidedFacts.{alike_decided, Decided}

-- what is decided of each part is decided of the part that there is
pub some_decided : (A : Type 0) (o : Option A) (P : A → Type 0) → ((x : A) → Decided (P x)) → Decided (IsSomeAnd o P)
some_decided A None P decide = inr (λ bad. bad)
some_decided A (Some x) P decide = decide x

-- what is decided of each place of a key is decided of the place that it has
pub place_decided : (p : Place) (N : Opener → Option ℕ → Type 0) (O : ℕ → Secret → Type 0) → ((o : Opener) (to : Option ℕ) → Decided (N o to))
    → ((slot : ℕ) (secret : Secret) → Decided (O slot secret)) → Decided (MatchPlace p N O)
place_decided (New o to) N O new opened = new o to
place_decided (Opened slot secret) N O new opened = opened slot secret

-- ---- what there is some of

-- something has the property, or nothing has it
abbrev pub SomeOrNone : (A : Type 0) → (A → Type 0) → Type 0
SomeOrNone A P = ((a : A) × P a) ⊎ ((a : A) → P a → ⊥)

-- an option holds one value
pub some_same : {A : Type 0} (x y : A) → Some x ≡ Some y → x ≡ y
some_same x y e = cc

-- what an option holds
pub held_or_none : {A : Type 0} (o : Option A) → SomeOrNone A (λ x. o ≡ Some x)
held_or_none None = inr (λ x e. cc)
held_or_none (Some x) = inl (x, refl)

-- what is decided of each value is decided of the one that an option holds
pub held_decided : {A : Type 0} (o : Option A) (P : A → Type 0) → ((x : A) → Decided (P x)) → Decided ((x : A) × (o ≡ Some x) × P x)
held_decided None P decide = inr (λ x. let none = x.1 in cc)
held_decided (Some y) P decide = alike_decided (P y) ((x : _) × (Some y ≡ Some x) × P x) (λ is. (y, refl, is)) (λ x. subst P (sym (some_same y x.0 x.1)) x.2) (decide y)

-- it holds this number, or it doesn't
pub number_decided : (o : Option ℕ) (n : ℕ) → Decided (o ≡ Some n)
number_decided None n = inr (λ same. cc)
number_decided (Some m) n = alike_decided (m ≡ n) (Some m ≡ Some n) (λ same. ap Some same) (λ same. some_same m n same) (cases_eq m n)

-- ---- numbers

-- each number below `n` has the property, or one hasn't
pub all_below_decided : (P : ℕ → Type 0) → ((k : ℕ) → Decided (P k)) → (n : ℕ) → Decided ((k : ℕ) → k < n → P k)
all_below_decided P each zero = inl (λ k low. absurd (omega (arith, low)))
all_below_decided P each (suc n) = elim (each n) [
  | inl here ↦ elim (all_below_decided P each n) [
    | inl below ↦ inl (λ k low. elim (cases_eq k n) [ inl same ↦ subst P (sym same) here | inr other ↦ below k (omega (arith, low, other)) ])
    | inr failed ↦ inr (λ all. failed (λ k low. all k (omega (arith, low))))
  ]
  | inr failed ↦ inr (λ all. failed (all n (omega arith)))
]

-- the least number of all with the property
abbrev pub LeastNumber : (ℕ → Type 0) → Type 0
LeastNumber P = (m : ℕ) × P m × ((k : ℕ) → P k → m ≤ k)

-- there is a least number with the property, or there is none below `n`
pub least_or_none_below : (P : ℕ → Type 0) → ((k : ℕ) → Decided (P k)) → (n : ℕ) → LeastNumber P ⊎ ((k : ℕ) → k < n → P k → ⊥)
least_or_none_below P each zero = inr (λ k low is. omega (arith, low))
least_or_none_below P each (suc n) = elim (least_or_none_below P each n) [
  | inl found ↦ inl found
  | inr none ↦ elim (each n) [
    | inl here ↦ inl (n, here, λ k is. elim (cases_lt k n) [ inl under ↦ absurd (none k under is) | inr over ↦ over ])
    | inr away ↦ inr (λ k low is. elim (cases_eq k n) [ inl same ↦ away (subst P same is) | inr other ↦ none k (omega (arith, low, other)) is ])
  ]
]

-- so there is one, or none, where those that have it are below `n`
pub least_or_none_of : (P : ℕ → Type 0) → ((k : ℕ) → Decided (P k)) → (n : ℕ) → ((k : ℕ) → P k → k < n) → LeastNumber P ⊎ ((k : ℕ) → P k → ⊥)
least_or_none_of P each n low = elim (least_or_none_below P each n) [
  | inl found ↦ inl found
  | inr none ↦ inr (λ k is. none k (low k is) is)
]

-- and so it is decided whether some has it
pub some_of_decided : (P : ℕ → Type 0) → ((k : ℕ) → Decided (P k)) → (n : ℕ) → ((k : ℕ) → P k → k < n) → Decided ((k : ℕ) × P k)
some_of_decided P each n low = elim (least_or_none_of P each n low) [
  | inl found ↦ inl (found.0, found.1)
  | inr none ↦ inr (λ x. none x.0 x.1)
]

-- and whether none has it
pub none_of_decided : (P : ℕ → Type 0) → ((k : ℕ) → Decided (P k)) → (n : ℕ) → ((k : ℕ) → P k → k < n) → Decided ((k : ℕ) → P k → ⊥)
none_of_decided P each n low = elim (least_or_none_of P each n low) [
  | inl found ↦ inr (λ none. none found.0 found.1)
  | inr none ↦ inl none
]

-- one number has the property, or none has it
abbrev pub OneOrNone : (ℕ → Type 0) → Type 0
OneOrNone P = ((k : ℕ) × P k × ((m : ℕ) → P m → m ≡ k)) ⊎ ((k : ℕ) → P k → ⊥)

-- so there is such a number that isn't `n`, or there isn't
pub other_decided : (P : ℕ → Type 0) → OneOrNone P → (n : ℕ) → Decided ((k : ℕ) × P k × (n ≡ k → ⊥))
other_decided P (inl found) n = elim (cases_eq n found.0) [
  | inl same ↦ inr (λ x. x.2 (same ∙ sym (found.2 x.0 x.1)))
  | inr other ↦ inl (found.0, found.1, other)
]
other_decided P (inr none) n = inr (λ x. none x.0 x.1)
