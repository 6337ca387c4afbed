-- Trying numbers from 0 up, where a test picks some, is trying the list of those in its order.
use Rattle.std.proofs.Common.{◌≡◌, ℕ, zero, suc, ◌<◌, List, [], ◌∷◌, ◌++◌, filter, All, Bool, true, false, Option, Some, None, inl, inr, refl, sym, ap, ◌∙◌, subst, arith, append_assoc}
use Rattle.std.proofs.lemmas.Bool.{cases_lt}
use Rattle.std.proofs.lemmas.List.Elements.{All-append, All-cons, All-weaker, filter-append}
use Rattle.luks_reading.specs.Unlocking.{numbers_below, GivesFirst, IsFirstOf}

all_none : (S : ℕ → Type 0) → All S []
all_none S = λ k d lt. absurd (omega (arith, lt))

all_one : (S : ℕ → Type 0) (n : ℕ) → S n → All S (n ∷ [])
all_one S n s = All-cons S n [] s (all_none S)

-- the last number, if it is picked
picked : (test : ℕ → Bool) (n : ℕ) → test n ≡ true → filter test (n ∷ []) ≡ n ∷ []
picked test n on = simp on

passed : (test : ℕ → Bool) (n : ℕ) → test n ≡ false → filter test (n ∷ []) ≡ []
passed test n off = simp off

one_more : (test : ℕ → Bool) (n : ℕ) → filter test (numbers_below (suc n)) ≡ filter test (numbers_below n) ++ filter test (n ∷ [])
unfolding numbers_below
one_more test n = filter-append test (numbers_below n) (n ∷ [])

no_more : (test : ℕ → Bool) → filter test (numbers_below zero) ≡ []
unfolding numbers_below
no_more test = refl

last_shut : (S : ℕ → Type 0) (test : ℕ → Bool) (n : ℕ) (b : Bool) → test n ≡ b → (test n ≡ true → S n) → All S (filter test (n ∷ []))
last_shut S test n true is s = subst (All S) (sym (picked test n is)) (all_one S n (s is))
last_shut S test n false is s = subst (All S) (sym (passed test n is)) (all_none S)

pub all_shut : (S : ℕ → Type 0) (test : ℕ → Bool) (size : ℕ) → ((m : ℕ) → m < size → test m ≡ true → S m) → All S (filter test (numbers_below size))
all_shut S test zero shut = subst (All S) (sym (no_more test)) (all_none S)
all_shut S test (suc n) shut =
    subst (All S) (sym (one_more test n))
    (All-append S (filter test (numbers_below n)) (filter test (n ∷ []))
    (all_shut S test n (λ m lt on. shut m (omega (arith, lt)) on))
    (last_shut S test n (test n) refl (shut n (omega arith))))

pub first_shut : (S : ℕ → Type 0) (O : ℕ → List ℕ → Type 0) (test : ℕ → Bool) (size n : ℕ) (k : List ℕ) → n < size → test n ≡ true → O n k
    → ((m : ℕ) → m < n → test m ≡ true → S m) → IsFirstOf S O (filter test (numbers_below size)) n k
first_shut S O test zero n k lt on key shut = absurd (omega (arith, lt))
first_shut S O test (suc s) n k lt on key shut = elim (cases_lt n s) [
  | inl less ↦
      let below = first_shut S O test s n k less on key shut in record {
        earlier = below.earlier;
        later = below.later ++ filter test (s ∷ []);
        stands = one_more test s ∙ ap (λ xs. xs ++ filter test (s ∷ [])) below.stands ∙ append_assoc below.earlier (n ∷ below.later) (filter test (s ∷ []));
        all_shut = below.all_shut;
        key = key;
      }
  | inr least ↦
      let same : s ≡ n = omega (arith, lt, least) in record {
        earlier = filter test (numbers_below n);
        later = [];
        stands = subst (λ t. filter test (numbers_below (suc t)) ≡ filter test (numbers_below n) ++ n ∷ []) (sym same)
            (one_more test n ∙ ap (λ xs. filter test (numbers_below n) ++ xs) (picked test n on));
        all_shut = all_shut S test n shut;
        key = key;
      }
]

-- ---- of two lists joined

pub gives_left : (S : ℕ → Type 0) (O : ℕ → List ℕ → Type 0) (xs ys : List ℕ) (n : ℕ) (k : List ℕ) → IsFirstOf S O xs n k → IsFirstOf S O (xs ++ ys) n k
gives_left S O xs ys n k x = record {
  earlier = x.earlier;
  later = x.later ++ ys;
  stands = ap (λ zs. zs ++ ys) x.stands ∙ append_assoc x.earlier (n ∷ x.later) ys;
  all_shut = x.all_shut;
  key = x.key;
}

pub gives_right : (S : ℕ → Type 0) (O : ℕ → List ℕ → Type 0) (xs ys : List ℕ) (found : Option (ℕ × List ℕ)) → All S xs → GivesFirst S O ys found
    → GivesFirst S O (xs ++ ys) found
gives_right S O xs ys None shut x = All-append S xs ys shut x
gives_right S O xs ys (Some f) shut x = record {
  earlier = xs ++ x.earlier;
  later = x.later;
  stands = ap (λ zs. xs ++ zs) x.stands ∙ sym (append_assoc xs x.earlier (f.0 ∷ x.later));
  all_shut = All-append S xs x.earlier shut x.all_shut;
  key = x.key;
}

-- ---- with weaker words

pub gives_weaker : (S T : ℕ → Type 0) (O Q : ℕ → List ℕ → Type 0) (order : List ℕ) (found : Option (ℕ × List ℕ))
    → ((n : ℕ) → S n → T n) → ((n : ℕ) (k : List ℕ) → O n k → Q n k) → GivesFirst S O order found → GivesFirst T Q order found
gives_weaker S T O Q order None shut opens x = All-weaker S T shut order x
gives_weaker S T O Q order (Some f) shut opens x = record {
  earlier = x.earlier;
  later = x.later;
  stands = x.stands;
  all_shut = All-weaker S T shut x.earlier x.all_shut;
  key = opens f.0 f.1 x.key;
}
