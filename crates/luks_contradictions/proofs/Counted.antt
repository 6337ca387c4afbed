-- Tests of the first numbers: whether one holds of any or of each, and how often.
use Rattle.std.proofs.Common.{◌≡◌, ℕ, zero, suc, ◌+◌, ◌<◌, ◌≤◌, Bool, true, false, ◌&&◌, ◌⊎◌, refl, sym, ap, ◌∙◌, inl, inr, arith}
use Rattle.std.specs.Prelude.{◌||◌}
use Rattle.std.proofs.lemmas.Bool.{and_from, and_parts, cases_Bool, cases_eq, cases_lt, false_from_ne_true, false≢true, or_cases, true_from_ne_false}
use Rattle.luks_contradictions.specs.Contradictions.{all_below, any_below}
use Rattle.luks_contradictions.specs.Counts.{count_below}

pub counted : (test : ℕ → Bool) (n : ℕ) → test n ≡ true → count_below test (n + 1) ≡ count_below test n + 1
counted test n is =
    let next : n + 1 ≡ suc n = omega arith in
    rw (next, is) (omega arith)

pub passed : (test : ℕ → Bool) (n : ℕ) → test n ≡ false → count_below test (n + 1) ≡ count_below test n
passed test n is =
    let next : n + 1 ≡ suc n = omega arith in
    rw (next, is) refl

pub any_at : (test : ℕ → Bool) (n m : ℕ) → n < m → test n ≡ true → any_below test m ≡ true
any_at test n zero less is = absurd (omega (arith, less))
any_at test n (suc m) less is = elim (cases_eq n m) [
  | inl same ↦ rw (← same, is) refl
  | inr other ↦ let before : n < m = omega (arith, less, other) in rw (any_at test n m before is) (or_true (test m))
]
  where
    or_true : (b : Bool) → (b || true) ≡ true
    or_true true = refl
    or_true false = refl

pub any_step : (test : ℕ → Bool) (n : ℕ) → any_below test n ≡ false → test n ≡ false → any_below test (n + 1) ≡ false
any_step test n none is = let next : n + 1 ≡ suc n = omega arith in rw (next, is, none) refl

pub all_at : (test : ℕ → Bool) (n m : ℕ) → n < m → test n ≡ false → all_below test m ≡ false
all_at test n zero less is = absurd (omega (arith, less))
all_at test n (suc m) less is = elim (cases_eq n m) [
  | inl same ↦ rw (← same, is) refl
  | inr other ↦ let before : n < m = omega (arith, less, other) in rw (all_at test n m before is) (and_false (test m))
]
  where
    and_false : (b : Bool) → (b && false) ≡ false
    and_false true = refl
    and_false false = refl

pub all_step : (test : ℕ → Bool) (n : ℕ) → all_below test n ≡ true → test n ≡ true → all_below test (n + 1) ≡ true
all_step test n each is = let next : n + 1 ≡ suc n = omega arith in rw (next, is, each) refl

-- ---- whether the test holds of a number

-- of one, where it holds of any
pub some_below : (test : ℕ → Bool) (n : ℕ) → any_below test n ≡ true → (m : ℕ) × (m < n) × (test m ≡ true)
some_below test zero h = absurd (cc)
some_below test (suc n) h = elim (or_cases _ _ h) [
  | inl is ↦ (n, omega arith, is)
  | inr rest ↦ let r = some_below test n rest in (r.0, omega (arith, r.1), r.2)
]

-- of none, where it doesn't
pub none_below : (test : ℕ → Bool) (n m : ℕ) → any_below test n ≡ false → m < n → test m ≡ false
none_below test n m none less = false_from_ne_true _ (λ is. false≢true (sym none ∙ any_at test m n less is))

pub none_from : (test : ℕ → Bool) (n : ℕ) → ((m : ℕ) → m < n → test m ≡ true → ⊥) → any_below test n ≡ false
none_from test n none = false_from_ne_true _ (λ h. let r = some_below test n h in none r.0 r.1 r.2)

pub each_below : (test : ℕ → Bool) (n m : ℕ) → all_below test n ≡ true → m < n → test m ≡ true
each_below test n m all less = true_from_ne_false _ (λ off. false≢true (sym (all_at test m n less off) ∙ all))

pub all_from : (test : ℕ → Bool) (n : ℕ) → ((m : ℕ) → m < n → test m ≡ true) → all_below test n ≡ true
all_from test zero each = refl
all_from test (suc n) each = and_from _ _ (each n (omega arith)) (all_from test n (λ m less. each m (omega (arith, less))))

-- ---- how many there are

pub count_most : (test : ℕ → Bool) (n : ℕ) → count_below test n ≤ n
count_most test zero = omega arith
count_most test (suc n) = let h = count_most test n in elim (cases_Bool (test n)) [ inl is ↦ rw is (omega (arith, h)) | inr off ↦ rw off (omega (arith, h)) ]

pub count_more : (test : ℕ → Bool) (m n : ℕ) → m ≤ n → count_below test m ≤ count_below test n
count_more test m zero le = let e : m ≡ 0 = omega (arith, le) in rw e (omega arith)
count_more test m (suc n) le = elim (cases_eq m (suc n)) [
  | inl at ↦ rw at (omega arith)
  | inr other ↦
      let h = count_more test m n (omega (arith, le, other)) in
      elim (cases_Bool (test n)) [ inl is ↦ rw is (omega (arith, h)) | inr off ↦ rw off h ]
]

pub count_step : (test : ℕ → Bool) (n : ℕ) → test n ≡ true → count_below test (suc n) ≡ suc (count_below test n)
count_step test n is = rw is refl

-- one that there is, is counted
pub count_some : (test : ℕ → Bool) (m n : ℕ) → m < n → test m ≡ true → 1 ≤ count_below test n
count_some test m n less is =
    let h = count_more test (suc m) n (omega (arith, less)) in
    let s = count_step test m is in
    omega (arith, h, s)

pub some_counted : (test : ℕ → Bool) (n : ℕ) → 1 ≤ count_below test n → (m : ℕ) × (m < n) × (test m ≡ true)
some_counted test zero h = absurd (omega (arith, h))
some_counted test (suc n) h = elim (cases_Bool (test n)) [
  | inl is ↦ (n, omega arith, is)
  | inr off ↦ let r = some_counted test n (rw off at h) in (r.0, omega (arith, r.1), r.2)
]

-- of two one comes first, and both are counted
count_two : (test : ℕ → Bool) (k m n : ℕ) → k < m → m < n → test k ≡ true → test m ≡ true → 2 ≤ count_below test n
count_two test k m n first less isk ism =
    let a = count_some test k m first isk in
    let s = count_step test m ism in
    let h = count_more test (suc m) n (omega (arith, less)) in
    omega (arith, a, s, h)

pub one_counted : (test : ℕ → Bool) (n k m : ℕ) → count_below test n ≤ 1 → k < n → m < n → test k ≡ true → test m ≡ true → k ≡ m
one_counted test n k m few lk lm isk ism = elim (cases_lt k m) [
  | inl less ↦ absurd (let two = count_two test k m n less lm isk ism in omega (arith, two, few))
  | inr more ↦ elim (cases_lt m k) [
    | inl less ↦ absurd (let two = count_two test m k n less lk ism isk in omega (arith, two, few))
    | inr at ↦ omega (arith, more, at)
  ]
]

pub count_few : (test : ℕ → Bool) (n : ℕ) → ((k m : ℕ) → k < n → m < n → test k ≡ true → test m ≡ true → k ≡ m) → count_below test n ≤ 1
count_few test zero one = omega arith
count_few test (suc n) one = elim (cases_Bool (test n)) [
  | inr off ↦ rw off (count_few test n (λ k m lk lm. one k m (omega (arith, lk)) (omega (arith, lm))))
  | inl is ↦ rw is (none_before (cases_lt 0 (count_below test n)) is)
]
  where
    none_before : (0 < count_below test n) ⊎ (count_below test n ≤ 0) → test n ≡ true → suc (count_below test n) ≤ 1
    none_before (inr none) is = omega (arith, none)
    none_before (inl some) is =
        let r = some_counted test n (omega (arith, some)) in
        let e = one r.0 n (omega (arith, r.1)) (omega arith) r.2 is in
        absurd (omega (arith, e, r.1))

-- ---- the numbers that the test holds of are the first ones

-- if the test accepts all numbers below each one that it accepts, it accepts the first ones, as many as there are
pub front_counted : (test : ℕ → Bool) (n k : ℕ) → ((a b : ℕ) → a < n → b < a → test a ≡ true → test b ≡ true) → k ≤ n → (m : ℕ) → m < count_below test k → test m ≡ true
front_counted test n zero closed le m less = absurd (omega (arith, less))
front_counted test n (suc k) closed le m less = elim (cases_Bool (test k)) [
  | inr off ↦ front_counted test n k closed (omega (arith, le)) m (rw off at less)
  | inl is ↦
      let few = count_most test k in
      let in_front : m < suc (count_below test k) = rw is at less in
      elim (cases_eq k m) [
        | inl at ↦ rw (← at) is
        | inr other ↦ closed k m (omega (arith, le)) (omega (arith, in_front, few, other)) is
      ]
]

full : (test : ℕ → Bool) (n : ℕ) → all_below test n ≡ true → count_below test n ≡ n
full test zero all = refl
full test (suc n) all = let p = and_parts (test n) (all_below test n) all in count_step test n p.0 ∙ ap suc (full test n p.1)

-- if the test accepts the first ones, as many as there are, it accepts all numbers below each one that it accepts
pub front_of : (test : ℕ → Bool) (n a b : ℕ) → all_below test (count_below test n) ≡ true → a < n → b < a → test a ≡ true → test b ≡ true
front_of test n a b all less before is = elim (cases_lt b (count_below test n)) [
  | inl in_front ↦ each_below test (count_below test n) b all in_front
  | inr behind ↦
      let c = count_below test n in
      let whole = full test c all in
      let upto = count_more test c a (omega (arith, behind, before)) in
      let s = count_step test a is in
      let h = count_more test (suc a) n (omega (arith, less)) in
      absurd (omega (arith, whole, upto, s, h))
]
