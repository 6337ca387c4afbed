-- Which keyslots are kept: how they are judged one after the other, and that there is one such set.
use Rattle.std.proofs.Common.{◌≡◌, ◌≢◌, ◌⊎◌, ℕ, ◌+◌, ◌*◌, ◌<◌, Bool, true, false, List, [], ◌∷◌, length, zero, suc, inl, inr, refl, sym, ◌∙◌, ap, set, subst, arith, if◌then◌else◌, ◌==◌, lit<, get_or-set_other, get_or-set_same}
use Rattle.std.proofs.lemmas.Bool.{cases_Bool, cases_lt}
use Rattle.std.proofs.lemmas.List.{get_or_past}
use Rattle.luks_area.specs.Area.{Meet}
use Rattle.luks_area.specs.declared.area.Area.{Area}
use Rattle.luks1_header.specs.Header1.{active_word, enabled_word, entry}
use Rattle.luks1_mending.specs.Areas.{is_usual, own_area}
use Rattle.luks1_mending.specs.Judging.{set_of, AreKeptSoFar, IsJudged, IsNext, IsPassedOver, MeetsOne}
use Rattle.luks1_mending.specs.Kept.{rank, AreKept, ComesBefore, IsBeforeAndMeets, IsKept, IsSound}
use Rattle.luks1_mending.proofs.OrderFacts.{before_end, before_further, before_next, before_or_at, not_self, place_before, Before}

-- the same areas meet
pub meet_as : (a b x y : Area) → a ≡ x → b ≡ y → Meet a b → Meet x y
meet_as a b x y first second m = subst (λ (q : Area). Meet x q) second (subst (λ (p : Area). Meet p b) first m)

-- areas meet each other
meet_other : (a b : Area) → Meet a b → Meet b a
meet_other a b m = (m.0, (m.1.1, m.1.0))

not_both : (b : Bool) → b ≡ true → b ≡ false → ⊥
not_both b is off = cc

-- a number is this one, or another
pub same_or_other : (n i : ℕ) → (n ≡ i) ⊎ (n ≢ i)
same_or_other n i = elim (cases_lt n i) [
  | inl low ↦ inr (λ e. omega arith)
  | inr high ↦ elim (cases_lt i n) [
    | inl less ↦ inr (λ e. omega arith)
    | inr same ↦ inl (omega arith)
  ]
]

-- eight of which none is kept
abbrev pub none : List Bool
none = false ∷ false ∷ false ∷ false ∷ false ∷ false ∷ false ∷ false ∷ []

all_false : (n : ℕ) → n < 8 → set_of none n ≡ false
all_false zero low = refl
all_false (suc zero) low = refl
all_false (suc (suc zero)) low = refl
all_false (suc (suc (suc zero))) low = refl
all_false (suc (suc (suc (suc zero)))) low = refl
all_false (suc (suc (suc (suc (suc zero))))) low = refl
all_false (suc (suc (suc (suc (suc (suc zero)))))) low = refl
all_false (suc (suc (suc (suc (suc (suc (suc zero))))))) low = refl
all_false (suc (suc (suc (suc (suc (suc (suc (suc n)))))))) low = absurd (omega arith)

-- a member of an array is one of its numbers
pub within : (xs : List Bool) (n : ℕ) → set_of xs n ≡ true → n < length xs
within xs n is = elim (cases_lt n (length xs)) [
  | inl low ↦ low
  | inr over ↦ absurd (not_both (set_of xs n) is (get_or_past xs n false over))
]

-- no member, in an array of false
pub none_among : (n : ℕ) → set_of none n ≡ false
none_among n = elim (cases_lt n 8) [
  | inl low ↦ all_false n low
  | inr over ↦ get_or_past none n false over
]

nowhere : (p n : ℕ) → Before p n 0 0 → ⊥
nowhere p n (inl less) = omega arith
nowhere p n (inr x) = (let less = x.1 in omega (arith, less))

-- there are four ranks
few_ranks : (used usual : Bool) → (if used then 0 else 2) + (if usual then 0 else 1) < 4
few_ranks true true = lit< tt
few_ranks true false = lit< tt
few_ranks false true = lit< tt
few_ranks false false = lit< tt

module _ (h : List ℕ) (k total : ℕ) where
  -- one of the set comes before the keyslot `n` and meets it
  abbrev Found : (ℕ → Bool) → ℕ → Type 0
  Found kept n = (m : ℕ) × ((kept m ≡ true) × IsBeforeAndMeets h k m n)

  -- nothing is judged
  pub none_so_far : (kept : ℕ → Bool) → ((n : ℕ) → kept n ≡ false) → AreKeptSoFar h k total 0 0 kept
  none_so_far kept none = record {
    sound = λ n is. absurd (not_both (kept n) is (none n));
    judged = λ n is. absurd (not_both (kept n) is (none n));
    apart = λ m n other is there meet. not_both (kept m) is (none m);
    rest = λ n sound judged out. absurd (nowhere (rank h k n) n judged);
  }

  module _ (r i : ℕ) (a : ℕ → Bool) (are : AreKeptSoFar h k total r i a) where
    -- one that has been judged and meets the next one comes before it
    found_by : rank h k i ≡ r → (m : ℕ) → MeetsOne h k a (own_area h k i) m → Found a i
    found_by ranked m x =
        (m, (x.among, record { before = subst (λ (q : ℕ). Before (rank h k m) m q i) (sym ranked) (are.judged m x.among); meet = x.meet }))

    found_here : IsPassedOver h k total r a i → (n : ℕ) → n ≡ i → rank h k n ≡ r → IsSound h k total n → Found a n
    found_here over n same =
        subst (λ (q : ℕ). rank h k q ≡ r → IsSound h k total q → Found a q) (sym same)
        (λ ranked sound. (let met : (m : ℕ) × MeetsOne h k a (own_area h k i) m = over ranked sound in found_by ranked met.0 met.1))

    -- the next one is passed over
    pub so_far_without : IsPassedOver h k total r a i → AreKeptSoFar h k total r (i + 1) a
    so_far_without over = record {
      sound = are.sound;
      judged = λ n is. before_further (rank h k n) n r i (are.judged n is);
      apart = are.apart;
      rest = λ n sound judged out. elim (before_or_at (rank h k n) n r i judged) [
        | inl before ↦ are.rest n sound before out
        | inr at ↦ found_here over n at.1 at.0 sound
      ];
    }

    -- the next one is kept
    module _ (b : ℕ → Bool) (next : IsNext h k total r a i) (there : b i ≡ true) (others : (n : ℕ) → n ≢ i → b n ≡ a n) where
      was : (n : ℕ) → n ≢ i → b n ≡ true → a n ≡ true
      was n other is = sym (others n other) ∙ is

      still : (n : ℕ) → a n ≡ true → b n ≡ true
      still n is = elim (same_or_other n i) [
        | inl same ↦ subst (λ (q : ℕ). b q ≡ true) (sym same) there
        | inr other ↦ others n other ∙ is
      ]

      none_of : (n : ℕ) → a n ≡ true → Meet (own_area h k n) (own_area h k i) → ⊥
      none_of n is meet = next.apart n (record { among = is; meet = meet })

      apart_of : (m n : ℕ) → m ≢ n → b m ≡ true → b n ≡ true → Meet (own_area h k m) (own_area h k n) → ⊥
      apart_of m n different is too meet = elim (same_or_other m i) [
        | inl first ↦ elim (same_or_other n i) [
          | inl second ↦ different (first ∙ sym second)
          | inr other ↦ none_of n (was n other too) (subst (λ (q : ℕ). Meet (own_area h k n) (own_area h k q)) first (meet_other (own_area h k m) (own_area h k n) meet))
        ]
        | inr other ↦ elim (same_or_other n i) [
          | inl second ↦ none_of m (was m other is) (subst (λ (q : ℕ). Meet (own_area h k m) (own_area h k q)) second meet)
          | inr further ↦ are.apart m n different (was m other is) (was n further too) meet
        ]
      ]

      found_still : (n : ℕ) → Found a n → Found b n
      found_still n x = (x.0, (still x.0 x.1.0, x.1.1))

      rest_of : (n : ℕ) → IsSound h k total n → IsJudged h k r (i + 1) n → b n ≡ false → Found b n
      rest_of n sound judged out = elim (same_or_other n i) [
        | inl same ↦ absurd (not_both (b i) there (subst (λ (q : ℕ). b q ≡ false) same out))
        | inr other ↦ elim (before_or_at (rank h k n) n r i judged) [
          | inl before ↦ found_still n (are.rest n sound before (sym (others n other) ∙ out))
          | inr at ↦ absurd (other at.1)
        ]
      ]

      pub so_far_with : AreKeptSoFar h k total r (i + 1) b
      so_far_with = record {
        sound = λ n is. elim (same_or_other n i) [
          | inl same ↦ subst (λ (q : ℕ). IsSound h k total q) (sym same) next.sound
          | inr other ↦ are.sound n (was n other is)
        ];
        judged = λ n is. elim (same_or_other n i) [
          | inl same ↦ inr (subst (λ (q : ℕ). rank h k q ≡ r) (sym same) next.ranked, omega arith)
          | inr other ↦ before_further (rank h k n) n r i (are.judged n (was n other is))
        ];
        apart = apart_of;
        rest = rest_of;
      }

  -- the same of an array in which it is kept, too
  pub so_far_set : (r i : ℕ) (xs ys : List Bool) → AreKeptSoFar h k total r i (set_of xs) → IsNext h k total r (set_of xs) i → i < length xs
      → ys ≡ set xs i true → AreKeptSoFar h k total r (i + 1) (set_of ys)
  so_far_set r i xs ys are next low is =
      so_far_with r i (set_of xs) are (set_of ys) next
      (ap (λ (l : List Bool). set_of l i) is ∙ get_or-set_same xs i true false low)
      (λ n other. ap (λ (l : List Bool). set_of l n) is ∙ get_or-set_other xs i n true false other)

  -- all eight of a rank are judged
  pub so_far_next : (r : ℕ) (a : ℕ → Bool) → AreKeptSoFar h k total r 8 a → AreKeptSoFar h k total (r + 1) 0 a
  so_far_next r a are = record {
    sound = are.sound;
    judged = λ n is. before_next (rank h k n) n r (are.judged n is);
    apart = are.apart;
    rest = λ n sound judged out. are.rest n sound (before_end (rank h k n) n r sound.numbered judged) out;
  }

  -- all are judged
  pub all_judged : (a : ℕ → Bool) → AreKeptSoFar h k total 4 0 a → AreKept h k total a
  all_judged a are = record {
    sound = are.sound;
    apart = are.apart;
    rest = λ n sound out. are.rest n sound (inl (few_ranks (active_word (entry h n) == enabled_word) (is_usual h k n))) out;
  }

  -- ---- there is one such set

  -- the place of a keyslot in the order of preference
  place : ℕ → ℕ
  place n = rank h k n * 8 + n

  place_less : (m n : ℕ) → m < 8 → ComesBefore h k m n → place m < place n
  unfolding place
  place_less m n low before = place_before (rank h k m) m (rank h k n) n low before

  module _ (a b : ℕ → Bool) (are : AreKept h k total a) (others : AreKept h k total b) where
    -- one that isn't in the other set meets one of it before it, on which both don't agree
    not_left_out : (n : ℕ) → a n ≡ true → b n ≡ false → ((m : ℕ) → m < 8 → ComesBefore h k m n → a m ≡ b m) → ⊥
    not_left_out n is out alike =
        let x : Found b n = others.rest n (are.sound n is) out in
        let low : x.0 < 8 = (others.sound x.0 x.1.0).numbered in
        let here : a x.0 ≡ true = alike x.0 low x.1.1.before ∙ x.1.0 in
        are.apart x.0 n (λ same. not_self (rank h k x.0) x.0 (rank h k n) n x.1.1.before (ap (λ (q : ℕ). rank h k q) same) same) here is x.1.1.meet

  module _ (a b : ℕ → Bool) (are : AreKept h k total a) (others : AreKept h k total b) where
    alike_at : (n : ℕ) → ((m : ℕ) → m < 8 → ComesBefore h k m n → a m ≡ b m) → a n ≡ b n
    alike_at n below = elim (cases_Bool (a n)) [
      | inl here ↦ elim (cases_Bool (b n)) [
        | inl there ↦ here ∙ sym there
        | inr out ↦ absurd (not_left_out a b are others n here out below)
      ]
      | inr out ↦ elim (cases_Bool (b n)) [
        | inl there ↦ absurd (not_left_out b a others are n there out (λ m low before. sym (below m low before)))
        | inr too ↦ out ∙ sym too
      ]
    ]

    alike_before : (s n : ℕ) → place n < s → a n ≡ b n
    alike_before zero n low = absurd (omega (arith, low))
    alike_before (suc s) n low = alike_at n (λ m few before. alike_before s m (let less = place_less m n few before in omega (arith, less, low)))

    pub one_set : (n : ℕ) → a n ≡ b n
    one_set n = alike_before (place n + 1) n (omega arith)

  -- a keyslot is kept exactly where it is in the set
  module _ (a : ℕ → Bool) (are : AreKept h k total a) where
    pub is_in : (n : ℕ) → IsKept h k total n → a n ≡ true
    is_in n x = one_set a x.kept are x.are n ∙ x.this

    pub of_set : (n : ℕ) → a n ≡ true → IsKept h k total n
    of_set n is = record { kept = a; are = are; this = is }

    pub not_kept : (n : ℕ) → a n ≡ false → IsKept h k total n → ⊥
    not_kept n out x = not_both (a n) (is_in n x) out

  pub sound_of : (n : ℕ) → IsKept h k total n → IsSound h k total n
  sound_of n x = x.are.sound n x.this
