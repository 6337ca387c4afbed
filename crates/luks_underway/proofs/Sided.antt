-- The digest of a side, of which there is one.
use Rattle.std.proofs.Common.{◌≡◌, ℕ, ◌<◌, Bool, true, false, List, codes, Option, Some, None, MatchOption, refl, sym, ap, subst, ◌∙◌, inl, inr, arith}
use Rattle.std.proofs.lemmas.Bool.{cases_lt, false≢true}
use Rattle.serde_json.specs.Data.{Data}
use Rattle.luks_rules.specs.Sizes.{IsFirst}
use Rattle.luks_underway.specs.Sides.{has_flagged, IsSide, is_named, is_side_of, side_of}

not_below : (test : ℕ → Bool) (n k : ℕ) → IsFirst test n → IsFirst test k → n < k → ⊥
not_below test n k a b less = false≢true (sym (b.first n less) ∙ a.holds)

-- two that are first are one
pub one_first : (test : ℕ → Bool) (n k : ℕ) → IsFirst test n → IsFirst test k → n ≡ k
one_first test n k a b = elim (cases_lt n k) [
  | inl less ↦ absurd (not_below test n k a b less)
  | inr more ↦ elim (cases_lt k n) [
    | inl less ↦ absurd (not_below test k n b a less)
    | inr same ↦ omega arith
  ]
]

abbrev names_it : Data → ℕ → ℕ → Bool
names_it j n m = is_named j (codes "segments") n m

-- no segment has the flag
pub side_none : (j : Data) (flag : List ℕ) → ((n : ℕ) → n < 32 → has_flagged j flag n ≡ false) → IsSide j flag None
side_none j flag none = λ n m first below. absurd (false≢true (sym (none n first.below) ∙ first.holds))

-- the least segment that has it, and the least digest that names that
pub side_by : (j : Data) (flag : List ℕ) (n : ℕ) (o : Option ℕ) → IsFirst (has_flagged j flag) n
    → MatchOption o ((m : ℕ) → m < 32 → names_it j n m ≡ false) (λ m. IsFirst (names_it j n) m) → IsSide j flag o
side_by j flag n None first none = λ k m other below.
    let same : n ≡ k = one_first (has_flagged j flag) n k first other in
    rw (← same) (none m below)
side_by j flag n (Some m) first is = (n, first, is)

lost_side : (j : Data) (flag : List ℕ) (m : ℕ) → IsSide j flag None → IsSide j flag (Some m) → ⊥
lost_side j flag m none is = false≢true (sym (none is.0 m is.1 is.2.below) ∙ is.2.holds)

-- a side is one
pub one_side : (j : Data) (flag : List ℕ) (a b : Option ℕ) → IsSide j flag a → IsSide j flag b → a ≡ b
one_side j flag None None x y = refl
one_side j flag None (Some m) x y = absurd (lost_side j flag m x y)
one_side j flag (Some m) None x y = absurd (lost_side j flag m y x)
one_side j flag (Some m) (Some k) x y =
    let same : x.0 ≡ y.0 = one_first (has_flagged j flag) x.0 y.0 x.1 y.1 in
    let first : IsFirst (names_it j y.0) m = subst (λ n. IsFirst (names_it j n) m) same x.2 in
    ap Some (one_first (names_it j y.0) m k first y.2)

-- the answer by the sides that were found is that by any
pub by_sides : (j : Data) (n : ℕ) (old new a b : Option ℕ) → IsSide j (codes "backup-previous") old → IsSide j (codes "backup-final") new
    → IsSide j (codes "backup-previous") a → IsSide j (codes "backup-final") b
    → side_of (is_side_of j n a) (is_side_of j n b) ≡ side_of (is_side_of j n old) (is_side_of j n new)
by_sides j n old new a b o w x y =
    let first : a ≡ old = one_side j (codes "backup-previous") a old x o in
    let second : b ≡ new = one_side j (codes "backup-final") b new y w in
    rw (first, second) refl

pub sided : (j : Data) (n : ℕ) (a b : Option ℕ) (x y : Bool) → x ≡ is_side_of j n a → y ≡ is_side_of j n b
    → IsSide j (codes "backup-previous") a → IsSide j (codes "backup-final") b
    → (old new : Option ℕ) → IsSide j (codes "backup-previous") old → IsSide j (codes "backup-final") new
    → side_of x y ≡ side_of (is_side_of j n old) (is_side_of j n new)
sided j n a b x y p q s t = λ old new o w. rw (p, q) (by_sides j n old new a b o w s t)
