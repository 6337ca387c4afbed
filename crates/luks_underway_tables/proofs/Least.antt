-- The least number of which a test holds.
use Rattle.std.proofs.Common.{◌≡◌, ℕ, zero, suc, ◌<◌, Bool, true, false, cond, Option, Some, None, arith, refl, inl, inr}
use Rattle.std.specs.Option.{option_map_or}
use Rattle.std.proofs.lemmas.Bool.{cases_eq}
use Rattle.luks_underway_show.specs.Shown.{least_below}

abbrev next_least : Bool → ℕ → Option ℕ → Option ℕ
next_least b n o = option_map_or (λ m. Some m) o (cond b (Some n) None)

pub least_none : (test : ℕ → Bool) (n : ℕ) → ((k : ℕ) → k < n → test k ≡ false) → least_below test n ≡ None
unfolding least_below
least_none test zero none = refl
least_none test (suc n) none =
    let here : test n ≡ false = none n (omega arith) in
    let before : least_below test n ≡ None = least_none test n (λ k below. none k (omega (arith, below))) in
    rw (here, before) refl

pub least_first : (test : ℕ → Bool) (n m : ℕ) → m < n → test m ≡ true → ((k : ℕ) → k < m → test k ≡ false) → least_below test n ≡ Some m
unfolding least_below
least_first test zero m below holds none = absurd (omega (arith, below))
least_first test (suc n) m below holds none = elim (cases_eq m n) [
  | inl same ↦
      let here : test n ≡ true = rw (← same) holds in
      let before : least_below test n ≡ None = least_none test n (rw (← same) none) in
      rw (here, before, same) refl
  | inr other ↦
      let before : least_below test n ≡ Some m = least_first test n m (omega (arith, below, other)) holds none in
      rw before refl
]
