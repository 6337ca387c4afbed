-- The copied key areas of several keyslots.
use Rattle.std.proofs.Common.{◌≡◌, ℕ, ◌+◌, ◌-◌, ◌<◌, ◌++◌, List, replicate, true, sym, ap, subst, ◌∙◌, arith, inl, inr, Result, Ok, Err, OnOk}
use Rattle.std.proofs.lemmas.Bool.{cases_eq}
use Rattle.luks_area.specs.Ranges.{part, IsAt, SameBut}
use Rattle.luks_area.proofs.RangeFacts.{part-same_but, same_but-wider}
use Rattle.luks_converting.specs.Converted.{new_size, new_start, HasCopiedArea, IsOfArea, IsOfNewArea}
use Rattle.luks_converting.specs.Source.{is_enabled, source_size, source_start}
use Rattle.luks_converting.proofs.PlaceFacts.{ends_by}

-- ---- the areas of several keyslots

module _ (h : List ℕ) where
  -- no place is of the areas of two keyslots
  of_one : (m n p : ℕ) → m < n → IsOfArea h m p → IsOfArea h n p → ⊥
  of_one m n p less x y =
      let step = ends_by h m n less x.enabled in
      let high = x.at.1 in
      let low = y.at.0 in
      absurd (omega (arith, step, high, low))

  -- an area that was copied before stays
  pub stays : (v u w : List ℕ) (m n : ℕ) → m < n → is_enabled h m ≡ true → SameBut (IsOfArea h n) u w → HasCopiedArea h v m u → HasCopiedArea h v m w
  stays v u w m n less on same there =
      part-same_but (new_start h m) (new_size h m) same (λ p here other. of_one m n p less (record { enabled = on; at = here }) other) ∙ there

  -- the areas below `n`, and that of `n`
  pub next_copied : (v u w : List ℕ) (n : ℕ) → ((m : ℕ) → m < n → is_enabled h m ≡ true → HasCopiedArea h v m u) → SameBut (IsOfArea h n) u w
      → (is_enabled h n ≡ true → HasCopiedArea h v n w) → (m : ℕ) → m < n + 1 → is_enabled h m ≡ true → HasCopiedArea h v m w
  next_copied v u w n before same there m below on = elim (cases_eq m n) [
    | inl is ↦ rw is (there (subst (λ k. is_enabled h k ≡ true) is on))
    | inr other ↦ (let less : m < n = omega (arith, below, other) in stays v u w m n less on same (before m less on))
  ]

  -- the area of one keyslot is of the new areas
  pub one_of : {u w : List ℕ} (n : ℕ) → SameBut (IsOfArea h n) u w → SameBut (IsOfNewArea h) u w
  one_of n same = same_but-wider (λ p is. record { number = n; of_area = is }) same

-- ---- one keyslot's area, by the areas that its header gives

copied_as : (s w : List ℕ) (a b c d e f g i : ℕ) → a ≡ e → b ≡ f → c ≡ g → d ≡ i
    → part w c d ≡ part s a b ++ replicate (d - b) 0 → part w g i ≡ part s e f ++ replicate (i - f) 0
copied_as s w a b c d e f g i from len to size there =
    ap (λ x. part w x i) (sym to) ∙ ap (part w c) (sym size) ∙ there ∙ ap (λ x. part s x b ++ replicate (d - b) 0) from
    ∙ ap (λ x. part s e x ++ replicate (d - x) 0) len ∙ ap (λ x. part s e f ++ replicate (x - f) 0) size

pub has_copied : {A F : Type 0} (r : Result A F) (h s w : List ℕ) (n a b c d : ℕ) → a ≡ source_start h n → b ≡ source_size h n → c ≡ new_start h n → d ≡ new_size h n
    → OnOk r (part w c d ≡ part s a b ++ replicate (d - b) 0) → OnOk r (is_enabled h n ≡ true → HasCopiedArea h s n w)
has_copied (Ok x) h s w n a b c d from len to size there = λ on. copied_as s w a b c d (source_start h n) (source_size h n) (new_start h n) (new_size h n) from len to size there
has_copied (Err f) h s w n a b c d from len to size there = tt

pub of_area : {u w : List ℕ} (h : List ℕ) (n c d : ℕ) → is_enabled h n ≡ true → c ≡ new_start h n → d ≡ new_size h n → SameBut (IsAt c d) u w → SameBut (IsOfArea h n) u w
of_area h n c d on to size same =
    same_but-wider (λ p here. record { enabled = on; at = subst (λ x. IsAt x (new_size h n) p) to (subst (λ x. IsAt c x p) size here) }) same
