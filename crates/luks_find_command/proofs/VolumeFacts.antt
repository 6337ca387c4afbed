-- A device of which nothing but one volume may have changed, and that didn't.
use Rattle.std.proofs.Common.{◌≡◌, ℕ, ◌+◌, ◌-◌, ◌<◌, List, inl, inr, get_or, sym, ap, ◌∙◌, arith}
use Rattle.std.proofs.lemmas.Bool.{cases_lt}
use Rattle.std.proofs.lemmas.Grind.{same_number_lists}
use Rattle.luks_area.specs.Ranges.{part, IsAt, SameBut}
use Rattle.luks_area.proofs.RangeFacts.{get_or-part}

-- the device is as it was
pub whole-same : (v w : List ℕ) (start len : ℕ) → SameBut (IsAt start len) v w → part w start len ≡ part v start len → w ≡ v
whole-same v w start len alone same = same_number_lists w v alone.length_same (λ k lt. elim (cases_lt k start) [
  | inl before ↦ alone.each k (λ here. let low = here.0 in omega (arith, low, before))
  | inr from ↦ elim (cases_lt k (start + len)) [
    | inl there ↦
        let below : k - start < len = omega (arith, from, there) in
        let back : start + (k - start) ≡ k = omega (arith, from) in
        ap (λ n. get_or w n 0) (sym back) ∙ sym (get_or-part w start len (k - start) below) ∙ ap (λ l. get_or l (k - start) 0) same
        ∙ get_or-part v start len (k - start) below ∙ ap (λ n. get_or v n 0) back
    | inr behind ↦ alone.each k (λ here. let high = here.1 in omega (arith, high, behind))
  ]
])
