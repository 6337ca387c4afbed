-- Zeros that were written, and what is copied over them.
use Rattle.std.proofs.Common.{◌≡◌, ℕ, ◌+◌, ◌<◌, ◌≤◌, List, length, replicate, get_or, sym, ap, ◌∙◌, arith, inl, inr}
use Rattle.std.proofs.lemmas.List.{get_or-replicate, length-replicate, take-replicate}
use Rattle.luks_area.specs.Ranges.{part, written, IsAt, SameBut}
use Rattle.luks_area.proofs.RangeFacts.{get_or-part, part-part, part-same_but, part-written, same_but-then, same_but-wider}
use Rattle.luks_keeping.specs.Places.{AreApart, AreInside, IsOfPlaces}
use Rattle.luks_keeping.specs.SecondPlaces.{AreZeros, IsOfListed}
use Rattle.luks_keeping.specs.declared.places.Places.{Places}

-- zeros that were written at a place are there
pub zeros_stand : (u v : List ℕ) (at n : ℕ) → at + n ≤ length u → v ≡ written u at (replicate n 0) → part v at n ≡ replicate n 0
zeros_stand u v at n inside is =
    let long : length (replicate {A = ℕ} n 0) ≡ n = length-replicate {A = ℕ} n 0 in
    ap (λ w. part w at n) is ∙ ap (part (written u at (replicate n 0)) at) (sym long) ∙ part-written u at (replicate n 0) (omega (arith, long, inside))

-- a byte of them is zero
pub zero_at : (v : List ℕ) (n p : ℕ) → p < n → part v 0 n ≡ replicate n 0 → get_or v p 0 ≡ 0
zero_at v n p below zeros =
    let there : 0 + p ≡ p = omega arith in
    ap (λ k. get_or v k 0) (sym there) ∙ sym (get_or-part v 0 n p below) ∙ ap (λ l. get_or l p 0) zeros ∙ get_or-replicate n p 0 0 below

-- those of the listed places are
pub listed_zeros : (v : List ℕ) (size : ℕ) → part v 0 size ≡ replicate size 0 → AreZeros (IsOfListed size) v
listed_zeros v size zeros p x = zero_at v size p (let within = x.within in let high = x.at.1 in omega (arith, within, high)) zeros

-- the front of them
pub zeros_front : (v : List ℕ) (m n : ℕ) → m ≤ n → part v 0 n ≡ replicate n 0 → part v 0 m ≡ replicate m 0
zeros_front v m n le zeros = sym (part-part v 0 n 0 m (omega (arith, le))) ∙ ap (λ l. part l 0 m) zeros ∙ take-replicate m n 0 le

-- ---- what is copied lies in what is erased

module _ (places : Places) (size : ℕ) (within : AreInside places size) (lead : places.lead ≤ places.first) where
  place_below : (p : ℕ) → IsOfPlaces places p → IsAt 0 size p
  place_below p is = elim is [
    | inl at ↦ (let high = at.1 in let all = within.header in (omega arith, omega (arith, high, all, lead)))
    | inr x ↦ (let high = x.of_place.at.1 in let all = within.areas x.number x.of_place.area x.of_place.is in (omega arith, omega (arith, high, all)))
  ]

  pub copied_but : {u v w : List ℕ} → SameBut (IsAt 0 size) u v → SameBut (IsOfPlaces places) v w → SameBut (IsAt 0 size) u w
  copied_but first second = same_but-then first (same_but-wider place_below second)

  -- the other bytes stay zeros
  pub others_zero : (v w : List ℕ) → part v 0 size ≡ replicate size 0 → SameBut (IsOfPlaces places) v w → (p : ℕ) → p < size → (IsOfPlaces places p → ⊥) → get_or w p 0 ≡ 0
  others_zero v w zeros same p below other = same.each p other ∙ zero_at v size p below zeros

-- what isn't kept of the first copy stays as it is
pub lead_stays : (places : Places) (v w : List ℕ) → AreApart places → places.lead ≤ places.first → SameBut (IsOfPlaces places) v w → part w 0 places.lead ≡ part v 0 places.lead
lead_stays places v w apart lead same = part-same_but 0 places.lead same (λ p here other. elim other [
  | inl at ↦ (let high = here.1 in let low = at.0 in absurd (omega (arith, high, low)))
  | inr x ↦ (
      let high = here.1 in
      let behind = apart.behind x.number x.of_place.area x.of_place.is p x.of_place.at in
      absurd (omega (arith, high, behind, lead)))
])
