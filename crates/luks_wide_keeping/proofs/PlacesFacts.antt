-- The places of a header and of the whole region: they are apart, and hold each byte.
use Rattle.std.proofs.Common.{◌≡◌, ℕ, zero, suc, ◌+◌, ◌*◌, ◌-◌, ◌<◌, ◌≤◌, List, ◌∷◌, Option, Some, None, min, replicate, get_or, refl, sym, ap, subst, ◌∙◌, arith, inl, inr}
use Rattle.std.proofs.lemmas.Bool.{cases_lt}
use Rattle.std.proofs.lemmas.List.{get_or-replicate}
use Rattle.luks_area.specs.Ranges.{part, IsAt}
use Rattle.luks_area.specs.declared.area.Area.{Area}
use Rattle.luks_area.proofs.RangeFacts.{get_or-part}
use Rattle.luks2_header.specs.declared.selection.Copies.{Copies}
use Rattle.luks2_header.specs.declared.selection.Copies.TheVariants.{InStep, FirstNewer, SecondNewer, FirstOnly, SecondOnly}
use Rattle.luks_keeping.specs.Kept.{lead_of}
use Rattle.luks_keeping.specs.Places.{header_end, AreApart, AreInside, HasPlace, HoldsAll, IsOfPlaces, IsOfWhole}
use Rattle.luks_keeping.specs.declared.places.Places.{Places}
use Rattle.luks_wide_reading.specs.declared.copy.UnderwayCopy.{UnderwayCopy}
use Rattle.luks_wide_keeping.specs.Whole.{IsWholeLaid, IsWholeSize}

-- ---- one area

some_same : {A : Type 0} (x y : A) → Some x ≡ Some y → x ≡ y
some_same x y e = cc

pub only_there : (areas : List (Option Area)) (area : Area) → areas ≡ Some area ∷ replicate 31 None → get_or areas 0 None ≡ Some area
only_there areas area is = ap (λ l. get_or l 0 None) is

pub only_one : (areas : List (Option Area)) (area : Area) (n : ℕ) (a : Area) → areas ≡ Some area ∷ replicate 31 None → n < 32 → get_or areas n None ≡ Some a → (n ≡ 0) × (a ≡ area)
only_one areas area zero a is low e = (refl, sym (some_same area a (sym (ap (λ l. get_or l 0 None) is) ∙ e)))
only_one areas area (suc n) a is low e =
    let none : get_or areas (suc n) None ≡ None = ap (λ l. get_or l (suc n) None) is ∙ get_or-replicate 31 n None None (omega (arith, low)) in
    absurd (cc)

-- ---- bytes

-- a byte of a part that both have
pub byte_of : (s w : List ℕ) (at len p : ℕ) → part w at len ≡ part s at len → IsAt at len p → get_or w p 0 ≡ get_or s p 0
byte_of s w at len p same is =
    let low = is.0 in
    let high = is.1 in
    let k : ℕ = p - at in
    let below : k < len = omega (arith, low, high) in
    let there : at + k ≡ p = omega (arith, low) in
    ap (λ i. get_or w i 0) (sym there) ∙ sym (get_or-part w at len k below) ∙ ap (λ l. get_or l k 0) same ∙ get_or-part s at len k below ∙ ap (λ i. get_or s i 0) there

-- what isn't kept is no more than a sector
pub lead_small : (copies : Copies) → lead_of copies ≤ 512
lead_small InStep = omega arith
lead_small FirstNewer = omega arith
lead_small SecondNewer = omega arith
lead_small FirstOnly = omega arith
lead_small SecondOnly = omega arith

module _ (c : UnderwayCopy) (total : ℕ) (places : Places) (laid : IsWholeLaid c total places) (room : 2 * c.header.hdr_size ≤ total) where
  pub lead_first : places.lead ≤ places.first
  lead_first = (let lead = laid.lead in let first = laid.first in omega (arith, lead, first))

  pub lead_sector : places.lead ≤ min 512 places.first
  lead_sector = (let small = lead_small c.copies in let lead = laid.lead in let first = laid.first in omega (arith, lead, first, small))

  -- the size that is known is that of these places
  pub whole_region : (size : ℕ) → IsWholeSize c size → size ≡ 2 * c.header.hdr_size + laid.region
  whole_region size x =
      let region : x.region ≡ laid.region = some_same x.region laid.region (sym x.says ∙ laid.says) in
      let all = x.is in
      omega (arith, region, all)

  -- what ends with the region
  region_at : (n : ℕ) (a : Area) → HasPlace places n a → a ≡ laid.area
  region_at n a is = (laid.only n a is).1

  pub apart : AreApart places
  apart = record {
    behind = λ n a is p at. (
        let begins : laid.area.start ≤ p = subst (λ (b : Area). b.start ≤ p) (region_at n a is) at.0 in
        let start = laid.start in
        let first = laid.first in
        let second = laid.second in
        omega (arith, begins, start, first, second));
    disjoint = λ m n a b x y other. absurd (other ((laid.only m a x).0 ∙ sym (laid.only n b y).0));
  }

  pub inside_of : (end : ℕ) → 2 * c.header.hdr_size + min laid.region (total - 2 * c.header.hdr_size) ≤ end → AreInside places end
  inside_of end fit = record {
    header = (let first = laid.first in let second = laid.second in omega (arith, first, second, fit));
    areas = λ n a is. subst (λ (b : Area). b.start + b.len ≤ end) (sym (region_at n a is)) (let start = laid.start in let len = laid.len in omega (arith, start, len, fit));
  }

  -- each byte up to the region's end, as far as it is there, has its place
  pub of_places : (p : ℕ) → places.lead ≤ p → p < 2 * c.header.hdr_size + laid.region → p < total → IsOfPlaces places p
  of_places p low high there = elim (cases_lt p (2 * c.header.hdr_size)) [
    | inl front ↦ (let first = laid.first in let second = laid.second in inl (low, omega (arith, front, first, second, low)))
    | inr behind ↦ (
        let start = laid.start in
        let len = laid.len in
        inr (record { number = 0; of_place = record { area = laid.area; is = laid.there; at = (omega (arith, behind, start), omega (arith, behind, high, there, start, len)) } }))
  ]

  -- and none behind has
  pub not_of_places : (p : ℕ) → total ≤ p → IsOfPlaces places p → ⊥
  not_of_places p past (inl at) = (let high = at.1 in let first = laid.first in let second = laid.second in omega (arith, high, past, first, second, room))
  not_of_places p past (inr x) =
      let high : p < laid.area.start + laid.area.len = subst (λ (b : Area). p < b.start + b.len) (region_at x.number x.of_place.area x.of_place.is) x.of_place.at.1 in
      let start = laid.start in
      let len = laid.len in
      omega (arith, high, past, start, len, room)

  pub whole_below : (size : ℕ) → size ≡ 2 * c.header.hdr_size + laid.region → (p : ℕ) → IsOfWhole places p → IsAt 0 size p
  whole_below size is p (inl at) = (let high = at.1 in let first = laid.first in let second = laid.second in (omega arith, omega (arith, high, first, second, is)))
  whole_below size is p (inr x) =
      let high : p < laid.area.start + laid.area.len = subst (λ (b : Area). p < b.start + b.len) (region_at x.number x.of_place.area x.of_place.is) x.of_place.at.1 in
      let start = laid.start in
      let len = laid.len in
      (omega arith, omega (arith, high, start, len, is))

  -- a byte that was copied is the source's
  pub byte_held : (s w : List ℕ) → HoldsAll places s w → (p : ℕ) → IsOfPlaces places p → get_or w p 0 ≡ get_or s p 0
  byte_held s w held p (inl at) = byte_of s w places.lead (header_end places - places.lead) p held.header at
  byte_held s w held p (inr x) = byte_of s w x.of_place.area.start x.of_place.area.len p (held.areas x.number x.of_place.area x.of_place.is) x.of_place.at
