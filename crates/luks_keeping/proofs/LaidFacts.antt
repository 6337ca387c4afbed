-- The places of a header that was read, as the areas that fit, and as what is kept of its volume.
use Rattle.std.proofs.Common.{◌≡◌, ◌≢◌, ℕ, ◌+◌, ◌-◌, ◌≤◌, List, min, replicate, refl, sym, ap, subst, ◌∙◌, arith, inl, inr}
use Rattle.std.proofs.lemmas.Bool.{cases_lt}
use Rattle.serde_json.specs.Data.{Data as Value}
use Rattle.luks_area.specs.Area.{name_number, Fit}
use Rattle.luks_area.specs.Ranges.{part, IsAt, SameBut}
use Rattle.luks_area.proofs.RangeFacts.{same_but-wider}
use Rattle.luks_area.specs.declared.area.Area.{Area}
use Rattle.luks_area.specs.declared.area.AreaName.TheVariants.{Head1, Head2, Slot}
use Rattle.luks2_header.proofs.ChoiceFacts.{chosen_is_sound}
use Rattle.luks2_header.proofs.CopyFacts.{listed_at_least}
use Rattle.luks2_header.specs.Header2.{hdr_size, header_at}
use Rattle.luks2_header.specs.Selection.{Chosen}
use Rattle.luks2_header.specs.declared.selection.Copies.{Copies}
use Rattle.luks2_header.specs.declared.selection.Copies.TheVariants.{InStep, FirstNewer, SecondNewer, FirstOnly, SecondOnly}
use Rattle.luks_rules.proofs.AreaFaults.{one_value}
use Rattle.luks_meta.specs.Content.{content}
use Rattle.luks_reading.specs.Header.{json_at, IsHeader}
use Rattle.luks_reading.specs.Reported.{HeaderArea}
use Rattle.luks_reading.specs.declared.header.Header.{Header}
use Rattle.luks_reading.specs.declared.header.Header.TheVariants.{Luks1, Luks2}
use Rattle.luks_reading.specs.declared.report.Data.{Data}
use Rattle.luks_keeping.specs.Kept.{header_size, lead_of, lead_size, HasHeader, HasKept, IsKept, IsUsedArea, KeptArea}
use Rattle.luks_keeping.specs.Laid.{choice_of, first_size, header_lead, second_size, HasSlot, HasSlot2, IsLaidOut}
use Rattle.luks_keeping.specs.Places.{header_end, AreApart, AreInside, HoldsAll, HoldsAreas, HoldsHeader, IsOfPlaces, IsOfWhole}
use Rattle.luks_keeping.specs.declared.places.Places.{Places}

-- ---- as areas that fit

-- a kept area is one of the header's
slot_area : (header : Header) (payload : Data) (total n : ℕ) (a : Area) → HasSlot header n a → HeaderArea header payload total (Slot n) a
slot_area (Luks1 bytes) payload total n a is = is.area
slot_area (Luks2 copy) payload total n a is = is

-- the header's places have names
head_end : (header : Header) (payload : Data) (total : ℕ) → Fit (HeaderArea header payload total) total → first_size header + second_size header ≤ total
head_end (Luks1 bytes) payload total fit = (let inside = fit.inside Head1 (record { start = 0; len = 592 }) (refl, refl) in omega (arith, inside))
head_end (Luks2 copy) payload total fit = fit.inside Head2 (record { start = copy.header.hdr_size; len = copy.header.hdr_size }) (refl, refl)

other_name : (n : ℕ) → Head1 ≢ Slot n
other_name n e = (let is : Head1 ≡ Slot n = e in cc)

second_name : (n : ℕ) → Head2 ≢ Slot n
second_name n e = (let is : Head2 ≡ Slot n = e in cc)

behind_of : (header : Header) (payload : Data) (total n : ℕ) (a : Area) → Fit (HeaderArea header payload total) total → HasSlot header n a
    → (p : ℕ) → IsAt a.start a.len p → first_size header + second_size header ≤ p
behind_of (Luks1 bytes) payload total n a fit is p at = elim (cases_lt p 592) [
  | inl below ↦ absurd (fit.disjoint Head1 (Slot n) (record { start = 0; len = 592 }) a (refl, refl) is.area (other_name n) p (omega arith, omega (arith, below)) at)
  | inr past ↦ omega (arith, past)
]
behind_of (Luks2 copy) payload total n a fit is p at = elim (cases_lt p copy.header.hdr_size) [
  | inl below ↦ absurd (fit.disjoint Head1 (Slot n) (record { start = 0; len = copy.header.hdr_size }) a (refl, refl) is (other_name n) p (omega arith, omega (arith, below)) at)
  | inr past ↦ elim (cases_lt p (copy.header.hdr_size + copy.header.hdr_size)) [
    | inl within ↦ absurd (fit.disjoint Head2 (Slot n) (record { start = copy.header.hdr_size; len = copy.header.hdr_size }) a (refl, refl) is (second_name n) p (past, within) at)
    | inr behind ↦ behind
  ]
]

module _ (header : Header) (places : Places) (laid : IsLaidOut header places) (payload : Data) (total : ℕ) (fit : Fit (HeaderArea header payload total) total) where
  pub apart : AreApart places
  apart = record {
    behind = λ n a is p at. (
        let behind = behind_of header payload total n a fit (laid.only n a is) p at in
        let first = laid.first in
        let second = laid.second in
        omega (arith, behind, first, second));
    disjoint = λ m n a b x y other. fit.disjoint (Slot m) (Slot n) a b (slot_area header payload total m a (laid.only m a x)) (slot_area header payload total n b (laid.only n b y)) (λ e. other (ap name_number e));
  }

  pub inside : AreInside places total
  inside = record {
    header = (let all = head_end header payload total fit in let first = laid.first in let second = laid.second in omega (arith, all, first, second));
    areas = λ n a is. fit.inside (Slot n) a (slot_area header payload total n a (laid.only n a is));
  }

-- what lies inside lies inside what is larger
pub inside_larger : (places : Places) (small large : ℕ) → small ≤ large → AreInside places small → AreInside places large
inside_larger places small large le x = record {
  header = (let all = x.header in omega (arith, all, le));
  areas = λ n a is. (let all = x.areas n a is in omega (arith, all, le));
}

-- ---- as what is kept of the volume

pub chosen_of : (v : List ℕ) (header : Header) → IsHeader v header → Chosen v (choice_of header)
chosen_of v (Luks1 bytes) is = is.0
chosen_of v (Luks2 copy) is = is.chosen

-- a kept area is one of what is kept of the volume, and the other way round
pub to_kept : (v : List ℕ) (header : Header) → IsHeader v header → (n : ℕ) (a : Area) → HasSlot header n a → KeptArea v (choice_of header) n a
to_kept v (Luks1 bytes) is n a slot = subst (λ (h : List ℕ). IsUsedArea h n a) is.1 slot
to_kept v (Luks2 copy) is n a slot = record { value = content copy.meta; holds = is.metadata.json; area = slot }

pub from_kept : (v : List ℕ) (header : Header) → IsHeader v header → (n : ℕ) (a : Area) → KeptArea v (choice_of header) n a → HasSlot header n a
from_kept v (Luks1 bytes) is n a kept = subst (λ (h : List ℕ). IsUsedArea h n a) (sym is.1) kept
from_kept v (Luks2 copy) is n a kept =
    subst (λ (j : Value). HasSlot2 j n a) (one_value (json_at v copy.header.hdr_offset) kept.value (content copy.meta) kept.holds is.metadata.json) kept.area

size_of : (v : List ℕ) (header : Header) → IsHeader v header → first_size header + second_size header ≡ header_size v (choice_of header)
size_of v (Luks1 bytes) is = refl
size_of v (Luks2 copy) is = (let size : hdr_size (header_at v copy.header.hdr_offset) ≡ copy.header.hdr_size = is.header.hdr_size in omega (arith, size))

lead_small : (copies : Copies) → lead_of copies ≤ 512
lead_small InStep = omega arith
lead_small FirstNewer = omega arith
lead_small SecondNewer = omega arith
lead_small FirstOnly = omega arith
lead_small SecondOnly = omega arith

lead_is : (v : List ℕ) (header : Header) → IsHeader v header → min (header_lead header) (first_size header) ≡ lead_size (choice_of header)
lead_is v (Luks1 bytes) is = omega arith
lead_is v (Luks2 copy) is =
    let large = listed_at_least (hdr_size (header_at v copy.header.hdr_offset)) (chosen_is_sound v copy.header.hdr_offset copy.copies is.chosen.1).form.listed in
    let size : hdr_size (header_at v copy.header.hdr_offset) ≡ copy.header.hdr_size = is.header.hdr_size in
    let small = lead_small copy.copies in
    omega (arith, large, size, small)

-- what isn't kept is of the first copy
pub lead_within : (header : Header) (places : Places) → IsLaidOut header places → places.lead ≤ places.first
lead_within header places laid = (let lead = laid.lead in let first = laid.first in omega (arith, lead, first))

module _ (v : List ℕ) (header : Header) (is : IsHeader v header) (places : Places) (laid : IsLaidOut header places) where
  pub end_is : header_end places ≡ header_size v (choice_of header)
  end_is = (let size = size_of v header is in let first = laid.first in let second = laid.second in omega (arith, size, first, second))

  pub lead_same : places.lead ≡ lead_size (choice_of header)
  lead_same = laid.lead ∙ lead_is v header is

  pub kept_areas : (w : List ℕ) → HoldsAreas places v w → (n : ℕ) (a : Area) → KeptArea v (choice_of header) n a → part w a.start a.len ≡ part v a.start a.len
  kept_areas w held n a kept = held n a (laid.all n a (from_kept v header is n a kept))

  pub has_header : (w : List ℕ) → HoldsHeader places v w → part w 0 places.lead ≡ replicate places.lead 0 → HasHeader v (choice_of header) w
  has_header w held zeros = record {
    lead = subst (λ (n : ℕ). part w 0 n ≡ replicate n 0) lead_same zeros;
    behind = subst (λ (l : ℕ). part w l (header_size v (choice_of header) - l) ≡ part v l (header_size v (choice_of header) - l)) lead_same
        (subst (λ (n : ℕ). part w places.lead (n - places.lead) ≡ part v places.lead (n - places.lead)) end_is held);
  }

  pub has_kept : (w : List ℕ) → HoldsAll places v w → part w 0 places.lead ≡ replicate places.lead 0 → HasKept v (choice_of header) w
  has_kept w held zeros = record { header = has_header w held.header zeros; areas = kept_areas w held.areas }

  -- the places are of what is kept
  pub place_kept : (p : ℕ) → IsOfPlaces places p → IsKept v (choice_of header) p
  place_kept p (inl at) = inl (let low = at.0 in let high = at.1 in let end_ = end_is in (omega arith, omega (arith, low, high, end_)))
  place_kept p (inr x) = inr (record { number = x.number; area = x.of_place.area; is = to_kept v header is x.number x.of_place.area (laid.only x.number x.of_place.area x.of_place.is); at = x.of_place.at })

  -- so are the header's places and the key areas
  pub whole_is : (p : ℕ) → IsOfWhole places p → IsKept v (choice_of header) p
  whole_is p (inl at) = inl (let high = at.1 in let end_ = end_is in (omega arith, omega (arith, high, end_)))
  whole_is p (inr x) = inr (record { number = x.number; area = x.of_place.area; is = to_kept v header is x.number x.of_place.area (laid.only x.number x.of_place.area x.of_place.is); at = x.of_place.at })

  pub whole_kept : {u w : List ℕ} → SameBut (IsOfWhole places) u w → SameBut (IsKept v (choice_of header)) u w
  whole_kept same = same_but-wider whole_is same

-- what isn't kept is of the first sector
pub lead_below : (header : Header) (places : Places) → IsLaidOut header places → places.lead ≤ min 512 places.first
lead_below (Luks1 bytes) places laid = (let lead = laid.lead in omega (arith, lead))
lead_below (Luks2 copy) places laid = (let lead = laid.lead in let first = laid.first in let small = lead_small copy.copies in omega (arith, lead, first, small))
