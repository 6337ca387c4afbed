-- What copying key areas and headers leaves.
use Rattle.std.proofs.Common.{◌≡◌, ℕ, ◌+◌, ◌-◌, ◌<◌, ◌≤◌, ◌++◌, List, replicate, append-nil, Some, None, sym, ap, subst, ◌∙◌, arith, inl, inr, Result, Ok, Err, OnOk, get_or}
use Rattle.std.proofs.lemmas.Bool.{cases_eq}
use Rattle.luks_area.specs.Ranges.{part, IsAt, SameBut}
use Rattle.luks_area.proofs.RangeFacts.{part-add, part-part, part-same_but, same_but-wider}
use Rattle.luks_area.specs.declared.area.Area.{Area}
use Rattle.luks_keeping.specs.Places.{header_end, AreApart, CopiesHeader, CopiesInTurn, HasPlace, HoldsAll, HoldsAreas, HoldsHeader, IsOfAreas, IsOfHeader, IsOfPlace, IsOfPlaces}
use Rattle.luks_keeping.specs.declared.places.Places.{Places}

some_same : {A : Type 0} (x y : A) → Some x ≡ Some y → x ≡ y
some_same x y e = cc

-- a keyslot has one area
pub one_place : (places : Places) (n : ℕ) (a b : Area) → HasPlace places n a → HasPlace places n b → a ≡ b
one_place places n a b p q = some_same a b (sym p.1 ∙ q.1)

-- a keyslot without an area has none
pub no_place : (places : Places) (n : ℕ) (a : Area) → get_or places.areas n None ≡ None → HasPlace places n a → ⊥
no_place places n a gone is = let some = is.1 in absurd (cc)

-- ---- one area

pub whole_copied : (s w : List ℕ) (start len : ℕ) → part w start len ≡ part s start len ++ replicate (len - len) 0 → part w start len ≡ part s start len
whole_copied s w start len copied =
    let none : len - len ≡ 0 = omega arith in
    copied ∙ ap (λ n. part s start len ++ replicate n 0) none ∙ append-nil (part s start len)

copied_as : (places : Places) (n : ℕ) (b : Area) (s w : List ℕ) → HasPlace places n b → part w b.start b.len ≡ part s b.start b.len ++ replicate (b.len - b.len) 0
    → (a : Area) → HasPlace places n a → part w a.start a.len ≡ part s a.start a.len
copied_as places n b s w has copied a is =
    subst (λ (x : Area). part w x.start x.len ≡ part s x.start x.len) (one_place places n b a has is) (whole_copied s w b.start b.len copied)

pub place_copied : {A F : Type 0} (r : Result A F) (places : Places) (n : ℕ) (b : Area) (s w : List ℕ) → HasPlace places n b
    → OnOk r (part w b.start b.len ≡ part s b.start b.len ++ replicate (b.len - b.len) 0)
    → OnOk r ((a : Area) → HasPlace places n a → part w a.start a.len ≡ part s a.start a.len)
place_copied (Ok x) places n b s w has copied = copied_as places n b s w has copied
place_copied (Err f) places n b s w has copied = tt

pub of_place : {u w : List ℕ} (places : Places) (n : ℕ) (a : Area) → HasPlace places n a → SameBut (IsAt a.start a.len) u w → SameBut (IsOfPlace places n) u w
of_place places n a has same = same_but-wider (λ p here. record { area = a; is = has; at = here }) same

-- ---- the areas of several keyslots

module _ (places : Places) (apart : AreApart places) where
  stays : (s u w : List ℕ) (m n : ℕ) (a : Area) → m < n → HasPlace places m a → SameBut (IsOfPlace places n) u w
      → part u a.start a.len ≡ part s a.start a.len → part w a.start a.len ≡ part s a.start a.len
  stays s u w m n a less has same there =
      part-same_but a.start a.len same (λ p here other.
      apart.disjoint m n a other.area has other.is (λ e. omega (arith, e, less)) p here other.at) ∙ there

  pub next_copied : (s u w : List ℕ) (n : ℕ)
      → ((m : ℕ) (a : Area) → m < n → HasPlace places m a → part u a.start a.len ≡ part s a.start a.len)
      → SameBut (IsOfPlace places n) u w → ((a : Area) → HasPlace places n a → part w a.start a.len ≡ part s a.start a.len)
      → (m : ℕ) (a : Area) → m < n + 1 → HasPlace places m a → part w a.start a.len ≡ part s a.start a.len
  next_copied s u w n before same there m a below has = elim (cases_eq m n) [
    | inl is ↦ there a (subst (λ k. HasPlace places k a) is has)
    | inr other ↦ (let less : m < n = omega (arith, below, other) in stays s u w m n a less has same (before m a less has))
  ]

pub one_of : {u w : List ℕ} (places : Places) (n : ℕ) → SameBut (IsOfPlace places n) u w → SameBut (IsOfAreas places) u w
one_of places n same = same_but-wider (λ p is. record { number = n; of_place = is }) same

-- ---- the header behind them

module _ (places : Places) (apart : AreApart places) where
  -- what is written in the header's places leaves the key areas
  areas_stay : (s u w : List ℕ) → SameBut (IsAt 0 (header_end places)) u w → HoldsAreas places s u → HoldsAreas places s w
  areas_stay s u w same there n a has =
      part-same_but a.start a.len same (λ p here other. (
      let behind = apart.behind n a has p here in
      let high = other.1 in
      absurd (omega (arith, behind, high)))) ∙ there n a has

  -- what is written in the key areas leaves the header's places
  pub header_stays : (u w : List ℕ) → SameBut (IsOfAreas places) u w → part w 0 (header_end places) ≡ part u 0 (header_end places)
  header_stays u w same = part-same_but 0 (header_end places) same (λ p here other. (
      let behind = apart.behind other.number other.of_place.area other.of_place.is p other.of_place.at in
      let high = here.1 in
      absurd (omega (arith, behind, high))))

  module _ (lead : places.lead ≤ places.first) where
    wide : {u w : List ℕ} (start len : ℕ) → start + len ≤ header_end places → SameBut (IsAt start len) u w → SameBut (IsAt 0 (header_end places)) u w
    wide start len inside same = same_but-wider (λ p here. (let low = here.0 in omega (arith, low), let high = here.1 in omega (arith, high, inside))) same

    pub of_header : {u w : List ℕ} → SameBut (IsOfHeader places) u w → SameBut (IsOfPlaces places) u w
    of_header same = same_but-wider (λ p here. inl here) same

    pub of_areas : {u w : List ℕ} → SameBut (IsOfAreas places) u w → SameBut (IsOfPlaces places) u w
    of_areas same = same_but-wider (λ p here. inr here) same

    -- the header that is written leaves the key areas
    pub areas_held : (s a c : List ℕ) → SameBut (IsOfHeader places) a c → HoldsAreas places s a → HoldsAreas places s c
    areas_held s a c same held = areas_stay s a c (wide places.lead (header_end places - places.lead) (omega (arith, lead)) same) held

    -- the bytes from 0 on, behind the key areas' step
    front : (v : List ℕ) → part (part v 0 (header_end places)) 0 places.first ≡ part v 0 places.first
    front v = part-part v 0 (header_end places) 0 places.first (omega arith)

    -- the steps: `u` before, `a` after the key areas, `c` at any time after that
    pub turn_header : (s u a c : List ℕ) → SameBut (IsOfAreas places) u a → HoldsAreas places s a → CopiesHeader places s a c → CopiesInTurn places s u c
    turn_header s u a c areas held turn = elim turn [
      | inl same ↦ (
          let first : part c 0 places.first ≡ part a 0 places.first =
          part-same_but 0 places.first same (λ p here other. (let low = other.0 in let high = here.1 in absurd (omega (arith, low, high)))) in
          let before : part a 0 places.first ≡ part u 0 places.first = sym (front a) ∙ ap (λ l. part l 0 places.first) (header_stays u a areas) ∙ front u in
          inr (inl (first ∙ before, areas_stay s a c (wide places.first places.second (omega arith) same) held)))
      | inr x ↦ inr (inr (record { areas = areas_held s a c x.0 held; second = x.1 }))
    ]

    pub all_held : (s a c : List ℕ) → SameBut (IsOfHeader places) a c → HoldsAreas places s a → HoldsHeader places s c → HoldsAll places s c
    all_held s a c same held header = record { areas = areas_held s a c same held; header = header }

-- ---- the header's two copies, the second first

module _ (places : Places) (lead : places.lead ≤ places.first) where
  pub of_second : {u w : List ℕ} → SameBut (IsAt places.first places.second) u w → SameBut (IsOfHeader places) u w
  of_second same = same_but-wider (λ p here. (let low = here.0 in omega (arith, low, lead), let high = here.1 in omega (arith, high, lead))) same

  pub of_first : {u w : List ℕ} → SameBut (IsAt places.lead (places.first - places.lead)) u w → SameBut (IsOfHeader places) u w
  of_first same = same_but-wider (λ p here. (here.0, let high = here.1 in omega (arith, high, lead))) same

  -- the second stays while the first is written
  pub second_stays : (s b c : List ℕ) → SameBut (IsAt places.lead (places.first - places.lead)) b c → part b places.first places.second ≡ part s places.first places.second
      → part c places.first places.second ≡ part s places.first places.second
  second_stays s b c last there = part-same_but places.first places.second last (λ p here other. (let low = here.0 in let high = other.1 in absurd (omega (arith, low, high, lead)))) ∙ there

  -- both make the header
  pub header_held : (s c : List ℕ) → part c places.first places.second ≡ part s places.first places.second → part c places.lead (places.first - places.lead) ≡ part s places.lead (places.first - places.lead)
      → HoldsHeader places s c
  header_held s c second begins =
      let n : ℕ = places.first - places.lead in
      let from : places.lead + n ≡ places.first = omega (arith, lead) in
      let len : header_end places - places.lead ≡ n + places.second = omega (arith, lead) in
      let both : (v : List ℕ) → part v places.lead (header_end places - places.lead) ≡ part v places.lead n ++ part v places.first places.second =
      λ v. ap (part v places.lead) len ∙ part-add v places.lead n places.second ∙ ap (λ k. part v places.lead n ++ part v k places.second) from in
      both c ∙ ap (λ l. l ++ part c places.first places.second) begins ∙ ap (λ l. part s places.lead n ++ l) second ∙ sym (both s)
