-- There is one first composition, and it is one of those that are tried.
use Rattle.std.proofs.Common.{◌≡◌, ℕ, ◌+◌, ◌-◌, ◌*◌, ◌≤◌, List, ◌++◌, ◌⊎◌, inl, inr, length, drop, sym, ap, ◌∙◌, arith, subst}
use Rattle.std.proofs.lemmas.Bool.{cases_lt}
use Rattle.std.proofs.lemmas.List.{take-append-drop}
use Rattle.luks_area.specs.Ranges.{part}
use Rattle.luks_area.proofs.RangeFacts.{length-part_inside, part-add}
use Rattle.luks2_header.specs.Header2.{copy_at, hdr_size, header_at, with_zero_checksum, IsSound}
use Rattle.luks2_header.proofs.BinaryHeaderFacts.{zeroed_then}
use Rattle.luks2_header.proofs.CopyFacts.{listed_at_least}
use Rattle.sha2.specs.Sha256.{sha256}
use Rattle.luks_meta.specs.MetaFault.{IsMetaFault}
use Rattle.luks_vouching.specs.Composed.{bordered, sector, IsComposed, IsEarlier, IsNotLater}
use Rattle.luks_vouching.specs.Cut.{IsCut}
use Rattle.luks_vouching.specs.Pieces.{of_pieces, IsOfPieces}
use Rattle.luks_vouching.specs.Tried.{bytes_of_all, HasNoBorder, HasNoCut, IsByBorder, IsFirstBorder, IsFirstComposed, IsFirstCut, IsFirstOfAll, IsFirstOfBorders, IsFirstOfPieces, IsFirstOfSectors, IsFirstTried, IsTried, IsTriedComposed, IsTriedOfPieces, IsTriedOfSectors}
use Rattle.luks_vouching.specs.Vouched.{area_at, mended_header, IsVouched, Meets, Stands, VouchesForNone}
use Rattle.luks_vouching.proofs.BorderFacts.{bordered_composed}
use Rattle.luks_vouching.proofs.SectorFacts.{sector_take}

-- of two compositions not both are earlier
not_both : (a i j : List ℕ) → IsEarlier a i j → IsEarlier a j i → ⊥
not_both a i j x y = elim (cases_lt x.number y.number) [
  | inl less ↦ x.differs (
      sym (sector_take j y.number x.number less) ∙ ap (λ l. sector l x.number) y.alike ∙ sector_take i y.number x.number less ∙ x.own)
  | inr past ↦ elim (cases_lt y.number x.number) [
    | inl less ↦ y.differs (
        sym (sector_take i x.number y.number less) ∙ ap (λ l. sector l y.number) x.alike ∙ sector_take j x.number y.number less ∙ y.own)
    | inr not_past ↦
        let same : x.number ≡ y.number = omega (arith, past, not_past) in
        y.differs (ap (sector i) (sym same) ∙ x.own ∙ ap (sector a) same)
  ]
]

one_order : (a i j : List ℕ) → IsNotLater a i j → IsNotLater a j i → i ≡ j
one_order a i j (inl same) y = same
one_order a i j (inr x) (inl same) = sym same
one_order a i j (inr x) (inr y) = absurd (not_both a i j x y)

one_of_all : (a b i j : List ℕ) (meets : List ℕ → Type 0) → IsFirstOfAll a b meets i → IsFirstOfAll a b meets j → i ≡ j
one_of_all a b i j meets x y = one_order a i j (x.earliest j y.composed y.met) (y.earliest i x.composed x.met)

one_border : (most : ℕ) (a b i j : List ℕ) (meets : List ℕ → Type 0) → IsFirstBorder most a b meets i → IsFirstBorder most a b meets j → i ≡ j
one_border most a b i j meets x y =
    let le : x.number ≤ y.number = x.least y.number (subst meets y.is y.met) in
    let ge : y.number ≤ x.number = y.least x.number (subst meets x.is x.met) in
    let same : x.number ≡ y.number = omega (arith, le, ge) in
    x.is ∙ ap (bordered a b) same ∙ sym y.is

no_such : (most : ℕ) (a b j : List ℕ) (meets : List ℕ → Type 0) → HasNoBorder most a b meets → IsFirstBorder most a b meets j → ⊥
no_such most a b j meets none x = none x.number x.near (subst meets x.is x.met)

one_of_borders : (most : ℕ) (a b i j : List ℕ) (meets : List ℕ → Type 0) → IsFirstOfBorders most a b meets i → IsFirstOfBorders most a b meets j → i ≡ j
one_of_borders most a b i j meets (inl x) (inl y) = one_border most a b i j meets x y
one_of_borders most a b i j meets (inl x) (inr y) = absurd (no_such most a b i meets y.0 x)
one_of_borders most a b i j meets (inr x) (inl y) = absurd (no_such most a b j meets x.0 y)
one_of_borders most a b i j meets (inr x) (inr y) = one_border most b a i j meets x.1 y.1

one_of_sectors : (most : ℕ) (a b i j : List ℕ) (meets : List ℕ → Type 0) → IsFirstOfSectors most a b meets i → IsFirstOfSectors most a b meets j → i ≡ j
one_of_sectors most a b i j meets x y = elim (cases_lt most (bytes_of_all a b)) [
  | inl many ↦ one_of_borders most a b i j meets (x.many many) (y.many many)
  | inr few ↦ one_of_all a b i j meets (x.few few) (y.few few)
]

one_cut : (a b i j : List ℕ) (meets : List ℕ → Type 0) → IsFirstCut a b meets i → IsFirstCut a b meets j → i ≡ j
one_cut a b i j meets (inl x) (inl y) = x.0 ∙ sym y.0
one_cut a b i j meets (inl x) (inr y) = absurd (y.0 (subst meets x.0 x.1))
one_cut a b i j meets (inr x) (inl y) = absurd (x.0 (subst meets y.0 y.1))
one_cut a b i j meets (inr x) (inr y) = x.1 ∙ sym y.1

no_cut : (a b j : List ℕ) (meets : List ℕ → Type 0) → HasNoCut a b meets → IsFirstCut a b meets j → ⊥
no_cut a b j meets none (inl x) = none.0 (subst meets x.0 x.1)
no_cut a b j meets none (inr x) = none.1 (subst meets x.1 x.2)

one_of_pieces : (most : ℕ) (a b i j : List ℕ) (meets : List ℕ → Type 0) → IsFirstOfPieces most a b meets i → IsFirstOfPieces most a b meets j → i ≡ j
one_of_pieces most a b i j meets x y =
    let le : x.number ≤ y.number = x.least y.number y.below (subst meets y.is y.met) in
    let ge : y.number ≤ x.number = y.least x.number x.below (subst meets x.is x.met) in
    let same : x.number ≡ y.number = omega (arith, le, ge) in
    x.is ∙ ap (of_pieces a b) same ∙ sym y.is

swapped : (a b j : List ℕ) → IsComposed b a j → IsComposed a b j
swapped a b j x = record {
  as_first = x.as_second;
  as_second = x.as_first;
  each = λ k lt. elim (x.each k lt) [ inl other ↦ inr other | inr own ↦ inl own ];
}

module _ (most : ℕ) (a b j : List ℕ) (meets : List ℕ → Type 0) (long : length b ≡ length a) where
  border_composed : IsFirstOfBorders most a b meets j → IsComposed a b j
  border_composed (inl x) = subst (IsComposed a b) (sym x.is) (bordered_composed a b long x.number)
  border_composed (inr x) = swapped a b j (subst (IsComposed b a) (sym x.1.is) (bordered_composed b a (sym long) x.1.number))

  border_of : IsFirstOfBorders most a b meets j → IsByBorder most a b j
  border_of (inl x) = inl (x.number, x.near, x.is)
  border_of (inr x) = inr (x.1.number, x.1.near, x.1.is)

  border_met : IsFirstOfBorders most a b meets j → meets j
  border_met (inl x) = x.met
  border_met (inr x) = x.1.met

  sectors_tried : IsFirstOfSectors most a b meets j → IsTriedOfSectors most a b j
  sectors_tried x = elim (cases_lt most (bytes_of_all a b)) [
    | inl many ↦ record { composed = border_composed (x.many many); by_border = λ _. border_of (x.many many) }
    | inr few ↦ record { composed = (x.few few).composed; by_border = λ many. absurd (omega (arith, few, many)) }
  ]

  sectors_met : IsFirstOfSectors most a b meets j → meets j
  sectors_met x = elim (cases_lt most (bytes_of_all a b)) [
    | inl many ↦ border_met (x.many many)
    | inr few ↦ (x.few few).met
  ]

  pieces_tried : IsFirstOfPieces most a b meets j → IsTriedOfPieces most a b j
  pieces_tried x = (x.may, (x.number, x.below, x.is))

  composed_tried : IsFirstComposed most a b meets j → IsTriedComposed most a b j
  composed_tried (inl x) = inl (sectors_tried x)
  composed_tried (inr x) = inr (pieces_tried x.1)

  composed_met : IsFirstComposed most a b meets j → meets j
  composed_met (inl x) = sectors_met x
  composed_met (inr x) = x.1.met

  cut_tried : IsFirstCut a b meets j → IsCut a b j
  cut_tried (inl x) = inl x.0
  cut_tried (inr x) = inr x.1

  cut_met : IsFirstCut a b meets j → meets j
  cut_met (inl x) = x.1
  cut_met (inr x) = x.2

  -- it is tried, and meets the checksum
  pub first_tried : IsFirstTried most a b meets j → IsTried most a b j
  first_tried x = elim x.1 [
    | inl one ↦ (x.0, inl (cut_tried one))
    | inr other ↦ (x.0, inr (composed_tried other.1))
  ]

  pub first_met : IsFirstTried most a b meets j → meets j
  first_met x = elim x.1 [
    | inl one ↦ cut_met one
    | inr other ↦ composed_met other.1
  ]

one_composed : (most : ℕ) (a b i j : List ℕ) (meets : List ℕ → Type 0) → length b ≡ length a → IsFirstComposed most a b meets i → IsFirstComposed most a b meets j → i ≡ j
one_composed most a b i j meets long (inl x) (inl y) = one_of_sectors most a b i j meets x y
one_composed most a b i j meets long (inl x) (inr y) = absurd (y.0 i (sectors_tried most a b i meets long x) (sectors_met most a b i meets long x))
one_composed most a b i j meets long (inr x) (inl y) = absurd (x.0 j (sectors_tried most a b j meets long y) (sectors_met most a b j meets long y))
one_composed most a b i j meets long (inr x) (inr y) = one_of_pieces most a b i j meets x.1 y.1

-- one is the first
pub one_tried : (most : ℕ) (a b i j : List ℕ) (meets : List ℕ → Type 0) → length b ≡ length a → IsFirstTried most a b meets i → IsFirstTried most a b meets j → i ≡ j
one_tried most a b i j meets long x y = elim x.1 [
  | inl p ↦ elim y.1 [
    | inl q ↦ one_cut a b i j meets p q
    | inr q ↦ absurd (no_cut a b i meets q.0 p)
  ]
  | inr p ↦ elim y.1 [
    | inl q ↦ absurd (no_cut a b j meets p.0 q)
    | inr q ↦ one_composed most a b i j meets long p.1 q.1
  ]
]

-- both areas are of one length
pub areas_long : (v : List ℕ) (size : ℕ) → 4096 ≤ size → 2 * size ≤ length v → length (area_at v size size) ≡ length (area_at v 0 size)
areas_long v size large inside =
    length-part_inside v (size + 4096) (size - 4096) (omega (arith, large, inside))
    ∙ sym (length-part_inside v (0 + 4096) (size - 4096) (omega (arith, large, inside)))

module _ (most : ℕ) (v : List ℕ) (size o : ℕ) where
  stands_long : Stands v size o → length (area_at v size size) ≡ length (area_at v 0 size)
  stands_long x =
      let large : 16384 ≤ size = listed_at_least size x.listed in
      areas_long v size (omega (arith, large)) x.both_inside

  pub vouched_tried : (j : List ℕ) → IsVouched most v size o j → IsTried most (area_at v 0 size) (area_at v size size) j
  vouched_tried j x = first_tried most (area_at v 0 size) (area_at v size size) j (Meets v o) (stands_long x.stands) x.meeting

  pub vouched_composed : (j : List ℕ) → IsVouched most v size o j
      → IsCut (area_at v 0 size) (area_at v size size) j
      ⊎ (IsComposed (area_at v 0 size) (area_at v size size) j ⊎ IsOfPieces (area_at v 0 size) (area_at v size size) j)
  vouched_composed j x = elim (vouched_tried j x).1 [
    | inl one ↦ inl one
    | inr composed ↦ inr (elim composed [ inl sectors ↦ inl sectors.composed | inr bytes ↦ inr bytes.1 ])
  ]

  pub vouched_meets : (j : List ℕ) → IsVouched most v size o j → Meets v o j
  vouched_meets j x = first_met most (area_at v 0 size) (area_at v size size) j (Meets v o) (stands_long x.stands) x.meeting

  pub vouched_once : (i j : List ℕ) → IsVouched most v size o i → IsVouched most v size o j → i ≡ j
  vouched_once i j x y = one_tried most (area_at v 0 size) (area_at v size size) i j (Meets v o) (stands_long x.stands) x.meeting y.meeting

  pub none_vouched : (j : List ℕ) → VouchesForNone most v size o → IsVouched most v size o j → ⊥
  none_vouched j (inl not_there) x = not_there x.stands
  none_vouched j (inr (inl none)) x = none j (vouched_tried j x) (vouched_meets j x)
  none_vouched j (inr (inr bad)) x =
      let same : bad.area ≡ j = one_tried most (area_at v 0 size) (area_at v size size) bad.area j (Meets v o) (stands_long x.stands) bad.meeting x.meeting in
      x.faultless bad.fault (subst (λ (l : List ℕ). IsMetaFault l bad.fault) same bad.is)

-- a sound copy has the magic of its place, and its own area meets its checksum
pub sound_meets : (v : List ℕ) (o : ℕ) → IsSound v o → Meets v o (area_at v o (hdr_size (header_at v o)))
sound_meets v o x =
    let size : ℕ = hdr_size (header_at v o) in
    let large : 16384 ≤ size = listed_at_least size x.form.listed in
    let mended : mended_header v o ≡ header_at v o = ap (λ l. l ++ drop 6 (header_at v o)) (sym x.form.magic) ∙ take-append-drop 6 (header_at v o) in
    let n : size ≡ 4096 + (size - 4096) = omega (arith, large) in
    let whole : copy_at v o ≡ header_at v o ++ area_at v o size = ap (part v o) n ∙ part-add v o 4096 (size - 4096) in
    let long : length (header_at v o) ≡ 4096 = let inside = x.form.inside in length-part_inside v o 4096 (omega (arith, large, inside)) in
    ap (λ h. part h 448 32) mended ∙ x.checksum
    ∙ ap sha256 (ap with_zero_checksum whole ∙ zeroed_then (header_at v o) (area_at v o size) long)
    ∙ ap (λ h. sha256 (with_zero_checksum h ++ area_at v o size)) (sym mended)
