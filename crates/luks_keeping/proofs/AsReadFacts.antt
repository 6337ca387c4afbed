-- The source as it was read: with zeros in some pieces of its key areas.
use Rattle.std.proofs.Common.{◌≡◌, ℕ, ◌+◌, ◌-◌, ◌<◌, ◌≤◌, List, ◌∷◌, All, length, replicate, get_or, inl, inr, refl, sym, ◌∙◌, arith}
use Rattle.std.proofs.lemmas.Grind.{same_number_lists}
use Rattle.std.proofs.lemmas.List.Elements.{All-cons, All-tail, All-weaker}
use Rattle.luks_area.specs.Ranges.{part, IsAt, SameBut}
use Rattle.luks_area.proofs.RangeFacts.{get_or-part, length-part_inside, part-same_but}
use Rattle.luks_area.specs.declared.area.Area.{Area}
use Rattle.luks_keeping.specs.Places.{header_end, AreApart, AreInside, CopiesHeader, CopiesInTurn, HasPlace, HoldsAreas, HoldsHeader, IsOfAreas}
use Rattle.luks_keeping.specs.ReadPlaces.{as_copied, HoldsBut, IsOfSome}
use Rattle.luks_keeping.specs.Unread.{zeroed, IsOfPieces}
use Rattle.luks_keeping.specs.declared.places.Places.{Places}
use Rattle.luks_keeping.proofs.ErasedFacts.{zeros_stand}
use Rattle.luks_keeping.proofs.PieceFacts.{each_place, of_pieces_or_not, zeroed_but, zeroed_long, zeroed_zero}
use Rattle.luks_keeping.proofs.PlaceFacts.{turn_header}

-- ---- bytes

-- two parts are equal where each byte is
same_part : (v w : List ℕ) (a : Area) → a.start + a.len ≤ length v → a.start + a.len ≤ length w → ((p : ℕ) → IsAt a.start a.len p → get_or w p 0 ≡ get_or v p 0)
    → part w a.start a.len ≡ part v a.start a.len
same_part v w a in_v in_w each =
    let long_w = length-part_inside w a.start a.len in_w in
    let long_v = length-part_inside v a.start a.len in_v in
    same_number_lists (part w a.start a.len) (part v a.start a.len) (omega (arith, long_w, long_v)) (λ k lt.
    let below : k < a.len = omega (arith, lt, long_w) in
    get_or-part w a.start a.len k below ∙ each (a.start + k) (omega arith, omega (arith, below)) ∙ sym (get_or-part v a.start a.len k below))

-- an area with none of the pieces was copied whole
pub none_missing : (xs : List Area) (v w : List ℕ) (a : Area) → a.start + a.len ≤ length v → a.start + a.len ≤ length w → ((p : ℕ) → IsAt a.start a.len p → IsOfPieces xs p → ⊥)
    → HoldsBut xs v w a.start a.len → part w a.start a.len ≡ part v a.start a.len
none_missing xs v w a in_v in_w none holds = same_part v w a in_v in_w (λ p at. holds.read p at (none p at))

module _ (v : List ℕ) (places : Places) (apart : AreApart places) (there : AreInside places (length v)) (lead : places.lead ≤ places.first) where
  -- a piece lies behind the header, and inside
  piece_behind : (x : Area) → IsOfSome places x → header_end places ≤ x.start
  piece_behind x y =
      let low = y.is.piece_in.low in
      let high = y.is.piece_in.high in
      let some = y.is.piece_in.some in
      apart.behind y.number y.is.area y.is.is x.start (low, omega (arith, high, some))

  piece_inside : (x : Area) → IsOfSome places x → x.start + x.len ≤ length v
  piece_inside x y =
      let high = y.is.piece_in.high in
      let within = there.areas y.number y.is.area y.is.is in
      omega (arith, high, within)

  module _ (xs : List Area) (each : All (IsOfSome places) xs) where
    lie : All (λ (x : Area). x.start + x.len ≤ length v) (record { start = 0; len = places.lead } ∷ xs)
    lie =
        let header = there.header in
        All-cons (λ (x : Area). x.start + x.len ≤ length v) (record { start = 0; len = places.lead }) xs (omega (arith, header, lead))
        (All-weaker (IsOfSome places) (λ (x : Area). x.start + x.len ≤ length v) piece_inside xs each)

    pub read_long : length (as_copied places xs v) ≡ length v
    read_long = zeroed_long v (record { start = 0; len = places.lead } ∷ xs) lie

    but : SameBut (IsOfPieces (record { start = 0; len = places.lead } ∷ xs)) v (as_copied places xs v)
    but = zeroed_but v (record { start = 0; len = places.lead } ∷ xs) lie

    pub read_lead : part (as_copied places xs v) 0 places.lead ≡ replicate places.lead 0
    read_lead =
        let before = zeroed_long v xs (All-tail (λ (x : Area). x.start + x.len ≤ length v) (record { start = 0; len = places.lead }) xs lie) in
        let header = there.header in
        zeros_stand (zeroed xs v) (as_copied places xs v) 0 places.lead (omega (arith, before, header, lead)) refl

    -- what is in the header's places behind that is its own
    header_part : (at n : ℕ) → places.lead ≤ at → at + n ≤ header_end places → part (as_copied places xs v) at n ≡ part v at n
    header_part at n low high = part-same_but at n but (λ p here other. elim other [
      | inl front ↦ (let from = here.0 in let end_ = front.1 in absurd (omega (arith, low, from, end_)))
      | inr later ↦ (
          let to = here.1 in
          let behind = each_place (IsOfSome places) (λ q. header_end places ≤ q) (λ x own q inside. (let from = inside.0 in let first = piece_behind x own in omega (arith, from, first))) xs each p later in
          absurd (omega (arith, to, behind, high)))
    ])

    pub read_header : HoldsHeader places v (as_copied places xs v)
    read_header = header_part places.lead (header_end places - places.lead) (omega arith) (omega (arith, lead))

    -- the key areas that were copied are its own
    pub areas_read : (w : List ℕ) → AreInside places (length w) → ((k : ℕ) (a : Area) → k < 32 → HasPlace places k a → HoldsBut xs v w a.start a.len) → HoldsAreas places (as_copied places xs v) w
    areas_read w within holds n a has =
        let same = read_long in
        let in_v = there.areas n a has in
        let x = holds n a has.0 has in
        same_part (as_copied places xs v) w a (omega (arith, same, in_v)) (within.areas n a has) (λ p at. elim (of_pieces_or_not xs p) [
          | inl of ↦ x.zeros p at of ∙ sym (zeroed_zero v (record { start = 0; len = places.lead } ∷ xs) lie p (inr of))
          | inr none ↦ x.read p at none ∙ sym (but.each p (λ is. elim is [
            | inl front ↦ (
                let high = front.1 in
                let behind = apart.behind n a has p at in
                absurd (omega (arith, high, behind, lead)))
            | inr of ↦ none of
          ]))
        ])

    -- the steps keep the order
    pub turn_read : (u a c : List ℕ) → SameBut (IsOfAreas places) u a → AreInside places (length a) → ((k : ℕ) (b : Area) → k < 32 → HasPlace places k b → HoldsBut xs v a b.start b.len)
        → CopiesHeader places v a c → CopiesInTurn places (as_copied places xs v) u c
    turn_read u a c same within holds turn = turn_header places apart lead (as_copied places xs v) u a c same (areas_read a within holds) (elim turn [
      | inl front ↦ inl front
      | inr x ↦ inr (x.0, x.1 ∙ sym (header_part places.first places.second lead (omega arith)))
    ])
