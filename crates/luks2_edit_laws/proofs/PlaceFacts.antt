-- The areas that no byte of an edit's places is in.
use Rattle.std.proofs.Common.{◌≡◌, ◌≢◌, ℕ, ◌+◌, ◌*◌, ◌<◌, ◌≤◌, List, inl, inr, refl, sym, ap, subst, arith}
use Rattle.std.specs.Prelude.{⊤}
use Rattle.std.proofs.lemmas.Bool.{cases_lt}
use Rattle.serde_json.specs.Data.{Data as Value}
use Rattle.luks_area.specs.declared.area.Area.{Area}
use Rattle.luks_area.specs.declared.area.AreaName.{AreaName}
use Rattle.luks_area.specs.declared.area.AreaName.TheVariants.{Head1, Head2, Slot, Segment}
use Rattle.luks_area.specs.Area.{name_kind, name_number, Fit}
use Rattle.luks_area.proofs.RangeFacts.{part-same_but}
use Rattle.luks_area.specs.Ranges.{part, IsAt, SameBut}
use Rattle.luks_area.specs.Sectors.{rounded_to_sectors}
use Rattle.luks_reading.specs.declared.report.Data.{Data}
use Rattle.luks_reading.specs.Layout2.{Luks2Area}
use Rattle.luks_edit.specs.declared.edit.Edit.{Edit}
use Rattle.luks_edit.specs.declared.edit.Edit.TheVariants.{Add, AddByKey, Change, Remove, Erase, Repair, Label, Uuid, Amend}
use Rattle.luks_edit.specs.Asked.{Loses}
use Rattle.luks2_edit_laws.specs.declared.like.Like.{Like}
use Rattle.luks2_edit_laws.specs.Places.{rounded_to_blocks, IsOfCopies, IsOfKeyslot, IsOfLost, IsOfNewKeyslot, IsOfSealed, IsTouched}

-- the sectors of the stripes lie in their blocks
pub sectors_in_blocks : (bytes : ℕ) → rounded_to_sectors bytes ≤ rounded_to_blocks bytes
sectors_in_blocks bytes = omega arith

-- the area is of a segment, or of a keyslot that doesn't lose it
abbrev pub IsLeft : Edit → AreaName → Type 0
IsLeft e Head1 = ⊥
IsLeft e Head2 = ⊥
IsLeft e (Slot n) = Loses e n → ⊥
IsLeft e (Segment n) = ⊤

not_head : (e : Edit) (n : AreaName) → IsLeft e n → 2 ≤ name_kind n
not_head e Head1 left = absurd left
not_head e Head2 left = absurd left
not_head e (Slot n) left = omega arith
not_head e (Segment n) left = omega arith

other_slot : (m : ℕ) (e : Edit) (n : AreaName) → IsLeft e n → Loses e m → n ≢ Slot m
other_slot m e Head1 left lost = absurd left
other_slot m e Head2 left lost = absurd left
other_slot m e (Slot n) left lost = λ same. left (subst (Loses e) (ap name_number (sym same)) lost)
other_slot m e (Segment n) left lost = λ same. (let kind : 3 ≡ 2 = ap name_kind same in absurd (omega (arith, kind)))

module _ (h total : ℕ) (payload : Data) (j : Value) (e : Edit) (fit : Fit (Luks2Area j h payload total) total) where
  module _ (n : AreaName) (a : Area) (left : IsLeft e n) (is : Luks2Area j h payload total n a) (p : ℕ) (at : IsAt a.start a.len p) where
    beside_copies : IsOfCopies h p → ⊥
    beside_copies within =
        let kind : 2 ≤ name_kind n = not_head e n left in
        elim (cases_lt p h) [
          | inl first ↦ fit.disjoint n Head1 a (record { start = 0; len = h }) is (refl, refl)
              (λ same. (let zero_ : name_kind n ≡ 0 = ap name_kind same in absurd (omega (arith, kind, zero_)))) p at (omega arith, omega (arith, first))
          | inr past ↦ fit.disjoint n Head2 a (record { start = h; len = h }) is (refl, refl)
              (λ same. (let one : name_kind n ≡ 1 = ap name_kind same in absurd (omega (arith, kind, one)))) p at (past, omega (arith, within))
        ]

    beside_new : (like : Like) → IsOfNewKeyslot h total payload j p like → ⊥
    beside_new like x =
        let fits : rounded_to_sectors (x.is.key_bytes * x.is.stripes) ≤ rounded_to_blocks (x.is.key_bytes * x.is.stripes) =
        sectors_in_blocks (x.is.key_bytes * x.is.stripes) in
        let len : x.area.len ≡ rounded_to_blocks (x.is.key_bytes * x.is.stripes) = x.is.len in
        let end_ : p < x.area.start + rounded_to_sectors (x.is.key_bytes * x.is.stripes) = x.at.1 in
        x.is.gap.gap.free n a is p at (x.at.0, omega (arith, fits, len, end_))

    beside_lost : (m : ℕ) → Loses e m → IsOfKeyslot j m p → ⊥
    beside_lost m lost x = fit.disjoint n (Slot m) a x.area is x.is (other_slot m e n left lost) p at x.at

-- no byte of such an area is of what is sealed
beside_sealed : (h total : ℕ) (payload : Data) (j : Value) (e : Edit) (fit : Fit (Luks2Area j h payload total) total) (n : AreaName) (a : Area)
    → IsLeft e n → Luks2Area j h payload total n a → (p : ℕ) → IsAt a.start a.len p → IsOfSealed h total payload j e p → ⊥
beside_sealed h total payload j (Add by_ old new to iterations d) fit n a left is p at x =
    beside_new h total payload j (Add by_ old new to iterations d) fit n a left is p at x.like x.has
beside_sealed h total payload j (AddByKey key new to iterations d) fit n a left is p at x =
    beside_new h total payload j (AddByKey key new to iterations d) fit n a left is p at x.like x.has
beside_sealed h total payload j (Change slot old new iterations d) fit n a left is p at x =
    beside_new h total payload j (Change slot old new iterations d) fit n a left is p at x.like x.has
beside_sealed h total payload j (Remove slot by_ passphrase) fit n a left is p at x = x
beside_sealed h total payload j Erase fit n a left is p at x = x
beside_sealed h total payload j Repair fit n a left is p at x = x
beside_sealed h total payload j (Label text subsystem) fit n a left is p at x = x
beside_sealed h total payload j (Uuid uuid) fit n a left is p at x = x
beside_sealed h total payload j (Amend c) fit n a left is p at x = x

-- nor of what is lost
beside_losing : (h total : ℕ) (payload : Data) (j : Value) (e : Edit) (fit : Fit (Luks2Area j h payload total) total) (n : AreaName) (a : Area)
    → IsLeft e n → Luks2Area j h payload total n a → (p : ℕ) → IsAt a.start a.len p → IsOfLost j e p → ⊥
beside_losing h total payload j e fit n a left is p at x = beside_lost h total payload j e fit n a left is p at x.slot x.loses x.is

-- nor of anything that the edit may change
beside_touched : (h total : ℕ) (payload : Data) (j : Value) (e : Edit) (fit : Fit (Luks2Area j h payload total) total) (n : AreaName) (a : Area)
    → IsLeft e n → Luks2Area j h payload total n a → (p : ℕ) → IsAt a.start a.len p → IsTouched h total payload j e p → ⊥
beside_touched h total payload j e fit n a left is p at (inl x) = beside_copies h total payload j e fit n a left is p at x
beside_touched h total payload j e fit n a left is p at (inr (inl x)) = beside_sealed h total payload j e fit n a left is p at x
beside_touched h total payload j e fit n a left is p at (inr (inr x)) = beside_losing h total payload j e fit n a left is p at x

-- so its bytes are as they were
pub left_bytes : (v w : List ℕ) (h total : ℕ) (payload : Data) (j : Value) (e : Edit) (fit : Fit (Luks2Area j h payload total) total)
    → SameBut (IsTouched h total payload j e) v w → (n : AreaName) (a : Area) → IsLeft e n → Luks2Area j h payload total n a
    → part w a.start a.len ≡ part v a.start a.len
left_bytes v w h total payload j e fit rest n a left is = part-same_but a.start a.len rest (λ p at x. beside_touched h total payload j e fit n a left is p at x)
