-- What is made has one set of areas.
use Rattle.std.proofs.Common.{◌≡◌, ℕ, ◌*◌, ◌<◌, List, inl, inr, sym, ap, subst, ◌∙◌, arith}
use Rattle.luks_area.specs.Area.{IsAreaFault}
use Rattle.luks_area.specs.Sectors.{rounded_to_sectors}
use Rattle.luks_area.specs.declared.area.Area.{Area}
use Rattle.luks_area.specs.declared.area.AreaFault.{AreaFault}
use Rattle.luks_area.specs.declared.area.AreaFault.TheVariants.{Outside, Overlap}
use Rattle.luks_area.specs.declared.area.AreaName.{AreaName}
use Rattle.luks_area.specs.declared.area.AreaName.TheVariants.{Head1, Head2, Slot, Segment}
use Rattle.luks1_header.specs.Header1.{entry, entry_key_material_offset, entry_stripes, key_bytes_of}
use Rattle.luks1_header.specs.Written.{WritesLuks1}
use Rattle.luks1_header.specs.declared.luks1.Luks1.{Luks1}
use Rattle.luks1_header.specs.declared.luks1.Luks1Slot.{Luks1Slot}
use Rattle.luks1_mending.specs.Areas.{stripes_of}
use Rattle.luks1_mending.specs.Made.{IsMade}
use Rattle.luks1_mending.specs.Mended.{IsInStep, IsMadeSlot, IsNewPlace}
use Rattle.luks1_mending.specs.Taken.{taken_key_bytes}
use Rattle.luks1_mending.specs.declared.given.Given.{Given}
use Rattle.luks1_mending.proofs.HeaderFacts.{common_held}
use Rattle.luks1_mending.proofs.MendedFacts.{one_pair}
use Rattle.luks_reading.specs.Layout1.{Luks1Area}
use Rattle.luks_reading.specs.declared.report.Data.TheVariants.{Elsewhere}
use Rattle.luks1_rebuilding.specs.Used.{any_slot, slot_at}

-- a keyslot has one new place
place_one : (h : List ℕ) (k total n s t p q : ℕ) → IsNewPlace h k total n s t → IsNewPlace h k total n p q → (s ≡ p) × (t ≡ q)
place_one h k total n s t p q (inl x) (inl y) =
    let one : y.pair ≡ x.pair = one_pair h k total x.pair y.pair x.first y.first in
    let here = x.in_step in
    let there : IsInStep h x.pair n p = subst (λ (r : ℕ). IsInStep h r n p) one y.in_step in
    (omega (arith, here, there), x.alike ∙ sym (y.alike ∙ ap (stripes_of h) one))
place_one h k total n s t p q (inl x) (inr y) = absurd (y.0 s t x)
place_one h k total n s t p q (inr x) (inl y) = absurd (x.0 p q y)
place_one h k total n s t p q (inr x) (inr y) = (x.1.sector_is ∙ sym y.1.sector_is, x.1.stripes_are ∙ sym y.1.stripes_are)

slot_one : (h : List ℕ) (k total n : ℕ) (s t : Luks1Slot) → IsMadeSlot h k total n s → IsMadeSlot h k total n t
    → (s.key_material_offset ≡ t.key_material_offset) × (s.stripes ≡ t.stripes)
slot_one h k total n s t (inl x) (inl y) =
    (sym x.1.fields.key_material_offset ∙ y.1.fields.key_material_offset, sym x.1.fields.stripes ∙ y.1.fields.stripes)
slot_one h k total n s t (inl x) (inr y) = absurd (y.0 x.0)
slot_one h k total n s t (inr x) (inl y) = absurd (x.0 y.0)
slot_one h k total n s t (inr x) (inr y) =
    place_one h k total n s.key_material_offset s.stripes t.key_material_offset t.stripes x.1.place y.1.place

module _ (h : List ℕ) (source : ℕ) (g : Given) (d e : Luks1) (made : IsMade h source g d) (other : IsMade h source g e)
    (b c : List ℕ) (put : WritesLuks1 b d) (also : WritesLuks1 c e) where
  same_slot : (n : ℕ) → n < 8 → ((slot_at e n).key_material_offset ≡ (slot_at d n).key_material_offset) × ((slot_at e n).stripes ≡ (slot_at d n).stripes)
  same_slot n lt = slot_one h (taken_key_bytes h g) source n (slot_at e n) (slot_at d n) (other.slots n any_slot lt) (made.slots n any_slot lt)

  same_key : key_bytes_of c ≡ key_bytes_of b
  same_key =
      (common_held h g e.common other.common c also.common).key_bytes ∙ other.common.key_bytes
      ∙ sym ((common_held h g d.common made.common b put.common).key_bytes ∙ made.common.key_bytes)

  same_sector : (n : ℕ) → n < 8 → entry_key_material_offset (entry c n) ≡ entry_key_material_offset (entry b n)
  same_sector n lt = (also.slots n any_slot lt).fields.key_material_offset ∙ (same_slot n lt).0 ∙ sym (put.slots n any_slot lt).fields.key_material_offset

  same_stripes : (n : ℕ) → n < 8 → entry_stripes (entry c n) ≡ entry_stripes (entry b n)
  same_stripes n lt = (also.slots n any_slot lt).fields.stripes ∙ (same_slot n lt).1 ∙ sym (put.slots n any_slot lt).fields.stripes

  area_same : (total : ℕ) (n : AreaName) (a : Area) → Luks1Area c Elsewhere total n a → Luks1Area b Elsewhere total n a
  area_same total Head1 a is = is
  area_same total Head2 a is = is
  area_same total (Slot n) a is = (
    is.0,
    is.1 ∙ ap (λ s. s * 512) (same_sector n is.0),
    is.2 ∙ ap (λ k. rounded_to_sectors (k * entry_stripes (entry c n))) same_key ∙ ap (λ s. rounded_to_sectors (key_bytes_of b * s)) (same_stripes n is.0),
  )
  area_same total (Segment n) a is = absurd (let no = is.1 in cc)

  pub fault_same : (total : ℕ) (f : AreaFault) → IsAreaFault (Luks1Area c Elsewhere total) total f → IsAreaFault (Luks1Area b Elsewhere total) total f
  fault_same total (Outside n) x = (x.0, (area_same total n x.0 x.1.0, x.1.1))
  fault_same total (Overlap m n) x = (x.0, (x.1.0, (area_same total m x.0 x.1.1.0, area_same total n x.1.0 x.1.1.1, x.1.1.2, x.1.1.3)))
