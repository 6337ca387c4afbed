-- The enabled keyslots of the header that is made are those that are kept.
use Rattle.std.proofs.Common.{◌≡◌, ℕ, ◌+◌, ◌≤◌, List, inl, inr, refl, sym, ap, subst, ◌∙◌, arith}
use Rattle.luks_area.specs.declared.area.Area.{Area}
use Rattle.luks_area.specs.declared.area.AreaName.TheVariants as name
use Rattle.luks_area.specs.Area.{name_number}
use Rattle.luks1_header.specs.Header1.{active_word, enabled_word, entry, word_of, IsEntry, IsLuks1}
use Rattle.luks1_header.specs.declared.luks1.Luks1.{Luks1}
use Rattle.luks1_header.specs.declared.luks1.SlotState.{SlotState}
use Rattle.luks1_header.specs.declared.luks1.SlotState.TheVariants.{Disabled, Enabled}
use Rattle.luks1_mending.specs.Areas.{own_area, sector_of, stripes_area}
use Rattle.luks1_mending.specs.Kept.{IsKept}
use Rattle.luks1_mending.specs.Made.{IsMade}
use Rattle.luks1_mending.specs.Mended.{IsMadeSlot}
use Rattle.luks1_mending.specs.Taken.{taken_key_bytes}
use Rattle.luks1_mending.specs.declared.given.Given.{Given}
use Rattle.luks1_mending.proofs.KeptFacts.{sound_of}
use Rattle.luks_reading.proofs.Luks1AreaFacts.{slot_area_is}
use Rattle.luks_reading.specs.Checked.{IsLuks1Volume}
use Rattle.luks_reading.specs.Layout1.{Luks1Area}
use Rattle.luks_reading.specs.declared.report.Data.TheVariants.{Elsewhere}
use Rattle.luks1_rebuilding.specs.Used.{any_slot, slot_at, AreApart, AreInside, IsUsedArea}

-- the word of an enabled keyslot
pub state_is : (s : SlotState) → word_of s ≡ enabled_word → s ≡ Enabled
state_is Enabled is = refl
state_is Disabled is = absurd (omega (arith, is))

-- a disabled keyslot isn't enabled
not_both : (s : SlotState) → s ≡ Enabled → s ≡ Disabled → ⊥
not_both s on off = cc

-- a keyslot that is kept, with its area
pub record IsKeptAt (h : List ℕ) (k total n : ℕ) (a : Area) : Type 0 where
  pub kept : IsKept h k total n
  pub enabled : active_word (entry h n) ≡ enabled_word
  pub is : a ≡ own_area h k n

module _ (h : List ℕ) (total : ℕ) (g : Given) (d : Luks1) (made : IsMade h total g d) where
  -- the area that the fields of a kept keyslot give
  pub same_fields_area : (n : ℕ) → IsEntry (entry h n) (slot_at d n)
      → stripes_area d.common.key_bytes (slot_at d n).key_material_offset (slot_at d n).stripes ≡ own_area h (taken_key_bytes h g) n
  same_fields_area n is =
      let s = slot_at d n in
      ap (λ q. stripes_area q s.key_material_offset s.stripes) made.common.key_bytes
      ∙ ap (λ q. stripes_area (taken_key_bytes h g) q s.stripes) (sym is.fields.key_material_offset)
      ∙ ap (λ q. stripes_area (taken_key_bytes h g) (sector_of h n) q) (sym is.fields.stripes)

  kept_by : (n : ℕ) (a : Area) → IsUsedArea d n a → IsMadeSlot h (taken_key_bytes h g) total n (slot_at d n) → IsKeptAt h (taken_key_bytes h g) total n a
  kept_by n a used (inl x) = record { kept = x.0; enabled = x.1.fields.state ∙ ap word_of used.enabled; is = used.is ∙ same_fields_area n x.1 }
  kept_by n a used (inr x) = absurd (not_both (slot_at d n).state used.enabled x.1.state)

  pub used_kept : (n : ℕ) (a : Area) → IsUsedArea d n a → IsKeptAt h (taken_key_bytes h g) total n a
  used_kept n a used = kept_by n a used (made.slots n any_slot used.numbered)

  used_by : (n : ℕ) (a : Area) → IsKeptAt h (taken_key_bytes h g) total n a → IsMadeSlot h (taken_key_bytes h g) total n (slot_at d n) → IsUsedArea d n a
  used_by n a x (inl y) = record {
    numbered = (sound_of h (taken_key_bytes h g) total n x.kept).numbered;
    enabled = state_is (slot_at d n).state (sym y.1.fields.state ∙ x.enabled);
    is = x.is ∙ sym (same_fields_area n y.1);
  }
  used_by n a x (inr y) = absurd (y.0 x.kept)

  pub kept_used : (n : ℕ) (a : Area) → IsKeptAt h (taken_key_bytes h g) total n a → IsUsedArea d n a
  kept_used n a x = used_by n a x (made.slots n any_slot (sound_of h (taken_key_bytes h g) total n x.kept).numbered)

  -- it lies inside the source, and behind the header
  pub there : AreInside d total
  there = record { inside = λ n a used. (let x = used_kept n a used in subst (λ (b : Area). b.start + b.len ≤ total) (sym x.is) (sound_of h (taken_key_bytes h g) total n x.kept).inside) }

  pub behind : (n : ℕ) (a : Area) → IsUsedArea d n a → 592 ≤ a.start
  behind n a used = (let x = used_kept n a used in subst (λ (b : Area). 592 ≤ b.start) (sym x.is) (sound_of h (taken_key_bytes h g) total n x.kept).behind)

  -- and where the header is accepted, inside the target and apart from the others
  module _ (b : List ℕ) (is : IsLuks1 b d) (target : ℕ) (formed : IsLuks1Volume b Elsewhere target) where
    area_of : (n : ℕ) (a : Area) → IsUsedArea d n a → Luks1Area b Elsewhere target (name.Slot n) a
    area_of n a used = slot_area_is b Elsewhere target n d any_slot a is used.numbered (ap (λ (q : Area). q.start) used.is) (ap (λ (q : Area). q.len) used.is)

    pub within : AreInside d target
    within = record { inside = λ n a used. formed.fit.inside (name.Slot n) a (area_of n a used) }

    pub apart : AreApart d
    apart = record {
      behind = behind;
      apart = λ m n p q x y other. formed.fit.disjoint (name.Slot m) (name.Slot n) p q (area_of m p x) (area_of n q y) (λ e. other (ap name_number e));
    }
