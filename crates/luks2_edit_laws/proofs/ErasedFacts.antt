-- What is left of a LUKS2 volume without any keyslot.
use Rattle.std.proofs.Common.{◌≡◌, ℕ, ◌-◌, List, codes, Some, None, option_and_then, refl, sym, ap, subst, ◌∙◌}
use Rattle.serde_json.specs.Data.{Data as Value}
use Rattle.serde_json.specs.Find.{get}
use Rattle.luks_area.specs.declared.area.Area.{Area}
use Rattle.luks_area.specs.declared.area.AreaName.{AreaName}
use Rattle.luks_area.specs.declared.area.AreaName.TheVariants.{Head1, Head2, Slot, Segment}
use Rattle.luks2_header.specs.Selection.{luks2}
use Rattle.luks2_header.proofs.ChoiceFacts.{choices_agree}
use Rattle.luks_rules.specs.declared.table.Section.TheVariants.{Keyslots}
use Rattle.luks_rules.specs.Faults.{object_at}
use Rattle.luks_rules.specs.Reading.{decimal_in}
use Rattle.luks_rules.proofs.AreaFaults.{one_value}
use Rattle.luks_making.specs.Unchanged.{LosesSlots}
use Rattle.luks_making.specs.Without.{without_slot, without_slots}
use Rattle.luks_making.proofs.ErasureFacts.{held_emptied, slots_lost}
use Rattle.luks_making.proofs.RemovalFacts.{slot_lost}
use Rattle.luks_reading.specs.declared.report.Data.{Data}
use Rattle.luks_reading.specs.Header.{json_at}
use Rattle.luks_reading.specs.Layout2.{HasExtent, Luks2Area, segment_extent, segment_offset, slot_number}
use Rattle.luks_reading.specs.Plans.{HasLuks2Plan}
use Rattle.luks_edit.specs.Kept.{IsShut}
use Rattle.luks2_edit_laws.proofs.KeptFacts.{KeepsMetadata}
use Rattle.luks2_edit_laws.proofs.MetadataFacts.{segments_follow}
use Rattle.luks2_edit_laws.proofs.VolumeFacts.{HasCopy, IsLayout}

-- ---- areas

module _ (j k : Value) (lost : LosesSlots j k) where
  -- each area was there: none is of a keyslot
  area_was : (h total : ℕ) (payload : Data) (name : AreaName) (a : Area) → Luks2Area k h payload total name a → Luks2Area j h payload total name a
  area_was h total payload Head1 a x = x
  area_was h total payload Head2 a x = x
  area_was h total payload (Slot m) a x =
      let none : slot_number k m (codes "offset") ≡ None = ap (λ o. decimal_in (option_and_then (get (codes "offset")) (option_and_then (get (codes "area")) o))) (lost.gone m) in
      let some : slot_number k m (codes "offset") ≡ Some a.start = x.1 in
      absurd (cc)
  area_was h total payload (Segment m) a x =
      let offset : segment_offset k m ≡ segment_offset j m = rw lost.segments refl in
      let extent : segment_extent k m ≡ segment_extent j m = rw lost.segments refl in
      (x.0, x.1, sym offset ∙ x.2, subst (HasExtent total a.start a.len) extent x.3)

-- ---- the metadata

-- it makes a well formed volume like the old, and has its segments
pub erased_metadata : (h total : ℕ) (payload : Data) (named : ℕ → Type 0) (j k : Value) → ((n : ℕ) → named n) → k ≡ without_slots j
    → IsLayout h total payload j → KeepsMetadata h total payload named j k
erased_metadata h total payload named j k is same old =
    let lost : LosesSlots j k = subst (LosesSlots j) (sym same) (slots_lost j) in
    record {
      layout = record {
        held = rw same (held_emptied (h - 4096) j old.held);
        segments = λ here. segments_follow (h - 4096) j k lost.segments lost.config (old.segments here);
        fit = record {
          inside = λ name a x. old.fit.inside name a (area_was j k lost h total payload name a x);
          disjoint = λ m l a b x y. old.fit.disjoint m l a b (area_was j k lost h total payload m a x) (area_was j k lost h total payload l b y);
        };
      };
      segments = lost.segments;
      slots = λ m lt free. absurd (free (is m));
    }

-- ---- what opens

-- a keyslot that the metadata hasn't opens by no passphrase
pub absent_shut : (w : List ℕ) (p h : ℕ) (k : Value) → HasCopy w p h k → (n : ℕ) → object_at k Keyslots n ≡ None → IsShut w n
absent_shut w p h k c n gone = λ allowed pass key o.
    (let has : HasLuks2Plan (json_at w p) n o.plan = rw (choices_agree w o.choice (luks2 p c.copies) o.chosen c.chosen) at o.is in
    let there : object_at k Keyslots n ≡ Some has.object = rw (one_value (json_at w p) has.value k has.holds c.holds) at has.there in
    absurd (cc))

-- so does each where it has none
pub none_opens : (w : List ℕ) (p h : ℕ) (j k : Value) → HasCopy w p h k → k ≡ without_slots j → (n : ℕ) → IsShut w n
none_opens w p h j k c same n = absent_shut w p h k c n (rw same ((slots_lost j).gone n))

-- and one that is left out
pub removed_shut : (w : List ℕ) (p h : ℕ) (j k : Value) (slot : ℕ) → HasCopy w p h k → k ≡ without_slot slot j → (n : ℕ) → n ≡ slot → IsShut w n
removed_shut w p h j k slot c same n is = absent_shut w p h k c n (rw (same, is) (slot_lost slot j).gone)
