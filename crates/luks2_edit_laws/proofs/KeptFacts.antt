-- What two volumes share whose metadata agree but in some keyslots.
use Rattle.std.proofs.Common.{◌≡◌, ℕ, ◌<◌, ◌↔◌, List, length, codes, Some, option_and_then, refl, sym, ap, subst, ◌∙◌}
use Rattle.serde_json.specs.Data.{Data as Value}
use Rattle.serde_json.specs.Find.{get}
use Rattle.luks_area.specs.declared.area.Area.{Area}
use Rattle.luks_area.specs.declared.area.AreaName.{AreaName}
use Rattle.luks_area.specs.declared.area.AreaName.TheVariants.{Slot, Segment}
use Rattle.luks_area.specs.Ranges.{part}
use Rattle.luks2_header.specs.Header2.{header_at, uuid_field}
use Rattle.luks2_header.proofs.ChoiceFacts.{choices_agree}
use Rattle.luks_rules.specs.declared.table.Section.TheVariants.{Keyslots, Segments}
use Rattle.luks_rules.specs.Accepted.{HasObject}
use Rattle.luks_rules.specs.Faults.{object_at, section_at}
use Rattle.luks_rules.specs.MetaFault.{Json}
use Rattle.luks_rules.specs.Reading.{decimal_in}
use Rattle.luks_rules.proofs.AreaFaults.{one_value}
use Rattle.luks_slot.specs.declared.plan.DigestPlan.{DigestPlan}
use Rattle.luks_slot.specs.declared.plan.SlotPlan.{SlotPlan}
use Rattle.luks_reading.specs.declared.report.Data.{Data}
use Rattle.luks_reading.specs.Answer.{HasNoKeyslot}
use Rattle.luks_reading.specs.Checked.{AreaOf}
use Rattle.luks_reading.specs.Header.{json_at}
use Rattle.luks_reading.specs.Layout2.{HasExtent, Luks2Area, segment_extent, segment_offset, slot_number}
use Rattle.luks_reading.specs.Plans.{HasLuks2Plan, IsLuks2Digest, IsLuks2Plan}
use Rattle.luks_edit.specs.Kept.{Keeps, KeepsArea, KeepsSlot, IsKeyslot}
use Rattle.luks2_edit_laws.specs.Kept.{HasSameKeyslot, IsSameKeyslot}
use Rattle.luks2_edit_laws.proofs.KeptAnswers.{answers_kept}
use Rattle.luks2_edit_laws.proofs.UuidFacts.{same_faults}
use Rattle.luks2_edit_laws.proofs.VolumeFacts.{areas_are, areas_back, copy_faultless, formed, no_luks1, one_metadata, HasCopy, IsLayout}

-- both values have the same keyslot `m`, or none, and say the same of its digest
pub record SaysSame (j k : Value) (m : ℕ) : Type 0 where
  pub there : object_at k Keyslots m ≡ object_at j Keyslots m
  pub digests : (d : DigestPlan) → IsLuks2Digest j m d ↔ IsLuks2Digest k m d

-- the value says the same of a keyslot as it does
pub says_itself : (j : Value) (m : ℕ) → SaysSame j j m
says_itself j m = record { there = refl; digests = λ d. (λ x. x, λ x. x) }

says_back : (j k : Value) (m : ℕ) → SaysSame j k m → SaysSame k j m
says_back j k m s = record { there = sym s.there; digests = λ d. ((s.digests d).1, (s.digests d).0) }

-- `k` makes a well formed volume like `j`, and agrees with it but in the keyslots of the set
pub record KeepsMetadata (h total : ℕ) (payload : Data) (named : ℕ → Type 0) (j k : Value) : Type 0 where
  pub layout : IsLayout h total payload k
  pub segments : section_at k Segments ≡ section_at j Segments
  pub slots : (m : ℕ) → m < 32 → (named m → ⊥) → SaysSame j k m

-- ---- areas

segment_area : (j k : Value) (h total : ℕ) (payload : Data) (n : ℕ) (a : Area) → section_at k Segments ≡ section_at j Segments
    → Luks2Area j h payload total (Segment n) a → Luks2Area k h payload total (Segment n) a
segment_area j k h total payload n a same x =
    let offset : segment_offset k n ≡ segment_offset j n = rw same refl in
    let extent : segment_extent k n ≡ segment_extent j n = rw same refl in
    (x.0, x.1, offset ∙ x.2, subst (HasExtent total a.start a.len) (sym extent) x.3)

-- the number of a keyslot's area
pub number_same : (j k : Value) (m : ℕ) (name : List ℕ) → object_at k Keyslots m ≡ object_at j Keyslots m → slot_number k m name ≡ slot_number j m name
number_same j k m name same = ap (λ d. decimal_in (option_and_then (get name) (option_and_then (get (codes "area")) d))) same

slot_area : (j k : Value) (h total : ℕ) (payload : Data) (m : ℕ) (a : Area) → object_at k Keyslots m ≡ object_at j Keyslots m
    → Luks2Area j h payload total (Slot m) a → Luks2Area k h payload total (Slot m) a
slot_area j k h total payload m a same x =
    (x.0, number_same j k m (codes "offset") same ∙ x.1, number_same j k m (codes "size") same ∙ x.2)

-- ---- plans

plan_by : (j k d : Value) (m : ℕ) (plan : SlotPlan) → (IsLuks2Digest j m plan.digest → IsLuks2Digest k m plan.digest) → IsLuks2Plan j m d plan → IsLuks2Plan k m d plan
plan_by j k d m plan digest x = record {
  derivation = x.derivation;
  cipher = x.cipher;
  start = x.start;
  len = x.len;
  area_key_bytes = x.area_key_bytes;
  key_bytes = x.key_bytes;
  stripes = x.stripes;
  splitter_hash = x.splitter_hash;
  digest = digest x.digest;
}

plan_kept : (old new : List ℕ) (j k : Value) (m : ℕ) → Json old j → Json new k → (m < 32 → SaysSame j k m) → (plan : SlotPlan)
    → HasLuks2Plan old m plan → HasLuks2Plan new m plan
plan_kept old new j k m before after says plan x =
    let same : x.value ≡ j = one_value old x.value j x.holds before in
    let there : object_at j Keyslots m ≡ Some x.object = rw same at x.there in
    let is : IsLuks2Plan j m x.object plan = rw same at x.is in
    let s : SaysSame j k m = says x.numbered in
    record {
      numbered = x.numbered;
      value = k;
      holds = after;
      object = x.object;
      there = s.there ∙ there;
      is = plan_by j k x.object m plan (s.digests plan.digest).0 is;
    }

absent_kept : (old new : List ℕ) (j k : Value) (m : ℕ) → Json old j → Json new k → (m < 32 → SaysSame j k m) → HasNoKeyslot old m → HasNoKeyslot new m
absent_kept old new j k m before after says x =
    let same : x.value ≡ j = one_value old x.value j x.holds before in
    record { value = k; holds = after; absent = λ lt. (says lt).there ∙ (rw same at (x.absent lt)) }

same_keyslot : (old new : List ℕ) (j k : Value) (m : ℕ) → Json old j → Json new k → (m < 32 → SaysSame j k m) → IsSameKeyslot old new m
same_keyslot old new j k m before after says = record {
  absent = (absent_kept old new j k m before after says, absent_kept new old k j m after before (λ lt. says_back j k m (says lt)));
  plans = λ plan. (
    plan_kept old new j k m before after says plan,
    plan_kept new old k j m after before (λ lt. says_back j k m (says lt)) plan,
  );
}

pub plan_bytes : (v w json : List ℕ) (j : Value) (m h total : ℕ) (payload : Data) (plan : SlotPlan) → Json json j
    → ((a : Area) → Luks2Area j h payload total (Slot m) a → part w a.start a.len ≡ part v a.start a.len)
    → HasLuks2Plan json m plan → part w plan.area.start plan.area.len ≡ part v plan.area.start plan.area.len
plan_bytes v w json j m h total payload plan holds kept x =
    let same : x.value ≡ j = one_value json x.value j x.holds holds in
    let there : object_at j Keyslots m ≡ Some x.object = rw same at x.there in
    kept (record { start = plan.area.start; len = plan.area.len }) (x.numbered, rw there x.is.start, rw there x.is.len)

-- ---- one volume after another: `v` has the metadata `j`, `w` the metadata `k`

module _
    (v w : List ℕ) (payload : Data) (o p h : ℕ) (j k : Value) (named : ℕ → Type 0)
    (before : HasCopy v o h j) (after : HasCopy w p h k) (long : length w ≡ length v)
    (old : IsLayout h (length v) payload j) (new : KeepsMetadata h (length v) payload named j k)
    (segment_bytes : (n : ℕ) (a : Area) → Luks2Area j h payload (length v) (Segment n) a → part w a.start a.len ≡ part v a.start a.len)
    (slot_bytes : (m : ℕ) → (named m → ⊥) → (a : Area) → Luks2Area j h payload (length v) (Slot m) a → part w a.start a.len ≡ part v a.start a.len)
  where
    layout_moved : IsLayout h (length w) payload k
    layout_moved = subst (λ n. IsLayout h n payload k) (sym long) new.layout

    area_moved : (n : AreaName) (a : Area) → Luks2Area k h payload (length v) n a → AreaOf w payload n a
    area_moved n a x = areas_back w payload p h k after n a (subst (λ t. Luks2Area k h payload t n a) (sym long) x)

    area_was : (n : AreaName) (a : Area) → AreaOf w payload n a → Luks2Area k h payload (length v) n a
    area_was n a x = subst (λ t. Luks2Area k h payload t n a) long (areas_are w payload p h k after n a x)

    segment_kept : (n : ℕ) → KeepsArea payload (Segment n) v w
    segment_kept n = record {
      same = λ a. (
        λ x. area_moved (Segment n) a (segment_area j k h (length v) payload n a new.segments (areas_are v payload o h j before (Segment n) a x)),
        λ x. areas_back v payload o h j before (Segment n) a (segment_area k j h (length v) payload n a (sym new.segments) (area_was (Segment n) a x)),
      );
      bytes = λ a x. segment_bytes n a (areas_are v payload o h j before (Segment n) a x);
    }

    -- what a keyslot that isn't of the set needs is the same
    pub slot_needs : (m : ℕ) → (named m → ⊥) → HasSameKeyslot v w m
    slot_needs m free = record {
      old_place = o;
      old_copies = before.copies;
      old_chosen = before.chosen;
      new_place = p;
      new_copies = after.copies;
      new_chosen = after.chosen;
      long = long;
      uuid = same_faults (uuid_field (header_at v o)) (uuid_field (header_at w p)) before.uuid after.uuid;
      old_faultless = copy_faultless v o h j before old.held;
      new_faultless = copy_faultless w p h k after new.layout.held;
      slot = same_keyslot (json_at v o) (json_at w p) j k m before.holds after.holds (λ lt. new.slots m lt free);
      bytes = λ plan x. plan_bytes v w (json_at v o) j m h (length v) payload plan before.holds (slot_bytes m free) x;
    }

    slot_there : (m : ℕ) → (named m → ⊥) → (a : Area) → m < 32 → object_at k Keyslots m ≡ object_at j Keyslots m
    slot_there m free a lt = (new.slots m lt free).there

    slot_area_kept : (m : ℕ) → (named m → ⊥) → KeepsArea payload (Slot m) v w
    slot_area_kept m free = record {
      same = λ a. (
        λ x. (let is = areas_are v payload o h j before (Slot m) a x in
            area_moved (Slot m) a (slot_area j k h (length v) payload m a (slot_there m free a is.0) is)),
        λ x. (let is = area_was (Slot m) a x in
            areas_back v payload o h j before (Slot m) a (slot_area k j h (length v) payload m a (sym (slot_there m free a is.0)) is)),
      );
      bytes = λ a x. slot_bytes m free a (areas_are v payload o h j before (Slot m) a x);
    }

    object_was : (m : ℕ) (d : Value) → IsKeyslot v m d → HasObject j Keyslots m d
    object_was m d x =
        let same : x.metadata ≡ j = one_metadata v o x.place before.copies x.copies j x.metadata before.chosen before.holds x.chosen x.holds in
        subst (λ i. HasObject i Keyslots m d) same x.is

    object_is : (m : ℕ) (d : Value) → IsKeyslot w m d → HasObject k Keyslots m d
    object_is m d x =
        let same : x.metadata ≡ k = one_metadata w p x.place after.copies x.copies k x.metadata after.chosen after.holds x.chosen x.holds in
        subst (λ i. HasObject i Keyslots m d) same x.is

    value_kept : (m : ℕ) → (named m → ⊥) → (d : Value) → IsKeyslot v m d → IsKeyslot w m d
    value_kept m free d x =
        let was : HasObject j Keyslots m d = object_was m d x in
        record {
          place = p;
          copies = after.copies;
          chosen = after.chosen;
          metadata = k;
          holds = after.holds;
          is = record { numbered = was.numbered; named = was.named; is = (new.slots m was.named free).there ∙ was.is };
        }

    value_back : (m : ℕ) → (named m → ⊥) → (d : Value) → IsKeyslot w m d → IsKeyslot v m d
    value_back m free d x =
        let is : HasObject k Keyslots m d = object_is m d x in
        record {
          place = o;
          copies = before.copies;
          chosen = before.chosen;
          metadata = j;
          holds = before.holds;
          is = record { numbered = is.numbered; named = is.named; is = sym (new.slots m is.named free).there ∙ is.is };
        }

    slot_kept : (m : ℕ) → (named m → ⊥) → KeepsSlot payload m v w
    slot_kept m free = record {
      area = slot_area_kept m free;
      entry = λ bytes. (
        λ x. absurd (no_luks1 v o before.copies before.chosen x.chosen),
        λ x. absurd (no_luks1 w p after.copies after.chosen x.chosen),
      );
      value = λ d. (value_kept m free d, value_back m free d);
      answers = answers_kept choices_agree v w m (slot_needs m free);
    }

    -- all that an edit promises
    pub all_kept : Keeps payload named v w
    all_kept = record {
      size = long;
      well = formed w payload p h k after layout_moved;
      segments = segment_kept;
      slots = slot_kept;
    }
