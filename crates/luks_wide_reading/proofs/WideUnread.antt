-- Why a header isn't read by the wider reading, from why the narrow one refuses it.
use Rattle.std.proofs.Common.{◌≡◌, ◌≢◌, ◌∙◌, ℕ, List, length, false, inl, refl, ap, subst, sym, arith, Result, Ok, Err, IfErr}
use Rattle.luks_area.specs.Device.{CountsFailure}
use Rattle.luks_area.specs.First.{IsLeast}
use Rattle.luks1_header.specs.declared.fault.HeadFault.{HeadFault}
use Rattle.luks1_header.specs.declared.fault.HeadFault.TheVariants as head
use Rattle.luks2_header.specs.declared.selection.Copies.{Copies}
use Rattle.luks2_header.specs.Header2.{header_at, uuid_field, HoldsBin2, IsUuidFault, IsUuidField}
use Rattle.luks2_header.specs.Selection.{Choice, luks1, luks2, nothing, Chosen}
use Rattle.luks2_header.proofs.ChoiceFacts.{choices_agree}
use Rattle.luks_json.specs.AreaText.{Json}
use Rattle.luks_rules.specs.declared.fault.MetaFault.{MetaFault}
use Rattle.luks_rules.specs.declared.fault.MetaFault.TheVariants as meta
use Rattle.luks_rules.proofs.AreaFaults.{one_value}
use Rattle.luks_meta.specs.Content.{content}
use Rattle.luks_reading.specs.declared.header.ChosenCopy.{ChosenCopy}
use Rattle.luks_reading.specs.declared.header.Header.{Header}
use Rattle.luks_reading.specs.declared.header.Header.TheVariants.{Luks1, Luks2}
use Rattle.luks_reading.specs.declared.read_fault.ReadFault.{ReadFault}
use Rattle.luks_reading.specs.declared.read_fault.ReadFault.TheVariants as reading
use Rattle.luks_reading.specs.ChosenCopies.{json_of}
use Rattle.luks_reading.specs.Conversions.{head_unread}
use Rattle.luks_reading.specs.Header.{json_at, read_key, IsChosenCopy, IsHeader, IsReadFault, IsReadFaultAs, IsUnread, NeedsMetadata, TakesNoMemory}
use Rattle.luks_reading.proofs.ReadFaults.{as_unread, cleared_copy, copy_unread, no_metadata, same_json}
use Rattle.luks_wider.specs.declared.wider.Wider.TheVariants as wider
use Rattle.luks_wider.specs.Underways.{area_len}
use Rattle.luks_wider.specs.Wide.{HasUnderWay, IsWiderOf}
use Rattle.luks_wider.specs.WideFaults.{no_memory, wide_key, IsUnderWayFault}
use Rattle.luks_wider.specs.declared.fault.WideFault.{WideFault}
use Rattle.luks_wider.specs.declared.fault.WideFault.TheVariants as wide
use Rattle.luks_wide_reading.specs.declared.read_fault.WideReadFault.{WideReadFault}
use Rattle.luks_wide_reading.specs.declared.read_fault.WideReadFault.TheVariants.{Read, Underway}
use Rattle.luks_wide_reading.specs.declared.header.WideHeader.TheVariants as wide_header
use Rattle.luks_wide_reading.specs.declared.copy.UnderwayCopy.{UnderwayCopy}
use Rattle.luks_wide_reading.specs.Beside.{AreaRefused, CopyRefused}
use Rattle.luks_wide_reading.specs.Faults.{is_wide_read_failure, underway_unread}
use Rattle.luks_wide_reading.specs.Headers.{IsFromOutside, IsSameCopy, IsSameHeader, IsUnderwayCopy, IsUnderWayVolume, IsWideUnread}

-- ---- the JSON area, and the copy

pub area_refused : (area : List ℕ) (known : MetaFault) (f : WideFault) → HasUnderWay area
    → (f ≢ no_memory → IsLeast wide_key (IsUnderWayFault area) f) → AreaRefused area known (underway_unread f known)
area_refused area known (wide.Meta meta.Memory) is x = tt
area_refused area known other is x = (refl, is, x (λ e. cc))

-- that fault isn't the device's
pub underway_no_failure : (f : WideFault) (known : MetaFault) → is_wide_read_failure (underway_unread f known) ≡ false
underway_no_failure (wide.Meta meta.Memory) known = refl
underway_no_failure other known = refl

-- what isn't the device's leaves its count
pub no_failure_counts : {T : Type 0} (r : Result T WideReadFault) (n : ℕ) → IfErr r (λ f. is_wide_read_failure f ≡ false) → CountsFailure is_wide_read_failure r n n
no_failure_counts (Ok x) n off = refl
no_failure_counts (Err f) n off = rw off refl

pub copy_refused : (uuid json : List ℕ) (known : MetaFault) (f : WideReadFault) → ((g : HeadFault) → IsUuidFault uuid g → ⊥)
    → AreaRefused json known f → CopyRefused uuid json known f
copy_refused uuid json known (Read (reading.Meta f)) clear x = (clear, x)
copy_refused uuid json known (Read reading.Memory) clear x = clear
copy_refused uuid json known (Underway f narrow) clear x = (clear, x)
copy_refused uuid json known (Read other) clear x = absurd x

pub outside_refused : (uuid json : List ℕ) (known : MetaFault) (f : WideReadFault) → ((g : HeadFault) → IsUuidFault uuid g → ⊥)
    → IsFromOutside f → CopyRefused uuid json known f
outside_refused uuid json known (Read reading.Device) clear x = tt
outside_refused uuid json known (Read reading.Memory) clear x = clear
outside_refused uuid json known other clear x = absurd x

-- ---- the volume

-- nothing is under way in the copy that counts, so it isn't in the volume
not_in_volume : (v : List ℕ) (o : ℕ) (copies : Copies) → Chosen v (luks2 o copies) → (HasUnderWay (json_at v o) → ⊥) → IsUnderWayVolume v → ⊥
not_in_volume v o copies chosen none u =
    let same : luks2 u.place u.copies ≡ luks2 o copies = choices_agree v (luks2 u.place u.copies) (luks2 o copies) u.chosen chosen in
    let place : u.place ≡ o = cc in
    none (subst (λ at. HasUnderWay (json_at v at)) place u.is)

pub beside_unread : (v : List ℕ) (o : ℕ) (copies : Copies) (known : MetaFault) (f : WideReadFault) → Chosen v (luks2 o copies) → IsUnread v (reading.Meta known)
    → CopyRefused (uuid_field (header_at v o)) (json_at v o) known f → IsWideUnread v f
beside_unread v o copies known (Read (reading.Head g)) chosen was x = copy_unread v o copies (reading.Head g) chosen x
beside_unread v o copies known (Read (reading.Meta g)) chosen was x =
    (not_in_volume v o copies chosen x.1.1, subst (λ h. IsUnread v (reading.Meta h)) (sym x.1.0) was)
beside_unread v o copies known (Read reading.Device) chosen was x = tt
beside_unread v o copies known (Read reading.Memory) chosen was x = record { place = o; copies = copies; chosen = chosen; uuid = x }
beside_unread v o copies known (Underway f narrow) chosen was x = record {
  place = o;
  copies = copies;
  chosen = chosen;
  uuid = x.0;
  is = x.1.1;
  least = x.1.2;
  narrow = subst (λ h. IsUnread v (reading.Meta h)) (sym x.1.0) was;
}

-- a fault of the selection is none of the metadata
pub head_wide : (v : List ℕ) (f : HeadFault) → IsUnread v (head_unread f) → IsWideUnread v (Read (head_unread f))
head_wide v head.Device x = x
head_wide v head.Memory x = x
head_wide v other x = x

-- what was read of the copy that counts
pub beside_read : (v : List ℕ) (c : UnderwayCopy) → Chosen v (luks2 c.header.hdr_offset c.copies) → HoldsBin2 (header_at v c.header.hdr_offset) c.header
    → IsUuidField c.header.uuid → IsWiderOf (json_of v c.header) (wider.Underway c.meta) → area_len c.meta ≡ length (json_of v c.header)
    → IsUnread v (reading.Meta c.narrow_fault) → IsUnderwayCopy v c
beside_read v c chosen holds uuid metadata len narrow =
    let area = same_json v c.header holds in
    record {
      chosen = chosen;
      header = holds;
      uuid = subst IsUuidField (sym holds.uuid) uuid;
      metadata = subst (λ (json : List ℕ). IsWiderOf json (wider.Underway c.meta)) area metadata;
      area_len = len ∙ ap length area;
      narrow = narrow;
    }

-- ---- a fault of the metadata

needs_as : (v : List ℕ) (c : Choice) (f : MetaFault) → Chosen v c → IsLeast read_key (IsReadFaultAs v c) (reading.Meta f) → NeedsMetadata v
needs_as v luks1 f chosen least = absurd least.0
needs_as v nothing f chosen least = absurd least.0
needs_as v (luks2 o copies) f chosen least = record {
  place = o;
  copies = copies;
  chosen = chosen;
  uuid = λ g is. let later = (least.1 (reading.Head g) is).0 in omega (arith, later);
}

-- is one of a copy whose uuid has none
pub meta_needs : (v : List ℕ) (f : MetaFault) → IsUnread v (reading.Meta f) → NeedsMetadata v
meta_needs v f unread = let x = as_unread v (reading.Meta f) unread in needs_as v x.choice f x.chosen x.least

pub luks1_no_meta : (v : List ℕ) (f : MetaFault) → Chosen v luks1 → IsUnread v (reading.Meta f) → ⊥
luks1_no_meta v f chosen unread = no_metadata v (inl chosen) (meta_needs v f unread)

-- ---- a header that the narrow reading accepts

no_fault_as : (v : List ℕ) (h : Header) (c : Choice) (f : ReadFault) → IsHeader v h → Chosen v c → IsReadFaultAs v c f → ⊥
no_fault_as v (Luks1 bytes) c f is chosen fault = subst (λ d. IsReadFaultAs v d f) (choices_agree v c luks1 chosen is.0) fault
no_fault_as v (Luks2 copy) c (reading.Head f) is chosen fault =
    let same = choices_agree v c (luks2 copy.header.hdr_offset copy.copies) chosen is.chosen in
    (cleared_copy v copy is).uuid_faultless f (subst (λ d. IsReadFaultAs v d (reading.Head f)) same fault)
no_fault_as v (Luks2 copy) c (reading.Meta f) is chosen fault =
    let same = choices_agree v c (luks2 copy.header.hdr_offset copy.copies) chosen is.chosen in
    (cleared_copy v copy is).faultless f (subst (λ d. IsReadFaultAs v d (reading.Meta f)) same fault)
no_fault_as v (Luks2 copy) c other is chosen fault =
    subst (λ d. IsReadFaultAs v d other) (choices_agree v c (luks2 copy.header.hdr_offset copy.copies) chosen is.chosen) fault

no_fault : (v : List ℕ) (h : Header) (f : ReadFault) → IsHeader v h → IsLeast read_key (IsReadFault v) f → ⊥
no_fault v h f is least = no_fault_as v h least.0.choice f is least.0.chosen least.0.fault

-- isn't refused by a fault of its own
pub from_outside : (v : List ℕ) (h : Header) (f : ReadFault) → IsHeader v h → IsUnread v f → IsFromOutside (Read f)
from_outside v h reading.Device is unread = tt
from_outside v h reading.Memory is unread = tt
from_outside v h other is unread = no_fault v h other is unread

same_copy : (v : List ℕ) (a b : ChosenCopy) → IsChosenCopy v a → IsChosenCopy v b → IsSameCopy a b
same_copy v a b x y =
    let same : luks2 a.header.hdr_offset a.copies ≡ luks2 b.header.hdr_offset b.copies =
    choices_agree v (luks2 a.header.hdr_offset a.copies) (luks2 b.header.hdr_offset b.copies) x.chosen y.chosen in
    let place : a.header.hdr_offset ≡ b.header.hdr_offset = cc in
    record {
      place = place;
      copies = cc;
      metadata = one_value (json_at v a.header.hdr_offset) (content a.meta) (content b.meta) x.metadata.json
          (subst (λ at. Json (json_at v at) (content b.meta)) (sym place) y.metadata.json);
      area_len = x.area_len ∙ ap (λ at. length (json_at v at)) place ∙ sym y.area_len;
    }

-- and is that header
pub same_header : (v : List ℕ) (a b : Header) → IsHeader v a → IsHeader v b → IsSameHeader a (wide_header.Narrow b)
same_header v (Luks1 bytes) (Luks1 other) x y = y.1 ∙ sym x.1
same_header v (Luks1 bytes) (Luks2 other) x y =
    let same : luks1 ≡ luks2 other.header.hdr_offset other.copies = choices_agree v luks1 (luks2 other.header.hdr_offset other.copies) x.0 y.chosen in absurd (cc)
same_header v (Luks2 copy) (Luks1 other) x y =
    let same : luks1 ≡ luks2 copy.header.hdr_offset copy.copies = choices_agree v luks1 (luks2 copy.header.hdr_offset copy.copies) y.0 x.chosen in absurd (cc)
same_header v (Luks2 copy) (Luks2 other) x y = same_copy v other copy y x

-- ---- memory

pub no_meta : (v : List ℕ) (f : MetaFault) → TakesNoMemory v → IsUnread v (reading.Meta f) → ⊥
no_meta v f none unread = no_metadata v none (meta_needs v f unread)
