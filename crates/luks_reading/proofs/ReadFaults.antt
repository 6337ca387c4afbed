-- The first fault of a header that isn't read.
use Rattle.std.proofs.Common.{◌≡◌, ◌≢◌, ℕ, ◌+◌, ◌-◌, List, inl, inr, refl, ap, subst, sym, arith}
use Rattle.luks_area.specs.First.{NotAfter, IsLeast}
use Rattle.luks_area.specs.Ranges.{part}
use Rattle.luks1_header.specs.declared.fault.HeadFault.{HeadFault}
use Rattle.luks1_header.specs.declared.fault.HeadFault.TheVariants as head
use Rattle.luks1_header.specs.Faults.{head_key}
use Rattle.luks2_header.specs.declared.bin2.Bin2.{Bin2}
use Rattle.luks2_header.specs.declared.selection.Copies.{Copies}
use Rattle.luks2_header.specs.Header2.{header_at, uuid_field, HoldsBin2, IsUuidFault}
use Rattle.luks2_header.specs.Selection.{Choice, luks1, luks2, nothing, Chosen, IsOfSelection, IsRefused, IsSelectFault}
use Rattle.luks2_header.proofs.ChoiceFacts.{choices_agree, uuid_sound}
use Rattle.luks_rules.specs.declared.fault.MetaFault.{MetaFault}
use Rattle.luks_rules.specs.declared.fault.MetaFault.TheVariants as meta
use Rattle.luks_rules.proofs.Deciding.{metadata_faultless}
use Rattle.luks_meta.specs.Content.{content}
use Rattle.luks_meta.specs.MetaFault.{IsMetaFault, meta_key}
use Rattle.luks_reading.specs.declared.read_fault.ReadFault.{ReadFault}
use Rattle.luks_reading.specs.declared.read_fault.ReadFault.TheVariants.{Head, Meta, Device, Memory}
use Rattle.luks_reading.specs.declared.header.ChosenCopy.{ChosenCopy}
use Rattle.luks_reading.specs.ChosenCopies.{CopyRefused, IsCleared, IsFromOutside, json_of}
use Rattle.luks_reading.specs.Conversions.{head_unread, meta_unread}
use Rattle.luks_reading.specs.Header.{json_at, read_key, IsChosenCopy, IsReadFault, IsReadFaultAs, IsUnread, NeedsMetadata, TakesNoMemory}

-- ---- the uuid and the metadata of a copy

pub meta_refused : (uuid json : List ℕ) (f : MetaFault) → ((g : HeadFault) → IsUuidFault uuid g → ⊥)
    → (f ≢ meta.Memory → IsLeast meta_key (IsMetaFault json) f) → CopyRefused uuid json (meta_unread f)
meta_refused uuid json meta.Memory clear x = clear
meta_refused uuid json other clear x = record { uuid_faultless = clear; least = x (λ e. cc) }

pub outside_refuses : (uuid json : List ℕ) (f : ReadFault) → IsFromOutside f → ((g : HeadFault) → IsUuidFault uuid g → ⊥) → CopyRefused uuid json f
outside_refuses uuid json Device x clear = tt
outside_refuses uuid json Memory x clear = clear
outside_refuses uuid json other x clear = absurd x

-- ---- a head fault that is neither the device's nor a failed allocation stays what it is

pub own_head : (f : HeadFault) → f ≢ head.Device → f ≢ head.Memory → head_unread f ≡ Head f
own_head head.Device no_device no_memory = absurd (no_device refl)
own_head head.Memory no_device no_memory = absurd (no_memory refl)
own_head other no_device no_memory = refl

-- ---- from what counts of a volume to the volume

pub same_json : (v : List ℕ) (h : Bin2) → HoldsBin2 (header_at v h.hdr_offset) h → json_of v h ≡ json_at v h.hdr_offset
same_json v h holds = ap (λ size. part v (h.hdr_offset + 4096) (size - 4096)) (sym holds.hdr_size)

-- where a selection has a fault, nothing counts
pub nothing_counts : (v : List ℕ) (f : HeadFault) → IsSelectFault v f → Chosen v nothing
nothing_counts v head.TooShort x = (λ is. let long = is.long in omega (arith, long, x), λ long. absurd (omega (arith, long, x)))
nothing_counts v head.NotLuks x = x.0
nothing_counts v head.Version x = x.0
nothing_counts v head.NoSoundCopy x = x
nothing_counts v other x = absurd x

-- the first fault by what counts, as a fault of the volume, and back
pub unread_as : (v : List ℕ) (c : Choice) (f : ReadFault) → Chosen v c
    → IsLeast read_key (IsReadFaultAs v c) f → IsLeast read_key (IsReadFault v) f
unread_as v c f chosen least = (
  record { choice = c; chosen = chosen; fault = least.0 },
  λ g is. least.1 g (subst (λ d. IsReadFaultAs v d g) (choices_agree v is.choice c is.chosen chosen) is.fault),
)

pub record UnreadAs (v : List ℕ) (f : ReadFault) : Type 0 where
  pub choice : Choice
  pub chosen : Chosen v choice
  pub least : IsLeast read_key (IsReadFaultAs v choice) f

pub as_unread : (v : List ℕ) (f : ReadFault) → IsLeast read_key (IsReadFault v) f → UnreadAs v f
as_unread v f least = record {
  choice = least.0.choice;
  chosen = least.0.chosen;
  least = (least.0.fault, λ g is. least.1 g (record { choice = least.0.choice; chosen = least.0.chosen; fault = is }));
}

-- ---- nothing counts

select_least : (v : List ℕ) (f : HeadFault) → IsLeast head_key (IsSelectFault v) f → IsLeast read_key (IsReadFaultAs v nothing) (Head f)
select_least v f least = (least.0, after)
  where
    after : (g : ReadFault) → IsReadFaultAs v nothing g → NotAfter (read_key (Head f)) (read_key g)
    after (Head g) is = (omega arith, λ _. least.1 g is)
    after other is = absurd is

pub select_unread : (v : List ℕ) (f : HeadFault) → IsOfSelection f → IsRefused v f → IsUnread v (head_unread f)
select_unread v head.TooShort kind x = unread_as v nothing (Head head.TooShort) (nothing_counts v head.TooShort x.0) (select_least v head.TooShort x)
select_unread v head.NotLuks kind x = unread_as v nothing (Head head.NotLuks) (nothing_counts v head.NotLuks x.0) (select_least v head.NotLuks x)
select_unread v head.Version kind x = unread_as v nothing (Head head.Version) (nothing_counts v head.Version x.0) (select_least v head.Version x)
select_unread v head.NoSoundCopy kind x =
    unread_as v nothing (Head head.NoSoundCopy) (nothing_counts v head.NoSoundCopy x.0) (select_least v head.NoSoundCopy x)
select_unread v head.Device kind x = tt
select_unread v other kind x = absurd kind

-- ---- a copy counts

pub copy_unread : (v : List ℕ) (o : ℕ) (copies : Copies) (f : ReadFault) → Chosen v (luks2 o copies)
    → CopyRefused (uuid_field (header_at v o)) (json_at v o) f → IsUnread v f
copy_unread v o copies (Head f) chosen x = unread_as v (luks2 o copies) (Head f) chosen (x.0, after)
  where
    after : (g : ReadFault) → IsReadFaultAs v (luks2 o copies) g → NotAfter (read_key (Head f)) (read_key g)
    after (Head g) is = (omega arith, λ _. x.1 g is)
    after (Meta g) is = (omega arith, λ e. absurd (omega (arith, e)))
    after other is = absurd is
copy_unread v o copies (Meta f) chosen x = unread_as v (luks2 o copies) (Meta f) chosen (x.least.0, after)
  where
    after : (g : ReadFault) → IsReadFaultAs v (luks2 o copies) g → NotAfter (read_key (Meta f)) (read_key g)
    after (Head g) is = absurd (x.uuid_faultless g is)
    after (Meta g) is = (omega arith, λ _. x.least.1 g is)
    after other is = absurd is
copy_unread v o copies Device chosen x = tt
copy_unread v o copies Memory chosen x = record { place = o; copies = copies; chosen = chosen; uuid = x }

-- nothing is wrong with a chosen copy that was read
pub cleared_copy : (v : List ℕ) (c : ChosenCopy) → IsChosenCopy v c
    → IsCleared (uuid_field (header_at v c.header.hdr_offset)) (json_at v c.header.hdr_offset) (content c.meta)
cleared_copy v c is = record {
  uuid_faultless = uuid_sound (uuid_field (header_at v c.header.hdr_offset)) is.uuid;
  faultless = (metadata_faultless (json_at v c.header.hdr_offset)).1 (content c.meta, is.metadata);
  meta = is.metadata;
}

-- ---- memory

-- where the metadata of a copy is read, none of the faults before it stands
pub no_metadata : (v : List ℕ) → TakesNoMemory v → NeedsMetadata v → ⊥
no_metadata v (inl luks1_counts) needs =
    let same : luks1 ≡ luks2 needs.place needs.copies = choices_agree v luks1 (luks2 needs.place needs.copies) luks1_counts needs.chosen in cc
no_metadata v (inr (f, fault)) needs =
    needs.uuid f (subst (λ d. IsReadFaultAs v d (Head f)) (choices_agree v fault.choice (luks2 needs.place needs.copies) fault.chosen needs.chosen) fault.fault)

-- so a header isn't read for a failed allocation there
pub not_for_memory : (v : List ℕ) (f : ReadFault) → TakesNoMemory v → IsUnread v f → f ≢ Memory
not_for_memory v f none unread is = no_metadata v none (subst (IsUnread v) is unread)
