-- What is said of a volume by what counts of it, said of the volume.
use Rattle.std.proofs.Common.{ℕ, List, Option, Some, None, refl, subst, sym, inl, inr}
use Rattle.luks_area.specs.First.{IsLeast}
use Rattle.luks2_header.specs.declared.selection.Copies.{Copies}
use Rattle.luks2_header.specs.Header2.{header_at, uuid_field}
use Rattle.luks2_header.specs.Selection.{Choice, luks1, luks2, nothing, Chosen}
use Rattle.luks2_header.proofs.ChoiceFacts.{choices_agree, uuid_sound}
use Rattle.luks_reading.specs.declared.check_fault.CheckFault.{CheckFault}
use Rattle.luks_reading.specs.declared.read_fault.ReadFault.TheVariants as reading
use Rattle.luks_reading.specs.declared.header.ChosenCopy.{ChosenCopy}
use Rattle.luks_reading.specs.declared.report.Data.{Data}
use Rattle.luks_reading.specs.Checked.{First, IsFault}
use Rattle.luks_reading.specs.Header.{IsChosenCopy, IsReadFaultAs, NeedsMetadata, TakesNoMemory}
use Rattle.luks_edit.specs.declared.edit.Edit.{Edit}
use Rattle.luks_edit.specs.declared.edit.Edit.TheVariants.{Add, AddByKey, Change, Remove, Erase, Repair, Label, Uuid, Amend}
use Rattle.luks_edit.specs.declared.edit_fault.EditFault.{EditFault}
use Rattle.luks_edit.specs.declared.edit_fault.EditFault.TheVariants as fault
use Rattle.luks_edit.specs.EditFaults.{edit_key}
use Rattle.luks_edit.proofs.RowFacts.{first_of_check}
use Rattle.luks1_edits.specs.Replies.{Tells1}
use Rattle.luks2_editing.specs.Replies.{Tells2}
use Rattle.luks_volume.specs.Edits.{IsEditFault, IsEditFaultAs, IsUnrefused, Refusal, TellsSlot}
use Rattle.luks_volume.specs.Needed.{IsNeedFault, IsNeedFaultAs}

-- a fault of the volume is one of each edit of it, and back

edit_refused : (v : List ℕ) (payload : Data) (e : Edit) (r : List ℕ) (c : Choice) (f : CheckFault) → IsFault v payload f → IsEditFaultAs v payload e r c (fault.NotAccepted f)
edit_refused v payload e r luks1 f x = x
edit_refused v payload e r (luks2 o copies) f x = x
edit_refused v payload e r nothing f x = x

edit_unaccepted : (v : List ℕ) (payload : Data) (e : Edit) (r : List ℕ) (c : Choice) (f : CheckFault) → IsEditFaultAs v payload e r c (fault.NotAccepted f) → IsFault v payload f
edit_unaccepted v payload e r luks1 f x = x
edit_unaccepted v payload e r (luks2 o copies) f x = x
edit_unaccepted v payload e r nothing f x = x

need_refused : (v : List ℕ) (payload : Data) (e : Edit) (c : Choice) (f : CheckFault) → IsFault v payload f → IsNeedFaultAs v payload e c (fault.NotAccepted f)
need_refused v payload e luks1 f x = x
need_refused v payload e (luks2 o copies) f x = x
need_refused v payload e nothing f x = x

need_unaccepted : (v : List ℕ) (payload : Data) (e : Edit) (c : Choice) (f : CheckFault) → IsNeedFaultAs v payload e c (fault.NotAccepted f) → IsFault v payload f
need_unaccepted v payload e luks1 f x = x
need_unaccepted v payload e (luks2 o copies) f x = x
need_unaccepted v payload e nothing f x = x

pub first_refuses : (v : List ℕ) (payload : Data) (e : Edit) (r : List ℕ) (f : CheckFault) → First v payload f → Refusal v payload e r (fault.NotAccepted f)
first_refuses v payload e r f first =
    first_of_check (IsEditFault v payload e r) f
    (record { choice = first.0.choice; chosen = first.0.chosen; fault = edit_refused v payload e r first.0.choice f first.0 })
    (λ g bad. first.1 g (edit_unaccepted v payload e r bad.choice g bad.fault))

pub first_untold : (v : List ℕ) (payload : Data) (e : Edit) (f : CheckFault) → First v payload f → IsLeast edit_key (IsNeedFault v payload e) (fault.NotAccepted f)
first_untold v payload e f first =
    first_of_check (IsNeedFault v payload e) f
    (record { choice = first.0.choice; chosen = first.0.chosen; fault = need_refused v payload e first.0.choice f first.0 })
    (λ g bad. first.1 g (need_unaccepted v payload e bad.choice g bad.fault))

-- the keyslot that is told

pub tells_slot1 : (v : List ℕ) (e : Edit) (told : Option ℕ) → Chosen v luks1 → Tells1 v e told → TellsSlot v e told
tells_slot1 v (Add by_ old new to iterations d) (Some n) chosen x = record { choice = luks1; chosen = chosen; makes = x }
tells_slot1 v (Add by_ old new to iterations d) None chosen x = absurd x
tells_slot1 v (AddByKey key new to iterations d) (Some n) chosen x = record { choice = luks1; chosen = chosen; makes = x }
tells_slot1 v (AddByKey key new to iterations d) None chosen x = absurd x
tells_slot1 v (Change slot old new iterations d) (Some n) chosen x = record { choice = luks1; chosen = chosen; makes = x }
tells_slot1 v (Change slot old new iterations d) None chosen x = absurd x
tells_slot1 v (Remove slot by_ passphrase) told chosen x = subst (λ t. TellsSlot v (Remove slot by_ passphrase) t) (sym x) (λ n made. made.makes)
tells_slot1 v Erase told chosen x = subst (λ t. TellsSlot v Erase t) (sym x) (λ n made. made.makes)
tells_slot1 v Repair told chosen x = subst (λ t. TellsSlot v Repair t) (sym x) (λ n made. made.makes)
tells_slot1 v (Label text subsystem) told chosen x = subst (λ t. TellsSlot v (Label text subsystem) t) (sym x) (λ n made. made.makes)
tells_slot1 v (Uuid uuid) told chosen x = subst (λ t. TellsSlot v (Uuid uuid) t) (sym x) (λ n made. made.makes)
tells_slot1 v (Amend c) told chosen x = subst (λ t. TellsSlot v (Amend c) t) (sym x) (λ n made. made.makes)

pub tells_slot2 : (v : List ℕ) (e : Edit) (told : Option ℕ) (o : ℕ) (copies : Copies) → Chosen v (luks2 o copies) → Tells2 v e told → TellsSlot v e told
tells_slot2 v (Add by_ old new to iterations d) (Some n) o copies chosen x = record { choice = luks2 o copies; chosen = chosen; makes = x }
tells_slot2 v (Add by_ old new to iterations d) None o copies chosen x = absurd x
tells_slot2 v (AddByKey key new to iterations d) (Some n) o copies chosen x = record { choice = luks2 o copies; chosen = chosen; makes = x }
tells_slot2 v (AddByKey key new to iterations d) None o copies chosen x = absurd x
tells_slot2 v (Change slot old new iterations d) told o copies chosen x =
    subst (λ t. TellsSlot v (Change slot old new iterations d) t) (sym x) (record { choice = luks2 o copies; chosen = chosen; makes = refl })
tells_slot2 v (Remove slot by_ passphrase) told o copies chosen x = subst (λ t. TellsSlot v (Remove slot by_ passphrase) t) (sym x) (λ n made. made.makes)
tells_slot2 v Erase told o copies chosen x = subst (λ t. TellsSlot v Erase t) (sym x) (λ n made. made.makes)
tells_slot2 v Repair told o copies chosen x = subst (λ t. TellsSlot v Repair t) (sym x) (λ n made. made.makes)
tells_slot2 v (Label text subsystem) told o copies chosen x = subst (λ t. TellsSlot v (Label text subsystem) t) (sym x) (λ n made. made.makes)
tells_slot2 v (Uuid uuid) told o copies chosen x = subst (λ t. TellsSlot v (Uuid uuid) t) (sym x) (λ n made. made.makes)
tells_slot2 v (Amend c) told o copies chosen x = subst (λ t. TellsSlot v (Amend c) t) (sym x) (λ n made. made.makes)

module _ (v : List ℕ) (payload : Data) (e : Edit) (c : Choice) (chosen : Chosen v c) where
  pub need_fault_by : (f : EditFault) → IsNeedFault v payload e f → IsNeedFaultAs v payload e c f
  need_fault_by f x = subst (λ d. IsNeedFaultAs v payload e d f) (choices_agree v x.choice c x.chosen chosen) x.fault

  pub first_need_by : (f : EditFault) → IsLeast edit_key (IsNeedFaultAs v payload e c) f → IsLeast edit_key (IsNeedFault v payload e) f
  first_need_by f least = (record { choice = c; chosen = chosen; fault = least.0 }, λ g bad. least.1 g (need_fault_by g bad))

  module _ (r : List ℕ) where
    pub fault_by : (f : EditFault) → IsEditFault v payload e r f → IsEditFaultAs v payload e r c f
    fault_by f x = subst (λ d. IsEditFaultAs v payload e r d f) (choices_agree v x.choice c x.chosen chosen) x.fault

    pub refusal_by : (f : EditFault) → IsLeast edit_key (IsEditFaultAs v payload e r c) f → Refusal v payload e r f
    refusal_by f least = (record { choice = c; chosen = chosen; fault = least.0 }, λ g bad. least.1 g (fault_by g bad))

    pub unrefused_by : ((f : EditFault) → IsEditFaultAs v payload e r c f → ⊥) → IsUnrefused v payload e r
    unrefused_by none = record { none = λ f bad. none f (fault_by f bad) }

-- where no memory is taken, there is no metadata to take it for
pub takes_none : (v : List ℕ) → TakesNoMemory v → NeedsMetadata v → ⊥
takes_none v free needs = elim free [
  | inl old ↦ let same = choices_agree v luks1 (luks2 needs.place needs.copies) old needs.chosen in cc
  | inr bad ↦ needs.uuid bad.0 (subst (λ d. IsReadFaultAs v d (reading.Head bad.0)) (choices_agree v bad.1.choice (luks2 needs.place needs.copies) bad.1.chosen needs.chosen) bad.1.fault)
]

-- a LUKS2 copy that was read has metadata
pub needs_of : (v : List ℕ) (copy : ChosenCopy) → IsChosenCopy v copy → NeedsMetadata v
needs_of v copy is = record {
  place = copy.header.hdr_offset;
  copies = copy.copies;
  chosen = is.chosen;
  uuid = uuid_sound (uuid_field (header_at v copy.header.hdr_offset)) is.uuid;
}
