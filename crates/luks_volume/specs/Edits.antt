-- What an edit is of a volume of either version: the keyslots that it names, why it is refused,
-- what it makes of the volume, what a failing device call may leave, and its reply.
use Rattle.std.specs.Prelude.{◌≡◌, ℕ, List, Option, Some, None, IsSomeAnd, Ok, Err}
use Rattle.luks_area.specs.First.{IsLeast}
use Rattle.luks2_header.specs.Selection.{Choice, luks1, luks2, nothing, Chosen}
use Rattle.luks_reading.specs.declared.report.Data.{Data}
use Rattle.luks_reading.specs.Checked.{IsFault}
use Rattle.luks_reading.specs.Header.{NeedsMetadata}
use Rattle.luks_edit.specs.declared.edit.Edit.{Edit}
use Rattle.luks_edit.specs.declared.deed.Sealed.{Sealed}
use Rattle.luks_edit.specs.declared.edit_fault.EditFault.{EditFault}
use Rattle.luks_edit.specs.declared.edit_fault.EditFault.TheVariants as fault
use Rattle.luks_edit.specs.Asked.{sealed_by}
use Rattle.luks_edit.specs.EditFaults.{edit_key}
use Rattle.luks_edit.specs.Ran.{Reply}
use Rattle.luks1_edits.specs.Edited.{After1, IsSealedIn as IsSealedIn1, NamedKeyslots1}
use Rattle.luks1_edits.specs.Leftovers.{Leftover1}
use Rattle.luks1_edits.specs.Refused.{IsEditFault1, Need1}
use Rattle.luks2_edit_laws.specs.Edited.{After2, HasRanges, IsSealedIn as IsSealedIn2, NamedKeyslots2}
use Rattle.luks2_edit_laws.specs.Leftovers.{Leftover2}
use Rattle.luks2_edit_laws.specs.Refused.{HasSaid, IsEditFault2, Need2}

-- ---- by what counts of the volume

abbrev pub NamesAs : List ℕ → Edit → Choice → ℕ → Type 0
NamesAs v e luks1 n = NamedKeyslots1 v e n
NamesAs v e (luks2 o copies) n = NamedKeyslots2 v e n
NamesAs v e nothing n = ⊥

abbrev pub IsEditFaultAs : List ℕ → Data → Edit → List ℕ → Choice → EditFault → Type 0
IsEditFaultAs v payload e random luks1 f = IsEditFault1 v payload e random f
IsEditFaultAs v payload e random (luks2 o copies) f = IsEditFault2 v payload e random f
IsEditFaultAs v payload e random nothing (fault.NotAccepted f) = IsFault v payload f
IsEditFaultAs v payload e random nothing f = ⊥

abbrev pub NeedAs : List ℕ → Edit → Choice → ℕ → Type 0
NeedAs v e luks1 k = Need1 v e k
NeedAs v e (luks2 o copies) k = HasSaid v (λ place j. Need2 j e k)
NeedAs v e nothing k = ⊥

abbrev pub AfterAs : List ℕ → Data → Edit → List ℕ → Choice → List ℕ → Type 0
AfterAs v payload e random luks1 w = After1 v e random w
AfterAs v payload e random (luks2 o copies) w = After2 v payload e random w
AfterAs v payload e random nothing w = ⊥

abbrev pub LeftoverAs : List ℕ → Data → Edit → List ℕ → Choice → List ℕ → Type 0
LeftoverAs v payload e random luks1 w = Leftover1 v payload e random w
LeftoverAs v payload e random (luks2 o copies) w = Leftover2 v payload e random w
LeftoverAs v payload e random nothing w = w ≡ v

-- ---- any volume

-- the edit of the volume `v` names the keyslot `n`
pub record NamedSlots (v : List ℕ) (e : Edit) (n : ℕ) : Type 0 where
  pub choice : Choice
  pub chosen : Chosen v choice
  pub named : NamesAs v e choice n

-- the set of its faults
pub record IsEditFault
    (v : List ℕ) (payload : Data) (e : Edit) (random : List ℕ) (f : EditFault)
    : Type 0 where
  pub choice : Choice
  pub chosen : Chosen v choice
  pub fault : IsEditFaultAs v payload e random choice f

-- the refusal: the first of them
abbrev pub Refusal : List ℕ → Data → Edit → List ℕ → EditFault → Type 0
Refusal v payload e random f = IsLeast edit_key (IsEditFault v payload e random) f

-- nothing refuses the edit
pub record IsUnrefused (v : List ℕ) (payload : Data) (e : Edit) (random : List ℕ) : Type 0 where
  pub none : (f : EditFault) → IsEditFault v payload e random f → ⊥

-- the edit takes `k` random bytes
pub record Need (v : List ℕ) (e : Edit) (k : ℕ) : Type 0 where
  pub choice : Choice
  pub chosen : Chosen v choice
  pub is : NeedAs v e choice k

-- the volume `w` is what the edit makes of `v`
pub record After (v : List ℕ) (payload : Data) (e : Edit) (random w : List ℕ) : Type 0 where
  pub choice : Choice
  pub chosen : Chosen v choice
  pub after : AfterAs v payload e random choice w

-- a failing device call may leave the volume `w` of it
pub record Leftover (v : List ℕ) (payload : Data) (e : Edit) (random w : List ℕ) : Type 0 where
  pub choice : Choice
  pub chosen : Chosen v choice
  pub left : LeftoverAs v payload e random choice w

-- ---- the reply

-- the keyslot that a key is sealed in
abbrev pub SealsAs : List ℕ → Sealed → Choice → ℕ → Type 0
SealsAs v s luks1 n = IsSealedIn1 v s n
SealsAs v s (luks2 o copies) n = IsSealedIn2 v s n
SealsAs v s nothing n = ⊥

-- the keyslot that an edit makes, or seals again
abbrev pub MakesAs : List ℕ → Edit → Choice → ℕ → Type 0
MakesAs v e c n = IsSomeAnd (sealed_by e) (λ s. SealsAs v s c n)

-- of the volume `v`
pub record Makes (v : List ℕ) (e : Edit) (n : ℕ) : Type 0 where
  pub choice : Choice
  pub chosen : Chosen v choice
  pub makes : MakesAs v e choice n

-- a completed edit tells the keyslot that it made, or sealed again; one that makes none tells none
abbrev pub TellsSlot : List ℕ → Edit → Option ℕ → Type 0
TellsSlot v e (Some n) = Makes v e n
TellsSlot v e None = (n : ℕ) → Makes v e n → ⊥

-- what the edit, of numbers that have the ranges of their types, replies at the volume `v`, and the
-- volume `w` that it leaves
abbrev pub Replies : Data → List ℕ → Edit → List ℕ → Reply → List ℕ → Type 0
Replies payload v e random (Ok done) w = HasRanges v e random × IsUnrefused v payload e random
    × TellsSlot v e done.slot × After v payload e random w
Replies payload v e random (Err fault.Device) w = Leftover v payload e random w
Replies payload v e random (Err fault.Memory) w = NeedsMetadata v × (w ≡ v)
Replies payload v e random (Err f) w = Refusal v payload e random f × (w ≡ v)
