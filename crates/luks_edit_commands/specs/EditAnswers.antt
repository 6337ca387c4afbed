-- What the commands that edit may answer.
use Rattle.std.specs.Prelude.{◌≡◌, ◌⊎◌, ℕ, ◌+◌, List, Option, Some, Result, Ok, Err}
use Rattle.luks_reading.specs.declared.report.Data.{Data}
use Rattle.luks_reading.specs.Header.{NeedsMetadata}
use Rattle.luks_edit.specs.declared.edit.Done.{Done as Made}
use Rattle.luks_edit.specs.declared.edit.Edit.{Edit as TheEdit}
use Rattle.luks_edit.specs.declared.edit_fault.EditFault.{EditFault}
use Rattle.luks_edit.specs.declared.edit_fault.EditFault.TheVariants as fault
use Rattle.luks_volume.specs.Needed.{NeedsRandom}
use Rattle.luks_commands.specs.declared.answers.Answer.{Answer}
use Rattle.luks_commands.specs.declared.answers.Answer.TheVariants.{Done, Refused, DeviceFault, NoMemory}
use Rattle.luks_commands.specs.declared.answers.Refusal.TheVariants.{Edit, LongPassphrase, OtherUse}
use Rattle.luks_commands.specs.declared.inputs.InputFault.{InputFault}
use Rattle.luks_commands.specs.Answer.{IsWordless, unread_answer}
use Rattle.luks_edit_commands.specs.Editing.{Given, IsFirstSeen, IsReplied, Lacking}
use Rattle.luks_edit_commands.specs.OtherUses.{Bars}

-- as many random bytes as the edit takes of the volume `v` can't be read, and this is answered
pub record LacksRandom (payload : Data) (given : Given) (lacks : Lacking) (v : List ℕ) (a : Answer) : Type 0 where
  pub edit : TheEdit
  pub asked : given.asks v edit
  pub count : ℕ
  pub needs : NeedsRandom v payload edit count
  pub fault : InputFault
  pub unread : lacks.random count fault
  pub answered : unread_answer fault ≡ a

-- a file that the edit needs can't be read, and this is answered: `no memory` for a failed allocation, else
-- `device fault`
abbrev pub LacksFile : Type 0 → Data → Given → Lacking → List ℕ → Answer → Type 0
LacksFile tells payload given lacks v a = ((f : InputFault) × lacks.words f × (unread_answer f ≡ a)) ⊎ (tells → LacksRandom payload given lacks v a)

-- memory is taken for a file that the edit needs, and for a volume of LUKS2 whose metadata is read: none
-- for one of LUKS1, nor for one that isn't accepted before that
abbrev pub TakesMemory : Type 0 → Data → Given → Lacking → List ℕ → Type 0
TakesMemory tells payload given lacks v = LacksFile tells payload given lacks v NoMemory ⊎ (tells → NeedsMetadata v)

-- the edit was run over `v`, completed, and left `w`; this keyslot is told of it
pub record IsDoneWith (payload : Data) (given : Given) (v w : List ℕ) (slot : Option ℕ) : Type 0 where
  pub made : Made
  pub replied : IsReplied payload given v w (Ok made)
  pub told : given.told replied.edit made.slot ≡ slot

-- the edit was refused by this fault: since no keyslot is found for it, or by the first that is seen without opening one, or
-- when it was run over `v`, by the first of all its faults
abbrev pub IsRefusedBy : Data → Given → List ℕ → List ℕ → EditFault → Type 0
IsRefusedBy payload given v w f = ((w ≡ v) × (given.misses v f ⊎ IsFirstSeen payload (given.asks v) v f)) ⊎ IsReplied payload given v w (Err f)

-- of the volume `v` that was left as `w`, while the device's count of failures went from `before` to
-- `after`. Where a call of it failed nothing but `device fault` is answered; else the same comes where a
-- file that the edit needs can't be read, and then the volume is as it was
abbrev pub IsEditAnswer : Type 0 → Data → Given → Lacking → List ℕ → List ℕ → ℕ → ℕ → Answer → Type 0
IsEditAnswer tells payload given lacks v w before after (Done slot) = (after ≡ before) × (tells → IsDoneWith payload given v w slot)
IsEditAnswer tells payload given lacks v w before after (Refused LongPassphrase) = (after ≡ before) × (tells → w ≡ v) × given.is_long
IsEditAnswer tells payload given lacks v w before after (Refused (OtherUse found)) = (after ≡ before) × (tells → (w ≡ v) × Bars given.over v (Some found))
IsEditAnswer tells payload given lacks v w before after (Refused (Edit fault.Device)) = ⊥
IsEditAnswer tells payload given lacks v w before after (Refused (Edit fault.Memory)) = ⊥
IsEditAnswer tells payload given lacks v w before after (Refused (Edit f)) = (after ≡ before) × (tells → IsRefusedBy payload given v w f)
IsEditAnswer tells payload given lacks v w before after DeviceFault =
    (after ≡ before + 1) ⊎ ((after ≡ before) × (tells → w ≡ v) × LacksFile tells payload given lacks v DeviceFault)
IsEditAnswer tells payload given lacks v w before after NoMemory =
    (after ≡ before) × (tells → w ≡ v) × TakesMemory tells payload given lacks v
IsEditAnswer tells payload given lacks v w before after a = ⊥

-- the same of a volume that may not be there; the passphrases are read before it
abbrev pub AnswersEdit : {D : Type 0} → Type 0 → (D → List ℕ) → (D → ℕ) → Data → Given → Lacking → Result D InputFault → Result D InputFault → Answer → Type 0
AnswersEdit {D} tells bytes failed payload given lacks (Ok old) (Ok new) a = IsEditAnswer tells payload given lacks (bytes old) (bytes new) (failed old) (failed new) a
AnswersEdit {D} tells bytes failed payload given lacks (Ok old) (Err fault) a = ⊥
AnswersEdit {D} tells bytes failed payload given lacks (Err fault) new a = IsWordless given.is_long lacks.words a ⊎ (a ≡ unread_answer fault)
