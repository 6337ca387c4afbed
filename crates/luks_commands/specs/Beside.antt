-- The file beside a volume, as the target of a new header or a backup's file: whether both are one, and what is left of it.
use Rattle.std.specs.Prelude.{◌≡◌, ◌⊎◌, ℕ, List, Result, Ok, Err, ⊤}
use Rattle.luks_area.specs.Device.{IsSettled}
use Rattle.luks_commands.specs.declared.answers.Answer.{Answer}
use Rattle.luks_commands.specs.declared.answers.Answer.TheVariants.{Refused}
use Rattle.luks_commands.specs.declared.answers.Refusal.TheVariants.{SameFile}
use Rattle.luks_commands.specs.declared.inputs.InputFault.{InputFault}
use Rattle.luks_commands.specs.declared.inputs.InputFault.TheVariants.{Unreadable}
use Rattle.luks_commands.specs.declared.inputs.Reason.TheVariants as reason
use Rattle.luks_commands.specs.Files.{IsLeft}

-- the volume and the other file have equal names, or were found to be one file
abbrev pub AreOneFile : {D : Type 0} → List ℕ → List ℕ → Result D InputFault → Type 0
AreOneFile {D} name target_name target = (name ≡ target_name) ⊎ (target ≡ Err (Unreadable reason.SameFile))

-- the answer to that
abbrev pub IsSameFile : Answer → Type 0
IsSameFile a = a ≡ Refused SameFile

-- a target that is there is as long as it was, and what is said of its bytes beside the volume's holds;
-- without the volume it is as it was
abbrev pub LeavesTarget : {D : Type 0} → Type 0 → (D → ℕ) → (D → List ℕ) → (List ℕ → List ℕ → List ℕ → Type 0)
    → Result D InputFault → Result D InputFault → Result D InputFault → Type 0
LeavesTarget {D} tells size bytes says (Ok volume) (Ok old) (Ok new) = IsLeft tells size bytes (says (bytes volume)) old new
LeavesTarget {D} tells size bytes says (Ok volume) (Ok old) (Err f) = ⊥
LeavesTarget {D} tells size bytes says (Ok volume) (Err f) new = new ≡ Err f
LeavesTarget {D} tells size bytes says (Err f) old new = new ≡ old

-- nothing of the target is unsettled, unless a call of one of the two failed
abbrev pub SettlesTarget : {D : Type 0} → Type 0 → (D → ℕ) → (D → ℕ → Type 0)
    → Result D InputFault → Result D InputFault → Result D InputFault → Result D InputFault → Type 0
SettlesTarget {D} tells failed unsettled (Ok volume) (Ok volume_new) (Ok old) (Ok new) =
    tells → failed volume_new ≡ failed volume → failed new ≡ failed old → IsSettled unsettled new
SettlesTarget {D} tells failed unsettled volume volume_new old new = ⊤
