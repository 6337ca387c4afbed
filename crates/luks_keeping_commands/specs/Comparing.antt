-- What the command `compare` may answer.
use Rattle.std.specs.Prelude.{◌≡◌, ◌⊎◌, ℕ, List, Result, Ok, Err}
use Rattle.luks_writing.specs.TwoDevices.{IsOneFailure}
use Rattle.luks_reading.specs.Checked.{First, WellFormed}
use Rattle.luks_reading.specs.Header.{NeedsMetadata}
use Rattle.luks_reading.specs.declared.report.Data.{Data}
use Rattle.luks_reading.specs.declared.report.Data.TheVariants.{Elsewhere}
use Rattle.luks_keeping.specs.Compared.{IsComparedInFull}
use Rattle.luks_keeping.specs.SameVolume.{IsOtherVolume}
use Rattle.luks_keeping.specs.declared.restore_fault.RestoreFault.TheVariants.{NotAccepted, OtherVolume}
use Rattle.luks_request.specs.declared.keeping.Comparing.{Comparing}
use Rattle.luks_commands.specs.declared.answers.Answer.{Answer}
use Rattle.luks_commands.specs.declared.answers.Answer.TheVariants.{Compared, Refused, DeviceFault, NoMemory}
use Rattle.luks_commands.specs.declared.answers.Refusal.TheVariants.{Check, Restore}
use Rattle.luks_commands.specs.declared.inputs.InputFault.{InputFault}
use Rattle.luks_commands.specs.Answer.{unread_answer}
use Rattle.luks_commands.specs.Lost.{IsLost}
use Rattle.luks_wide_reading.specs.Headers.{IsUnderWayVolume}
use Rattle.luks_keeping_commands.specs.ComparingUnderway.{IsUnderwayCompared}
use Rattle.luks_keeping_commands.specs.TwoFiles.{pair_of, NoneFailed, Pair}

-- the backup `b` is one, and the volume `t` is well formed
pub record AreBothFormed (payload : Data) (b t : List ℕ) : Type 0 where
  pub backup : WellFormed b Elsewhere
  pub volume : WellFormed t payload

-- where both files are there; the source is the backup. What is refused comes in this order: the backup's
-- first fault, the volume's, that it is another one's
abbrev pub IsCompareAnswer : Type 0 → Data → Pair → Answer → Type 0
IsCompareAnswer tells payload d (Compared comparison) = NoneFailed d × (tells → AreBothFormed payload d.source d.old)
    × (tells → IsOtherVolume d.source d.old → ⊥) × (tells → IsComparedInFull d.source d.old comparison)
IsCompareAnswer tells payload d (Refused (Restore (NotAccepted f))) = NoneFailed d × (tells → First d.source Elsewhere f)
IsCompareAnswer tells payload d (Refused (Check f)) = NoneFailed d × (tells → WellFormed d.source Elsewhere)
    × (tells → First d.old payload f)
IsCompareAnswer tells payload d (Refused (Restore OtherVolume)) = NoneFailed d × (tells → AreBothFormed payload d.source d.old)
    × (tells → IsOtherVolume d.source d.old)
IsCompareAnswer tells payload d DeviceFault = IsOneFailure d.source_before d.source_after d.before d.after
IsCompareAnswer tells payload d NoMemory = NoneFailed d
    × (tells → NeedsMetadata d.source ⊎ (WellFormed d.source Elsewhere × NeedsMetadata d.old))
IsCompareAnswer tells payload d a = ⊥

-- of any backup: what is answered of others isn't of one in whose metadata something is under way, but where a call failed or memory was
-- refused
abbrev pub IsComparedAnswer : Type 0 → Data → Pair → Answer → Type 0
IsComparedAnswer tells payload d a = (IsCompareAnswer tells payload d a × (tells → IsUnderWayVolume d.source → IsLost a)) ⊎ IsUnderwayCompared tells d a

-- of the volume and the backup before the command and after it, where they aren't one file: the volume is
-- opened first
abbrev pub AnswersCompare : {D : Type 0} → Type 0 → (D → ℕ) → (D → List ℕ) → (D → ℕ) → Data
    → Result D InputFault → Result D InputFault → Result D InputFault → Result D InputFault → Answer → Type 0
AnswersCompare {D} tells size bytes failed payload (Ok old) (Ok new) (Ok backup) (Ok backup_new) a =
    IsComparedAnswer tells payload (pair_of size bytes failed backup backup_new old new) a
AnswersCompare {D} tells size bytes failed payload (Ok old) new (Err missed) backup_new a = a ≡ unread_answer missed
AnswersCompare {D} tells size bytes failed payload (Err missed) new backup backup_new a = a ≡ unread_answer missed
AnswersCompare {D} tells size bytes failed payload old new backup backup_new a = ⊥
