-- What the command `backup` leaves of its file, and what it may answer.
use Rattle.std.specs.Prelude.{◌≡◌, ◌⊎◌, ◌↔◌, ℕ, ◌+◌, ◌<◌, List, Some, None, Bool, true, false, Result, Ok, Err}
use Rattle.luks_area.specs.Ranges.{SameBut}
use Rattle.luks_writing.specs.TwoDevices.{IsOneFailure}
use Rattle.luks2_header.specs.Selection.{Choice, Chosen}
use Rattle.luks_slot.specs.declared.allowed.Allowed.{Allowed}
use Rattle.luks_reading.specs.Answer.{AnswerWithin, Opened}
use Rattle.luks_reading.specs.Checked.{WellFormed}
use Rattle.luks_reading.specs.Header.{NeedsMetadata}
use Rattle.luks_reading.specs.declared.report.Data.{Data}
use Rattle.luks_reading.specs.declared.report.Data.TheVariants.{Elsewhere}
use Rattle.luks_keeping.specs.Backup.{IsBackup}
use Rattle.luks_keeping.specs.BackupFaults.{CanBackUp, IsAnsweredBackup, IsOfBackup}
use Rattle.luks_keeping.specs.Rescued.{AnswersUnlessLost, EndsAfter, EndsBySource, IsRescue}
use Rattle.luks_keeping.specs.declared.lost.LostKeyslots.{LostKeyslots}
use Rattle.luks_keeping.specs.declared.backup_fault.BackupFault.TheVariants as fault
use Rattle.luks_request.specs.declared.keeping.BackingUp.{BackingUp}
use Rattle.luks_commands.specs.declared.answers.Answer.{Answer}
use Rattle.luks_commands.specs.declared.answers.Answer.TheVariants.{Done, Rescued, Refused, DeviceFault, NoMemory}
use Rattle.luks_commands.specs.declared.answers.Refusal.TheVariants.{Backup, Exists, Underway}
use Rattle.luks_commands.specs.declared.underway_refusal.UnderwayRefusal.TheVariants.{Metadata}
use Rattle.luks_commands.specs.declared.inputs.InputFault.{InputFault}
use Rattle.luks_commands.specs.declared.inputs.InputFault.TheVariants.{Unreadable}
use Rattle.luks_commands.specs.declared.inputs.Reason.TheVariants as reason
use Rattle.luks_commands.specs.Answer.{unread_answer}
use Rattle.luks_commands.specs.Lost.{IsLost}
use Rattle.luks_wide_reading.specs.declared.copy.UnderwayCopy.{UnderwayCopy}
use Rattle.luks_wide_reading.specs.Headers.{IsUnderwayCopy, IsUnderWayVolume}
use Rattle.luks_wide_keeping.specs.Backup.{CanBackUpUnderway, IsUnderwayBackup, IsUnderwayUnmade}
use Rattle.luks_keeping_commands.specs.TwoFiles.{pair_of, NoneFailed, Pair}
use Rattle.luks_commands.specs.UnderwayAnswers.{IsMetadataRefused}

-- ---- the backup that is made

-- `new` is the file `old` after the backup of the volume `v` was written to it
pub record IsNewBackup (v : List ℕ) (payload : Data) (old new : List ℕ) : Type 0 where
  pub backup : IsBackup v payload old new
  pub well_formed : WellFormed new Elsewhere
  -- each keyslot answers each passphrase as it did
  pub answers : (allowed : Allowed) (n : ℕ) (p : List ℕ) (a : Opened) → AnswerWithin allowed v n p a ↔ AnswerWithin allowed new n p a

-- which bytes of the file may have changed, whatever is answered: those of the backup
abbrev pub KeepsRest : Data → List ℕ → List ℕ → List ℕ → Type 0
KeepsRest payload volume old new = SameBut (IsOfBackup volume payload) old new

-- ---- what is answered

-- where both files are there; `device fault` comes exactly where a call of one of the two failed
abbrev pub IsBackupAnswer : Type 0 → Data → Pair → Answer → Type 0
IsBackupAnswer tells payload d (Done slot) = NoneFailed d × (slot ≡ None)
    × (tells → CanBackUp d.source payload d.total) × (tells → IsNewBackup d.source payload d.old d.new)
IsBackupAnswer tells payload d (Refused (Backup fault.Device)) = ⊥
IsBackupAnswer tells payload d (Refused (Backup fault.Memory)) = ⊥
IsBackupAnswer tells payload d (Refused (Backup f)) = NoneFailed d × (tells → d.new ≡ d.old)
    × (tells → IsAnsweredBackup d.source payload d.total f)
IsBackupAnswer tells payload d DeviceFault = IsOneFailure d.source_before d.source_after d.before d.after
IsBackupAnswer tells payload d NoMemory = NoneFailed d × (tells → d.new ≡ d.old)
    × (tells → IsAnsweredBackup d.source payload d.total fault.Memory)
IsBackupAnswer tells payload d a = ⊥

-- ---- and with `--rescue`

-- `new` is the file `old` after the volume `v` was backed up as far as it could be read, which `before` and then `after`
-- calls have failed to; these keyslots are told
pub record IsNewRescue (v : List ℕ) (payload : Data) (before after : ℕ) (old new : List ℕ) (lost : LostKeyslots) : Type 0 where
  pub rescue : IsRescue v payload before after old new (Some lost)
  pub well_formed : WellFormed new Elsewhere
  -- each other keyslot answers each passphrase as it did
  pub answers : AnswersUnlessLost v new (Some lost)

-- where both files are there; `device fault` comes where a call of the file failed, or a read of the volume's header.
-- All else is as without it
abbrev pub IsRescueAnswer : Type 0 → Data → Pair → Answer → Type 0
IsRescueAnswer tells payload d (Rescued lost) = (d.source_before < d.source_after) × (d.after ≡ d.before)
    × (tells → CanBackUp d.source payload d.total) × (tells → IsNewRescue d.source payload d.source_before d.source_after d.old d.new lost)
IsRescueAnswer tells payload d DeviceFault = EndsAfter true d.source_before d.source_after d.before d.after
    × (tells → d.after ≡ d.before → (c : Choice) → Chosen d.source c → EndsBySource d.source c d.source_before d.source_after d.old d.new)
IsRescueAnswer tells payload d a = IsBackupAnswer tells payload d a

-- ---- and where something is under way

-- `new` is the file `old` after the backup of the volume `v`, as it was at that moment, was written to it
pub record IsNewUnderway (v old new : List ℕ) : Type 0 where
  pub backup : IsUnderwayBackup v old new
  -- what is read of the volume is read of the backup
  pub reads : (c : UnderwayCopy) → IsUnderwayCopy v c → IsUnderwayCopy new c

-- where both files are there, and something is under way in the volume's metadata; `device fault` comes exactly where a call
-- of one of the two failed
abbrev pub IsUnderwayMade : Type 0 → Pair → Answer → Type 0
IsUnderwayMade tells d (Done slot) = NoneFailed d × (slot ≡ None)
    × (tells → CanBackUpUnderway d.source d.total) × (tells → IsNewUnderway d.source d.old d.new)
IsUnderwayMade tells d (Refused (Backup fault.Device)) = ⊥
IsUnderwayMade tells d (Refused (Backup fault.Memory)) = ⊥
IsUnderwayMade tells d (Refused (Backup f)) = NoneFailed d × (tells → d.new ≡ d.old) × (tells → IsUnderwayUnmade d.source d.total f)
IsUnderwayMade tells d (Refused (Underway (Metadata f))) = NoneFailed d × (tells → d.new ≡ d.old)
    × (tells → IsMetadataRefused d.source f)
IsUnderwayMade tells d DeviceFault = IsOneFailure d.source_before d.source_after d.before d.after
IsUnderwayMade tells d a = ⊥

-- where both files are there, with `--rescue` or without it: what is answered of any volume isn't of one in whose metadata
-- something is under way, but where a call failed or memory was refused
abbrev pub IsMadeAnswer : Bool → Type 0 → Data → Pair → Answer → Type 0
IsMadeAnswer false tells payload d a = (IsBackupAnswer tells payload d a × (tells → IsUnderWayVolume d.source → IsLost a)) ⊎ IsUnderwayMade tells d a
IsMadeAnswer true tells payload d a = IsRescueAnswer tells payload d a

-- ---- where there is no file

-- why there is no backup of the volume `v`, of which so many calls had failed before and after, on however
-- large a file
abbrev pub IsNotKept : Type 0 → Data → List ℕ → ℕ → ℕ → Answer → Type 0
IsNotKept tells payload v before after (Refused (Backup fault.Device)) = ⊥
IsNotKept tells payload v before after (Refused (Backup fault.Memory)) = ⊥
IsNotKept tells payload v before after (Refused (Backup f)) = (after ≡ before) × (tells → IsAnsweredBackup v payload 18446744073709551615 f)
IsNotKept tells payload v before after DeviceFault = after ≡ before + 1
IsNotKept tells payload v before after NoMemory = (after ≡ before) × (tells → NeedsMetadata v)
IsNotKept tells payload v before after a = ⊥

-- where the file isn't there by this fault: the volume is looked at first
abbrev pub IsWithoutFile : Type 0 → Data → List ℕ → ℕ → ℕ → InputFault → Answer → Type 0
IsWithoutFile tells payload v before after missed a = IsNotKept tells payload v before after a
    ⊎ ((after ≡ before) × (tells → WellFormed v payload) × (a ≡ unread_answer missed))

-- the same where something is under way in its metadata
abbrev pub IsUnderwayUnkept : Type 0 → List ℕ → ℕ → ℕ → Answer → Type 0
IsUnderwayUnkept tells v before after (Refused (Backup fault.Device)) = ⊥
IsUnderwayUnkept tells v before after (Refused (Backup fault.Memory)) = ⊥
IsUnderwayUnkept tells v before after (Refused (Backup f)) = (after ≡ before) × (tells → IsUnderwayUnmade v 18446744073709551615 f)
IsUnderwayUnkept tells v before after (Refused (Underway (Metadata f))) = (after ≡ before) × (tells → IsMetadataRefused v f)
IsUnderwayUnkept tells v before after a = ⊥

abbrev pub IsUnderwayWithoutFile : Type 0 → List ℕ → ℕ → ℕ → InputFault → Answer → Type 0
IsUnderwayWithoutFile tells v before after missed a = IsUnderwayUnkept tells v before after a
    ⊎ ((after ≡ before) × (tells → CanBackUpUnderway v 18446744073709551615) × (a ≡ unread_answer missed))

-- with `--rescue` or without it
abbrev pub IsUnmadeAnswer : Bool → Type 0 → Data → List ℕ → ℕ → ℕ → InputFault → Answer → Type 0
IsUnmadeAnswer false tells payload v before after missed a =
    (IsWithoutFile tells payload v before after missed a × (tells → IsUnderWayVolume v → IsLost a)) ⊎ IsUnderwayWithoutFile tells v before after missed a
IsUnmadeAnswer true tells payload v before after missed a = IsWithoutFile tells payload v before after missed a

-- ---- the whole

-- of the volume and the file before the command and after it, where they aren't one, with `--rescue` or without it: a
-- file that is there and isn't empty refuses it before the volume is opened
abbrev pub AnswersBackup : {D : Type 0} → Type 0 → (D → ℕ) → (D → List ℕ) → (D → ℕ) → Bool → Data
    → Result D InputFault → Result D InputFault → Result D InputFault → Result D InputFault → Answer → Type 0
AnswersBackup {D} tells size bytes failed rescue payload volume volume_new (Err (Unreadable reason.Exists)) new a = a ≡ Refused Exists
AnswersBackup {D} tells size bytes failed rescue payload (Ok volume) (Ok volume_new) (Ok old) (Ok new) a =
    IsMadeAnswer rescue tells payload (pair_of size bytes failed volume volume_new old new) a
AnswersBackup {D} tells size bytes failed rescue payload (Ok volume) (Ok volume_new) (Err missed) new a =
    IsUnmadeAnswer rescue tells payload (bytes volume) (failed volume) (failed volume_new) missed a
AnswersBackup {D} tells size bytes failed rescue payload (Err missed) volume_new old new a = a ≡ unread_answer missed
AnswersBackup {D} tells size bytes failed rescue payload volume volume_new old new a = ⊥
