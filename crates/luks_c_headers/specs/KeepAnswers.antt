-- What the calls answer that back up a header, put it back, and compare the two.
use Rattle.std.specs.Prelude.{◌≡◌, ◌≢◌, ◌⊎◌, ◌↔◌, ℕ, ◌<◌, ◌≤◌, List, length, slice_index_or, Bool, true, false}
use Rattle.luks_area.specs.First.{IsLeast}
use Rattle.luks_area.specs.Ranges.{part}
use Rattle.luks_area.specs.declared.area.Area.{Area}
use Rattle.luks_slot.specs.declared.allowed.Allowed.{Allowed}
use Rattle.luks_reading.specs.Answer.{AnswerWithin, Opened}
use Rattle.luks_reading.specs.Checked.{IsCheckRefusal, WellFormed}
use Rattle.luks_reading.specs.declared.check_fault.CheckFault.{CheckFault}
use Rattle.luks_reading.specs.declared.report.Data.{Data}
use Rattle.luks_reading.specs.declared.report.Data.TheVariants.{Elsewhere}
use Rattle.luks_keeping.specs.Backup.{IsBackup}
use Rattle.luks_keeping.specs.BackupFaults.{backup_key, CanBackUp, IsBackupFault}
use Rattle.luks_keeping.specs.Compared.{IsComparedInFull}
use Rattle.luks_keeping.specs.Restored.{IsRestored, IsSegmentOn}
use Rattle.luks_keeping.specs.RestoreFaults.{CanRestore, checked_restore, IsRestoreFault, restore_key}
use Rattle.luks_keeping.specs.SameVolume.{IsOtherVolume}
use Rattle.luks_keeping.specs.declared.backup_fault.BackupFault.{BackupFault}
use Rattle.luks_keeping.specs.declared.comparison.Comparison.{Comparison}
use Rattle.luks_keeping.specs.declared.comparison.Keeping.{Keeping}
use Rattle.luks_keeping.specs.declared.comparison.Keeping.TheVariants.{Absent, Same, Older, Missing, Removed, Damaged}
use Rattle.luks_keeping.specs.declared.over.Over.{Over}
use Rattle.luks_keeping.specs.declared.over.Over.TheVariants.{AnyVolume, SameVolume}
use Rattle.luks_keeping.specs.declared.restore_fault.RestoreFault.{RestoreFault}
use Rattle.luks_given.specs.Parts.{IsWanted}
use Rattle.luks_given.specs.declared.parts.Part.{Part}
use Rattle.luks_c_answers.specs.declared.plans.LuksPlan.{LuksPlan}
use Rattle.luks_c_headers.specs.declared.comparing.LuksCompared.{LuksCompared}
use Rattle.luks_c_answers.specs.Numbers.{backup_number, check_number, restore_number}
use Rattle.luks_c_answers.specs.Plans.{AnswersPlan, Buffers}

-- ---- a backup

-- `w` is the target `old` with the backup of the volume `v`: a well formed volume whose data lies elsewhere, of which each
-- keyslot answers as the volume's
pub record IsBackedUpTo (v : List ℕ) (payload : Data) (old w : List ℕ) : Type 0 where
  pub backup : IsBackup v payload old w
  pub well_formed : WellFormed w Elsewhere
  pub answers : (allowed : Allowed) (n : ℕ) (p : List ℕ) (a : Opened) → AnswerWithin allowed v n p a ↔ AnswerWithin allowed w n p a

-- the first of the faults has this number
pub record IsUnkeptBy (v : List ℕ) (payload : Data) (total number : ℕ) : Type 0 where
  pub fault : BackupFault
  pub least : IsLeast backup_key (IsBackupFault v payload total) fault
  pub is : number ≡ backup_number fault

-- of the volume `v`, and the target `t` of `total` bytes, of which these ranges are given
abbrev pub AnswersBackup : List ℕ → Data → List Part → List ℕ → ℕ → Buffers → Buffers → LuksPlan → ℕ → Type 0
AnswersBackup v payload parts t total = AnswersPlan parts t (CanBackUp v payload total) (IsUnkeptBy v payload total)
    (IsBackedUpTo v payload t)

-- ---- a backup that is put back

-- what it may be restored over
abbrev pub over_asked : Bool → Over
over_asked true = AnyVolume
over_asked false = SameVolume

-- `w` is the volume `old` of `total` bytes with the header and the key areas of the backup `b`: each keyslot answers as the
-- backup's, and no byte of a segment is another
pub record IsRestoredTo (b : List ℕ) (payload : Data) (total : ℕ) (old w : List ℕ) : Type 0 where
  pub restored : IsRestored b payload old w
  pub well_formed : WellFormed w payload
  pub answers : (allowed : Allowed) (n : ℕ) (p : List ℕ) (a : Opened) → AnswerWithin allowed b n p a ↔ AnswerWithin allowed w n p a
  pub segments : (n : ℕ) (a : Area) → IsSegmentOn b payload total n a → part w a.start a.len ≡ part old a.start a.len

-- the first of the faults has this number
pub record IsUnrestoredBy (b t : List ℕ) (payload : Data) (over : Over) (number : ℕ) : Type 0 where
  pub fault : RestoreFault
  pub least : IsLeast restore_key (IsRestoreFault b t payload over) fault
  pub is : number ≡ restore_number fault

-- of the backup `b`, and the volume `t` of `total` bytes, of which these ranges are given
abbrev pub AnswersRestore : List ℕ → Data → Over → List Part → List ℕ → ℕ → Buffers → Buffers → LuksPlan → ℕ → Type 0
AnswersRestore b payload over parts t total = AnswersPlan parts t (CanRestore b t payload over)
    (IsUnrestoredBy b t payload over) (IsRestoredTo b payload total t)

-- ---- a comparison

-- how a keyslot stands, by its number
abbrev pub keeping_number : Keeping → ℕ
keeping_number Absent = 0
keeping_number Same = 1
keeping_number Older = 2
keeping_number Missing = 3
keeping_number Removed = 4
keeping_number Damaged = 5

-- whether a digest of the volume keys is one, by its number
abbrev pub key_number : Bool → ℕ
key_number true = 1
key_number false = 0

-- the numbers of the keyslots below `n` are in the buffer's front, and from there on it is as it was
pub record TellsKeyslots (keyslots : List Keeping) (n : ℕ) (old new : List ℕ) : Type 0 where
  pub long : length new ≡ length old
  pub each : (k : ℕ) → k < n → slice_index_or new k 0 ≡ keeping_number (slice_index_or keyslots k Absent)
  pub rest : (k : ℕ) → n ≤ k → slice_index_or new k 0 ≡ slice_index_or old k 0

-- how the backup `b` stands to the volume `t`, which is no other one, is told
pub record IsComparedTo (b t : List ℕ) (payload : Data) (old new : List ℕ) (same_key : ℕ) : Type 0 where
  pub kept : WellFormed b Elsewhere
  pub formed : WellFormed t payload
  pub own : IsOtherVolume b t → ⊥
  pub comparison : Comparison
  pub compared : IsComparedInFull b t comparison
  pub key : same_key ≡ key_number comparison.same_key
  pub keyslots : TellsKeyslots comparison.keyslots 32 old new

-- the backup isn't accepted
pub record IsNoBackup (b : List ℕ) (number : ℕ) : Type 0 where
  pub fault : CheckFault
  pub refusal : IsCheckRefusal b Elsewhere fault
  pub is : number ≡ restore_number (checked_restore fault)

-- it is, and the volume isn't
pub record IsNoVolume (b t : List ℕ) (payload : Data) (number : ℕ) : Type 0 where
  pub kept : WellFormed b Elsewhere
  pub fault : CheckFault
  pub refusal : IsCheckRefusal t payload fault
  pub is : number ≡ check_number fault

-- both are, and the volume is another one
pub record IsOtherBy (b t : List ℕ) (payload : Data) (number : ℕ) : Type 0 where
  pub kept : WellFormed b Elsewhere
  pub formed : WellFormed t payload
  pub other : IsOtherVolume b t
  pub is : number ≡ 48

-- a range of the backup or of the volume is wanted, which isn't given, and none of the other
abbrev pub WantsOneOf : List Part → ℕ → List Part → ℕ → LuksCompared → Type 0
WantsOneOf backup_parts backup_total parts total told =
    (IsWanted backup_parts backup_total told.backup_beyond × (told.beyond.len ≡ 0)) ⊎ (IsWanted parts total told.beyond × (told.backup_beyond.len ≡ 0))

-- 0 says that it is told, any other number why it isn't, and then the buffer is as it was
pub record AnswersCompare (b t : List ℕ) (payload : Data) (old new : List ℕ) (same_key number : ℕ) : Type 0 where
  pub told : number ≡ 0 → IsComparedTo b t payload old new same_key
  pub untold : number ≢ 0 → IsNoBackup b number ⊎ (IsNoVolume b t payload number ⊎ IsOtherBy b t payload number)
  pub kept : number ≢ 0 → new ≡ old
