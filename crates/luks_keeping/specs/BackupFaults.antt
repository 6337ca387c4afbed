-- When no backup is made of a volume: the faults, their order, and which are a device's.
use Rattle.std.specs.Prelude.{ℕ, ◌<◌, List, [], ◌∷◌, Bool, true, false, ⊤}
use Rattle.luks_area.specs.First.{IsLeast}
use Rattle.luks_area.specs.Ranges.{IsAt}
use Rattle.luks_reading.specs.Checked.{check_key, IsFault}
use Rattle.luks_reading.specs.Header.{NeedsMetadata}
use Rattle.luks_reading.specs.declared.check_fault.CheckFault.{CheckFault}
use Rattle.luks_reading.specs.declared.check_fault.CheckFault.TheVariants as check
use Rattle.luks_reading.specs.declared.report.Data.{Data}
use Rattle.luks_keeping.specs.Backup.{IsBackupSize}
use Rattle.luks_keeping.specs.declared.backup_fault.BackupFault.{BackupFault}
use Rattle.luks_keeping.specs.declared.backup_fault.BackupFault.TheVariants.{NotAccepted, TooSmall, Memory, Device}

-- the rows of the table of faults, in their order
abbrev pub backup_row : BackupFault → ℕ
backup_row (NotAccepted f) = 1
backup_row TooSmall = 2
backup_row Memory = 3
backup_row Device = 4

-- the place of a fault among those of its row
abbrev pub backup_place : BackupFault → List ℕ
backup_place (NotAccepted f) = check_key f
backup_place TooSmall = []
backup_place Memory = []
backup_place Device = []

-- the least key is that of the first fault
abbrev pub backup_key : BackupFault → List ℕ
backup_key f = backup_row f ∷ backup_place f

-- the fault is a device's
abbrev pub is_backup_failure : BackupFault → Bool
is_backup_failure (NotAccepted f) = false
is_backup_failure TooSmall = false
is_backup_failure Memory = false
is_backup_failure Device = true

-- what the source's check answers, as the fault of a backup
abbrev pub checked_backup : CheckFault → BackupFault
checked_backup (check.Head f) = NotAccepted (check.Head f)
checked_backup (check.Meta f) = NotAccepted (check.Meta f)
checked_backup (check.Area f) = NotAccepted (check.Area f)
checked_backup check.Device = Device
checked_backup check.Memory = Memory

-- a device of `total` bytes is shorter than the backup
pub record IsShort (v : List ℕ) (payload : Data) (total : ℕ) : Type 0 where
  pub size : ℕ
  pub is_size : IsBackupSize v payload size
  pub short : total < size

-- the faults of making a backup of the volume `v`, whose payload is where `payload` says, on a target of
-- `total` bytes
abbrev pub IsBackupFault : List ℕ → Data → ℕ → BackupFault → Type 0
IsBackupFault v payload total (NotAccepted f) = IsFault v payload f
IsBackupFault v payload total TooSmall = IsShort v payload total
IsBackupFault v payload total Memory = ⊥
IsBackupFault v payload total Device = ⊥

-- none of the faults stands
pub record CanBackUp (v : List ℕ) (payload : Data) (total : ℕ) : Type 0 where
  pub none : (f : BackupFault) → IsBackupFault v payload total f → ⊥

-- the answer is the first of the faults; or memory was refused for the metadata of LUKS2; or a device
-- failed
abbrev pub IsAnsweredBackup : List ℕ → Data → ℕ → BackupFault → Type 0
IsAnsweredBackup v payload total Memory = NeedsMetadata v
IsAnsweredBackup v payload total Device = ⊤
IsAnsweredBackup v payload total f = IsLeast backup_key (IsBackupFault v payload total) f

-- the byte place is of the backup
pub record IsOfBackup (v : List ℕ) (payload : Data) (p : ℕ) : Type 0 where
  pub size : ℕ
  pub is_size : IsBackupSize v payload size
  pub at : IsAt 0 size p
