-- What `luks_backup_length_bytes` answers.
use Rattle.std.specs.Prelude.{◌≡◌, ◌≢◌, ℕ, List}
use Rattle.luks_reading.specs.Checked.{WellFormed}
use Rattle.luks_reading.specs.declared.report.Data.{Data}
use Rattle.luks_keeping.specs.Backup.{IsBackupSize}
use Rattle.luks_keeping.specs.BackupFaults.{IsAnsweredBackup}
use Rattle.luks_keeping.specs.declared.backup_fault.BackupFault.{BackupFault}
use Rattle.luks_c_answers.specs.Numbers.{backup_number}

-- no backup is made of the volume `v`, on however long a target, by a fault of this number: the first, unless another range has
-- to be given or memory was refused
pub record HasNoLength (v : List ℕ) (payload : Data) (number : ℕ) : Type 0 where
  pub fault : BackupFault
  pub answered : IsAnsweredBackup v payload 18446744073709551615 fault
  pub is : number ≡ backup_number fault

-- the number 0 says that it is told, any other why it isn't
pub record AnswersLength (v : List ℕ) (payload : Data) (bytes number : ℕ) : Type 0 where
  pub formed : number ≡ 0 → WellFormed v payload
  pub told : number ≡ 0 → IsBackupSize v payload bytes
  pub untold : number ≢ 0 → HasNoLength v payload number
