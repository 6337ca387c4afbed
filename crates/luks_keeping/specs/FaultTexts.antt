-- How the faults are written: of a backup, what `check` says of the volume as itself; of restoring, what it
-- says of the backup, and of the volume as it would be, each in brackets.
use Rattle.std.specs.Prelude.{ℕ, List, ◌++◌, codes}
use Rattle.luks_reading.specs.FaultTexts.{check_fault_text}
use Rattle.luks_keeping.specs.declared.backup_fault.BackupFault.{BackupFault}
use Rattle.luks_keeping.specs.declared.backup_fault.BackupFault.TheVariants as backup
use Rattle.luks_keeping.specs.declared.restore_fault.RestoreFault.{RestoreFault}
use Rattle.luks_keeping.specs.declared.restore_fault.RestoreFault.TheVariants as restore

abbrev pub backup_fault_text : BackupFault → List ℕ
backup_fault_text (backup.NotAccepted f) = check_fault_text f
backup_fault_text backup.TooSmall = codes "TooSmall"
backup_fault_text backup.Memory = codes "Memory"
backup_fault_text backup.Device = codes "Device"

abbrev pub restore_fault_text : RestoreFault → List ℕ
restore_fault_text (restore.NotAccepted f) = codes "NotAccepted(" ++ check_fault_text f ++ codes ")"
restore_fault_text (restore.DoesNotFit f) = codes "DoesNotFit(" ++ check_fault_text f ++ codes ")"
restore_fault_text restore.OtherVolume = codes "OtherVolume"
restore_fault_text restore.Memory = codes "Memory"
restore_fault_text restore.Device = codes "Device"
