-- Facts on headers that are made of a source.
use Rattle.std.proofs.Common.{◌≡◌, ◌≢◌, ℕ, List, Option, None, Some, false, arith, refl, subst, sym, ◌∙◌}
use Rattle.std.proofs.lemmas.Bool.{true≢false}
use Rattle.luks_area.specs.First.{IsLeast}
use Rattle.luks_reading.specs.Failures.{is_check_failure}
use Rattle.luks_reading.specs.declared.check_fault.CheckFault.{CheckFault}
use Rattle.luks_reading.specs.declared.check_fault.CheckFault.TheVariants as checking
use Rattle.luks_reading.specs.declared.report.Data.{Data}
use Rattle.luks_converting.specs.ConvertFaults.{convert_key, is_convert_failure}
use Rattle.luks_converting.specs.Outcome.{IsAnsweredFault as IsAnsweredConvert, IsConvertFault}
use Rattle.luks_converting.specs.declared.convert_fault.ConvertFault.{ConvertFault}
use Rattle.luks_converting.specs.declared.convert_fault.ConvertFault.TheVariants as convert
use Rattle.luks_rebuilding.specs.Outcome.{IsAnsweredFault as IsAnsweredRebuild, IsRebuildFault}
use Rattle.luks_rebuilding.specs.RebuildFaults.{is_rebuild_failure, rebuild_key}
use Rattle.luks_rebuilding.specs.declared.place.Which.{Which}
use Rattle.luks_rebuilding.specs.declared.rebuild_fault.RebuildFault.{RebuildFault}
use Rattle.luks_rebuilding.specs.declared.rebuild_fault.RebuildFault.TheVariants as rebuild
use Rattle.luks_keeping.specs.BackupFaults.{backup_key, is_backup_failure, IsAnsweredBackup, IsBackupFault}
use Rattle.luks_keeping.specs.RestoreFaults.{checked_restore, is_restore_failure, restore_key, IsAnsweredRestore, IsRestoreFault}
use Rattle.luks_keeping.specs.declared.backup_fault.BackupFault.{BackupFault}
use Rattle.luks_keeping.specs.declared.backup_fault.BackupFault.TheVariants as backup
use Rattle.luks_keeping.specs.declared.over.Over.{Over}
use Rattle.luks_keeping.specs.declared.restore_fault.RestoreFault.{RestoreFault}
use Rattle.luks_keeping.specs.declared.restore_fault.RestoreFault.TheVariants as restore
use Rattle.luks_c_answers.specs.Numbers.{restore_number}
use Rattle.luks1_mending.specs.declared.given.Given.{Given}
use Rattle.luks1_rebuilding.specs.Outcome.{IsAnsweredFault as IsAnsweredRebuild1, IsRebuildFault as IsRebuild1Fault}
use Rattle.luks1_rebuilding.specs.RebuildFaults.{is_rebuild_failure as is_rebuild1_failure, rebuild_key as rebuild1_key}
use Rattle.luks1_rebuilding.specs.declared.rebuild_fault.Rebuild1Fault.{Rebuild1Fault}
use Rattle.luks1_rebuilding.specs.declared.rebuild_fault.Rebuild1Fault.TheVariants as rebuild1

-- what holds of the devices holds of the volumes of which they were given ranges
pub of_volumes : (P : List ℕ → ℕ → List ℕ → ℕ → Type 0) (u v : List ℕ) (n total m : ℕ) (o w : List ℕ) → u ≡ v → n ≡ total → o ≡ w → m ≡ total
    → P u n o m → P v total w total
of_volumes P u v n total m o w source size target left holds =
    subst (λ k. P v total w k) left (subst (λ t. P v total t m) target (subst (λ k. P v k o m) size (subst (λ s. P s n o m) source holds)))

-- the same of a fault, where the target's bytes are no matter
pub fault_of_volume : (P : List ℕ → ℕ → Type 0) (u v : List ℕ) (n total : ℕ) → u ≡ v → n ≡ total → P u n → P v total
fault_of_volume P u v n total source size holds = subst (λ k. P v k) size (subst (λ s. P s n) source holds)

-- a fault that is neither a failed allocation nor a device's failure is the first
pub convert_refusal : (v : List ℕ) (payload : Data) (total : ℕ) (random : List ℕ) (f : ConvertFault) → f ≢ convert.Memory → is_convert_failure f ≡ false
    → IsAnsweredConvert v payload total random f → IsLeast convert_key (IsConvertFault v payload total random) f
convert_refusal v payload total random convert.Memory other own answered = absurd (other refl)
convert_refusal v payload total random convert.Device other own answered = absurd (true≢false own)
convert_refusal v payload total random f other own answered = answered

-- the same of a LUKS2 header of metadata
pub rebuild_refusal : (v : List ℕ) (which : Which) (given : Option (List ℕ)) (total : ℕ) (random : List ℕ) (f : RebuildFault) → f ≢ rebuild.Memory
    → is_rebuild_failure f ≡ false → IsAnsweredRebuild v which given total random f → IsLeast rebuild_key (IsRebuildFault v which given total random) f
rebuild_refusal v which given total random rebuild.Memory other own answered = absurd (other refl)
rebuild_refusal v which given total random rebuild.Device other own answered = absurd (true≢false own)
rebuild_refusal v which given total random f other own answered = answered

-- and of a LUKS1 header of fields, which takes no memory
pub rebuild1_refusal : (v : List ℕ) (given : Given) (total : ℕ) (f : Rebuild1Fault) → is_rebuild1_failure f ≡ false → IsAnsweredRebuild1 v given total f
    → IsLeast rebuild1_key (IsRebuild1Fault v given total) f
rebuild1_refusal v given total rebuild1.Device own answered = absurd (true≢false own)
rebuild1_refusal v given total f own answered = answered

-- a backup's
pub backup_refusal : (v : List ℕ) (payload : Data) (total : ℕ) (f : BackupFault) → f ≢ backup.Memory → is_backup_failure f ≡ false
    → IsAnsweredBackup v payload total f → IsLeast backup_key (IsBackupFault v payload total) f
backup_refusal v payload total backup.Memory other own answered = absurd (other refl)
backup_refusal v payload total backup.Device other own answered = absurd (true≢false own)
backup_refusal v payload total f other own answered = answered

-- and that of a backup that is restored
pub restore_refusal : (b t : List ℕ) (payload : Data) (over : Over) (f : RestoreFault) → f ≢ restore.Memory → is_restore_failure f ≡ false
    → IsAnsweredRestore b t payload over f → IsLeast restore_key (IsRestoreFault b t payload over) f
restore_refusal b t payload over restore.Memory other own answered = absurd (other refl)
restore_refusal b t payload over restore.Device other own answered = absurd (true≢false own)
restore_refusal b t payload over f other own answered = answered

-- what is none stays none, where nothing is of it that wasn't before
pub none_still : (old new : Option ℕ) → old ≡ None → ((p : ℕ) → new ≡ Some p → old ≡ Some p) → new ≡ None
none_still old None is same = refl
none_still old (Some p) is same = let both : None ≡ Some p = sym is ∙ same p refl in absurd (cc)

-- a backup that isn't accepted asks for no range, unless its device failed
pub checked_other : (f : CheckFault) → is_check_failure f ≡ false → restore_number (checked_restore f) ≢ 102
checked_other (checking.Head f) own = λ e. absurd (omega (arith, e))
checked_other (checking.Meta f) own = λ e. absurd (omega (arith, e))
checked_other (checking.Area f) own = λ e. absurd (omega (arith, e))
checked_other checking.Device own = absurd (true≢false own)
checked_other checking.Memory own = λ e. absurd (omega (arith, e))
