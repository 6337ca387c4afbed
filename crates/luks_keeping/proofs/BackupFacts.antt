-- The backup that was made, and the faults of making it.
use Rattle.std.proofs.Common.{◌≡◌, ◌↔◌, ℕ, ◌<◌, ◌≤◌, List, length, replicate, false, get_or, refl, subst, arith}
use Rattle.luks_area.specs.First.{NotAfter}
use Rattle.luks_area.specs.Ranges.{part, IsAt, SameBut}
use Rattle.luks_area.proofs.RangeFacts.{same_but-wider}
use Rattle.luks_slot.specs.declared.allowed.Allowed.{Allowed}
use Rattle.luks_reading.proofs.VolumeLaws.{well_formed_faultless}
use Rattle.luks_reading.specs.Answer.{AnswerWithin, Opened}
use Rattle.luks_reading.specs.Checked.{check_key, IsCheckRefusal, IsFault, WellFormed}
use Rattle.luks_reading.specs.Failures.{is_check_failure}
use Rattle.luks_reading.specs.Header.{IsHeader}
use Rattle.luks_reading.specs.declared.check_fault.CheckFault.{CheckFault}
use Rattle.luks_reading.specs.declared.check_fault.CheckFault.TheVariants as check
use Rattle.luks_reading.specs.declared.header.Header.{Header}
use Rattle.luks_reading.specs.declared.report.Data.{Data}
use Rattle.luks_reading.specs.declared.report.Data.TheVariants.{Elsewhere}
use Rattle.luks_keeping.proofs.LaidFacts.{chosen_of, has_kept, place_kept}
use Rattle.luks_keeping.proofs.SizeFacts.{fits_elsewhere, formed_longer, one_size, size_by}
use Rattle.luks_keeping.proofs.VolumeFacts.{answer_here, answer_there, own_formed, well_formed_there}
use Rattle.luks_keeping.specs.Backup.{IsBackup, IsBackupSize}
use Rattle.luks_keeping.specs.BackupFaults.{backup_key, checked_backup, is_backup_failure, CanBackUp, IsAnsweredBackup, IsBackupFault, IsOfBackup, IsShort}
use Rattle.luks_keeping.specs.Judged.{IsFormedOn}
use Rattle.luks_keeping.specs.Kept.{HasKept}
use Rattle.luks_keeping.specs.Laid.{choice_of, IsLaidOut}
use Rattle.luks_keeping.specs.Places.{HoldsAll, IsOfPlaces}
use Rattle.luks_keeping.specs.declared.backup_fault.BackupFault.{BackupFault}
use Rattle.luks_keeping.specs.declared.backup_fault.BackupFault.TheVariants.{NotAccepted, TooSmall}
use Rattle.luks_keeping.specs.declared.places.Places.{Places}

-- ---- what was made

-- the backup of `v` that was written
pub record IsBackupOf (v : List ℕ) (payload : Data) (header : Header) (places : Places) (size : ℕ) (old w : List ℕ) : Type 0 where
  pub is : IsHeader v header
  pub laid : IsLaidOut header places
  pub is_size : IsBackupSize v payload size
  pub well : WellFormed v payload
  pub room : size ≤ length w
  pub rest : SameBut (IsAt 0 size) old w
  pub kept : HasKept v (choice_of header) w
  pub zeros : (p : ℕ) → p < size → (IsOfPlaces places p → ⊥) → get_or w p 0 ≡ 0

pub backup_of : (v : List ℕ) (payload : Data) (header : Header) → IsHeader v header → (places : Places) → IsLaidOut header places → (size : ℕ) → IsBackupSize v payload size → WellFormed v payload
    → (s old w : List ℕ) (total : ℕ) → s ≡ v → length w ≡ total → size ≤ total → SameBut (IsAt 0 size) old w → HoldsAll places s w → part w 0 places.lead ≡ replicate places.lead 0
    → ((p : ℕ) → p < size → (IsOfPlaces places p → ⊥) → get_or w p 0 ≡ 0) → IsBackupOf v payload header places size old w
backup_of v payload header is places laid size is_size well s old w total same long within rest held lead zeros = record {
  is = is;
  laid = laid;
  is_size = is_size;
  well = well;
  room = omega (arith, long, within);
  rest = rest;
  kept = has_kept v header is places laid w (subst (λ (l : List ℕ). HoldsAll places l w) same held) lead;
  zeros = zeros;
}

module _ (v : List ℕ) (payload : Data) (header : Header) (places : Places) (size : ℕ) (old w : List ℕ) (x : IsBackupOf v payload header places size old w) where
  pub is_backup : IsBackup v payload old w
  is_backup = record {
    choice = choice_of header;
    chosen = chosen_of v header x.is;
    size = size;
    is_size = size_by v payload (choice_of header) size (chosen_of v header x.is) x.is_size;
    within = x.room;
    kept = x.kept;
    zeros = λ p below other. x.zeros p below (λ at. other (place_kept v header x.is places x.laid p at));
    rest = x.rest;
  }

  fits : IsFormedOn v Elsewhere (length w)
  fits = formed_longer v size (length w) x.room (fits_elsewhere v payload size (own_formed v payload x.well) x.is_size)

  pub well_formed : WellFormed w Elsewhere
  well_formed = well_formed_there v w payload Elsewhere (choice_of header) (chosen_of v header x.is) x.kept x.well fits

  pub answers_alike : (allowed : Allowed) (n : ℕ) (p : List ℕ) (a : Opened) → AnswerWithin allowed v n p a ↔ AnswerWithin allowed w n p a
  answers_alike allowed n p a = (
    answer_there v w payload Elsewhere (choice_of header) (chosen_of v header x.is) x.kept x.well fits allowed n p a,
    answer_here v w payload Elsewhere (choice_of header) (chosen_of v header x.is) x.kept x.well fits allowed n p a,
  )

pub of_backup : (v : List ℕ) (payload : Data) (size : ℕ) → IsBackupSize v payload size → {u w : List ℕ} → SameBut (IsAt 0 size) u w → SameBut (IsOfBackup v payload) u w
of_backup v payload size is same = same_but-wider (λ p at. record { size = size; is_size = is; at = at }) same

-- ---- the faults

after_accepted : (v : List ℕ) (payload : Data) (total : ℕ) (f : CheckFault) → ((g : CheckFault) → IsFault v payload g → NotAfter (check_key f) (check_key g))
    → (g : BackupFault) → IsBackupFault v payload total g → NotAfter (backup_key (NotAccepted f)) (backup_key g)
after_accepted v payload total f least (NotAccepted g) bad = (omega arith, λ e. least g bad)
after_accepted v payload total f least TooSmall bad = (omega arith, λ e. absurd (omega (arith, e)))
after_accepted v payload total f least other bad = absurd bad

pub answered_refusal : (v : List ℕ) (payload : Data) (total : ℕ) (f : CheckFault) → IsCheckRefusal v payload f → IsAnsweredBackup v payload total (checked_backup f)
answered_refusal v payload total (check.Head f) x = (x.0, after_accepted v payload total (check.Head f) x.1)
answered_refusal v payload total (check.Meta f) x = (x.0, after_accepted v payload total (check.Meta f) x.1)
answered_refusal v payload total (check.Area f) x = (x.0, after_accepted v payload total (check.Area f) x.1)
answered_refusal v payload total check.Device x = tt
answered_refusal v payload total check.Memory x = x

pub answered_short : (v : List ℕ) (payload : Data) (total : ℕ) → WellFormed v payload → IsShort v payload total → IsAnsweredBackup v payload total TooSmall
answered_short v payload total well short = (short, after)
  where
    after : (g : BackupFault) → IsBackupFault v payload total g → NotAfter (backup_key TooSmall) (backup_key g)
    after (NotAccepted g) bad = absurd (well_formed_faultless v payload well g bad)
    after TooSmall bad = (omega arith, λ e. tt)
    after other bad = absurd bad

pub can_back_up : (v : List ℕ) (payload : Data) (total size : ℕ) → WellFormed v payload → IsBackupSize v payload size → size ≤ total → CanBackUp v payload total
can_back_up v payload total size well is room = record { none = none }
  where
    none : (f : BackupFault) → IsBackupFault v payload total f → ⊥
    none (NotAccepted f) bad = well_formed_faultless v payload well f bad
    none TooSmall bad = (let same = one_size v payload bad.size size bad.is_size is in let short = bad.short in omega (arith, same, short, room))
    none other bad = bad

-- a check's fault that isn't a device's
pub no_failure : (f : CheckFault) → (f ≡ check.Device → ⊥) → is_backup_failure (checked_backup f) ≡ false
no_failure check.Device own = absurd (own refl)
no_failure other own = refl

-- a device's fault stays one
pub same_failure : (f : CheckFault) → is_backup_failure (checked_backup f) ≡ is_check_failure f
same_failure (check.Head f) = refl
same_failure (check.Meta f) = refl
same_failure (check.Area f) = refl
same_failure check.Device = refl
same_failure check.Memory = refl
