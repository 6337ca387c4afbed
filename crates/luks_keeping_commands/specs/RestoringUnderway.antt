-- What the command `restore` leaves of its volume, and what it may answer, where the backup was made while something was under way.
use Rattle.std.specs.Prelude.{◌≡◌, ℕ, List, None, Bool, true, false, ◌||◌, ⊤}
use Rattle.luks_area.specs.Ranges.{SameBut}
use Rattle.luks_writing.specs.TwoDevices.{IsOneFailure}
use Rattle.luks_reading.specs.declared.report.Data.{Data}
use Rattle.luks_keeping.specs.declared.restore_fault.RestoreFault.TheVariants as fault
use Rattle.luks_request.specs.declared.keeping.Restoring.{Restoring}
use Rattle.luks_signatures.specs.declared.other_use.OtherUse.{OtherUse as Use}
use Rattle.luks_wide_reading.specs.Headers.{IsUnderwayCopy}
use Rattle.luks_wide_reading.specs.declared.copy.UnderwayCopy.{UnderwayCopy}
use Rattle.luks_wide_keeping.specs.Restored.{CanRestoreUnderway, IsOfUnderway, IsUnderwayRestored, IsUnderwayUnrestored}
use Rattle.luks_wide_keeping.specs.Standings.{HasOneUuid}
use Rattle.luks_wide_keeping.specs.declared.over.OverUnderway.{OverUnderway}
use Rattle.luks_wide_keeping.specs.declared.restore_fault.UnderwayRestoreFault.{UnderwayRestoreFault}
use Rattle.luks_wide_keeping.specs.declared.restore_fault.UnderwayRestoreFault.TheVariants as underway
use Rattle.luks_commands.specs.declared.answers.Answer.{Answer}
use Rattle.luks_commands.specs.declared.answers.Answer.TheVariants.{Done, Refused, DeviceFault}
use Rattle.luks_commands.specs.declared.answers.Refusal.TheVariants as refusal
use Rattle.luks_commands.specs.declared.standing.Bar.{Bar}
use Rattle.luks_commands.specs.declared.standing.Bar.TheVariants as bar
use Rattle.luks_commands.specs.declared.underway_refusal.UnderwayRefusal.TheVariants.{Metadata, Progressed}
use Rattle.luks_commands.specs.Answer.{restore_fault_answer}
use Rattle.luks_commands.specs.Standing.{HasUse}
use Rattle.luks_commands.specs.UnderwayAnswers.{IsMetadataRefused}
use Rattle.luks_keeping_commands.specs.TwoFiles.{NoneFailed, Pair}

-- what `--other` and `--over` allow
abbrev pub over_underway : Restoring → OverUnderway
over_underway restoring = record { another = restoring.other || restoring.over; progressed = restoring.over }

-- ---- what becomes of the volume

-- `new` is the volume `old` after the backup `b` was put onto it
pub record IsNewUnderwayVolume (payload : Data) (b old new : List ℕ) : Type 0 where
  pub restored : IsUnderwayRestored b payload old new
  -- what is read of the backup is read of it
  pub reads : (c : UnderwayCopy) → IsUnderwayCopy b c → IsUnderwayCopy new c

-- which bytes may have changed, whatever is answered
abbrev pub KeepsUnderway : Data → List ℕ → List ℕ → List ℕ → Type 0
KeepsUnderway payload b old new = SameBut (IsOfUnderway b payload old) old new

-- ---- what is answered

-- the disk `t` may be written over, or has no other use, or a header with the uuid of the backup `b` counts there
abbrev pub IsUnused : Bool → List ℕ → List ℕ → Type 0
IsUnused over b t = over ≡ false → (HasOneUuid b t → ⊥) → (found : Use) → HasUse t found → ⊥

-- where both files are there; the source is the backup. `device fault` comes exactly where a call of one of the two failed
abbrev pub IsUnderwayPutBack : Type 0 → Restoring → Pair → Answer → Type 0
IsUnderwayPutBack tells r d (Done slot) = NoneFailed d × (slot ≡ None) × (tells → IsUnused r.over d.source d.old)
    × (tells → CanRestoreUnderway d.source d.old r.payload (over_underway r)) × (tells → IsNewUnderwayVolume r.payload d.source d.old d.new)
IsUnderwayPutBack tells r d (Refused (refusal.Restore fault.Device)) = ⊥
IsUnderwayPutBack tells r d (Refused (refusal.Restore fault.Memory)) = ⊥
IsUnderwayPutBack tells r d (Refused (refusal.Restore f)) = NoneFailed d × (tells → d.new ≡ d.old)
    × (tells → IsUnderwayUnrestored d.source d.old r.payload (over_underway r) (underway.Restore f))
IsUnderwayPutBack tells r d (Refused (refusal.Underway Progressed)) = NoneFailed d × (tells → d.new ≡ d.old)
    × (tells → IsUnderwayUnrestored d.source d.old r.payload (over_underway r) underway.Progressed)
IsUnderwayPutBack tells r d (Refused (refusal.Underway (Metadata f))) = NoneFailed d × (tells → d.new ≡ d.old) × (tells → IsMetadataRefused d.source f)
IsUnderwayPutBack tells r d (Refused (refusal.OtherUse found)) = NoneFailed d × (tells → d.new ≡ d.old) × (r.over ≡ false)
    × (tells → HasUse d.old found × (HasOneUuid d.source d.old → ⊥))
IsUnderwayPutBack tells r d DeviceFault = IsOneFailure d.source_before d.source_after d.before d.after
IsUnderwayPutBack tells r d a = ⊥

-- ---- words of private contracts

abbrev pub underway_restore_answer : UnderwayRestoreFault → Answer
underway_restore_answer (underway.Restore f) = restore_fault_answer f
underway_restore_answer underway.Progressed = Refused (refusal.Underway Progressed)

-- another use bars it
abbrev pub IsUnderwayUseBar : Type 0 → Bool → List ℕ → List ℕ → Bar → Type 0
IsUnderwayUseBar tells over b t (bar.OtherUse found) = (over ≡ false) × (tells → HasUse t found × (HasOneUuid b t → ⊥))
IsUnderwayUseBar tells over b t bar.Device = ⊤
IsUnderwayUseBar tells over b t other = ⊥
