-- What the command `compare` may answer of a backup that was made while something was under way.
use Rattle.std.specs.Prelude.{◌≡◌, ◌⊎◌, ℕ, List, true, ⊤}
use Rattle.serde_json.specs.Data.{Data as Value}
use Rattle.luks_writing.specs.TwoDevices.{IsOneFailure}
use Rattle.luks_reading.specs.Conversions.{unread_checked}
use Rattle.luks_reading.specs.Header.{NeedsMetadata}
use Rattle.luks_reading.specs.declared.check_fault.CheckFault.{CheckFault}
use Rattle.luks_reading.specs.declared.read_fault.ReadFault.{ReadFault}
use Rattle.luks_keeping.specs.declared.comparison.Comparison.{Comparison}
use Rattle.luks_keeping.specs.declared.restore_fault.RestoreFault.TheVariants.{OtherVolume}
use Rattle.luks_wider.specs.Underways.{content}
use Rattle.luks_wide_reading.specs.Headers.{IsUnderwayCopy, IsWideUnread}
use Rattle.luks_wide_reading.specs.declared.copy.UnderwayCopy.{UnderwayCopy}
use Rattle.luks_wide_reading.specs.declared.read_fault.WideReadFault.TheVariants.{Read}
use Rattle.luks_wide_keeping.specs.Compared.{AreKeptSo}
use Rattle.luks_wide_keeping.specs.Standings.{IsSameState, StandsSo}
use Rattle.luks_wide_keeping.specs.declared.standing.Standing.TheVariants.{Another, Nothing, Progressed as WentOn}
use Rattle.luks_commands.specs.declared.answers.Answer.{Answer}
use Rattle.luks_commands.specs.declared.answers.Answer.TheVariants.{Compared, Refused, DeviceFault, NoMemory}
use Rattle.luks_commands.specs.declared.answers.Refusal.TheVariants.{Check, Restore, Underway}
use Rattle.luks_commands.specs.declared.underway_refusal.UnderwayRefusal.TheVariants.{Metadata, Progressed}
use Rattle.luks_keeping_commands.specs.TwoFiles.{NoneFailed, Pair}
use Rattle.luks_commands.specs.UnderwayAnswers.{IsMetadataRefused}

-- the volume `t` is of the very state of the backup `b`, and so stand the keyslots, by their key areas
pub record IsComparedUnderway (b t : List ℕ) (c : Comparison) : Type 0 where
  pub copy : UnderwayCopy
  pub read : IsUnderwayCopy b copy
  pub state : IsSameState b t
  pub same_key : c.same_key ≡ true
  pub each : AreKeptSo b t (content copy.meta) 32 c.keyslots

-- the header of the volume `t` isn't read by this fault, and nothing is under way
pub record IsUnreadBy (t : List ℕ) (f : CheckFault) : Type 0 where
  pub fault : ReadFault
  pub is : f ≡ unread_checked fault
  pub unread : IsWideUnread t (Read fault)

-- where both files are there; the source is the backup, in whose metadata something is under way. What is refused comes in this order: the backup's
-- first fault, the volume's, that it is another one's, that what is under way went on
abbrev pub IsUnderwayCompared : Type 0 → Pair → Answer → Type 0
IsUnderwayCompared tells d (Compared comparison) = NoneFailed d × (tells → IsComparedUnderway d.source d.old comparison)
IsUnderwayCompared tells d (Refused (Check f)) = NoneFailed d × (tells → IsUnreadBy d.old f)
IsUnderwayCompared tells d (Refused (Restore OtherVolume)) = NoneFailed d × (tells → StandsSo d.source d.old Another)
IsUnderwayCompared tells d (Refused (Underway Progressed)) = NoneFailed d × (tells → StandsSo d.source d.old WentOn)
IsUnderwayCompared tells d (Refused (Underway (Metadata f))) = NoneFailed d × (tells → IsMetadataRefused d.source f ⊎ IsMetadataRefused d.old f)
IsUnderwayCompared tells d DeviceFault = IsOneFailure d.source_before d.source_after d.before d.after
IsUnderwayCompared tells d NoMemory = NoneFailed d × (tells → NeedsMetadata d.source ⊎ NeedsMetadata d.old)
IsUnderwayCompared tells d a = ⊥

-- ---- words of private contracts

-- what is answered by the states of both, where no call failed; the backup's metadata has the value `j`
abbrev pub IsMomentAnswer : Type 0 → List ℕ → List ℕ → Value → Answer → Type 0
IsMomentAnswer tells b t j (Compared comparison) = (comparison.same_key ≡ true) × (tells → IsSameState b t) × (tells → AreKeptSo b t j 32 comparison.keyslots)
IsMomentAnswer tells b t j (Refused (Restore OtherVolume)) = tells → StandsSo b t Another ⊎ StandsSo b t Nothing
IsMomentAnswer tells b t j (Refused (Underway Progressed)) = tells → StandsSo b t WentOn
IsMomentAnswer tells b t j a = ⊥
