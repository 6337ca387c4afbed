-- What `compare` answers, by what it met.
use Rattle.std.proofs.Common.{◌≡◌, ◌⊎◌, inl, inr, List, ℕ, refl, sym, subst, ◌∙◌}
use Rattle.luks_area.specs.Device.{count_after}
use Rattle.luks_rules.specs.declared.fault.MetaFault.{MetaFault}
use Rattle.luks_reading.specs.Conversions.{unread_checked}
use Rattle.luks_reading.specs.Failures.{is_check_failure, is_read_failure}
use Rattle.luks_reading.specs.declared.check_fault.CheckFault.TheVariants as check
use Rattle.luks_reading.specs.declared.read_fault.ReadFault.{ReadFault}
use Rattle.luks_reading.specs.declared.read_fault.ReadFault.TheVariants as reading
use Rattle.luks_keeping.specs.RestoreFaults.{checked_restore}
use Rattle.luks_wider.specs.Underways.{content}
use Rattle.luks_wide_reading.specs.declared.copy.UnderwayCopy.{UnderwayCopy}
use Rattle.luks_wide_reading.specs.declared.read_fault.WideReadFault.TheVariants as unread
use Rattle.luks_commands.specs.Answer.{check_fault_answer, restore_fault_answer}
use Rattle.luks_keeping_commands.proofs.NarrowFacts.{formed_other}
use Rattle.luks_keeping_commands.proofs.RestoreFacts.{checked_other}
use Rattle.luks_reading.specs.Checked.{First, IsCheckRefusal, WellFormed}
use Rattle.luks_reading.specs.Header.{IsHeader, NeedsMetadata}
use Rattle.luks2_header.specs.Selection.{Choice, luks1, luks2, nothing}
use Rattle.luks_reading.specs.declared.check_fault.CheckFault.{CheckFault}
use Rattle.luks_reading.specs.declared.header.Header.{Header}
use Rattle.luks_reading.specs.declared.header.Header.TheVariants.{Luks1, Luks2}
use Rattle.luks_reading.specs.declared.report.Data.{Data}
use Rattle.luks_reading.specs.declared.report.Data.TheVariants.{Elsewhere}
use Rattle.luks_keeping.specs.Compared.{IsComparedInFull}
use Rattle.luks_keeping.specs.SameVolume.{HasAnyHeader, IsOtherVolume}
use Rattle.luks_keeping.specs.declared.restore_fault.RestoreFault.{RestoreFault}
use Rattle.luks_keeping.specs.declared.restore_fault.RestoreFault.TheVariants.{NotAccepted, DoesNotFit, OtherVolume, Memory, Device}
use Rattle.luks_wide_reading.specs.Headers.{IsUnderWayVolume, IsUnderwayCopy, IsWideHeader, IsWideUnread}
use Rattle.luks_wide_reading.specs.declared.header.WideHeader.{WideHeader}
use Rattle.luks_wide_reading.specs.declared.header.WideHeader.TheVariants.{Narrow, Underway as OfUnderway}
use Rattle.luks_wide_keeping.specs.Standings.{StandsSo}
use Rattle.luks_wide_keeping.specs.declared.standing.Standing.TheVariants.{Another, Nothing, Progressed as WentOn}
use Rattle.luks_commands.specs.declared.answers.Answer.{Answer}
use Rattle.luks_commands.specs.declared.answers.Answer.TheVariants.{Compared, Refused, DeviceFault, NoMemory}
use Rattle.luks_commands.specs.declared.answers.Refusal.TheVariants.{Check, Restore, Underway}
use Rattle.luks_commands.specs.declared.underway_refusal.UnderwayRefusal.{UnderwayRefusal}
use Rattle.luks_commands.specs.declared.underway_refusal.UnderwayRefusal.TheVariants.{Metadata, NoKey, Progressed}
use Rattle.luks_commands.specs.Lost.{IsLost}
use Rattle.luks_commands.specs.UnderwayAnswers.{IsMetadataRefused}
use Rattle.luks_keeping_commands.specs.Comparing.{AreBothFormed, IsCompareAnswer, IsComparedAnswer}
use Rattle.luks_keeping_commands.specs.ComparingUnderway.{IsComparedUnderway, IsMomentAnswer, IsUnderwayCompared, IsUnreadBy}
use Rattle.luks_keeping_commands.specs.TwoFiles.{NoneFailed, Pair}
use Rattle.luks_keeping_commands.proofs.Lifted.{lifted, none_after, one_after, IsBefore}

-- a header that either reading reads counts
pub counts_any : (v : List ℕ) (h : WideHeader) → IsWideHeader v h → HasAnyHeader v
counts_any v (Narrow (Luks1 bytes)) x = record { choice = luks1; counts = x.0; some = λ e. cc }
counts_any v (Narrow (Luks2 copy)) x = record { choice = luks2 copy.header.hdr_offset copy.copies; counts = x.chosen; some = λ e. cc }
counts_any v (OfUnderway copy) x = record { choice = luks2 copy.header.hdr_offset copy.copies; counts = x.chosen; some = λ e. cc }

-- a backup that `check` refuses by this fault, which isn't one of the metadata
pub compared_fault : (tells : Type 0) (payload : Data) (d : Pair) (f g : CheckFault) → f ≡ g → d.source_after ≡ count_after (is_check_failure f) d.source_before → d.after ≡ d.before
    → (tells → IsCheckRefusal d.source Elsewhere f) → ((m : MetaFault) → g ≡ check.Meta m → ⊥) → IsComparedAnswer tells payload d (restore_fault_answer (checked_restore g))
compared_fault tells payload d f g e count same is other =
    subst (λ (h : CheckFault). IsComparedAnswer tells payload d (restore_fault_answer (checked_restore h))) e (by f count is (λ m x. other m (sym e ∙ x)))
  where
    by : (h : CheckFault) → d.source_after ≡ count_after (is_check_failure h) d.source_before → (tells → IsCheckRefusal d.source Elsewhere h)
        → ((m : MetaFault) → h ≡ check.Meta m → ⊥) → IsComparedAnswer tells payload d (restore_fault_answer (checked_restore h))
    by (check.Head h) counted said own = inl (((counted, same), said), λ told u. checked_other d.source (check.Head h) (said told) own u)
    by (check.Meta h) counted said own = inl (((counted, same), said), λ told u. checked_other d.source (check.Meta h) (said told) own u)
    by (check.Area h) counted said own = inl (((counted, same), said), λ told u. checked_other d.source (check.Area h) (said told) own u)
    by check.Device counted said own = inl (inl (counted, same), λ told u. tt)
    by check.Memory counted said own = inl (((counted, same), λ told. inl (said told)), λ told u. tt)

-- the same of a fault of the metadata, where nothing is under way
pub compared_narrow : (tells : Type 0) (payload : Data) (d : Pair) (f : MetaFault) → NoneFailed d → (tells → First d.source Elsewhere (check.Meta f))
    → (tells → IsUnderWayVolume d.source → ⊥) → IsComparedAnswer tells payload d (restore_fault_answer (checked_restore (check.Meta f)))
compared_narrow tells payload d f none is other = inl ((none, is), λ told u. absurd (other told u))

-- a volume that `check` refuses
pub volume_fault : (tells : Type 0) (payload : Data) (d : Pair) (f : CheckFault) → d.source_after ≡ d.source_before → d.after ≡ count_after (is_check_failure f) d.before
    → (tells → WellFormed d.source Elsewhere) → (tells → IsCheckRefusal d.old payload f) → IsComparedAnswer tells payload d (check_fault_answer f)
volume_fault tells payload d f same count formed is = inl (by f count is, λ told u. absurd (formed_other d.source Elsewhere (formed told) u))
  where
    by : (h : CheckFault) → d.after ≡ count_after (is_check_failure h) d.before → (tells → IsCheckRefusal d.old payload h) → IsCompareAnswer tells payload d (check_fault_answer h)
    by (check.Head h) counted said = ((same, counted), formed, said)
    by (check.Meta h) counted said = ((same, counted), formed, said)
    by (check.Area h) counted said = ((same, counted), formed, said)
    by check.Device counted said = inr (same, counted)
    by check.Memory counted said = ((same, counted), λ told. inr (formed told, said told))

-- a volume that isn't read by the wider reading, where something is under way in the backup
pub unread_fault : (tells : Type 0) (d : Pair) (f : ReadFault) → d.source_after ≡ d.source_before → d.after ≡ count_after (is_read_failure f) d.before
    → (tells → IsWideUnread d.old (unread.Read f)) → IsUnderwayCompared tells d (check_fault_answer (unread_checked f))
unread_fault tells d (reading.Head f) same count is = ((same, count), λ told. record { fault = reading.Head f; is = refl; unread = is told })
unread_fault tells d (reading.Meta f) same count is = ((same, count), λ told. record { fault = reading.Meta f; is = refl; unread = is told })
unread_fault tells d reading.Device same count is = inr (same, count)
unread_fault tells d reading.Memory same count is = ((same, count), λ told. inr (is told))

-- what the states of both give is answered of the two devices
pub moment_answer : (tells : Type 0) (d : Pair) (c : UnderwayCopy) (a : Answer) → NoneFailed d → (tells → IsUnderwayCopy d.source c) → (tells → HasAnyHeader d.old)
    → IsMomentAnswer tells d.source d.old (content c.meta) a → IsUnderwayCompared tells d a
moment_answer tells d c (Compared comparison) none of counts is =
    (none, λ told. record { copy = c; read = of told; state = is.1 told; same_key = is.0; each = is.2 told })
moment_answer tells d c (Refused (Restore OtherVolume)) none of counts is = (none, λ told. by told (is told))
  where
    by : tells → StandsSo d.source d.old Another ⊎ StandsSo d.source d.old Nothing → StandsSo d.source d.old Another
    by told (inl another) = another
    by told (inr nothing_there) = absurd (nothing_there (counts told))
moment_answer tells d c (Refused (Underway Progressed)) none of counts is = (none, is)
moment_answer tells d c a none of counts is = absurd is

-- ---- after calls that changed nothing

module _ (tells : Type 0) (payload : Data) (first then : Pair) (x : IsBefore tells first then) where
  restore_after : (f : RestoreFault) → IsCompareAnswer tells payload then (Refused (Restore f)) → IsCompareAnswer tells payload first (Refused (Restore f))
  restore_after (NotAccepted g) y = (none_after tells first then x y.0, lifted tells first then x (λ k l. First k Elsewhere g) y.1)
  restore_after (DoesNotFit g) y = absurd y
  restore_after OtherVolume y =
      (none_after tells first then x y.0, lifted tells first then x (λ k l. AreBothFormed payload k l) y.1, lifted tells first then x (λ k l. IsOtherVolume k l) y.2)
  restore_after Memory y = absurd y
  restore_after Device y = absurd y

  pub narrow_after : (a : Answer) → IsCompareAnswer tells payload then a → IsCompareAnswer tells payload first a
  narrow_after (Compared comparison) y = (
    none_after tells first then x y.0,
    lifted tells first then x (λ k l. AreBothFormed payload k l) y.1,
    lifted tells first then x (λ k l. IsOtherVolume k l → ⊥) y.2,
    lifted tells first then x (λ k l. IsComparedInFull k l comparison) y.3,
  )
  narrow_after (Refused (Restore f)) y = restore_after f y
  narrow_after (Refused (Check f)) y =
      (none_after tells first then x y.0, lifted tells first then x (λ k l. WellFormed k Elsewhere) y.1, lifted tells first then x (λ k l. First l payload f) y.2)
  narrow_after DeviceFault y = one_after tells first then x y
  narrow_after NoMemory y =
      (none_after tells first then x y.0, lifted tells first then x (λ k l. NeedsMetadata k ⊎ (WellFormed k Elsewhere × NeedsMetadata l)) y.1)
  narrow_after a y = absurd y

module _ (tells : Type 0) (first then : Pair) (x : IsBefore tells first then) where
  underway_restore : (f : RestoreFault) → IsUnderwayCompared tells then (Refused (Restore f)) → IsUnderwayCompared tells first (Refused (Restore f))
  underway_restore OtherVolume y = (none_after tells first then x y.0, lifted tells first then x (λ k l. StandsSo k l Another) y.1)
  underway_restore f y = absurd y

  underway_refused : (r : UnderwayRefusal) → IsUnderwayCompared tells then (Refused (Underway r)) → IsUnderwayCompared tells first (Refused (Underway r))
  underway_refused Progressed y = (none_after tells first then x y.0, lifted tells first then x (λ k l. StandsSo k l WentOn) y.1)
  underway_refused (Metadata f) y = (none_after tells first then x y.0, lifted tells first then x (λ k l. IsMetadataRefused k f ⊎ IsMetadataRefused l f) y.1)
  underway_refused NoKey y = absurd y

  pub underway_after : (a : Answer) → IsUnderwayCompared tells then a → IsUnderwayCompared tells first a
  underway_after (Compared comparison) y = (none_after tells first then x y.0, lifted tells first then x (λ k l. IsComparedUnderway k l comparison) y.1)
  underway_after (Refused (Check f)) y = (none_after tells first then x y.0, lifted tells first then x (λ k l. IsUnreadBy l f) y.1)
  underway_after (Refused (Restore f)) y = underway_restore f y
  underway_after (Refused (Underway r)) y = underway_refused r y
  underway_after DeviceFault y = one_after tells first then x y
  underway_after NoMemory y = (none_after tells first then x y.0, lifted tells first then x (λ k l. NeedsMetadata k ⊎ NeedsMetadata l) y.1)
  underway_after a y = absurd y

-- so of any backup
pub compared_after : (tells : Type 0) (payload : Data) (first then : Pair) → IsBefore tells first then → (a : Answer) → IsComparedAnswer tells payload then a
    → IsComparedAnswer tells payload first a
compared_after tells payload first then x a (inl y) =
    inl (narrow_after tells payload first then x a y.0, lifted tells first then x (λ k l. IsUnderWayVolume k → IsLost a) y.1)
compared_after tells payload first then x a (inr y) = inr (underway_after tells first then x a y)
