-- What `backup` leaves and answers, by what it met.
use Rattle.std.proofs.Common.{◌≡◌, ◌+◌, List, ℕ, Bool, Result, Ok, Err, OnOk, IfErr, true, false, inl, inr, refl, sym, ap, subst, ◌∙◌, arith}
use Rattle.std.proofs.lemmas.Bool.{true≢false}
use Rattle.luks_area.specs.Device.{count_after, IsSettled, IsUnchanged}
use Rattle.luks_area.proofs.DeviceFacts.{settled_unchanged}
use Rattle.luks2_header.specs.Selection.{Choice, Chosen}
use Rattle.luks_writing.specs.TwoDevices.{CountsAfter}
use Rattle.luks_reading.specs.Checked.{WellFormed}
use Rattle.luks_reading.specs.Header.{NeedsMetadata}
use Rattle.luks_reading.specs.declared.report.Data.{Data}
use Rattle.luks_rules.specs.declared.fault.MetaFault.{MetaFault}
use Rattle.luks1_header.specs.declared.fault.HeadFault.{HeadFault}
use Rattle.luks_reading.specs.declared.check_fault.CheckFault.{CheckFault}
use Rattle.luks_reading.specs.declared.check_fault.CheckFault.TheVariants as check
use Rattle.luks_reading.specs.declared.read_fault.ReadFault.{ReadFault}
use Rattle.luks_reading.specs.declared.read_fault.ReadFault.TheVariants as reading
use Rattle.luks_keeping.specs.BackupFaults.{is_backup_failure, CanBackUp, IsAnsweredBackup}
use Rattle.luks_keeping.specs.Rescued.{CountsRescue, EndsAfter, EndsBySource}
use Rattle.luks_keeping.specs.declared.backup_fault.BackupFault.{BackupFault}
use Rattle.luks_keeping.specs.declared.backup_fault.BackupFault.TheVariants.{NotAccepted, TooSmall, Memory, Device}
use Rattle.luks_wide_reading.specs.Headers.{IsUnderWayVolume, IsWideUnread}
use Rattle.luks_wide_reading.specs.declared.read_fault.WideReadFault.TheVariants as unread
use Rattle.luks_wide_keeping.specs.Backup.{CanBackUpUnderway, IsUnderwayUnmade}
use Rattle.luks_commands.specs.Lost.{IsLost}
use Rattle.luks_commands.specs.UnderwayAnswers.{IsMetadataRefused}
use Rattle.luks_commands.proofs.NotUnderway.{unread_narrow}
use Rattle.luks_commands.specs.declared.answers.Answer.{Answer}
use Rattle.luks_commands.specs.declared.answers.Answer.TheVariants.{Done, Refused, DeviceFault, NoMemory as OutOfMemory}
use Rattle.luks_commands.specs.declared.answers.Refusal.TheVariants.{Backup, Underway}
use Rattle.luks_commands.specs.declared.underway_refusal.UnderwayRefusal.{UnderwayRefusal}
use Rattle.luks_commands.specs.declared.underway_refusal.UnderwayRefusal.TheVariants.{Metadata, NoKey, Progressed}
use Rattle.luks_keeping_commands.proofs.Lifted.{lifted, lifted_new, none_after, one_after, same_after, IsBefore}
use Rattle.luks_keeping_commands.proofs.NarrowFacts.{first_other, no_meta_fault}
use Rattle.luks_commands.specs.declared.inputs.InputFault.{InputFault}
use Rattle.luks_commands.specs.declared.inputs.InputFault.TheVariants.{Absent, Unreadable, NoMemory}
use Rattle.luks_commands.specs.declared.inputs.Reason.{Reason}
use Rattle.luks_commands.specs.declared.inputs.Reason.TheVariants as reason
use Rattle.luks_commands.specs.Answer.{backup_fault_answer, unread_answer}
use Rattle.luks_keeping_commands.specs.BackingUp.{AnswersBackup, IsBackupAnswer, IsMadeAnswer, IsNewBackup, IsNewUnderway, IsNotKept, IsRescueAnswer, IsUnderwayMade, IsUnderwayUnkept, IsUnderwayWithoutFile, IsUnmadeAnswer, IsWithoutFile, KeepsRest}
use Rattle.luks_keeping_commands.specs.TwoFiles.{NoneFailed, Pair}

-- a file that no call was made on has kept its rest
pub keeps_same : (payload : Data) (volume file : List ℕ) → KeepsRest payload volume file file
keeps_same payload volume file = record { length_same = refl; each = λ p apart. refl }

-- a fault that isn't a device's left the file as it was
pub answers_fault : (tells : Type 0) (payload : Data) (d : Pair) (f : BackupFault)
    → CountsAfter (is_backup_failure f) d.source_before d.source_after d.before d.after
    → (is_backup_failure f ≡ false → tells → d.new ≡ d.old) → (tells → IsAnsweredBackup d.source payload d.total f)
    → IsBackupAnswer tells payload d (backup_fault_answer f)
answers_fault tells payload d Device count same is = count
answers_fault tells payload d Memory count same is = (count, same refl, is)
answers_fault tells payload d f count same is = (count, same refl, is)

-- ---- where something may be under way

-- what is answered of a fault that isn't one of the metadata isn't of a volume in whose metadata something is under way
pub fault_other : (v : List ℕ) (payload : Data) (total : ℕ) (f : BackupFault) → IsAnsweredBackup v payload total f → ((g : MetaFault) → f ≡ NotAccepted (check.Meta g) → ⊥)
    → IsUnderWayVolume v → IsLost (backup_fault_answer f)
fault_other v payload total (NotAccepted f) x other u =
    absurd (first_other v payload f (x.0, λ g bad. (x.1 (NotAccepted g) bad).1 refl) (λ g e. other g (ap NotAccepted e)) u)
fault_other v payload total TooSmall x other u =
    absurd (no_meta_fault v payload (λ g bad. (let later = (x.1 (NotAccepted (check.Meta g)) bad).0 in omega (arith, later))) u)
fault_other v payload total Memory x other u = tt
fault_other v payload total Device x other u = tt

-- a backup that was made is none of such a volume
pub done_other : (v : List ℕ) (payload : Data) (total : ℕ) → CanBackUp v payload total → IsUnderWayVolume v → ⊥
done_other v payload total can u = no_meta_fault v payload (λ g bad. can.none (NotAccepted (check.Meta g)) bad) u

-- so where both files are there
pub made_fault : (tells : Type 0) (payload : Data) (d : Pair) (f g : BackupFault) → f ≡ g → CountsAfter (is_backup_failure f) d.source_before d.source_after d.before d.after
    → (is_backup_failure f ≡ false → tells → d.new ≡ d.old) → (tells → IsAnsweredBackup d.source payload d.total f)
    → ((m : MetaFault) → g ≡ NotAccepted (check.Meta m) → ⊥) → IsMadeAnswer false tells payload d (backup_fault_answer g)
made_fault tells payload d f g e count same is other =
    subst (λ (h : BackupFault). IsMadeAnswer false tells payload d (backup_fault_answer h)) e
    (inl (answers_fault tells payload d f count same is, λ told u. fault_other d.source payload d.total f (is told) (λ m x. other m (sym e ∙ x)) u))

-- `check` refuses a volume in whose metadata something is under way by a fault of the metadata
pub refused_other : (v : List ℕ) (payload : Data) (total : ℕ) (f : CheckFault) → IsAnsweredBackup v payload total (NotAccepted f) → ((m : MetaFault) → f ≡ check.Meta m → ⊥)
    → IsUnderWayVolume v → ⊥
refused_other v payload total f x other u = first_other v payload f (x.0, λ g bad. (x.1 (NotAccepted g) bad).1 refl) other u

-- and where `check` refused the volume before
pub made_refused : (tells : Type 0) (payload : Data) (d : Pair) (f : CheckFault) → NoneFailed d → (tells → d.new ≡ d.old)
    → (tells → IsAnsweredBackup d.source payload d.total (NotAccepted f)) → (tells → IsUnderWayVolume d.source → ⊥)
    → IsMadeAnswer false tells payload d (backup_fault_answer (NotAccepted f))
made_refused tells payload d f none same is other = inl ((none, same, is), λ told u. absurd (other told u))

-- what isn't read by the wider reading by such a fault has nothing under way
pub head_other : (v : List ℕ) (f : ReadFault) (g : HeadFault) → f ≡ reading.Head g → IsWideUnread v (unread.Read f) → IsUnderWayVolume v → ⊥
head_other v f g e x u = unread_narrow v (reading.Head g) (subst (λ (h : ReadFault). IsWideUnread v (unread.Read h)) e x) u

pub meta_other : (v : List ℕ) (f : ReadFault) (g : MetaFault) → f ≡ reading.Meta g → IsWideUnread v (unread.Read f) → IsUnderWayVolume v → ⊥
meta_other v f g e x u = unread_narrow v (reading.Meta g) (subst (λ (h : ReadFault). IsWideUnread v (unread.Read h)) e x) u

-- ---- after calls that changed nothing

module _ (tells : Type 0) (payload : Data) (first then : Pair) (x : IsBefore tells first then) where
  refused_after : (f : BackupFault) → IsBackupAnswer tells payload then (Refused (Backup f)) → IsBackupAnswer tells payload first (Refused (Backup f))
  refused_after (NotAccepted g) y = (
    none_after tells first then x y.0,
    same_after tells first then x y.1,
    λ told. subst (λ (n : ℕ). IsAnsweredBackup first.source payload n (NotAccepted g)) x.total (lifted tells first then x (λ k l. IsAnsweredBackup k payload then.total (NotAccepted g)) y.2 told),
  )
  refused_after TooSmall y = (
    none_after tells first then x y.0,
    same_after tells first then x y.1,
    λ told. subst (λ (n : ℕ). IsAnsweredBackup first.source payload n TooSmall) x.total (lifted tells first then x (λ k l. IsAnsweredBackup k payload then.total TooSmall) y.2 told),
  )
  refused_after Memory y = y
  refused_after Device y = y

  pub backup_after : (a : Answer) → IsBackupAnswer tells payload then a → IsBackupAnswer tells payload first a
  backup_after (Done slot) y = (
    none_after tells first then x y.0,
    y.1,
    λ told. subst (λ (n : ℕ). CanBackUp first.source payload n) x.total (lifted tells first then x (λ k l. CanBackUp k payload then.total) y.2 told),
    lifted_new tells first then x (λ k l m. IsNewBackup k payload l m) y.3,
  )
  backup_after (Refused (Backup f)) y = refused_after f y
  backup_after DeviceFault y = one_after tells first then x y
  backup_after OutOfMemory y = (
    none_after tells first then x y.0,
    same_after tells first then x y.1,
    λ told. subst (λ (n : ℕ). IsAnsweredBackup first.source payload n Memory) x.total (lifted tells first then x (λ k l. IsAnsweredBackup k payload then.total Memory) y.2 told),
  )
  backup_after a y = absurd y

module _ (tells : Type 0) (first then : Pair) (x : IsBefore tells first then) where
  unmade_after : (f : BackupFault) → IsUnderwayMade tells then (Refused (Backup f)) → IsUnderwayMade tells first (Refused (Backup f))
  unmade_after (NotAccepted g) y = (
    none_after tells first then x y.0,
    same_after tells first then x y.1,
    λ told. subst (λ (n : ℕ). IsUnderwayUnmade first.source n (NotAccepted g)) x.total (lifted tells first then x (λ k l. IsUnderwayUnmade k then.total (NotAccepted g)) y.2 told),
  )
  unmade_after TooSmall y = (
    none_after tells first then x y.0,
    same_after tells first then x y.1,
    λ told. subst (λ (n : ℕ). IsUnderwayUnmade first.source n TooSmall) x.total (lifted tells first then x (λ k l. IsUnderwayUnmade k then.total TooSmall) y.2 told),
  )
  unmade_after Memory y = y
  unmade_after Device y = y

  underway_refused : (r : UnderwayRefusal) → IsUnderwayMade tells then (Refused (Underway r)) → IsUnderwayMade tells first (Refused (Underway r))
  underway_refused (Metadata f) y = (none_after tells first then x y.0, same_after tells first then x y.1, lifted tells first then x (λ k l. IsMetadataRefused k f) y.2)
  underway_refused NoKey y = absurd y
  underway_refused Progressed y = absurd y

  pub underway_after : (a : Answer) → IsUnderwayMade tells then a → IsUnderwayMade tells first a
  underway_after (Done slot) y = (
    none_after tells first then x y.0,
    y.1,
    λ told. subst (λ (n : ℕ). CanBackUpUnderway first.source n) x.total (lifted tells first then x (λ k l. CanBackUpUnderway k then.total) y.2 told),
    lifted_new tells first then x (λ k l m. IsNewUnderway k l m) y.3,
  )
  underway_after (Refused (Backup f)) y = unmade_after f y
  underway_after (Refused (Underway r)) y = underway_refused r y
  underway_after DeviceFault y = one_after tells first then x y
  underway_after a y = absurd y

-- so of any volume
pub made_after : (tells : Type 0) (payload : Data) (first then : Pair) → IsBefore tells first then → (a : Answer) → IsMadeAnswer false tells payload then a → IsMadeAnswer false tells payload first a
made_after tells payload first then x a (inl y) =
    inl (backup_after tells payload first then x a y.0, lifted tells first then x (λ k l. IsUnderWayVolume k → IsLost a) y.1)
made_after tells payload first then x a (inr y) = inr (underway_after tells first then x a y)

-- a fault of such a backup that isn't a device's left the file as it was
pub underway_fault : (tells : Type 0) (d : Pair) (f : BackupFault) → CountsAfter (is_backup_failure f) d.source_before d.source_after d.before d.after
    → (is_backup_failure f ≡ false → tells → d.new ≡ d.old) → (f ≡ Memory → ⊥) → (tells → IsUnderwayUnmade d.source d.total f) → IsUnderwayMade tells d (backup_fault_answer f)
underway_fault tells d Device count same own is = count
underway_fault tells d Memory count same own is = absurd (own refl)
underway_fault tells d f count same own is = (count, same refl, is)

-- nor where there is no file
pub unkept_fault : (tells : Type 0) (v : List ℕ) (n : ℕ) (f : BackupFault) → is_backup_failure f ≡ false → (f ≡ Memory → ⊥) → (tells → IsUnderwayUnmade v 18446744073709551615 f)
    → IsUnderwayUnkept tells v n n (backup_fault_answer f)
unkept_fault tells v n Device own some is = absurd (true≢false own)
unkept_fault tells v n Memory own some is = absurd (some refl)
unkept_fault tells v n f own some is = (refl, is)

-- ---- where there is no file

pub unkept_narrow : (tells : Type 0) (payload : Data) (v : List ℕ) (s u : ℕ) (f : BackupFault) → u ≡ count_after (is_backup_failure f) s
    → (tells → IsAnsweredBackup v payload 18446744073709551615 f) → IsNotKept tells payload v s u (backup_fault_answer f)
unkept_narrow tells payload v s u Device count is = count
unkept_narrow tells payload v s u Memory count is = (count, is)
unkept_narrow tells payload v s u f count is = (count, is)

-- with `--rescue` or without it
pub unmade_by : (rescue : Bool) (tells : Type 0) (payload : Data) (v : List ℕ) (s u : ℕ) (missed : InputFault) (a : Answer) → IsWithoutFile tells payload v s u missed a
    → (tells → IsUnderWayVolume v → IsLost a) → IsUnmadeAnswer rescue tells payload v s u missed a
unmade_by true tells payload v s u missed a said own = said
unmade_by false tells payload v s u missed a said own = inl (said, own)

pub unmade_fault : (rescue : Bool) (tells : Type 0) (payload : Data) (v : List ℕ) (s u : ℕ) (missed : InputFault) (f g : BackupFault) → f ≡ g
    → u ≡ count_after (is_backup_failure f) s → (tells → IsAnsweredBackup v payload 18446744073709551615 f) → ((m : MetaFault) → g ≡ NotAccepted (check.Meta m) → ⊥)
    → IsUnmadeAnswer rescue tells payload v s u missed (backup_fault_answer g)
unmade_fault rescue tells payload v s u missed f g e count is other =
    subst (λ (h : BackupFault). IsUnmadeAnswer rescue tells payload v s u missed (backup_fault_answer h)) e
    (unmade_by rescue tells payload v s u missed (backup_fault_answer f) (inl (unkept_narrow tells payload v s u f count is))
    (λ told under. fault_other v payload 18446744073709551615 f (is told) (λ m x. other m (sym e ∙ x)) under))

-- and where `check` refused the volume before
pub unmade_refused : (tells : Type 0) (payload : Data) (v : List ℕ) (n k : ℕ) (missed : InputFault) (f : CheckFault) → k ≡ n
    → (tells → IsAnsweredBackup v payload 18446744073709551615 (NotAccepted f)) → (tells → IsUnderWayVolume v → ⊥)
    → IsUnmadeAnswer false tells payload v n k missed (backup_fault_answer (NotAccepted f))
unmade_refused tells payload v n k missed f same is other = inl (inl (same, is), λ told u. absurd (other told u))

-- after a call that changed nothing
module _ (tells : Type 0) (payload : Data) (missed : InputFault) (v w : List ℕ) (s t u : ℕ) (same : tells → w ≡ v) (again : t ≡ s) where
  moved : (P : List ℕ → Type 0) → (tells → P w) → tells → P v
  moved P x told = subst P (same told) (x told)

  kept_refused : (f : BackupFault) → IsNotKept tells payload w t u (Refused (Backup f)) → IsNotKept tells payload v s u (Refused (Backup f))
  kept_refused (NotAccepted g) x = (x.0 ∙ again, moved (λ l. IsAnsweredBackup l payload 18446744073709551615 (NotAccepted g)) x.1)
  kept_refused TooSmall x = (x.0 ∙ again, moved (λ l. IsAnsweredBackup l payload 18446744073709551615 TooSmall) x.1)
  kept_refused Memory x = x
  kept_refused Device x = x

  kept_after : (a : Answer) → IsNotKept tells payload w t u a → IsNotKept tells payload v s u a
  kept_after (Refused (Backup f)) x = kept_refused f x
  kept_after DeviceFault x = subst (λ (n : ℕ). u ≡ n + 1) again x
  kept_after OutOfMemory x = (x.0 ∙ again, moved NeedsMetadata x.1)
  kept_after a x = absurd x

  narrow_after : (a : Answer) → IsWithoutFile tells payload w t u missed a → IsWithoutFile tells payload v s u missed a
  narrow_after a (inl x) = inl (kept_after a x)
  narrow_after a (inr x) = inr (x.0 ∙ again, moved (λ l. WellFormed l payload) x.1, x.2)

  unkept_refused : (f : BackupFault) → IsUnderwayUnkept tells w t u (Refused (Backup f)) → IsUnderwayUnkept tells v s u (Refused (Backup f))
  unkept_refused (NotAccepted g) x = (x.0 ∙ again, moved (λ l. IsUnderwayUnmade l 18446744073709551615 (NotAccepted g)) x.1)
  unkept_refused TooSmall x = (x.0 ∙ again, moved (λ l. IsUnderwayUnmade l 18446744073709551615 TooSmall) x.1)
  unkept_refused Memory x = x
  unkept_refused Device x = x

  unkept_barred : (r : UnderwayRefusal) → IsUnderwayUnkept tells w t u (Refused (Underway r)) → IsUnderwayUnkept tells v s u (Refused (Underway r))
  unkept_barred (Metadata f) x = (x.0 ∙ again, moved (λ l. IsMetadataRefused l f) x.1)
  unkept_barred NoKey x = absurd x
  unkept_barred Progressed x = absurd x

  unkept_after : (a : Answer) → IsUnderwayUnkept tells w t u a → IsUnderwayUnkept tells v s u a
  unkept_after (Refused (Backup f)) x = unkept_refused f x
  unkept_after (Refused (Underway r)) x = unkept_barred r x
  unkept_after a x = absurd x

  wide_after : (a : Answer) → IsUnderwayWithoutFile tells w t u missed a → IsUnderwayWithoutFile tells v s u missed a
  wide_after a (inl x) = inl (unkept_after a x)
  wide_after a (inr x) = inr (x.0 ∙ again, moved (λ l. CanBackUpUnderway l 18446744073709551615) x.1, x.2)

  pub unmade_file_after : (a : Answer) → IsUnmadeAnswer false tells payload w t u missed a → IsUnmadeAnswer false tells payload v s u missed a
  unmade_file_after a (inl x) = inl (narrow_after a x.0, moved (λ l. IsUnderWayVolume l → IsLost a) x.1)
  unmade_file_after a (inr x) = inr (wide_after a x)

-- ---- with `--rescue`

-- such a fault, where a call of the file failed, or a read of the header
pub rescue_fault : (tells : Type 0) (payload : Data) (d : Pair) (f : BackupFault) → EndsAfter (is_backup_failure f) d.source_before d.source_after d.before d.after
    → (tells → is_backup_failure f ≡ true → d.after ≡ d.before → (c : Choice) → Chosen d.source c → EndsBySource d.source c d.source_before d.source_after d.old d.new)
    → (is_backup_failure f ≡ false → tells → d.new ≡ d.old) → (tells → IsAnsweredBackup d.source payload d.total f)
    → IsRescueAnswer tells payload d (backup_fault_answer f)
rescue_fault tells payload d Device count ended same is = (count, λ t. ended t refl)
rescue_fault tells payload d Memory count ended same is = (count, same refl, is)
rescue_fault tells payload d f count ended same is = (count, same refl, is)

ended_alike : (b : Bool) (s t u w : ℕ) → EndsAfter b s t u w → t ≡ s → w ≡ u → b ≡ false
ended_alike true s t u w (inl one) same alike = (let rose = one.1 in absurd (omega (arith, rose, alike)))
ended_alike true s t u w (inr one) same alike = (let rose = one.0 in absurd (omega (arith, rose, same)))
ended_alike false s t u w none same alike = refl

-- where no call failed the file is settled
pub rescue_settled : {D X F : Type 0} {unsettled : D → ℕ → Type 0} {old new : D} (tells : Type 0) (size : D → ℕ) (bytes : D → List ℕ) (is_failure : F → Bool)
    (s t u w : ℕ) (result : Result X F) → CountsRescue is_failure result s t u w → OnOk result (IsSettled unsettled new)
    → IfErr result (λ f. is_failure f ≡ false → IsUnchanged tells size bytes unsettled old new)
    → tells → t ≡ s → w ≡ u → IsSettled unsettled old → IsSettled unsettled new
rescue_settled tells size bytes is_failure s t u w (Ok x) count ok kept told same alike settled = ok
rescue_settled tells size bytes is_failure s t u w (Err f) count ok kept told same alike settled =
    settled_unchanged told (kept (ended_alike (is_failure f) s t u w count same alike)) settled

-- ---- of a file that wasn't found to be there and not empty

module _ {D : Type 0} (tells : Type 0) (size : D → ℕ) (bytes : D → List ℕ) (failed : D → ℕ) (rescue : Bool) (payload : Data) (new : Result D InputFault) (a : Answer) where
  with_reason : (v w : D) (r : Reason) → (r ≡ reason.Exists → ⊥) → IsUnmadeAnswer rescue tells payload (bytes v) (failed v) (failed w) (Unreadable r) a
      → AnswersBackup tells size bytes failed rescue payload (Ok v) (Ok w) (Err (Unreadable r)) new a
  with_reason v w reason.Exists other is = absurd (other refl)
  with_reason v w r other is = is

  pub without_file : (v w : D) (f : InputFault) → (f ≡ Unreadable reason.Exists → ⊥) → IsUnmadeAnswer rescue tells payload (bytes v) (failed v) (failed w) f a
      → AnswersBackup tells size bytes failed rescue payload (Ok v) (Ok w) (Err f) new a
  without_file v w Absent other is = is
  without_file v w (Unreadable r) other is = with_reason v w r (λ e. other (ap Unreadable e)) is
  without_file v w NoMemory other is = is

  volume_missed : (missed : InputFault) (volume_new : Result D InputFault) (r : Reason) → (r ≡ reason.Exists → ⊥) → a ≡ unread_answer missed
      → AnswersBackup tells size bytes failed rescue payload (Err missed) volume_new (Err (Unreadable r)) new a
  volume_missed missed volume_new reason.Exists other is = absurd (other refl)
  volume_missed missed volume_new r other is = is

  pub without_volume : (missed : InputFault) (volume_new old : Result D InputFault) → (old ≡ Err (Unreadable reason.Exists) → ⊥) → a ≡ unread_answer missed
      → AnswersBackup tells size bytes failed rescue payload (Err missed) volume_new old new a
  without_volume missed volume_new (Ok d) other is = is
  without_volume missed volume_new (Err Absent) other is = is
  without_volume missed volume_new (Err (Unreadable r)) other is = volume_missed missed volume_new r (λ e. other (ap (λ q. Err (Unreadable q)) e)) is
  without_volume missed volume_new (Err NoMemory) other is = is
