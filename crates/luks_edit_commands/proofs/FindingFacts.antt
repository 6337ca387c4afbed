-- Which keyslot an edit opens where none is named, and what is seen of it before.
use Rattle.std.proofs.Common.{◌≡◌, ℕ, List, ◌⊎◌, Bool, Option, Some, None, refl, inl, inr, subst}
use Rattle.std.specs.Borrow.{Bor}
use Rattle.luks_area.specs.First.{IsLeast}
use Rattle.luks_area.specs.Device.{count_after}
use Rattle.luks2_header.specs.Selection.{Choice, luks1, luks2, nothing}
use Rattle.luks_reading.specs.declared.check_fault.CheckFault.{CheckFault}
use Rattle.luks_reading.specs.declared.check_fault.CheckFault.TheVariants as checking
use Rattle.luks_reading.specs.declared.open_fault.OpenFault.{OpenFault}
use Rattle.luks_reading.specs.declared.open_fault.OpenFault.TheVariants as opening
use Rattle.luks_reading.specs.declared.report.Data.{Data}
use Rattle.luks_reading.specs.Checked.{IsFault, IsFaultAs}
use Rattle.luks_reading.specs.Failures.{is_open_failure}
use Rattle.luks_reading.specs.Header.{json_at}
use Rattle.luks_reading.proofs.Luks2FaultFacts.{to_luks2_fault}
use Rattle.luks_reading.specs.Unlocking.{IsVolumeRefusal, IsVolumeRefusalAs, IsVolumeRefusedBy}
use Rattle.serde_json.specs.declared.value.Value.{Value as TheValue}
use Rattle.luks_making.specs.declared.amended.Change.TheVariants as change
use Rattle.luks_edit.specs.declared.edit.Edit.{Edit}
use Rattle.luks_edit.specs.declared.edit.Edit.TheVariants as edit
use Rattle.luks_edit.specs.declared.edit.Secret.{Secret}
use Rattle.luks_edit.specs.declared.edit_fault.EditFault.{EditFault}
use Rattle.luks_edit.specs.declared.edit_fault.EditFault.TheVariants as fault
use Rattle.luks_edit.specs.EditFaults.{edit_key, is_edit_failure}
use Rattle.luks_volume.specs.Needed.{IsNeedFault, IsNeedFaultAs, IsUntold}
use Rattle.luks_request.specs.declared.derivation.AskedKdf.{AskedKdf}
use Rattle.luks_request.specs.declared.request.EditRequest.{EditRequest}
use Rattle.luks_request.specs.declared.request.EditRequest.TheVariants.{Add, AddByKey, Change, Remove, Erase, Repair, Label, Uuid, Priority, AddToken, RemoveToken}
use Rattle.luks_request.specs.declared.request.Editing.{Editing}
use Rattle.luks_request.specs.declared.request.OpenerFile.{OpenerFile}
use Rattle.luks_commands.specs.Chosen.{chosen_of}
use Rattle.luks_commands.specs.OpenAnswers.{allowed_of}
use Rattle.luks_edit_commands.specs.declared.edit.seen.Unseen.TheVariants.{Untold}
use Rattle.luks_edit_commands.specs.Editing.{IsAsked, IsFirstSeen, IsMissed, IsSecret, IsUnfound, IsUnseen, Misses, UnlessOutside, IsTokenOf, kind_of, priority_of, unopened_fault, uuid_of}

-- what follows from a fault follows unless the device failed or memory was refused
pub outside_as : (v : List ℕ) (P Q : EditFault → Type 0) → ((f : EditFault) → P f → Q f) → (f : EditFault) → UnlessOutside v P f → UnlessOutside v Q f
outside_as v P Q of fault.Memory is = is
outside_as v P Q of fault.Device is = is
outside_as v P Q of f is = of f is

-- ---- an accepted volume isn't refused when its keyslots are tried

-- what refuses it then refuses it as a whole
volume_refused : (v : List ℕ) (payload : Data) (c : Choice) (f : OpenFault) → IsVolumeRefusalAs v c f → (g : CheckFault) × IsFaultAs v payload c g
volume_refused v payload luks1 (opening.Head f) is = (checking.Head f, is.1)
volume_refused v payload luks1 f is = absurd is
volume_refused v payload (luks2 o copies) (opening.Head f) is = (checking.Head f, is)
volume_refused v payload (luks2 o copies) (opening.Meta f) is = (checking.Meta f, to_luks2_fault (json_at v o) payload f is)
volume_refused v payload (luks2 o copies) f is = absurd is
volume_refused v payload nothing (opening.Head f) is = (checking.Head f, is)
volume_refused v payload nothing f is = absurd is

-- and every edit of it
not_accepted_as : (v : List ℕ) (payload : Data) (e : Edit) (c : Choice) (g : CheckFault) → IsFault v payload g → IsNeedFaultAs v payload e c (fault.NotAccepted g)
not_accepted_as v payload e luks1 g is = is
not_accepted_as v payload e (luks2 o copies) g is = is
not_accepted_as v payload e nothing g is = is

-- from the choice to the volume
refusal_told : (v : List ℕ) (payload : Data) (e : Edit) (f : OpenFault) → IsVolumeRefusal v f → (g : EditFault) × IsNeedFault v payload e g
refusal_told v payload e f x =
    let y = volume_refused v payload x.choice f x.fault in (
      fault.NotAccepted y.0,
      record { choice = x.choice; chosen = x.chosen; fault = not_accepted_as v payload e x.choice y.0 (record { choice = x.choice; chosen = x.chosen; fault = y.1 }) },
    )

-- where nothing refuses every edit of it
pub tried_unrefused : (v : List ℕ) (payload : Data) (e : Edit) (Q : EditFault → Type 0) → ((f : EditFault) → IsNeedFault v payload e f → ⊥) → (f : OpenFault) → IsVolumeRefusedBy v f
    → UnlessOutside v Q (unopened_fault f)
tried_unrefused v payload e Q none opening.Device is = tt
tried_unrefused v payload e Q none opening.Memory is = is
tried_unrefused v payload e Q none f is = let y = refusal_told v payload e f is.0 in absurd (none y.0 y.1)

-- the count of failures is that of trying them
pub unopened_count : (f : OpenFault) (before : ℕ) → count_after (is_edit_failure (unopened_fault f)) before ≡ count_after (is_open_failure f) before
unopened_count opening.Device before = refl
unopened_count opening.Memory before = refl
unopened_count f before = refl

-- what refuses every edit of it
pub untold_unfound : (v : List ℕ) (payload : Data) (s : Secret) (f : EditFault) → IsUntold v payload edit.Repair f → UnlessOutside v (IsUnfound payload v s) f
untold_unfound v payload s fault.Memory is = is
untold_unfound v payload s fault.Device is = is
untold_unfound v payload s f is = inl is

-- ---- by what the command line says

-- a keyslot was looked for
pub missed_adding : (payload : Data) (v : List ℕ) (by_ to : Option ℕ) (opener : OpenerFile) (memory : ℕ) (older : Bool) (new : Bor (List ℕ)) (iterations : ℕ) (kdf : Option AskedKdf)
    (IsOld : List ℕ → Type 0) (f : EditFault) → by_ ≡ None → Misses payload opener memory older IsOld v f → IsMissed payload (Add by_ opener memory older new to iterations kdf) IsOld v f
missed_adding payload v None to opener memory older new iterations kdf IsOld f none is = is
missed_adding payload v (Some n) to opener memory older new iterations kdf IsOld f none is = cc

pub missed_changing : (payload : Data) (v : List ℕ) (slot : Option ℕ) (opener : OpenerFile) (memory : ℕ) (older : Bool) (new : Bor (List ℕ)) (iterations : ℕ) (kdf : Option AskedKdf)
    (IsOld : List ℕ → Type 0) (f : EditFault) → slot ≡ None → Misses payload opener memory older IsOld v f → IsMissed payload (Change slot opener memory older new iterations kdf) IsOld v f
missed_changing payload v None opener memory older new iterations kdf IsOld f none is = is
missed_changing payload v (Some n) opener memory older new iterations kdf IsOld f none is = cc

pub missed_removing : (payload : Data) (v : List ℕ) (slot by_ : Option ℕ) (opener : OpenerFile) (memory : ℕ) (older : Bool) (IsOld : List ℕ → Type 0) (f : EditFault)
    → slot ≡ None → Misses payload opener memory older IsOld v f → IsMissed payload (Remove slot by_ opener memory older) IsOld v f
missed_removing payload v None by_ opener memory older IsOld f none is = is
missed_removing payload v (Some n) by_ opener memory older IsOld f none is = cc

-- the secret that is made of a file's bytes
secret_for : OpenerFile → Bor (List ℕ) → ℕ → Bool → Secret
secret_for opener bytes memory older = record { kind = kind_of opener; bytes = bytes; allowed = allowed_of memory older }

secret_is : (opener : OpenerFile) (bytes : Bor (List ℕ)) (memory : ℕ) (older : Bool) → IsSecret opener memory older (λ p. p ≡ bytes.now) (secret_for opener bytes memory older)
unfolding secret_for
secret_is opener bytes memory older = record { kind_is = refl; words = refl; allowed = refl }

-- the first fault of every edit is that of the edit that is asked for, or no keyslot is found by it
module _ (payload : Data) (v : List ℕ) (old new : Bor (List ℕ)) (f : EditFault) (first : (e : Edit) → IsLeast edit_key (IsNeedFault v payload e) f) where
  missed_by : (opener : OpenerFile) (memory : ℕ) (older : Bool) → Misses payload opener memory older (λ p. p ≡ old.now) v f
  missed_by opener memory older = record { secret = secret_for opener old memory older; asked = secret_is opener old memory older; why = inl (first edit.Repair) }

  abbrev IsEither : EditRequest → Type 0
  IsEither request = IsMissed payload request (λ p. p ≡ old.now) v f ⊎ ((e : Edit) × IsAsked v request (λ p. p ≡ old.now) (λ p. p ≡ new.now) e)

  -- a token was read from the bytes of its file, or they hold none
  added_way : (token : Bor (List ℕ)) (to : Option ℕ) (value : Option (Bor TheValue)) → IsTokenOf (AddToken token to) old.now value → IsEither (AddToken token to)
  added_way token to (Some value) is = inr (edit.Amend (change.AddToken to value), (refl, record { text = old.now; words = refl; utf8 = is.0; reads = is.1 }))
  added_way token to None bad = inl (record { text = old.now; words = refl; bad = bad }, inl (first edit.Repair))

  either_way : (value : Option (Bor TheValue)) (request : EditRequest) → IsTokenOf request old.now value → IsEither request
  either_way value (Add None opener memory older n to iterations kdf) read_ = inl (missed_by opener memory older)
  either_way value (Add (Some by_) opener memory older n to iterations kdf) read_ =
      inr (edit.Add by_ (secret_for opener old memory older) new to iterations (chosen_of kdf), (refl, secret_is opener old memory older, refl, refl, refl, refl))
  either_way value (AddByKey key memory older n to iterations kdf) read_ =
      inr (edit.AddByKey (record { bytes = old; allowed = allowed_of memory older }) new to iterations (chosen_of kdf), (refl, refl, refl, refl, refl, refl))
  either_way value (Change None opener memory older n iterations kdf) read_ = inl (missed_by opener memory older)
  either_way value (Change (Some slot) opener memory older n iterations kdf) read_ =
      inr (edit.Change slot (secret_for opener old memory older) new iterations (chosen_of kdf), (refl, secret_is opener old memory older, refl, refl, refl))
  either_way value (Remove None by_ opener memory older) read_ = inl (missed_by opener memory older)
  either_way value (Remove (Some slot) by_ opener memory older) read_ = inr (edit.Remove slot by_ (secret_for opener old memory older), (refl, refl, secret_is opener old memory older))
  either_way value Erase read_ = inr (edit.Erase, tt)
  either_way value Repair read_ = inr (edit.Repair, tt)
  either_way value (Label text subsystem) read_ = inr (edit.Label text subsystem, (refl, refl))
  either_way value (Uuid text) read_ = inr (edit.Uuid (uuid_of text), refl)
  either_way value (Priority slot priority) read_ = inr (edit.Amend (change.Priority slot (priority_of priority)), (refl, refl))
  either_way value (AddToken token to) read_ = added_way token to value read_
  either_way value (RemoveToken number) read_ = inr (edit.Amend (change.RemoveToken number), refl)

-- ---- what is seen of it

-- the header isn't read
pub header_unseen : (editing : Editing) (old new : Bor (List ℕ)) (value : Option (Bor TheValue)) → IsTokenOf editing.request old.now value → (v : List ℕ) (f : EditFault)
    → ((e : Edit) → IsUntold v editing.payload e f) → IsUnseen editing.payload (IsAsked v editing.request (λ p. p ≡ old.now) (λ p. p ≡ new.now)) (IsMissed editing.payload editing.request (λ p. p ≡ old.now) v) editing.over v (Untold f)
header_unseen editing old new value read_ v fault.Memory is = is edit.Repair
header_unseen editing old new value read_ v fault.Device is = tt
header_unseen editing old new value read_ v f is = elim (either_way editing.payload v old new f is value editing.request read_) [
  | inl missed ↦ inl missed
  | inr x ↦ inr (record { edit = x.0; asked = x.1; first = is x.0 })
]

-- no keyslot is found
pub missed_unseen : (editing : Editing) (old new : List ℕ) (v : List ℕ) (f : EditFault)
    → UnlessOutside v (IsMissed editing.payload editing.request (λ p. p ≡ old) v) f → IsUnseen editing.payload (IsAsked v editing.request (λ p. p ≡ old) (λ p. p ≡ new)) (IsMissed editing.payload editing.request (λ p. p ≡ old) v) editing.over v (Untold f)
missed_unseen editing old new v f is =
    outside_as v (IsMissed editing.payload editing.request (λ p. p ≡ old) v)
    (λ g. IsMissed editing.payload editing.request (λ p. p ≡ old) v g ⊎ IsFirstSeen editing.payload (IsAsked v editing.request (λ p. p ≡ old) (λ p. p ≡ new)) v g)
    (λ g missed. inl missed) f is

-- of a volume whose bytes are those
pub missed_moved : (editing : Editing) (old new v w : List ℕ) → w ≡ v → (f : EditFault) → UnlessOutside w (IsMissed editing.payload editing.request (λ p. p ≡ old) w) f
    → IsUnseen editing.payload (IsAsked v editing.request (λ p. p ≡ old) (λ p. p ≡ new)) (IsMissed editing.payload editing.request (λ p. p ≡ old) v) editing.over v (Untold f)
missed_moved editing old new v w same f is =
    missed_unseen editing old new v f (subst (λ (x : List ℕ). UnlessOutside x (IsMissed editing.payload editing.request (λ p. p ≡ old) x) f) same is)

pub asked_moved : (editing : Editing) (old new v w : List ℕ) → w ≡ v → (e : Edit) → IsAsked w editing.request (λ p. p ≡ old) (λ p. p ≡ new) e
    → IsAsked v editing.request (λ p. p ≡ old) (λ p. p ≡ new) e
asked_moved editing old new v w same e is = subst (λ (x : List ℕ). IsAsked x editing.request (λ p. p ≡ old) (λ p. p ≡ new) e) same is

-- how many random bytes the edit takes isn't told
pub untold_unseen : (editing : Editing) (old new : List ℕ) (v : List ℕ) (e : Edit) → IsAsked v editing.request (λ p. p ≡ old) (λ p. p ≡ new) e
    → (f : EditFault) → IsUntold v editing.payload e f → IsUnseen editing.payload (IsAsked v editing.request (λ p. p ≡ old) (λ p. p ≡ new)) (IsMissed editing.payload editing.request (λ p. p ≡ old) v) editing.over v (Untold f)
untold_unseen editing old new v e asked fault.Memory is = is
untold_unseen editing old new v e asked fault.Device is = tt
untold_unseen editing old new v e asked f is = inr (record { edit = e; asked = asked; first = is })
