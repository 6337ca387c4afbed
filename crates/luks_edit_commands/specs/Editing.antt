-- What the commands that edit leave of their volume.
use Rattle.std.specs.Prelude.{◌≡◌, ◌⊎◌, ℕ, List, Option, Some, None, option_map, Bool, Result, Ok, Err, ⊤, IsUtf8}
use Rattle.luks_area.specs.First.{IsLeast}
use Rattle.luks_reading.specs.declared.report.Data.{Data}
use Rattle.luks_reading.specs.Checked.{WellFormed}
use Rattle.luks_reading.specs.Header.{NeedsMetadata}
use Rattle.luks_reading.specs.Unlocking.{Unlocks}
use Rattle.luks_reading.specs.declared.open_fault.OpenFault.{OpenFault}
use Rattle.luks_reading.specs.declared.open_fault.OpenFault.TheVariants as opening
use Rattle.std.specs.Borrow.{Bor}
use Rattle.serde_json.specs.Data.{Data as Value}
use Rattle.serde_json.specs.declared.value.Value.{Value as TheValue}
use Rattle.serde_json.specs.Read.{read}
use Rattle.serde_json.specs.View.{view}
use Rattle.luks_rules.specs.declared.fault.MetaFault.TheVariants.{BadJson}
use Rattle.luks_making.specs.declared.amended.Change.TheVariants as change
use Rattle.luks_making.specs.declared.amended.Priority.{Priority as Priority_}
use Rattle.luks_making.specs.declared.amended.Priority.TheVariants as priority
use Rattle.luks_edit.specs.declared.edit.Done.{Done}
use Rattle.luks_edit.specs.declared.edit.Edit.{Edit}
use Rattle.luks_edit.specs.declared.edit.Edit.TheVariants as edit
use Rattle.luks_edit.specs.declared.edit.Secret.{Secret}
use Rattle.luks_edit.specs.declared.edit.SecretKind.{SecretKind}
use Rattle.luks_edit.specs.declared.edit.SecretKind.TheVariants as kind
use Rattle.luks_edit.specs.declared.new_uuid.NewUuid.{NewUuid}
use Rattle.luks_edit.specs.declared.new_uuid.NewUuid.TheVariants as uuid
use Rattle.luks_edit.specs.declared.edit_fault.EditFault.{EditFault}
use Rattle.luks_edit.specs.declared.edit_fault.EditFault.TheVariants.{Locked, BadToken, Memory, Device}
use Rattle.luks_edit.specs.EditFaults.{edit_key}
use Rattle.luks_edit.specs.Kept.{Keeps}
use Rattle.luks_edit.specs.Ran.{Reply}
use Rattle.luks_volume.specs.Edits.{NamedSlots, Refusal, Replies}
use Rattle.luks_volume.specs.Needed.{IsNeedFault, NeedsRandom}
use Rattle.luks_volume.specs.Outcome.{Spares}
use Rattle.luks_signatures.specs.declared.other_use.OtherUse.{OtherUse}
use Rattle.luks_request.specs.declared.request.EditRequest.{EditRequest}
use Rattle.luks_request.specs.declared.request.EditRequest.TheVariants.{Add, AddByKey, Change, Remove, Erase, Repair, Label, Uuid, Priority, AddToken, RemoveToken}
use Rattle.luks_request.specs.declared.request.Editing.{Editing}
use Rattle.luks_request.specs.declared.token.AskedPriority.{AskedPriority}
use Rattle.luks_request.specs.declared.token.AskedPriority.TheVariants as asked
use Rattle.luks_request.specs.declared.request.OpenerFile.{OpenerFile}
use Rattle.luks_request.specs.declared.request.OpenerFile.TheVariants as file
use Rattle.luks_commands.specs.declared.inputs.InputFault.{InputFault}
use Rattle.luks_commands.specs.declared.inputs.Inputs.{Inputs}
use Rattle.luks_request.specs.Named.{edit_new_of, edit_passphrase_of}
use Rattle.luks_commands.specs.Chosen.{chosen_of}
use Rattle.luks_commands.specs.OpenAnswers.{allowed_of}
use Rattle.luks_commands.specs.Files.{AreFirstBytes, IsLong, IsUnread, IsUnreadRandom, IsWhole, OfNamed}
use Rattle.luks_edit_commands.specs.declared.edit.seen.Unseen.{Unseen}
use Rattle.luks_edit_commands.specs.declared.edit.seen.Unseen.TheVariants.{Untold, Used}
use Rattle.luks_edit_commands.specs.OtherUses.{Bars}

-- ---- what is asked for

-- whether the file is that of a passphrase or of a key
abbrev pub kind_of : OpenerFile → SecretKind
kind_of (file.Passphrase name) = kind.Passphrase
kind_of (file.Key name) = kind.Key

-- the secret is such bytes out of that file, with so much allowed
pub record IsSecret (opener : OpenerFile) (memory : ℕ) (older : Bool) (IsOld : List ℕ → Type 0) (secret : Secret) : Type 0 where
  pub kind_is : secret.kind ≡ kind_of opener
  pub words : IsOld secret.bytes.now
  pub allowed : secret.allowed ≡ allowed_of memory older

-- the keyslot `n` is the first that the secret opens in the volume `v`, of those that `open` tries and in its order
pub record IsFound (v : List ℕ) (secret : Secret) (n : ℕ) : Type 0 where
  pub key : List ℕ
  pub unlocks : Unlocks secret.allowed v secret.bytes.now (Some (n, key))

-- the keyslot `n` is the one that the command line names, or else the one that is found
abbrev pub IsMeant : List ℕ → Option ℕ → Secret → ℕ → Type 0
IsMeant v (Some named) secret n = n ≡ named
IsMeant v None secret n = IsFound v secret n

-- the text of the file is that of the value (RFC 8259)
pub record HasText (IsOld : List ℕ → Type 0) (j : Value) : Type 0 where
  pub text : List ℕ
  pub words : IsOld text
  pub utf8 : IsUtf8 text
  pub reads : read text ≡ Some j

-- the file holds no text of a value
pub record HasNoText (IsOld : List ℕ → Type 0) : Type 0 where
  pub text : List ℕ
  pub words : IsOld text
  pub bad : IsUtf8 text → read text ≡ None

-- the uuid is the text that is given, or else a new one
abbrev pub uuid_of : Option (Bor (List ℕ)) → NewUuid
uuid_of None = uuid.Random
uuid_of (Some text) = uuid.Text text

abbrev pub priority_of : AskedPriority → Priority_
priority_of asked.Ignore = priority.Ignore
priority_of asked.Normal = priority.Normal
priority_of asked.Prefer = priority.Prefer

-- the edit is the one that the command line asks for of the volume `v`, with what it allows and the derivation that it
-- chooses, its passphrases, or the key and the new passphrase, being such bytes
abbrev pub IsAsked : List ℕ → EditRequest → (List ℕ → Type 0) → (List ℕ → Type 0) → Edit → Type 0
IsAsked v (Add by_ opener memory older new to iterations kdf) IsOld IsNew (edit.Add b o n t i d) =
    IsMeant v by_ o b × IsSecret opener memory older IsOld o × IsNew n.now × (t ≡ to) × (i ≡ iterations) × (d ≡ chosen_of kdf)
IsAsked v (AddByKey key memory older new to iterations kdf) IsOld IsNew (edit.AddByKey k n t i d) =
    IsOld k.bytes.now × (k.allowed ≡ allowed_of memory older) × IsNew n.now × (t ≡ to) × (i ≡ iterations) × (d ≡ chosen_of kdf)
IsAsked v (Change slot opener memory older new iterations kdf) IsOld IsNew (edit.Change s o n i d) =
    IsMeant v slot o s × IsSecret opener memory older IsOld o × IsNew n.now × (i ≡ iterations) × (d ≡ chosen_of kdf)
IsAsked v (Remove slot by_ opener memory older) IsOld IsNew (edit.Remove s b o) =
    IsMeant v slot o s × (b ≡ by_) × IsSecret opener memory older IsOld o
IsAsked v Erase IsOld IsNew edit.Erase = ⊤
IsAsked v Repair IsOld IsNew edit.Repair = ⊤
IsAsked v (Label text subsystem) IsOld IsNew (edit.Label t s) = (t.now ≡ text.now) × (option_map (λ x. x.now) s ≡ option_map (λ x. x.now) subsystem)
IsAsked v (Uuid text) IsOld IsNew (edit.Uuid u) = u ≡ uuid_of text
IsAsked v (Priority slot priority) IsOld IsNew (edit.Amend (change.Priority s p)) = (s ≡ slot) × (p ≡ priority_of priority)
IsAsked v (AddToken token to) IsOld IsNew (edit.Amend (change.AddToken t value)) = (t ≡ to) × HasText IsOld (view value.now)
IsAsked v (RemoveToken number) IsOld IsNew (edit.Amend (change.RemoveToken n)) = n ≡ number
IsAsked v request IsOld IsNew e = ⊥

-- why no keyslot is found in the volume `v`: what refuses every edit of it, as one that opens none; else that the secret
-- opens none of those that are tried
abbrev pub IsUnfound : Data → List ℕ → Secret → EditFault → Type 0
IsUnfound payload v secret f = IsLeast edit_key (IsNeedFault v payload edit.Repair) f
    ⊎ ((f ≡ Locked) × ((g : EditFault) → IsNeedFault v payload edit.Repair g → ⊥) × Unlocks secret.allowed v secret.bytes.now None)

-- a keyslot is looked for in the volume `v` by the passphrase of this file, and none is found
pub record Misses (payload : Data) (opener : OpenerFile) (memory : ℕ) (older : Bool) (IsOld : List ℕ → Type 0) (v : List ℕ) (f : EditFault) : Type 0 where
  pub secret : Secret
  pub asked : IsSecret opener memory older IsOld secret
  pub why : IsUnfound payload v secret f

-- why a file that holds no text adds no token to the volume `v`: what refuses every edit of it, or that
abbrev pub IsUntokened : Data → List ℕ → EditFault → Type 0
IsUntokened payload v f = IsLeast edit_key (IsNeedFault v payload edit.Repair) f
    ⊎ ((f ≡ BadToken BadJson) × ((g : EditFault) → IsNeedFault v payload edit.Repair g → ⊥))

-- the command line names no keyslot, and for its edit none is found in the volume `v`; or the file of a token holds none
abbrev pub IsMissed : Data → EditRequest → (List ℕ → Type 0) → List ℕ → EditFault → Type 0
IsMissed payload (Add None opener memory older new to iterations kdf) IsOld v f = Misses payload opener memory older IsOld v f
IsMissed payload (Change None opener memory older new iterations kdf) IsOld v f = Misses payload opener memory older IsOld v f
IsMissed payload (Remove None by_ opener memory older) IsOld v f = Misses payload opener memory older IsOld v f
IsMissed payload (AddToken token to) IsOld v f = HasNoText IsOld × IsUntokened payload v f
IsMissed payload request IsOld v f = ⊥

-- the keyslot that the edit removes, or else the one that it made
abbrev pub removed_in : Edit → Option ℕ → Option ℕ
removed_in (edit.Remove s b o) made = Some s
removed_in e made = made

-- the keyslot that is told of the edit: of a removal the one that was found
abbrev pub told_slot : EditRequest → Edit → Option ℕ → Option ℕ
told_slot (Remove None by_ opener memory older) e made = removed_in e made
told_slot request e made = made

-- the edit is it for some passphrases, and names the keyslot `n` of the volume `v`
pub record NamesSlot (request : EditRequest) (v : List ℕ) (n : ℕ) : Type 0 where
  pub edit : Edit
  pub asked : IsAsked v request (λ p. Unit {0}) (λ p. Unit {0}) edit
  pub named : NamedSlots v edit n

-- what an edit is given: of the volume `v` the edit is one that is asked for, or no keyslot is found for it by this fault, and
-- the random bytes are the first of their file, as many as it takes
pub record Given : Type 1 where
  pub asks : List ℕ → Edit → Type 0
  pub misses : List ℕ → EditFault → Type 0
  pub told : Edit → Option ℕ → Option ℕ
  pub has_random : ℕ → List ℕ → Type 0
  -- a passphrase is too long, so that there is none
  pub is_long : Type 0
  -- whether it may write over another use of the disk
  pub over : Bool

-- by what the command line says, and the bytes that its files have
abbrev pub given_of : Editing → (List ℕ → Type 0) → (List ℕ → Type 0) → (ℕ → List ℕ → Type 0) → Type 0 → Given
given_of editing IsOld IsNew has_random is_long = record {
  asks = λ v. IsAsked v editing.request IsOld IsNew;
  misses = λ v. IsMissed editing.payload editing.request IsOld v;
  told = told_slot editing.request;
  has_random = has_random;
  is_long = is_long;
  over = editing.over;
}

abbrev pub given_by : {D R N : Type 0} → Editing → (R → Option (List ℕ)) → (N → Option (List ℕ)) → Inputs D R N → Given
given_by editing of_passphrase of_random inputs =
    given_of editing (IsWhole of_passphrase inputs.passphrase) (IsWhole of_passphrase inputs.new_passphrase) (λ count. AreFirstBytes count of_random inputs.random)
    (OfNamed (edit_passphrase_of editing.request) (IsLong of_passphrase inputs.passphrase) ⊎ OfNamed (edit_new_of editing.request) (IsLong of_passphrase inputs.new_passphrase))

-- by which faults the files of an edit can't be read: that of a passphrase, and that of so many random bytes
pub record Lacking : Type 1 where
  pub words : InputFault → Type 0
  pub random : ℕ → InputFault → Type 0

-- of the files of the command line, those that the edit needs
abbrev pub lacking_by : {D R N : Type 0} → EditRequest → Inputs D R N → Lacking
lacking_by request inputs = record {
  words = λ f. OfNamed (edit_passphrase_of request) (IsUnread inputs.passphrase f) ⊎ OfNamed (edit_new_of request) (IsUnread inputs.new_passphrase f);
  random = λ count. IsUnreadRandom count inputs.random;
}

-- of an edit that has its passphrases
abbrev pub lacking_random : (ℕ → InputFault → Type 0) → Lacking
lacking_random random = record { words = λ f. ⊥; random = random }

-- where these are the bytes of its passphrases
abbrev pub given_words : Editing → List ℕ → List ℕ → (ℕ → List ℕ → Type 0) → Given
given_words editing old new has_random = given_of editing (λ p. p ≡ old) (λ p. p ≡ new) has_random ⊥

-- ---- what comes of it, at the volume `v`

-- the edit was run over `v`, replied so, and left `w`
pub record IsReplied (payload : Data) (given : Given) (v w : List ℕ) (reply : Reply) : Type 0 where
  pub edit : Edit
  pub asked : given.asks v edit
  pub count : ℕ
  pub needs : NeedsRandom v payload edit count
  pub random : List ℕ
  pub taken : given.has_random count random
  pub replies : Replies payload v edit random reply w

-- the edit was completed, and left `w`
pub record IsCompleted (payload : Data) (given : Given) (v w : List ℕ) : Type 0 where
  pub done : Done
  pub replied : IsReplied payload given v w (Ok done)

-- the edit was refused by the first of all its faults
pub record IsRefusedLate (payload : Data) (given : Given) (v : List ℕ) : Type 0 where
  pub edit : Edit
  pub asked : given.asks v edit
  pub count : ℕ
  pub needs : NeedsRandom v payload edit count
  pub random : List ℕ
  pub taken : given.has_random count random
  pub fault : EditFault
  pub first : Refusal v payload edit random fault

-- it was refused at once, by the first of the faults that are seen without opening a keyslot
pub record IsRefusedAtOnce (payload : Data) (given : Given) (v : List ℕ) : Type 0 where
  pub edit : Edit
  pub asked : given.asks v edit
  pub fault : EditFault
  pub first : IsLeast edit_key (IsNeedFault v payload edit) fault

-- the first of these faults is this one
pub record IsFirstSeen (payload : Data) (asks : Edit → Type 0) (v : List ℕ) (f : EditFault) : Type 0 where
  pub edit : Edit
  pub asked : asks edit
  pub first : IsLeast edit_key (IsNeedFault v payload edit) f

-- it was refused since no keyslot is found for it
pub record IsRefusedUnfound (given : Given) (v : List ℕ) : Type 0 where
  pub fault : EditFault
  pub missed : given.misses v fault

-- it was refused since the disk has another use, which it may not write over
pub record IsRefusedByUse (given : Given) (v : List ℕ) : Type 0 where
  pub found : OtherUse
  pub barred : Bars given.over v (Some found)

abbrev pub IsRefused : Data → Given → List ℕ → Type 0
IsRefused payload given v = given.is_long ⊎ IsRefusedByUse given v ⊎ IsRefusedUnfound given v ⊎ IsRefusedAtOnce payload given v ⊎ IsRefusedLate payload given v

-- what is told of the volume `v` that the command left as `w`, by whether it says that the edit is
-- done, or refused. Whatever it says, the volume is as it was, or as the edit's reply leaves it
pub record SaysEdit (payload : Data) (given : Given) (v w : List ℕ) (is_done is_refused : Type 0) : Type 0 where
  pub done : is_done → IsCompleted payload given v w
  pub refused : is_refused → (w ≡ v) × IsRefused payload given v
  pub rest : (w ≡ v) ⊎ ((reply : Reply) × IsReplied payload given v w reply)

-- the edit was run over `v`, a device call failed in it, and `w` is what it spares
pub record IsSpared (payload : Data) (given : Given) (v w : List ℕ) : Type 0 where
  pub replied : IsReplied payload given v w (Err Device)
  pub spares : Spares v payload replied.edit replied.random w

-- where a device call failed, nothing was begun, or this holds
abbrev pub SparesEdit : Data → Given → List ℕ → List ℕ → Type 0
SparesEdit payload given v w = (w ≡ v) ⊎ IsSpared payload given v w

-- ---- over devices

-- a volume that is there, tells its bytes and was well formed is well formed again, and nothing
-- changed that the edit doesn't name, unless a device call failed
abbrev pub KeepsUnnamed : {D : Type 0} → Type 0 → (D → ℕ) → (D → List ℕ) → Editing → Result D InputFault → Result D InputFault → Type 0
KeepsUnnamed tells failed bytes editing (Ok old) (Ok new) = tells → WellFormed (bytes old) editing.payload → failed new ≡ failed old
    → Keeps editing.payload (NamesSlot editing.request (bytes old)) (bytes old) (bytes new)
KeepsUnnamed tells failed bytes editing old new = ⊤

-- where a device call failed, of a volume that is there, tells its bytes and was well formed what the
-- edit spares is left
abbrev pub SparesVolume : {D : Type 0} → Type 0 → (D → ℕ) → (D → List ℕ) → Data → Given → Result D InputFault → Result D InputFault → Type 0
SparesVolume tells failed bytes payload given (Ok old) (Ok new) = tells → WellFormed (bytes old) payload
    → (failed new ≡ failed old → ⊥) → SparesEdit payload given (bytes old) (bytes new)
SparesVolume tells failed bytes payload given old new = ⊤

-- where a device call failed, this holds
abbrev pub WhereFailed : {D : Type 0} → (D → ℕ) → Result D InputFault → Result D InputFault → Type 0 → Type 0
WhereFailed failed (Ok old) (Ok new) holds = (failed new ≡ failed old → ⊥) → holds
WhereFailed failed old new holds = ⊤

-- ---- what is seen of an edit before it is run: words of private contracts

-- the device failed, memory was refused, or this holds of the fault
abbrev pub UnlessOutside : List ℕ → (EditFault → Type 0) → EditFault → Type 0
UnlessOutside v holds Device = ⊤
UnlessOutside v holds Memory = NeedsMetadata v
UnlessOutside v holds f = holds f

-- why nothing is seen of the volume `v`, of which such edits are asked for, or none is found by such faults
abbrev pub IsUnseen : Data → (Edit → Type 0) → (EditFault → Type 0) → Bool → List ℕ → Unseen → Type 0
IsUnseen payload asks misses over v (Untold f) = UnlessOutside v (λ g. misses g ⊎ IsFirstSeen payload asks v g) f
IsUnseen payload asks misses over v (Used found) = Bars over v (Some found)

-- why the keyslots of a volume can't be tried, as the fault of an edit
abbrev pub unopened_fault : OpenFault → EditFault
unopened_fault opening.Device = Device
unopened_fault opening.Memory = Memory
unopened_fault f = Locked

-- what the bytes `p` of the file of a token are read as; of other edits it is nothing
abbrev pub IsTextOf : EditRequest → List ℕ → Option TheValue → Type 0
IsTextOf (AddToken token to) p (Some t) = IsUtf8 p × (read p ≡ Some (view t))
IsTextOf (AddToken token to) p None = IsUtf8 p → read p ≡ None
IsTextOf request p t = ⊤

abbrev pub IsTokenOf : EditRequest → List ℕ → Option (Bor TheValue) → Type 0
IsTokenOf request p t = IsTextOf request p (option_map (λ x. x.now) t)
