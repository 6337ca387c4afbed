-- What the command `key` leaves of its file, and what it may answer.
use Rattle.std.specs.Prelude.{◌≡◌, ◌⊎◌, ℕ, List, Bool, false, Option, Some, None, Result, Ok, Err, ⊤}
use Rattle.luks_area.specs.Device.{CountsFailure}
use Rattle.luks_area.specs.declared.device.Device.{Ghosts as Device}
use Rattle.luks_slot.specs.declared.allowed.Allowed.{Allowed}
use Rattle.luks_reading.specs.Answer.{AnswerWithin, IsRefusedByWithin, opened_to}
use Rattle.luks_reading.specs.Failures.{is_open_failure}
use Rattle.luks_reading.specs.Unlocking.{IsVolumeRefusedBy, Unlocks}
use Rattle.luks_reading.specs.declared.open_fault.OpenFault.{OpenFault}
use Rattle.luks_reading.specs.declared.open_fault.OpenFault.TheVariants as opening
use Rattle.luks_wider.specs.declared.fault.WideFault.{WideFault}
use Rattle.luks_wide_reading.specs.declared.open_fault.WideOpenFault.{WideOpenFault}
use Rattle.luks_wide_reading.specs.declared.open_fault.WideOpenFault.TheVariants as wide
use Rattle.luks_wide_reading.specs.Headers.{IsUnderWayVolume}
use Rattle.luks_wide_reading.specs.Volume.{UnderwayGives, UnderwayRefuses, UnderwayUnlocks}
use Rattle.luks_request.specs.declared.keeping.KeepingKey.{KeepingKey}
use Rattle.luks_commands.specs.declared.answers.Refusal.TheVariants as refusal
use Rattle.luks_commands.specs.declared.underway_refusal.UnderwayRefusal.TheVariants.{Metadata, NoKey}
use Rattle.luks_commands.specs.OpenAnswers.{TakesMemoryUnderway}
use Rattle.luks_commands.specs.UnderwayAnswers.{IsMetadataRefused}
use Rattle.luks_keeping_commands.specs.declared.key_refusal.KeyRefusal.{KeyRefusal}
use Rattle.luks_keeping_commands.specs.declared.key_refusal.KeyRefusal.TheVariants as unopened
use Rattle.luks_commands.specs.declared.answers.Answer.{Answer}
use Rattle.luks_commands.specs.declared.answers.Answer.TheVariants.{Closed, NoneOpens, Refused}
use Rattle.luks_commands.specs.declared.inputs.InputFault.{InputFault}
use Rattle.luks_commands.specs.Answer.{IsWordless, open_fault_answer, unread_answer}
use Rattle.luks_commands.specs.Beside.{AreOneFile}
use Rattle.luks_keeping_commands.specs.KeptFile.{IsKept}

-- ---- the files

-- the key's file is the volume, or that of the passphrase
abbrev pub AreNotThree : {D : Type 0} → List ℕ → KeepingKey → Result D InputFault → Type 0
AreNotThree name keeping target = AreOneFile name keeping.target.now target ⊎ (keeping.passphrase.now ≡ keeping.target.now)

-- ---- the key

-- what opening the volume `v` by the passphrase `p` gave where so much is allowed: of the keyslot that is named, or else of the first
-- that opens
abbrev pub IsKeyOpened : Allowed → List ℕ → Option ℕ → List ℕ → Result (Option (List ℕ)) OpenFault → Type 0
IsKeyOpened allowed v (Some n) p (Ok found) = AnswerWithin allowed v n p (opened_to found)
IsKeyOpened allowed v (Some n) p (Err f) = IsRefusedByWithin allowed v n p f
IsKeyOpened allowed v None p (Ok (Some key)) = (n : ℕ) × Unlocks allowed v p (Some (n, key))
IsKeyOpened allowed v None p (Ok None) = Unlocks allowed v p None
IsKeyOpened allowed v None p (Err f) = IsVolumeRefusedBy v f

-- the device failed, or memory was refused
abbrev pub IsLostKey : Result (Option (List ℕ)) OpenFault → Type 0
IsLostKey (Err opening.Device) = ⊤
IsLostKey (Err opening.Memory) = ⊤
IsLostKey r = ⊥

-- the same of the volume `v` where something is under way in its metadata, and a keyslot is named
abbrev pub IsUnderwayOpened : Allowed → List ℕ → ℕ → List ℕ → Result (Option (List ℕ)) WideOpenFault → Type 0
IsUnderwayOpened allowed v n p (Ok found) = UnderwayGives allowed v n p found
IsUnderwayOpened allowed v n p (Err (wide.Open opening.Device)) = ⊤
IsUnderwayOpened allowed v n p (Err (wide.Open opening.Memory)) = TakesMemoryUnderway allowed v
IsUnderwayOpened allowed v n p (Err f) = UnderwayRefuses allowed v n f

-- or none is: the first that opens of those that hold a key
abbrev pub IsUnderwayUnlocked : Allowed → List ℕ → List ℕ → Result (Option (List ℕ)) OpenFault → Type 0
IsUnderwayUnlocked allowed v p (Ok (Some key)) = (n : ℕ) × UnderwayUnlocks allowed v p (Some (n, key))
IsUnderwayUnlocked allowed v p (Ok None) = UnderwayUnlocks allowed v p None
IsUnderwayUnlocked allowed v p (Err opening.Device) = ⊤
IsUnderwayUnlocked allowed v p (Err opening.Memory) = TakesMemoryUnderway allowed v
IsUnderwayUnlocked allowed v p (Err f) = ⊥

-- what opening gave, by the refusals of any volume, and of one in which something is under way
abbrev pub opened_by : Result (Option (List ℕ)) OpenFault → Result (Option (List ℕ)) KeyRefusal
opened_by (Ok found) = Ok found
opened_by (Err f) = Err (unopened.Open f)

abbrev pub wide_opened_by : Result (Option (List ℕ)) WideOpenFault → Result (Option (List ℕ)) KeyRefusal
wide_opened_by (Ok found) = Ok found
wide_opened_by (Err (wide.Open f)) = Err (unopened.Open f)
wide_opened_by (Err wide.NoKey) = Err (unopened.Underway NoKey)

-- so it is where something is under way
pub record IsOneFound (allowed : Allowed) (v : List ℕ) (n : ℕ) (p : List ℕ) (r : Result (Option (List ℕ)) KeyRefusal) : Type 0 where
  pub opened : Result (Option (List ℕ)) WideOpenFault
  pub is : r ≡ wide_opened_by opened
  pub told : IsUnderwayOpened allowed v n p opened

pub record IsAnyFound (allowed : Allowed) (v : List ℕ) (p : List ℕ) (r : Result (Option (List ℕ)) KeyRefusal) : Type 0 where
  pub opened : Result (Option (List ℕ)) OpenFault
  pub is : r ≡ opened_by opened
  pub told : IsUnderwayUnlocked allowed v p opened

abbrev pub IsUnderwayFound : Allowed → List ℕ → Option ℕ → List ℕ → Result (Option (List ℕ)) KeyRefusal → Type 0
IsUnderwayFound allowed v (Some n) p r = IsOneFound allowed v n p r
IsUnderwayFound allowed v None p r = IsAnyFound allowed v p r

-- and where nothing is
pub record IsNarrowFound (allowed : Allowed) (v : List ℕ) (slot : Option ℕ) (p : List ℕ) (r : Result (Option (List ℕ)) KeyRefusal) : Type 0 where
  pub opened : Result (Option (List ℕ)) OpenFault
  pub is : r ≡ opened_by opened
  pub told : IsKeyOpened allowed v slot p opened
  -- what is said of any volume isn't of one in whose metadata something is under way, but where the device failed or memory was refused
  pub own : IsUnderWayVolume v → IsLostKey opened

-- whichever; or the metadata breaks a rule of what is under way
pub data IsKeyFound (allowed : Allowed) (v : List ℕ) (slot : Option ℕ) (p : List ℕ) (r : Result (Option (List ℕ)) KeyRefusal) : Type 0 where
  narrow : IsNarrowFound allowed v slot p r → IsKeyFound allowed v slot p r
  under_way : IsUnderwayFound allowed v slot p r → IsKeyFound allowed v slot p r
  refused : (f : WideFault) → r ≡ Err (unopened.Underway (Metadata f)) → IsMetadataRefused v f → IsKeyFound allowed v slot p r

-- the device failed
abbrev pub is_key_failure : KeyRefusal → Bool
is_key_failure (unopened.Open f) = is_open_failure f
is_key_failure (unopened.Underway r) = false

-- the key without its keyslot's number
abbrev pub key_of : Result (Option (ℕ × List ℕ)) OpenFault → Result (Option (List ℕ)) OpenFault
key_of (Ok (Some found)) = Ok (Some found.1)
key_of (Ok None) = Ok None
key_of (Err f) = Err f

-- ---- what is answered

abbrev pub refusal_answer : KeyRefusal → Answer
refusal_answer (unopened.Open f) = open_fault_answer f
refusal_answer (unopened.Underway r) = Refused (refusal.Underway r)

-- where the passphrase opens nothing
abbrev pub shut_answer : Option ℕ → Answer
shut_answer (Some n) = Closed n
shut_answer None = NoneOpens

-- no file is made except for a key
abbrev pub IsKeyFileAnswer : {D : Type 0} → Device D → Option ℕ → Result (Option (List ℕ)) KeyRefusal → Result D InputFault → Result D InputFault → Answer → Type 0
IsKeyFileAnswer device slot (Ok (Some key)) old new a = IsKept device key new a
IsKeyFileAnswer device slot (Ok None) old new a = (new ≡ old) × (a ≡ shut_answer slot)
IsKeyFileAnswer device slot (Err f) old new a = (new ≡ old) × (a ≡ refusal_answer f)

-- the passphrase is what its file has; what opening the volume by it gave, and what becomes of that
pub record IsKeyKept {D : Type 0} (device : Device D) (allowed : Allowed) (slot : Option ℕ) (HasWords : List ℕ → Type 0) (volume volume_new : D)
    (old new : Result D InputFault) (a : Answer) : Type 0 where
  pub passphrase : List ℕ
  pub words : HasWords passphrase
  pub opened : Result (Option (List ℕ)) KeyRefusal
  pub counted : CountsFailure is_key_failure opened (device.failed volume) (device.failed volume_new)
  pub told : device.tells → IsKeyFound allowed (device.bytes volume) slot passphrase opened
  pub is : IsKeyFileAnswer device slot opened old new a

-- the same of a volume that may not be there; the passphrase is read before it
abbrev pub AnswersKeyKept : {D : Type 0} → Device D → Allowed → Option ℕ → (List ℕ → Type 0) → Type 0 → (InputFault → Type 0)
    → Result D InputFault → Result D InputFault → Result D InputFault → Result D InputFault → Answer → Type 0
AnswersKeyKept device allowed slot HasWords is_long unread (Ok volume) (Ok volume_new) old new a =
    (IsWordless is_long unread a × (device.failed volume_new ≡ device.failed volume) × (new ≡ old))
    ⊎ IsKeyKept device allowed slot HasWords volume volume_new old new a
AnswersKeyKept device allowed slot HasWords is_long unread (Ok volume) (Err f) old new a = ⊥
AnswersKeyKept device allowed slot HasWords is_long unread (Err f) volume_new old new a =
    (new ≡ old) × (IsWordless is_long unread a ⊎ (a ≡ unread_answer f))
