-- What `open` may answer.
use Rattle.std.specs.Prelude.{◌≡◌, ◌⊎◌, ℕ, ◌+◌, ◌*◌, ◌≤◌, min, length, Bool, List, Option, Some, None, Result, Ok, Err}
use Rattle.serde_json.specs.Data.{Data}
use Rattle.luks_slot.specs.declared.allowed.Allowed.{Allowed}
use Rattle.luks_reading.specs.Answer.{opens, no_key, refused, AnswerWithin as Gives}
use Rattle.luks_reading.specs.Header.{NeedsMetadata}
use Rattle.luks_reading.specs.Unlocking.{gives, locked, UnlockAnswer}
use Rattle.luks_reading.specs.declared.open_fault.OpenFault.{OpenFault}
use Rattle.luks_reading.specs.Conversions.{unread_opened}
use Rattle.luks_wide_reading.specs.declared.open_fault.WideOpenFault.{WideOpenFault}
use Rattle.luks_wide_reading.specs.declared.open_fault.WideOpenFault.TheVariants as wide
use Rattle.luks_wide_reading.specs.declared.read_fault.WideReadFault.{WideReadFault}
use Rattle.luks_wide_reading.specs.declared.read_fault.WideReadFault.TheVariants as reading
use Rattle.luks_wide_reading.specs.Headers.{IsUnderWayVolume}
use Rattle.luks_wide_reading.specs.Opening.{UnderwayTakesMemory}
use Rattle.luks_wide_reading.specs.Volume.{CountsUnderway, UnderwayGives, UnderwayRefuses, UnderwayUnlocks}
use Rattle.luks_commands.specs.declared.answers.Answer.{Answer}
use Rattle.luks_commands.specs.declared.answers.Answer.TheVariants.{Opens, Closed, NoneOpens, Refused, DeviceFault, NoMemory}
use Rattle.luks_commands.specs.declared.answers.Refusal.TheVariants.{Open, Underway}
use Rattle.luks_commands.specs.declared.inputs.InputFault.{InputFault}
use Rattle.luks_commands.specs.declared.underway_refusal.UnderwayRefusal.TheVariants.{Metadata, NoKey}
use Rattle.luks_commands.specs.Answer.{IsWordless, open_fault_answer, unread_answer}
use Rattle.luks_commands.specs.Lost.{IsLost}
use Rattle.luks_commands.specs.UnderwayAnswers.{IsMetadataRefused}
use Rattle.luks_commands.specs.Searched.{Searches}

-- what opening the keyslot `n` gave, or opening the volume, as it is answered
abbrev pub one_answer : ℕ → Result (Option (List ℕ)) OpenFault → Answer
one_answer n (Ok (Some key)) = Opens n
one_answer n (Ok None) = Closed n
one_answer n (Err f) = open_fault_answer f

abbrev pub any_answer : Result (Option (ℕ × List ℕ)) OpenFault → Answer
any_answer (Ok (Some found)) = Opens found.0
any_answer (Ok None) = NoneOpens
any_answer (Err f) = open_fault_answer f

-- what opening a keyslot is refused by where something is under way, and what a header isn't read by
abbrev pub wide_open_answer : WideOpenFault → Answer
wide_open_answer (wide.Open f) = open_fault_answer f
wide_open_answer wide.NoKey = Refused (Underway NoKey)

abbrev pub wide_read_answer : WideReadFault → Answer
wide_read_answer (reading.Read f) = open_fault_answer (unread_opened f)
wide_read_answer (reading.Underway f narrow_fault) = Refused (Underway (Metadata f))

-- so many MiB in KiB, and no more than a header can name
abbrev pub kib_of : ℕ → ℕ
kib_of mib = min (1024 * mib) 4294967295

-- what a command line allows: so many MiB of memory, and ciphers and hashes of older disks or not
abbrev pub allowed_of : ℕ → Bool → Allowed
allowed_of mib older = record { memory = kib_of mib; older = older }

-- where the keyslot `n` is named, and so much is allowed: it opens exactly where
-- opening it by the passphrase `p` gives a key
abbrev pub IsOneAnswer : Type 0 → Allowed → List ℕ → ℕ → List ℕ → ℕ → ℕ → Answer → Type 0
IsOneAnswer tells allowed v n p before after (Opens m) = (after ≡ before) × (m ≡ n) × (tells → (key : List ℕ) × Gives allowed v n p (opens key))
IsOneAnswer tells allowed v n p before after (Closed m) = (after ≡ before) × (m ≡ n) × (tells → Gives allowed v n p no_key)
IsOneAnswer tells allowed v n p before after (Refused (Open f)) = (after ≡ before) × (tells → Gives allowed v n p (refused f))
IsOneAnswer tells allowed v n p before after DeviceFault = after ≡ before + 1
IsOneAnswer tells allowed v n p before after NoMemory = (after ≡ before) × (tells → NeedsMetadata v)
IsOneAnswer tells allowed v n p before after a = ⊥

-- If none is named: the first that opens. If a call failed, that is all that is answered, or the keyslots have been tried one
-- by one besides: then the first opens that isn't lost by a further failed call, or none does.
abbrev pub IsAnyAnswer : Type 0 → Allowed → List ℕ → List ℕ → ℕ → ℕ → Answer → Type 0
IsAnyAnswer tells allowed v p before after (Opens n) =
    ((after ≡ before) × (tells → (key : List ℕ) × UnlockAnswer allowed v p (gives (Some (n, key))))) ⊎ Searches tells allowed v p (before + 1) after (Some n)
IsAnyAnswer tells allowed v p before after NoneOpens = (after ≡ before) × (tells → UnlockAnswer allowed v p (gives None))
IsAnyAnswer tells allowed v p before after (Refused (Open f)) = (after ≡ before) × (tells → UnlockAnswer allowed v p (locked f))
IsAnyAnswer tells allowed v p before after DeviceFault = (after ≡ before + 1) ⊎ Searches tells allowed v p (before + 1) after None
IsAnyAnswer tells allowed v p before after NoMemory = (after ≡ before) × (tells → NeedsMetadata v)
IsAnyAnswer tells allowed v p before after a = ⊥

-- what is answered then, where none is named: no search is begun where the count of failures has no room for it
abbrev pub IsAnswerBeside : Type 0 → Allowed → List ℕ → List ℕ → ℕ → ℕ → Answer → Type 0
IsAnswerBeside tells allowed v p before after (Opens n) = Searches tells allowed v p before after (Some n)
IsAnswerBeside tells allowed v p before after DeviceFault = (after ≡ before) ⊎ Searches tells allowed v p before after None
IsAnswerBeside tells allowed v p before after a = ⊥

-- of the volume `v` and the passphrase `p`, while the device's count of failures went from `before` to
-- `after`: `device fault` comes only where a call failed, and where a keyslot is named exactly there
abbrev pub IsOpenAnswer : Type 0 → Allowed → List ℕ → Option ℕ → List ℕ → ℕ → ℕ → Answer → Type 0
IsOpenAnswer tells allowed v (Some n) p before after a = IsOneAnswer tells allowed v n p before after a
IsOpenAnswer tells allowed v None p before after a = IsAnyAnswer tells allowed v p before after a

-- ---- something is under way in the metadata of the volume `v`

-- After the first that opens the other keyslots are tried, too, for what standard error says of them: so many calls failed there at most.
-- No answer tells of it.
pub record FailsBeside (before after : ℕ) : Type 0 where
  pub least : before ≤ after
  pub most : after ≤ before + 32

-- a keyslot derives by Argon2, which takes memory
pub record TakesMemoryUnderway (allowed : Allowed) (v : List ℕ) : Type 0 where
  pub json : List ℕ
  pub value : Data
  pub counts : CountsUnderway v json value
  pub slot : ℕ
  pub takes : UnderwayTakesMemory allowed json (length v) slot

-- where the keyslot `n` is named: it opens exactly where its plan gives a key by the passphrase `p`
abbrev pub IsOneUnderway : Type 0 → Allowed → List ℕ → ℕ → List ℕ → ℕ → ℕ → Answer → Type 0
IsOneUnderway tells allowed v n p before after (Opens m) = FailsBeside before after × (m ≡ n) × (tells → (key : List ℕ) × UnderwayGives allowed v n p (Some key))
IsOneUnderway tells allowed v n p before after (Closed m) = (after ≡ before) × (m ≡ n) × (tells → UnderwayGives allowed v n p None)
IsOneUnderway tells allowed v n p before after (Refused (Open f)) = (after ≡ before) × (tells → UnderwayRefuses allowed v n (wide.Open f))
IsOneUnderway tells allowed v n p before after (Refused (Underway NoKey)) = (after ≡ before) × (tells → UnderwayRefuses allowed v n wide.NoKey)
IsOneUnderway tells allowed v n p before after (Refused (Underway (Metadata f))) = (after ≡ before) × (tells → IsMetadataRefused v f)
IsOneUnderway tells allowed v n p before after DeviceFault = after ≡ before + 1
IsOneUnderway tells allowed v n p before after NoMemory = (after ≡ before) × (tells → TakesMemoryUnderway allowed v)
IsOneUnderway tells allowed v n p before after a = ⊥

-- where none is named: the first that opens of those that hold a key, those of priority 2 before the others
abbrev pub IsAnyUnderway : Type 0 → Allowed → List ℕ → List ℕ → ℕ → ℕ → Answer → Type 0
IsAnyUnderway tells allowed v p before after (Opens n) = FailsBeside before after × (tells → (key : List ℕ) × UnderwayUnlocks allowed v p (Some (n, key)))
IsAnyUnderway tells allowed v p before after NoneOpens = (after ≡ before) × (tells → UnderwayUnlocks allowed v p None)
IsAnyUnderway tells allowed v p before after (Refused (Underway (Metadata f))) = (after ≡ before) × (tells → IsMetadataRefused v f)
IsAnyUnderway tells allowed v p before after DeviceFault = after ≡ before + 1
IsAnyUnderway tells allowed v p before after NoMemory = (after ≡ before) × (tells → TakesMemoryUnderway allowed v)
IsAnyUnderway tells allowed v p before after a = ⊥

abbrev pub IsUnderwayAnswer : Type 0 → Allowed → List ℕ → Option ℕ → List ℕ → ℕ → ℕ → Answer → Type 0
IsUnderwayAnswer tells allowed v (Some n) p before after a = IsOneUnderway tells allowed v n p before after a
IsUnderwayAnswer tells allowed v None p before after a = IsAnyUnderway tells allowed v p before after a

-- ---- any volume

-- where something is under way, the answer is by that, unless what was read got lost
abbrev pub IsWideAnswer : Type 0 → Allowed → List ℕ → Option ℕ → List ℕ → ℕ → ℕ → Answer → Type 0
IsWideAnswer tells allowed v slot p before after a =
    (IsOpenAnswer tells allowed v slot p before after a × (tells → IsUnderWayVolume v → IsLost a)) ⊎ IsUnderwayAnswer tells allowed v slot p before after a

-- the passphrase is what its file has
pub record IsTried (tells : Type 0) (allowed : Allowed) (v : List ℕ) (slot : Option ℕ) (HasWords : List ℕ → Type 0) (before after : ℕ) (a : Answer) : Type 0 where
  pub passphrase : List ℕ
  pub words : HasWords passphrase
  pub is : IsOpenAnswer tells allowed v slot passphrase before after a

pub record IsTriedUnderway (tells : Type 0) (allowed : Allowed) (v : List ℕ) (slot : Option ℕ) (HasWords : List ℕ → Type 0) (before after : ℕ) (a : Answer) : Type 0 where
  pub passphrase : List ℕ
  pub words : HasWords passphrase
  pub is : IsUnderwayAnswer tells allowed v slot passphrase before after a

-- the same of a volume that may not be there; the passphrase is read before it
abbrev pub AnswersOpen : {D : Type 0} → Type 0 → (D → List ℕ) → (D → ℕ) → Allowed → Option ℕ → (List ℕ → Type 0) → Type 0 → (InputFault → Type 0)
    → Result D InputFault → Result D InputFault → Answer → Type 0
AnswersOpen {D} tells bytes failed allowed slot HasWords is_long unread (Ok old) (Ok new) a =
    (IsWordless is_long unread a × (failed new ≡ failed old))
    ⊎ ((IsTried tells allowed (bytes old) slot HasWords (failed old) (failed new) a × (tells → IsUnderWayVolume (bytes old) → IsLost a))
    ⊎ IsTriedUnderway tells allowed (bytes old) slot HasWords (failed old) (failed new) a)
AnswersOpen {D} tells bytes failed allowed slot HasWords is_long unread (Ok old) (Err fault) a = ⊥
AnswersOpen {D} tells bytes failed allowed slot HasWords is_long unread (Err fault) new a = IsWordless is_long unread a ⊎ (a ≡ unread_answer fault)
