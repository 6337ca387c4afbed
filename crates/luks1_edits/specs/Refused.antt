-- When an edit of a LUKS1 volume is refused, and how many random bytes it takes. The order of the
-- faults is that of every edit; some of them LUKS1 doesn't have.
use Rattle.std.specs.Prelude.{◌≡◌, ◌≢◌, ℕ, ◌+◌, ◌-◌, ◌*◌, ◌<◌, Bool, false, List, length, Option, Some, None, IsSomeAnd, MatchOption}
use Rattle.luks_area.specs.First.{IsLeast}
use Rattle.luks_area.specs.Ranges.{part}
use Rattle.luks1_header.specs.Header1.{entry, entry_stripes, key_bytes_of, luks1_size}
use Rattle.luks_slot.specs.declared.allowed.Allowed.{Allowed}
use Rattle.luks_slot.specs.declared.fault.SlotFault.{SlotFault}
use Rattle.luks_slot.specs.Allowance.{without_memory}
use Rattle.luks_reading.specs.declared.report.Data.{Data}
use Rattle.luks_reading.specs.Answer.{HasRefusedPlanWithin}
use Rattle.luks_reading.specs.Plans.{HasLuks1Plan}
use Rattle.luks_reading.specs.Checked.{IsFault}
use Rattle.luks_edit.specs.declared.edit.Edit.{Edit}
use Rattle.luks_edit.specs.declared.edit_fault.EditFault.{EditFault}
use Rattle.luks_edit.specs.declared.edit_fault.EditFault.TheVariants as fault
use Rattle.luks_edit.specs.declared.edit.Opener.{Opener}
use Rattle.luks_edit.specs.declared.edit.Opener.TheVariants.{Keyslot, Key}
use Rattle.luks_edit.specs.declared.edit.SecretKind.TheVariants as kind
use Rattle.luks_edit.specs.Asked.{allowed_by, ChoosesArgon2, deed_of, HasFewIterations, NamesItself, opener_in, removed_by, rewritten_by, sealed_by, sets_uuid_at_most, uuid_by, Wants}
use Rattle.luks_edit.specs.NewUuids.{HasBadUuid, uuid_need}
use Rattle.luks_edit.specs.Opener.{IsUnopenedKeyslot, lock_fault}
use Rattle.luks_edit.specs.EditFaults.{edit_key}
use Rattle.luks1_edits.specs.Edited.{GivesKey, IsFree, IsInUse, IsSealedIn, number_asked}

-- a keyslot that the edit wants isn't there, or isn't enabled
pub record IsAbsent (v : List ℕ) (e : Edit) : Type 0 where
  pub slot : ℕ
  pub wanted : Wants e slot
  pub unused : IsInUse v slot → ⊥

-- ---- what gives the key

-- the volume has another key, by its length or by the digest
pub record IsOtherKey (older : Bool) (v bytes : List ℕ) (f : EditFault) : Type 0 where
  pub gives : GivesKey older v bytes None
  pub is : f ≡ lock_fault kind.Key (key_bytes_of v) bytes

-- what the header says of its keyslots, in use or not, is refused
pub record IsRefusedAnywhere (older : Bool) (v : List ℕ) (f : SlotFault) : Type 0 where
  pub slot : ℕ
  pub refused : HasRefusedPlanWithin (without_memory older) (HasLuks1Plan (part v 0 luks1_size) slot) f

-- why the volume key doesn't give itself
abbrev pub IsUnkeyed1 : Bool → List ℕ → List ℕ → EditFault → Type 0
IsUnkeyed1 older v bytes (fault.Slot f) = IsRefusedAnywhere older v f
IsUnkeyed1 older v bytes f = IsOtherKey older v bytes f

-- why an opener gives no key: of the faults `Locked`, `KeyLength`, `WrongKey` and `Slot` it is one
abbrev pub IsUnopenedBy1 : Allowed → List ℕ → Opener → EditFault → Type 0
IsUnopenedBy1 allowed v (Keyslot slot secret) f = IsUnopenedKeyslot allowed v slot secret f
IsUnopenedBy1 allowed v (Key key) f = IsUnkeyed1 allowed.older v key.bytes.now f

abbrev pub IsUnopened1 : List ℕ → Edit → EditFault → Type 0
IsUnopened1 v e f = IsSomeAnd (opener_in (deed_of e)) (λ o. IsUnopenedBy1 (allowed_by e) v o f)

-- ---- the keyslot that the edit makes

-- the keyslot that is asked for is in use
abbrev pub IsTakenFor : List ℕ → Option ℕ → Type 0
IsTakenFor v (Some t) = IsInUse v t
IsTakenFor v None = ⊥

-- there is no keyslot of that number, or none is free
abbrev pub LacksFree : List ℕ → Option ℕ → Type 0
LacksFree v (Some t) = 7 < t
LacksFree v None = (n : ℕ) → IsFree v n → ⊥

abbrev pub IsTaken : List ℕ → Edit → Type 0
IsTaken v e = IsSomeAnd (sealed_by e) (λ s. IsTakenFor v (number_asked s.place))

abbrev pub HasNoFree : List ℕ → Edit → Type 0
HasNoFree v e = IsSomeAnd (sealed_by e) (λ s. LacksFree v (number_asked s.place))

-- ---- the rest of the edit

-- no keyslot is in use but the one to remove
abbrev pub IsLast : List ℕ → Edit → Type 0
IsLast v e = IsSomeAnd (removed_by e) (λ r. (n : ℕ) → IsInUse v n → n ≡ r.slot)

-- the edit sets something in the header beside the uuid: LUKS1 has no label, subsystem or metadata
abbrev pub IsLabel : Edit → Type 0
IsLabel e = IsSomeAnd (rewritten_by e) (λ r. sets_uuid_at_most r ≡ false)

-- ---- random bytes

-- a new keyslot `n` takes its salt and its stripes but the last
abbrev pub keyslot_need : List ℕ → ℕ → ℕ
keyslot_need v n = 32 + (entry_stripes (entry v n) - 1) * key_bytes_of v

-- the keyslot of the set `is_new` takes `k` random bytes
pub record NeedsFor (v : List ℕ) (is_new : ℕ → Type 0) (k : ℕ) : Type 0 where
  pub slot : ℕ
  pub is : is_new slot
  pub count : k ≡ keyslot_need v slot

-- the edit takes `k` random bytes: those of the keyslot that it makes, or else of the uuid that it makes
abbrev pub Need1 : List ℕ → Edit → ℕ → Type 0
Need1 v e k = MatchOption (sealed_by e) (k ≡ uuid_need (uuid_by e)) (λ s. NeedsFor v (IsSealedIn v s) k)

-- the random bytes aren't as many as the edit takes
pub record IsMiscounted (v : List ℕ) (e : Edit) (random : List ℕ) : Type 0 where
  pub need : ℕ
  pub is : Need1 v e need
  pub other : length random ≢ need

-- ---- the faults

-- the faults of an edit of the LUKS1 volume `v` with the random bytes
abbrev pub IsEditFault1 : List ℕ → Data → Edit → List ℕ → EditFault → Type 0
IsEditFault1 v payload e random (fault.NotAccepted f) = IsFault v payload f
IsEditFault1 v payload e random fault.NoSuchSlot = IsAbsent v e
IsEditFault1 v payload e random fault.SameSlot = NamesItself e
IsEditFault1 v payload e random fault.Locked = IsUnopened1 v e fault.Locked
IsEditFault1 v payload e random fault.KeyLength = IsUnopened1 v e fault.KeyLength
IsEditFault1 v payload e random fault.WrongKey = IsUnopened1 v e fault.WrongKey
IsEditFault1 v payload e random (fault.Slot f) = IsUnopened1 v e (fault.Slot f)
IsEditFault1 v payload e random fault.SlotTaken = IsTaken v e
IsEditFault1 v payload e random fault.NoFreeSlot = HasNoFree v e
IsEditFault1 v payload e random fault.LastSlot = IsLast v e
IsEditFault1 v payload e random fault.Iterations = HasFewIterations e
IsEditFault1 v payload e random fault.Argon2 = ChoosesArgon2 e
IsEditFault1 v payload e random fault.BadLabel = IsLabel e
IsEditFault1 v payload e random fault.BadUuid = HasBadUuid e
IsEditFault1 v payload e random fault.RandomLength = IsMiscounted v e random
IsEditFault1 v payload e random f = ⊥

-- the refusal: the first of them
abbrev pub Refusal1 : List ℕ → Data → Edit → List ℕ → EditFault → Type 0
Refusal1 v payload e random f = IsLeast edit_key (IsEditFault1 v payload e random) f

-- nothing refuses the edit
pub record IsUnrefused1 (v : List ℕ) (payload : Data) (e : Edit) (random : List ℕ) : Type 0 where
  pub none : (f : EditFault) → IsEditFault1 v payload e random f → ⊥
