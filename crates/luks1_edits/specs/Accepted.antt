-- The header of a LUKS1 volume that was accepted, and what is judged by it.
use Rattle.std.specs.Prelude.{◌≡◌, ◌≢◌, ℕ, ◌⊎◌, List, length, true, false, Option, Some, ⊤}
use Rattle.luks_area.specs.Ranges.{part}
use Rattle.luks1_header.specs.Header1.{luks1_size, IsLuks1}
use Rattle.luks1_header.specs.declared.luks1.Luks1.{Luks1}
use Rattle.luks2_header.specs.Selection.{luks1, Chosen}
use Rattle.luks_making.specs.Derivations.{asked_few_turns, takes_memory}
use Rattle.luks_making.specs.declared.derivation.AskedDerivation.{AskedDerivation}
use Rattle.luks_slot.specs.declared.fault.SlotFault.{SlotFault}
use Rattle.luks_slot.specs.Allowance.{without_memory}
use Rattle.luks_slot.specs.declared.fault.SlotFault.TheVariants as slot
use Rattle.luks_reading.specs.declared.check_fault.CheckFault.{CheckFault}
use Rattle.luks_reading.specs.declared.report.Data.{Data}
use Rattle.luks_reading.specs.Checked.{First, IsFault, IsLuks1Volume, WellFormed}
use Rattle.luks_edit.specs.declared.edit_fault.EditFault.{EditFault}
use Rattle.luks_edit.specs.declared.edit_fault.EditFault.TheVariants as fault
use Rattle.luks_edit.specs.declared.deed.Deed.TheVariants.{Seal}
use Rattle.luks_edit.specs.declared.deed.Rewritten.{Rewritten}
use Rattle.luks_edit.specs.declared.deed.Sealed.{Sealed}
use Rattle.luks_edit.specs.declared.edit.Edit.{Edit}
use Rattle.luks_edit.specs.declared.edit.Opener.{Opener}
use Rattle.luks_edit.specs.Asked.{allowed_of, deed_of, MatchOpener, NamesItself, opener_at, opener_of, sets_uuid_at_most, Wants}
use Rattle.luks_edit.specs.NewUuids.{IsBadUuid, uuid_need}
use Rattle.luks1_edits.specs.declared.accepted.AcceptedHeader.{AcceptedHeader}
use Rattle.luks1_edits.specs.Edited.{IsFree, IsInUse, IsNewKeyslot, IsSealedIn, iterations_of, Opens1}
use Rattle.luks1_edits.specs.Refused.{IsAbsent, IsTakenFor, IsUnopenedBy1, IsUnrefused1, keyslot_need, LacksFree}
use Rattle.luks1_edits.specs.Steps.{IsKeyslotMade}

-- `h` and `d` are the bytes and the fields of the header of a well formed volume of `total` bytes
pub record IsAccepted (h : List ℕ) (d : Luks1) (payload : Data) (total : ℕ) : Type 0 where
  pub size : length h ≡ luks1_size
  pub fields : IsLuks1 h d
  pub volume : IsLuks1Volume h payload total

abbrev pub IsAcceptedAt : AcceptedHeader → ℕ → Type 0
IsAcceptedAt a total = IsAccepted a.bytes.now a.fields a.payload total

-- `h` is the header of the well formed LUKS1 volume `v`, which has no fault
pub record IsHeaderOf (h : List ℕ) (payload : Data) (v : List ℕ) : Type 0 where
  pub chosen : Chosen v luks1
  pub begins : h ≡ part v 0 luks1_size
  pub well : WellFormed v payload
  pub faultless : (f : CheckFault) → IsFault v payload f → ⊥

-- the volume isn't accepted, by its first fault
abbrev pub IsUnaccepted : List ℕ → Data → EditFault → Type 0
IsUnaccepted v payload (fault.NotAccepted f) = First v payload f
IsUnaccepted v payload f = ⊥

-- ---- what gives the key for an edit

-- the keyslot that it is of, if it is of one, is in use
abbrev pub IsUsable : List ℕ → Opener → Type 0
IsUsable v o = MatchOpener o (λ slot secret. IsInUse v slot) (λ key. ⊤)

-- why it can't be asked
abbrev pub IsUnusable : List ℕ → Opener → EditFault → Type 0
IsUnusable v o fault.NoSuchSlot = MatchOpener o (λ slot secret. IsInUse v slot → ⊥) (λ key. ⊥)
IsUnusable v o f = ⊥

-- it gives the key, and none of the faults stands by which it doesn't
pub record IsOpenedBy (v : List ℕ) (o : Opener) (key : List ℕ) : Type 0 where
  pub opened : Opens1 v o key
  pub past : (f : EditFault) → IsUnopenedBy1 (without_memory (allowed_of o).older) v o f → ⊥

-- why it doesn't, unless the device failed
abbrev pub IsUnopened : List ℕ → Opener → EditFault → Type 0
IsUnopened v o fault.Device = ⊤
IsUnopened v o f = IsUnopenedBy1 (without_memory (allowed_of o).older) v o f

-- the fault of a keyslot, opened or sealed, as that of an edit
abbrev pub keyslot_fault : SlotFault → EditFault
keyslot_fault slot.Device = fault.Device
keyslot_fault slot.Memory = fault.Memory
keyslot_fault f = fault.Slot f

-- ---- the keyslots that an edit names

-- each keyslot that the edit wants is in use, and the removed one isn't named to open by
pub record AreAllThere (v : List ℕ) (e : Edit) : Type 0 where
  pub there : (n : ℕ) → Wants e n → IsInUse v n
  pub other : NamesItself e → ⊥

-- each is in use, but the removed one is named so
pub record IsItsOwnOpener (v : List ℕ) (e : Edit) : Type 0 where
  pub there : (n : ℕ) → Wants e n → IsInUse v n
  pub same : NamesItself e

-- why the edit isn't judged further
abbrev pub IsMisnamed : List ℕ → Edit → EditFault → Type 0
IsMisnamed v e fault.NoSuchSlot = IsAbsent v e
IsMisnamed v e fault.SameSlot = IsItsOwnOpener v e
IsMisnamed v e f = ⊥

-- ---- the keyslots that a removal names

-- both are in use: the one that it opens, which isn't named as the removed one, and the removed one
pub record IsRemovable (v : List ℕ) (slot : ℕ) (by_ : Option ℕ) : Type 0 where
  pub opener : IsInUse v (opener_of slot by_)
  pub removed : IsInUse v slot
  pub other : by_ ≢ Some slot

-- the removed keyslot is there, and named as the one to open by
pub record IsNamedTwice (v : List ℕ) (slot : ℕ) (by_ : Option ℕ) : Type 0 where
  pub removed : IsInUse v slot
  pub same : by_ ≡ Some slot

-- why it isn't judged further
abbrev pub IsUnremovable : List ℕ → ℕ → Option ℕ → EditFault → Type 0
IsUnremovable v slot by_ fault.NoSuchSlot = (IsInUse v (opener_of slot by_) → ⊥) ⊎ (IsInUse v slot → ⊥)
IsUnremovable v slot by_ fault.SameSlot = IsNamedTwice v slot by_
IsUnremovable v slot by_ f = ⊥

-- ---- the keyslots in use

-- a keyslot other than `n` is in use
pub record HasOther (v : List ℕ) (n : ℕ) : Type 0 where
  pub keyslot : ℕ
  pub other : keyslot ≢ n
  pub used : IsInUse v keyslot

-- ---- the keyslot that an edit makes

pub record IsNewFree (v : List ℕ) (to : Option ℕ) (n : ℕ) : Type 0 where
  pub is_new : IsNewKeyslot v to n
  pub free : IsFree v n

-- why none can be made
abbrev pub IsNewFault : List ℕ → Option ℕ → EditFault → Type 0
IsNewFault v to fault.SlotTaken = IsTakenFor v to
IsNewFault v to fault.NoFreeSlot = LacksFree v to
IsNewFault v to f = ⊥

-- the new keyslot has enough iterations, and no Argon2 is chosen for it
pub record IsIterated (asked : AskedDerivation) : Type 0 where
  pub turns : asked_few_turns asked ≡ false
  pub own : takes_memory asked.chosen ≡ false

-- it would have enough turns of an Argon2 that is chosen
pub record IsArgon2 (asked : AskedDerivation) : Type 0 where
  pub turns : asked_few_turns asked ≡ false
  pub own : takes_memory asked.chosen ≡ true

-- the random bytes aren't those of the new keyslot, but its iterations are enough
pub record IsMiscountedNew (v : List ℕ) (n : ℕ) (asked : AskedDerivation) (random : List ℕ) : Type 0 where
  pub iterated : IsIterated asked
  pub other : length random ≢ keyslot_need v n

abbrev pub IsNewRefused : List ℕ → ℕ → AskedDerivation → List ℕ → EditFault → Type 0
IsNewRefused v n asked random fault.Iterations = asked_few_turns asked ≡ true
IsNewRefused v n asked random fault.Argon2 = IsArgon2 asked
IsNewRefused v n asked random fault.RandomLength = IsMiscountedNew v n asked random
IsNewRefused v n asked random f = ⊥

-- the keyslot `n` was made for the key that is sealed, which the opener gives; nothing refuses
-- an edit that seals it
pub record IsSealedNew (payload : Data) (v : List ℕ) (s : Sealed) (random : List ℕ) (n : ℕ) (w : List ℕ) : Type 0 where
  pub used : IsUsable v (opener_at s.place)
  pub key : List ℕ
  pub opened : Opens1 v (opener_at s.place) key
  pub is_new : IsSealedIn v s n
  pub made : IsKeyslotMade v n (iterations_of s.derivation) s.passphrase.now key random w
  pub unrefused : (e : Edit) → deed_of e ≡ Seal s → IsUnrefused1 v payload e random

-- ---- the uuid that an edit sets

-- nothing else is set, the uuid can be, and the random bytes are its own
pub record IsSettable (r : Rewritten) (random : List ℕ) : Type 0 where
  pub alone : sets_uuid_at_most r ≡ true
  pub good : IsBadUuid r.uuid → ⊥
  pub counted : length random ≡ uuid_need r.uuid

-- nothing else is set, but the text is none of a uuid
pub record IsMisspelt (r : Rewritten) : Type 0 where
  pub alone : sets_uuid_at_most r ≡ true
  pub bad : IsBadUuid r.uuid

-- nothing else is set and the uuid can be, but the random bytes aren't its own
pub record IsMiscountedUuid (r : Rewritten) (random : List ℕ) : Type 0 where
  pub alone : sets_uuid_at_most r ≡ true
  pub good : IsBadUuid r.uuid → ⊥
  pub other : length random ≢ uuid_need r.uuid

-- why it isn't set
abbrev pub IsUnsettable : Rewritten → List ℕ → EditFault → Type 0
IsUnsettable r random fault.BadLabel = sets_uuid_at_most r ≡ false
IsUnsettable r random fault.BadUuid = IsMisspelt r
IsUnsettable r random fault.RandomLength = IsMiscountedUuid r random
IsUnsettable r random f = ⊥
