-- What asking for an edit's random bytes answers: no keyslot is opened for it.
use Rattle.std.specs.Prelude.{◌≡◌, ℕ, List, true, IsSomeAnd, Result, Ok, Err}
use Rattle.luks_area.specs.First.{IsLeast}
use Rattle.luks_meta.specs.Requirements.{has_requirements}
use Rattle.luks_reading.specs.declared.report.Data.{Data}
use Rattle.luks_reading.specs.Checked.{IsFault}
use Rattle.luks_edit.specs.declared.edit.Edit.{Edit}
use Rattle.luks_edit.specs.declared.edit_fault.EditFault.{EditFault}
use Rattle.luks_edit.specs.declared.edit_fault.EditFault.TheVariants as fault
use Rattle.luks_edit.specs.Asked.{MatchOpener, NamesItself, opener_at, sealed_by}
use Rattle.luks_edit.specs.EditFaults.{edit_key}
use Rattle.luks2_edit_laws.specs.Refused.{HasNoFree, HasSaid, IsAbsent, IsTaken, IsUnkeyed2, Need2}

-- a new keyslot is made by the volume key, but that doesn't give itself
abbrev pub IsUnkeyedNew : List ℕ → Edit → EditFault → Type 0
IsUnkeyedNew v e f = IsSomeAnd (sealed_by e) (λ s. MatchOpener (opener_at s.place) (λ slot secret. ⊥)
    (λ key. HasSaid v (λ o j. IsUnkeyed2 key.allowed.older j key.bytes.now f)))

-- the faults that are seen without opening a keyslot
abbrev pub IsNeedFault2 : List ℕ → Data → Edit → EditFault → Type 0
IsNeedFault2 v payload e (fault.NotAccepted f) = IsFault v payload f
IsNeedFault2 v payload e fault.Requirements = HasSaid v (λ o j. has_requirements j ≡ true)
IsNeedFault2 v payload e fault.NoSuchSlot = HasSaid v (λ o j. IsAbsent j e)
IsNeedFault2 v payload e fault.SameSlot = NamesItself e
IsNeedFault2 v payload e fault.KeyLength = IsUnkeyedNew v e fault.KeyLength
IsNeedFault2 v payload e fault.WrongKey = IsUnkeyedNew v e fault.WrongKey
IsNeedFault2 v payload e (fault.Slot f) = IsUnkeyedNew v e (fault.Slot f)
IsNeedFault2 v payload e fault.SlotTaken = HasSaid v (λ o j. IsTaken j e)
IsNeedFault2 v payload e fault.NoFreeSlot = HasSaid v (λ o j. HasNoFree j e)
IsNeedFault2 v payload e f = ⊥

-- none of these faults stands, and the edit takes `k` random bytes
pub record NeedsRandom (v : List ℕ) (payload : Data) (e : Edit) (k : ℕ) : Type 0 where
  pub unrefused : (f : EditFault) → IsNeedFault2 v payload e f → ⊥
  pub need : HasSaid v (λ o j. Need2 j e k)

-- how many random bytes the edit takes, or the first of these faults
abbrev pub TellsNeed2 : Data → List ℕ → Edit → Result ℕ EditFault → Type 0
TellsNeed2 payload v e (Ok k) = NeedsRandom v payload e k
TellsNeed2 payload v e (Err f) = IsLeast edit_key (IsNeedFault2 v payload e) f
