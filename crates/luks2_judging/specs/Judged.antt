-- How the rows of the table of faults are judged that need no key, each by the metadata `j`.
use Rattle.std.specs.Prelude.{◌≡◌, ℕ, Option, Result, Ok, Err, ⊤}
use Rattle.serde_json.specs.Data.{Data as Value}
use Rattle.luks_making.specs.Conditions.{IsFree}
use Rattle.luks_making.specs.declared.amended.Change.{Change}
use Rattle.luks_making.specs.Naming.{IsDigestOf}
use Rattle.luks_edit.specs.declared.edit_fault.EditFault.{EditFault}
use Rattle.luks_edit.specs.declared.edit_fault.EditFault.TheVariants as fault
use Rattle.luks_edit.specs.declared.edit.Opener.{Opener}
use Rattle.luks_edit.specs.Asked.{AmendsSlot, MatchOpener}
use Rattle.luks2_edit_laws.specs.Metadata.{IsInUse, IsNewKeyslot}
use Rattle.luks2_edit_laws.specs.Refused.{HasNoNumber, IsNumberTaken}

-- a row has been judged: the fact doesn't hold, or it does and the answer is the row's fault
abbrev pub Judges : {A : Type 0} → Type 0 → EditFault → Result A EditFault → Type 0
Judges {A} fact row (Ok x) = fact → ⊥
Judges {A} fact row (Err f) = (f ≡ row) × fact

-- ---- the number of a keyslot that is made

pub record IsNewNumber (j : Value) (to : Option ℕ) (n : ℕ) : Type 0 where
  pub is_new : IsNewKeyslot j to n
  pub free : IsFree j n

-- why there is none
abbrev pub IsNumberFault : Value → Option ℕ → EditFault → Type 0
IsNumberFault j to fault.SlotTaken = IsNumberTaken j to
IsNumberFault j to fault.NoFreeSlot = HasNoNumber j to
IsNumberFault j to f = ⊥

-- ---- the keyslot whose priority is set

-- it isn't there
pub record IsAbsentAmended (j : Value) (change : Option Change) : Type 0 where
  pub slot : ℕ
  pub amends : AmendsSlot change slot
  pub unused : IsInUse j slot → ⊥

-- ---- the keyslots of a digest

-- the digest names no keyslot but `slot`
abbrev pub IsOnlyName : Value → ℕ → ℕ → Type 0
IsOnlyName j digest slot = (n : ℕ) → IsDigestOf j n digest → n ≡ slot

-- ---- what gives the key

-- the keyslot that it is of, if it is of one, is in use
abbrev pub IsUsable : Value → Opener → Type 0
IsUsable j o = MatchOpener o (λ slot secret. IsInUse j slot) (λ key. ⊤)

abbrev pub IsUnusable : Value → Opener → Type 0
IsUnusable j o = MatchOpener o (λ slot secret. IsInUse j slot → ⊥) (λ key. ⊥)
