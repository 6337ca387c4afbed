-- Why an edit seals no new keyslot.
use Rattle.std.specs.Prelude.{ℕ, Option, ◌⊎◌}
use Rattle.serde_json.specs.Data.{Data as Value}
use Rattle.luks_making.specs.declared.derivation.AskedDerivation.{AskedDerivation}
use Rattle.luks_reading.specs.declared.report.Data.{Data}
use Rattle.luks_edit.specs.declared.edit_fault.EditFault.{EditFault}
use Rattle.luks2_edit_laws.specs.declared.like.Like.{Like}
use Rattle.luks2_judging.specs.Judged.{IsNewNumber, IsNumberFault}
use Rattle.luks2_judging.specs.Room.{IsUnsealable}

-- there is a number for a new keyslot
pub record HasNewNumber (j : Value) (to : Option ℕ) : Type 0 where
  pub number : ℕ
  pub is : IsNewNumber j to number

-- none is added like this one, by the metadata `j` of a volume of `total` bytes
-- whose header has `h`: there is no number for it, or there is and it can't be sealed
abbrev pub IsUnadded : ℕ → ℕ → Data → Value → Like → Option ℕ → ℕ → AskedDerivation → EditFault → Type 0
IsUnadded h total payload j like to memory asked f =
    IsNumberFault j to f ⊎ (HasNewNumber j to × IsUnsealable h total payload j like memory asked f)
