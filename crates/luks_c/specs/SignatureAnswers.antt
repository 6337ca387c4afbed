-- What `luks_signature_bytes` answers.
use Rattle.std.specs.Prelude.{◌≡◌, ◌⊎◌, ℕ, List, Option}
use Rattle.luks_signatures.specs.Signatures.{Finds, table}
use Rattle.luks_signatures.specs.declared.other_use.OtherUse.{OtherUse}
use Rattle.luks_c_answers.specs.Uses.{shown_number}

-- the signatures among the bytes `v` show such a use, or none
pub record IsShown (v : List ℕ) (number : ℕ) : Type 0 where
  pub found : Option OtherUse
  pub finds : Finds table v found
  pub is : number ≡ shown_number found

-- it is told; or another range has to be given
abbrev pub AnswersSignature : List ℕ → ℕ → ℕ → Type 0
AnswersSignature v shows number = ((number ≡ 0) × IsShown v shows) ⊎ (number ≡ 102)
