-- What `luks_find_bytes` answers.
use Rattle.std.specs.Prelude.{◌≡◌, ◌⊎◌, ℕ, ◌<◌, ◌≤◌, List, length}
use Rattle.luks_finding.specs.Starts.{AreStarts}
use Rattle.luks_c_answers.specs.Buffers.{filled}

-- the places are in the front of the buffer; or it is too short for them, and as it was
abbrev pub AreGiven : List ℕ → List ℕ → List ℕ → ℕ → Type 0
AreGiven starts old new number = ((number ≡ 0) × (new ≡ filled old starts) × (length starts ≤ length old)) ⊎ ((number ≡ 106) × (new ≡ old) × (length old < length starts))

-- the places at which volumes begin on the disk `v`, of which so many are told
pub record AreFound (v old new : List ℕ) (count number : ℕ) : Type 0 where
  pub starts : List ℕ
  pub are : AreStarts v starts
  pub counted : count ≡ length starts
  pub given : AreGiven starts old new number

-- or another range has to be given, or memory was refused
abbrev pub AnswersFind : List ℕ → List ℕ → List ℕ → ℕ → ℕ → Type 0
AnswersFind v old new count number = AreFound v old new count number ⊎ (((number ≡ 102) ⊎ (number ≡ 103)) × (new ≡ old))
