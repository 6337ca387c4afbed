-- What `open` may answer of a key.
use Rattle.std.specs.Prelude.{◌≡◌, ◌⊎◌, ℕ, Bool, true, false, List, Option, Result, Ok, Err}
use Rattle.luks_area.specs.Device.{CountsFailure}
use Rattle.luks_reading.specs.declared.key_fault.KeyFault.{KeyFault}
use Rattle.luks_reading.specs.declared.matching.KeyMatch.{KeyMatch}
use Rattle.luks_reading.specs.KeyAnswers.{is_key_failure, IsKeyAnswered}
use Rattle.luks_commands.specs.declared.answers.Answer.{Answer}
use Rattle.luks_commands.specs.declared.answers.Answer.TheVariants.{Matches, Differs}
use Rattle.luks_commands.specs.declared.inputs.InputFault.{InputFault}
use Rattle.luks_commands.specs.Answer.{IsWordless, key_fault_answer, unread_answer}

-- whether the key is the volume's, as it is answered
abbrev pub matching_answer : Bool → Answer
matching_answer true = Matches
matching_answer false = Differs

-- and what judging it gave
abbrev pub key_answer : Result KeyMatch KeyFault → Answer
key_answer (Ok found) = matching_answer found.matches
key_answer (Err f) = key_fault_answer f

-- of the volume `v` and the key, by the digest that is asked for, while the device's count of failures went from
-- `before` to `after`: what judging the key gives is answered, and `device fault` exactly where a call failed
pub record IsKeyAnswer (tells : Type 0) (v : List ℕ) (asked : Option ℕ) (older : Bool) (key : List ℕ) (before after : ℕ) (a : Answer) : Type 0 where
  pub judged : Result KeyMatch KeyFault
  pub counted : CountsFailure is_key_failure judged before after
  pub told : tells → IsKeyAnswered v asked older key judged
  pub is : a ≡ key_answer judged

-- the key is what its file has
pub record IsJudged (tells : Type 0) (v : List ℕ) (asked : Option ℕ) (older : Bool) (HasWords : List ℕ → Type 0) (before after : ℕ) (a : Answer) : Type 0 where
  pub key : List ℕ
  pub words : HasWords key
  pub is : IsKeyAnswer tells v asked older key before after a

-- the same of a volume that may not be there; the key is read before it
abbrev pub AnswersKey : {D : Type 0} → Type 0 → (D → List ℕ) → (D → ℕ) → Option ℕ → Bool → (List ℕ → Type 0) → Type 0 → (InputFault → Type 0)
    → Result D InputFault → Result D InputFault → Answer → Type 0
AnswersKey {D} tells bytes failed asked older HasWords is_long unread (Ok old) (Ok new) a =
    (IsWordless is_long unread a × (failed new ≡ failed old)) ⊎ IsJudged tells (bytes old) asked older HasWords (failed old) (failed new) a
AnswersKey {D} tells bytes failed asked older HasWords is_long unread (Ok old) (Err fault) a = ⊥
AnswersKey {D} tells bytes failed asked older HasWords is_long unread (Err fault) new a = IsWordless is_long unread a ⊎ (a ≡ unread_answer fault)
