-- What `luks_unlock_bytes` and `luks_open_bytes` answer.
use Rattle.std.specs.Prelude.{◌≡◌, ◌≢◌, ℕ, ◌≤◌, ◌<◌, List, ◌⊎◌, length, Some, None}
use Rattle.luks_slot.specs.declared.allowed.Allowed.{Allowed}
use Rattle.luks_reading.specs.declared.open_fault.OpenFault.{OpenFault}
use Rattle.luks_reading.specs.Answer.{AnswerWithin, IsRefusedByWithin, no_key, opens}
use Rattle.luks_reading.specs.Unlocking.{IsVolumeRefusedBy, Unlocks}
use Rattle.luks_c.specs.declared.opening.LuksOpened.{LuksOpened}
use Rattle.luks_c_answers.specs.Buffers.{filled}
use Rattle.luks_c_answers.specs.Numbers.{open_number}

-- the key is in the front of the buffer, as far as it fits: all of it, or none where the buffer is
-- empty; or the buffer has some bytes and too few, and is as it was
abbrev pub IsGiven : List ℕ → List ℕ → List ℕ → ℕ → Type 0
IsGiven key old new number = ((number ≡ 0) × (new ≡ filled old key) × ((length old ≡ 0) ⊎ (length key ≤ length old)))
    ⊎ ((number ≡ 106) × (new ≡ old) × (0 < length old) × (length old < length key))

-- the passphrase opens a keyslot, whose number and key are told
pub record IsOpened (opens_by : ℕ → List ℕ → Type 0) (old new : List ℕ) (opened : LuksOpened) (number : ℕ) : Type 0 where
  pub key : List ℕ
  pub by_ : opens_by opened.slot key
  pub key_bytes : opened.key_bytes ≡ length key
  pub given : IsGiven key old new number

-- the passphrase isn't tried, by a fault of this number
pub record IsRefused (refusal : OpenFault → Type 0) (number : ℕ) : Type 0 where
  pub fault : OpenFault
  pub is : refusal fault
  pub number_is : number ≡ open_number fault

-- 105 says that the passphrase opens none, 0 and 106 that it opens one, any other number why it isn't tried; except for 0
-- the buffer for the key is as it was
pub record Answers (opens_by : ℕ → List ℕ → Type 0) (shut : Type 0) (refusal : OpenFault → Type 0) (old new : List ℕ) (opened : LuksOpened) (number : ℕ) : Type 0 where
  pub opened_ : number ≡ 0 → IsOpened opens_by old new opened number
  pub room : number ≡ 106 → IsOpened opens_by old new opened number
  pub none : number ≡ 105 → shut
  pub refused : number ≢ 0 → number ≢ 105 → number ≢ 106 → IsRefused refusal number
  pub kept : number ≢ 0 → new ≡ old

-- of the volume `v`, opened by the first keyslot that opens
abbrev pub AnswersUnlock : Allowed → List ℕ → List ℕ → List ℕ → List ℕ → LuksOpened → ℕ → Type 0
AnswersUnlock allowed v p old new opened number = Answers (λ n key. Unlocks allowed v p (Some (n, key))) (Unlocks allowed v p None) (IsVolumeRefusedBy v) old new opened number

-- of its keyslot `n`
abbrev pub AnswersOpen : Allowed → List ℕ → ℕ → List ℕ → List ℕ → List ℕ → LuksOpened → ℕ → Type 0
AnswersOpen allowed v n p old new opened number = Answers (λ slot key. (slot ≡ n) × AnswerWithin allowed v n p (opens key)) (AnswerWithin allowed v n p no_key) (IsRefusedByWithin allowed v n p) old new opened number
