-- What the command `token export` leaves of its file, and what it may answer.
use Rattle.std.specs.Prelude.{◌≡◌, ◌⊎◌, ◌++◌, ◌∷◌, ℕ, List, [], Result, string_bytes}
use Rattle.luks_area.specs.declared.device.Device.{Ghosts as Device}
use Rattle.luks_request.specs.declared.request.ShowAs.TheVariants.{Token}
use Rattle.luks_commands.specs.declared.answers.Answer.{Answer}
use Rattle.luks_commands.specs.declared.answers.Answer.TheVariants.{Json, NoMemory}
use Rattle.luks_commands.specs.declared.inputs.InputFault.{InputFault}
use Rattle.luks_commands.specs.ShowAnswers.{AnswersShow}
use Rattle.luks_keeping_commands.specs.KeptFile.{IsKept}

-- a text and a newline
abbrev pub line_of : List ℕ → List ℕ
line_of text = text ++ (10 ∷ [])

-- by what is shown of the token: no file is made except for its text, and none where memory for the line is refused
abbrev pub IsTokenFileAnswer : {D : Type 0} → Device D → Answer → Result D InputFault → Result D InputFault → Answer → Type 0
IsTokenFileAnswer device (Json text) old new a = IsKept device (line_of (string_bytes text)) new a ⊎ ((new ≡ old) × (a ≡ NoMemory))
IsTokenFileAnswer device shown old new a = (new ≡ old) × (a ≡ shown)

-- what is shown of the volume's token with the number `n`, as it is printed, and what becomes of that
pub record IsTokenKept {D : Type 0} (device : Device D) (n : ℕ) (volume volume_new old new : Result D InputFault) (a : Answer) : Type 0 where
  pub shown : Answer
  pub told : AnswersShow (Token n) device.tells device.bytes device.failed volume volume_new shown
  pub is : IsTokenFileAnswer device shown old new a
