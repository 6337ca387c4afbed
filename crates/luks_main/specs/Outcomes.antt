-- What a command has come to, and how that is told.
use Rattle.std.specs.Prelude.{◌≡◌, ◌⊎◌, ℕ, ◌+◌, List, codes, Bool, false, Option, IfSome, MatchResult, Result, ⊤}
use Rattle.std.specs.Io.KnownBytes.{Appends}
use Rattle.luks_request.specs.declared.request.Command.{Command}
use Rattle.luks_commands.specs.declared.answers.Answer.{Answer}
use Rattle.luks_commands.specs.declared.answers.Answer.TheVariants.{Done, Rescued, DeviceFault}
use Rattle.luks_commands.specs.Answer.{answer_status, line, line_of}
use Rattle.luks_commands.specs.Exit.{exit_status}
use Rattle.luks_execution.specs.AnswerValue.{IsAnswerText}
use Rattle.luks_main.specs.declared.outcome.Outcome.{Outcome}
use Rattle.luks_main.specs.Statuses.{EndsWith}

-- ---- what it has come to

-- an answer that the command gives, and its own exit status is the one that the program ends with then
abbrev pub IsOutcome : Command → Outcome → Type 0
IsOutcome command_ outcome = EndsWith command_ outcome.answer (exit_status (answer_status outcome.answer))

-- ---- what is said of it

-- standard error says what is noted: where that is wanted, or why a file can't be read
abbrev pub IsNoted : Bool → Answer → Type 0
IsNoted quiet answer = (quiet ≡ false) ⊎ (answer ≡ DeviceFault)

-- a backup was made, whether keyslots were lost or not, or a key is kept
abbrev pub MakesBackup : Answer → Type 0
MakesBackup (Done slot) = ⊤
MakesBackup (Rescued lost) = ⊤
MakesBackup answer = ⊥

-- the text is the answer's lines, where these are told
abbrev pub IsLinesOf : Answer → List ℕ → Type 0
IsLinesOf answer text = IfSome (line_of answer) (λ lines. text ≡ lines)

-- it is the line of the answer's object, with some lines as hints
pub record IsObjectOf (answer : Answer) (text : List ℕ) : Type 0 where
  pub hints : List (List ℕ)
  pub object : List ℕ
  pub is : IsAnswerText answer hints object
  pub line_of_it : text ≡ line object

-- Such a text was printed, and the status is the answer's own. Or memory for the text was refused: then that is printed, and the
-- status is 4. Or the print failed, and the status is 4. `before` and `after` count the prints that failed, `held` and `holds` are
-- what was printed.
pub data EndsTold (IsText : List ℕ → Type 0) (own before after : ℕ) (held holds : Option (List ℕ)) (status : ℕ) : Type 0 where
  told : (text : List ℕ) → IsText text → Appends held holds text → after ≡ before → status ≡ own → EndsTold IsText own before after held holds status
  refused : Appends held holds (line (codes "no memory")) → after ≡ before → status ≡ 4 → EndsTold IsText own before after held holds status
  failed : after ≡ before + 1 → status ≡ 4 → EndsTold IsText own before after held holds status

-- the text is the one that was made, of these bytes: a word of private contracts
abbrev pub IsMade : {T E : Type 0} → (T → List ℕ) → Result T E → List ℕ → Type 0
IsMade bytes made text = MatchResult made (λ t. text ≡ bytes t) (λ _. ⊥)
