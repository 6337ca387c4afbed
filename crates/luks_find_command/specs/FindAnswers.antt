-- What the command `find` prints, and the exit status that it ends with.
use Rattle.std.specs.Prelude.{◌≡◌, ◌⊎◌, ℕ, ◌+◌, ◌-◌, ◌*◌, ◌^◌, ◌<◌, ◌≤◌, List, [], ◌++◌, Option, Some, Result, Ok, Err}
use Rattle.std.specs.Io.KnownBytes.{Appends}
use Rattle.luks_commands.specs.Answer.{line_of, unread_answer, Prints}
use Rattle.luks_commands.specs.declared.answers.Answer.{Answer}
use Rattle.luks_commands.specs.declared.answers.Answer.TheVariants.{DeviceFault, NoMemory}
use Rattle.luks_commands.specs.declared.inputs.InputFault.{InputFault}
use Rattle.luks_finding.specs.Finding.{AreStartsBetween}
use Rattle.luks_finding.specs.Readable.{sectors_of, AreReadStarts, AreReadTo}
use Rattle.luks_finding.specs.Starts.{AreStarts}
use Rattle.luks_finding.specs.declared.passed.Passed.{Passed}
use Rattle.luks_find_command.specs.Lines.{end_line, found_status, AreLines, AreLinesBy}
use Rattle.luks_find_command.specs.SameUuids.{SaysPairs}
use Rattle.luks_find_command.specs.Unreads.{all_named, Hears}
use Rattle.luks_find_command.specs.declared.same_uuid.SameUuid.{SameUuid}
use Rattle.luks_find_command.specs.declared.unread.Unread.{Unread}

-- where the bytes `v` begin at the byte `offset` of their file: a line for each start was printed, and what follows them; it
-- was said which of them have one uuid, and the exit status says whether there is one
pub record TellsAll (offset : ℕ) (v : List ℕ) (held holds : Option (List ℕ)) (said says : Option (List SameUuid)) (status : ℕ) : Type 0 where
  pub starts : List ℕ
  pub all : AreStarts v starts
  pub lines : List ℕ
  pub are : AreLines offset v starts lines
  pub printed : Appends held holds (lines ++ end_line starts)
  pub pairs : SaysPairs ⊥ offset v starts said says
  pub ends : status ≡ found_status starts

-- the same of the first of the starts, and then this answer
pub record TellsFirst (offset : ℕ) (v : List ℕ) (answer : Answer) (held holds : Option (List ℕ)) (said says : Option (List SameUuid)) : Type 0 where
  pub starts : List ℕ
  pub later : List ℕ
  pub sectors : ℕ
  pub first : AreStartsBetween v 0 sectors (starts ++ later)
  pub lines : List ℕ
  pub are : AreLines offset v starts lines
  pub text : List ℕ
  pub answered : line_of answer ≡ Some text
  pub printed : Appends held holds (lines ++ text)
  pub pairs : SaysPairs ⊥ offset v starts said says

-- a search that ended by `device fault` told all volumes of which a sign can be read, or the device's count of failures is full
abbrev pub IsWholeBy : Answer → List ℕ → List Passed → List ℕ → List ℕ → ℕ → Type 0
IsWholeBy DeviceFault v passed starts later failed_now = ((later ≡ []) × AreReadStarts v passed starts) ⊎ (2 ^ 64 ≤ failed_now + 100)
IsWholeBy a v passed starts later failed_now = Unit {0}

-- Reads failed, and these sectors were passed over: the volumes of which a sign stands elsewhere were told, in the order of
-- these signs, each by a line that may say `device fault` of it, and which of them have one uuid; then this answer.
pub record TellsRead (offset : ℕ) (v : List ℕ) (passed : List Passed) (answer : Answer) (failed_now : ℕ) (held holds : Option (List ℕ)) (said says : Option (List SameUuid)) : Type 0 where
  pub starts : List ℕ
  pub later : List ℕ
  pub sectors : ℕ
  pub first : AreReadTo v passed sectors (starts ++ later)
  pub whole : IsWholeBy answer v passed starts later failed_now
  pub lines : List ℕ
  pub are : AreLinesBy (Unit {0}) offset v starts lines
  pub text : List ℕ
  pub answered : line_of answer ≡ Some text
  pub printed : Appends held holds (lines ++ text)
  pub pairs : SaysPairs (Unit {0}) offset v starts said says

-- What became of a run: the counts of failures before and after, of the device and of the printer, what was printed
-- before and after, what was said of what was passed over and of volumes with one uuid, and the exit status.
pub record Run : Type 0 where
  pub failed : ℕ
  pub failed_now : ℕ
  pub prints : ℕ
  pub prints_now : ℕ
  pub held : Option (List ℕ)
  pub holds : Option (List ℕ)
  pub heard : Option (List Unread)
  pub hears : Option (List Unread)
  pub said : Option (List SameUuid)
  pub says : Option (List SameUuid)
  pub status : ℕ

abbrev pub run_of : ℕ → ℕ → ℕ → ℕ → Option (List ℕ) → Option (List ℕ) → Option (List Unread) → Option (List Unread) → Option (List SameUuid) → Option (List SameUuid) → ℕ → Run
run_of failed failed_now prints prints_now held holds heard hears said says status = record {
  failed = failed;
  failed_now = failed_now;
  prints = prints;
  prints_now = prints_now;
  held = held;
  holds = holds;
  heard = heard;
  hears = hears;
  said = said;
  says = says;
  status = status;
}

-- the device was searched to its end
pub record FindsAll (tells : Type 0) (offset : ℕ) (v : List ℕ) (r : Run) : Type 0 where
  pub read : r.failed_now ≡ r.failed
  pub printed : r.prints_now ≡ r.prints
  pub status : (r.status ≡ 0) ⊎ (r.status ≡ 1)
  pub told : tells → TellsAll offset v r.held r.holds r.said r.says r.status

-- memory was refused, and no read failed: the last line says so
pub record FindsFirst (tells : Type 0) (offset : ℕ) (v : List ℕ) (r : Run) : Type 0 where
  pub read : r.failed_now ≡ r.failed
  pub printed : r.prints_now ≡ r.prints
  pub status : r.status ≡ 4
  pub told : tells → TellsFirst offset v NoMemory r.held r.holds r.said r.says

-- the last line of a search in which reads failed: memory was refused too, or not
pub record EndsRead (answer : Answer) : Type 0 where
  pub is : (answer ≡ DeviceFault) ⊎ (answer ≡ NoMemory)

-- Reads failed: what was passed over is said, at most 1 MiB for each read that failed, and the search went on behind it.
pub record FindsRead (tells : Type 0) (offset total : ℕ) (v : List ℕ) (r : Run) : Type 0 where
  pub answer : Answer
  pub ends : EndsRead answer
  pub failing : r.failed < r.failed_now
  pub printed : r.prints_now ≡ r.prints
  pub status : r.status ≡ 4
  pub passed : List Passed
  pub names : Hears r.heard r.hears (all_named offset total passed)
  pub bounded : sectors_of passed ≤ 2048 * (r.failed_now - r.failed)
  pub told : tells → TellsRead offset v passed answer r.failed_now r.held r.holds r.said r.says

-- a line couldn't be printed
pub record FailsToPrint (r : Run) : Type 0 where
  pub read : r.failed ≤ r.failed_now
  pub printed : r.prints_now ≡ r.prints + 1
  pub status : r.status ≡ 4

-- what `find` may do on a device
abbrev pub IsFindRun : Type 0 → ℕ → ℕ → List ℕ → Run → Type 0
IsFindRun tells offset total v r = FindsAll tells offset v r ⊎ FindsFirst tells offset v r ⊎ FindsRead tells offset total v r ⊎ FailsToPrint r

-- the same of a volume that may not be there: its file was cut to it from the byte `offset` on
abbrev pub AnswersFind : {D : Type 0} → Type 0 → (D → ℕ) → (D → List ℕ) → (D → ℕ) → ℕ → Result D InputFault → Result D InputFault
    → ℕ → ℕ → Option (List ℕ) → Option (List ℕ) → Option (List Unread) → Option (List Unread) → Option (List SameUuid) → Option (List SameUuid) → ℕ → Type 0
AnswersFind {D} tells size bytes failed offset (Ok old) (Ok new) prints prints_now held holds heard hears said says status =
    IsFindRun tells offset (size old) (bytes old) (run_of (failed old) (failed new) prints prints_now held holds heard hears said says status)
AnswersFind {D} tells size bytes failed offset (Ok old) (Err fault) prints prints_now held holds heard hears said says status = ⊥
AnswersFind {D} tells size bytes failed offset (Err fault) new prints prints_now held holds heard hears said says status =
    Prints (λ a. a ≡ unread_answer fault) prints prints_now held holds status
