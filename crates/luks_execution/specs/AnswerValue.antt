-- The JSON object of an answer, with its members in the order of their names.
use Rattle.std.specs.Prelude.{◌≡◌, ℕ, List, All, chars, map, codes, Some, None}
use Rattle.serde_json.specs.Data.{Data, Members, array, member, no_members, number, object, string, unsigned}
use Rattle.serde_json.specs.View.{items_of}
use Rattle.serde_json.specs.Written.{compact_text}
use Rattle.luks_reading.specs.declared.report.Version.{Version}
use Rattle.luks_reading.specs.declared.report.Version.TheVariants.{Luks1, Luks2}
use Rattle.luks_show.specs.Steering.{IsSteerless, unsteering}
use Rattle.luks_show.specs.Texts.{copies_text}
use Rattle.luks_commands.specs.declared.answers.Answer.{Answer}
use Rattle.luks_commands.specs.declared.answers.Answer.TheVariants.{Accepted, Listed, ListedFully, Mapped, Tokens, Json, Underway, Opens, Closed, NoneOpens, Matches, Differs, Done, Compared, Rescued, Refused, DeviceFault, NoMemory}
use Rattle.luks_commands.specs.Answer.{answer_status, refusal_text}
use Rattle.luks_commands.specs.Exit.{exit_status}
use Rattle.luks_execution.specs.Parted.{IsParted}

-- members that are a text and a number
abbrev pub text_member : List ℕ → List ℕ → Members → Members
text_member k t = member k (string t)

abbrev pub number_member : List ℕ → ℕ → Members → Members
number_member k n = member k (number (unsigned n))

-- texts as an array
abbrev pub texts_value : List (List ℕ) → Data
texts_value texts = array (items_of (map string texts))

-- ---- the objects, with these hints and this exit status

-- a volume of this version with so many areas is accepted
abbrev pub accepted_value : Version → ℕ → Data → ℕ → Data
accepted_value Luks1 areas hints status = object (
    text_member (codes "answer") (codes "accepted") (
    number_member (codes "areas") areas (
    member (codes "hints") hints (
    number_member (codes "status") status (
    number_member (codes "version") 1 no_members)))))
accepted_value (Luks2 copies seqid) areas hints status = object (
    text_member (codes "answer") (codes "accepted") (
    number_member (codes "areas") areas (
    text_member (codes "copies") (copies_text copies) (
    member (codes "hints") hints (
    number_member (codes "seqid") seqid (
    number_member (codes "status") status (
    number_member (codes "version") 2 no_members)))))))

-- the answer names a keyslot
abbrev pub slot_value : List ℕ → ℕ → Data → ℕ → Data
slot_value answer slot hints status = object (
    text_member (codes "answer") answer (
    member (codes "hints") hints (
    number_member (codes "slot") slot (
    number_member (codes "status") status no_members))))

-- it tells nothing beside
abbrev pub bare_value : List ℕ → Data → ℕ → Data
bare_value answer hints status = object (
    text_member (codes "answer") answer (
    member (codes "hints") hints (
    number_member (codes "status") status no_members)))

-- the command is refused by a fault of this name at these places
abbrev pub fault_value : List ℕ → List (List ℕ) → Data → ℕ → Data
fault_value name places hints status = object (
    text_member (codes "answer") (codes "refused") (
    member (codes "at") (texts_value places) (
    text_member (codes "fault") name (
    member (codes "hints") hints (
    number_member (codes "status") status no_members)))))

-- by the fault that is printed so
pub record IsRefusedValue (printed : List ℕ) (hints : Data) (status : ℕ) (value : Data) : Type 0 where
  pub name : List ℕ
  pub places : List (List ℕ)
  pub parted : IsParted printed name places
  pub is : value ≡ fault_value name places hints status

-- of each answer; those of commands other than `check` and `open` are named shortly
abbrev pub IsAnswerWith : Answer → Data → ℕ → Data → Type 0
IsAnswerWith (Accepted version areas) hints status d = d ≡ accepted_value version areas hints status
IsAnswerWith (Refused by_) hints status d = IsRefusedValue (refusal_text by_) hints status d
IsAnswerWith (Opens n) hints status d = d ≡ slot_value (codes "opens") n hints status
IsAnswerWith (Closed n) hints status d = d ≡ slot_value (codes "does not open") n hints status
IsAnswerWith NoneOpens hints status d = d ≡ bare_value (codes "no slot opens") hints status
IsAnswerWith Matches hints status d = d ≡ bare_value (codes "key matches") hints status
IsAnswerWith Differs hints status d = d ≡ bare_value (codes "key does not match") hints status
IsAnswerWith (Done (Some n)) hints status d = d ≡ slot_value (codes "done") n hints status
IsAnswerWith (Done None) hints status d = d ≡ bare_value (codes "done") hints status
IsAnswerWith (Listed listing) hints status d = d ≡ bare_value (codes "shown") hints status
IsAnswerWith (ListedFully listing) hints status d = d ≡ bare_value (codes "shown") hints status
IsAnswerWith (Tokens listing) hints status d = d ≡ bare_value (codes "shown") hints status
IsAnswerWith (Mapped map) hints status d = d ≡ bare_value (codes "shown") hints status
IsAnswerWith (Json text) hints status d = d ≡ bare_value (codes "shown") hints status
IsAnswerWith (Underway shown) hints status d = d ≡ bare_value (codes "shown") hints status
IsAnswerWith (Compared comparison) hints status d = d ≡ bare_value (codes "compared") hints status
IsAnswerWith (Rescued lost) hints status d = d ≡ bare_value (codes "rescued") hints status
IsAnswerWith DeviceFault hints status d = d ≡ bare_value (codes "device fault") hints status
IsAnswerWith NoMemory hints status d = d ≡ bare_value (codes "no memory") hints status

-- ---- the object and its text

-- with the exit status that the answer ends with, and these hints
abbrev pub IsAnswerValue : Answer → List (List ℕ) → Data → Type 0
IsAnswerValue answer hints d = IsAnswerWith answer (texts_value hints) (exit_status (answer_status answer)) d

-- the compact text of the object, in which each character that steers a terminal is escaped, so that none is in it
pub record IsAnswerText (answer : Answer) (hints : List (List ℕ)) (text : List ℕ) : Type 0 where
  pub value : Data
  pub is : IsAnswerValue answer hints value
  pub compact : text ≡ unsteering (compact_text value)
  pub plain : All IsSteerless (chars text)
