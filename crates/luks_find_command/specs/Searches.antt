-- What a search of a device has told so far.
use Rattle.std.specs.Prelude.{◌≡◌, ◌⊎◌, ℕ, ◌+◌, ◌-◌, ◌*◌, ◌<◌, ◌≤◌, ◌^◌, List, [], ◌∷◌, ◌++◌, length, Option, Result, Ok, Err}
use Rattle.std.specs.Io.KnownBytes.{Appends}
use Rattle.luks_commands.specs.Answer.{IsPrinted}
use Rattle.luks_commands.specs.declared.answers.Answer.TheVariants.{DeviceFault, NoMemory}
use Rattle.luks_finding.specs.Finding.{AreStartsBetween}
use Rattle.luks_finding.specs.Readable.{sectors_of, AreReadTo}
use Rattle.luks_finding.specs.Starts.{AreStarts}
use Rattle.luks_finding.specs.declared.finding.Step.{Step}
use Rattle.luks_finding.specs.declared.finding.Step.TheVariants.{Start, Two, On, End}
use Rattle.luks_finding.specs.declared.passed.Passed.{Passed}
use Rattle.luks_find_command.specs.Lines.{none_found, AreLines, AreLinesBy}
use Rattle.luks_find_command.specs.SameUuids.{ArePairedBy}
use Rattle.luks_find_command.specs.Unreads.{all_named, Hears}
use Rattle.luks_find_command.specs.declared.met.Met.{Met}
use Rattle.luks_find_command.specs.declared.same_uuid.SameUuid.{SameUuid}
use Rattle.luks_find_command.specs.declared.stop.Stop.{Stop}
use Rattle.luks_find_command.specs.declared.stop.Stop.TheVariants.{Device, Memory, Unprinted}
use Rattle.luks_find_command.specs.declared.unread.Unread.{Unread}

-- what was printed, which volumes are remembered by their uuids, and what was said of such as have one uuid
pub record Told : Type 0 where
  pub printed : Option (List ℕ)
  pub met : List Met
  pub said : Option (List SameUuid)

abbrev pub told_of : Option (List ℕ) → List Met → Option (List SameUuid) → Told
told_of printed met said = record { printed = printed; met = met; said = said }

-- of these starts it was said which have one uuid, where some are remembered and said already
pub record HasPaired (failing : Type 0) (offset : ℕ) (v starts : List ℕ) (held holds : Told) : Type 0 where
  pub pairs : List SameUuid
  pub are : ArePairedBy failing offset v held.met starts holds.met pairs
  pub names : Hears held.said holds.said pairs

-- the volumes that a step found
abbrev pub starts_in : Step → List ℕ
starts_in (Start s) = s ∷ []
starts_in (Two s t) = s ∷ t ∷ []
starts_in On = []
starts_in End = []

-- they begin on the device
abbrev pub LieInside : ℕ → Step → Type 0
LieInside total (Start s) = s ≤ total
LieInside total (Two s t) = (s ≤ total) × (t ≤ total)
LieInside total On = Unit {0}
LieInside total End = Unit {0}

-- where the bytes `v` begin at the byte `offset` of their file: a line for each of these starts was printed
pub record HasTold (offset : ℕ) (v starts : List ℕ) (held holds : Told) : Type 0 where
  pub lines : List ℕ
  pub are : AreLines offset v starts lines
  pub printed : Appends held.printed holds.printed lines
  pub paired : HasPaired ⊥ offset v starts held holds

-- a line for each of these starts was printed, where `failing` holds maybe the one that says that not all can be read
pub record HasToldBy (failing : Type 0) (offset : ℕ) (v starts : List ℕ) (held holds : Told) : Type 0 where
  pub lines : List ℕ
  pub are : AreLinesBy failing offset v starts lines
  pub printed : Appends held.printed holds.printed lines
  pub paired : HasPaired failing offset v starts held holds

-- the first of the volumes were told
pub record HasToldPart (failing : Type 0) (offset : ℕ) (v list : List ℕ) (held holds : Told) : Type 0 where
  pub told : List ℕ
  pub untold : List ℕ
  pub is : list ≡ told ++ untold
  pub has : HasToldBy failing offset v told held holds

-- unless a print failed, of which nothing is said
abbrev pub TellsPart : Type 0 → ℕ → List ℕ → List ℕ → Told → Told → Stop → Type 0
TellsPart failing offset v list held holds Device = HasToldPart failing offset v list held holds
TellsPart failing offset v list held holds Memory = HasToldPart failing offset v list held holds
TellsPart failing offset v list held holds Unprinted = Unit {0}

-- all of them were told, or it stopped
abbrev pub TellsStepBy : Type 0 → ℕ → List ℕ → List ℕ → Told → Told → Result (Unit {0}) Stop → Type 0
TellsStepBy failing offset v list held holds (Ok done) = HasToldBy failing offset v list held holds
TellsStepBy failing offset v list held holds (Err stop) = TellsPart failing offset v list held holds stop

-- the number is 0 where the list is empty, and not elsewhere
pub record CountsSome (found : ℕ) (list : List ℕ) : Type 0 where
  pub none : found ≡ 0 → list ≡ []
  pub some : list ≡ [] → found ≡ 0

-- each volume of the device was told
pub record IsToldAll (offset : ℕ) (v : List ℕ) (held holds : Told) (found : ℕ) : Type 0 where
  pub starts : List ℕ
  pub all : AreStarts v starts
  pub has : HasTold offset v starts held holds
  pub counts : CountsSome found starts

-- the first of them were
pub record HasToldFirst (offset : ℕ) (v : List ℕ) (held holds : Told) : Type 0 where
  pub starts : List ℕ
  pub later : List ℕ
  pub sectors : ℕ
  pub first : AreStartsBetween v 0 sectors (starts ++ later)
  pub has : HasTold offset v starts held holds

abbrev pub IsToldFirst : ℕ → List ℕ → Told → Told → Stop → Type 0
IsToldFirst offset v held holds Device = HasToldFirst offset v held holds
IsToldFirst offset v held holds Memory = HasToldFirst offset v held holds
IsToldFirst offset v held holds Unprinted = Unit {0}

-- ---- a device that can't be read everywhere

-- a search that ended by `Device` has come to the end of the bytes and told all, or the device's count of failures is full
abbrev pub IsWhole : Stop → List ℕ → List ℕ → ℕ → ℕ → Type 0
IsWhole Device later v sectors failed_now = ((later ≡ []) × (length v ≤ 512 * sectors)) ⊎ (2 ^ 64 ≤ failed_now + 100)
IsWhole Memory later v sectors failed_now = Unit {0}
IsWhole Unprinted later v sectors failed_now = Unit {0}

-- the first of the volumes of which a sign can be read were told, where these sectors were passed over
pub record HasToldRead (failing : Type 0) (offset : ℕ) (v : List ℕ) (passed : List Passed) (before : List ℕ) (held holds : Told) (why : Stop) (failed_now : ℕ) : Type 0 where
  pub starts : List ℕ
  pub later : List ℕ
  pub sectors : ℕ
  pub first : AreReadTo v passed sectors (before ++ starts ++ later)
  pub has : HasToldBy failing offset v starts held holds
  pub whole : IsWhole why later v sectors failed_now

-- the same of a search, and what was said of what it passed over: no more than 1 MiB for each read that failed
pub record HasGoneOn (tells : Type 0) (offset total : ℕ) (v before : List ℕ) (failed failed_now : ℕ) (heard hears : Option (List Unread)) (held holds : Told) (why : Stop) : Type 0 where
  pub passed : List Passed
  pub names : Hears heard hears (all_named offset total passed)
  pub bounded : sectors_of passed ≤ 2048 * (failed_now - failed)
  pub told : tells → HasToldRead (failed < failed_now) offset v passed before held holds why failed_now

-- which went on behind those that were told before; unless a print failed, of which nothing is said
abbrev pub GoesOnTelling : Type 0 → ℕ → ℕ → List ℕ → List ℕ → ℕ → ℕ → Option (List Unread) → Option (List Unread) → Told → Told → Stop → Type 0
GoesOnTelling tells offset total v before failed failed_now heard hears held holds Device = HasGoneOn tells offset total v before failed failed_now heard hears held holds Device
GoesOnTelling tells offset total v before failed failed_now heard hears held holds Memory = HasGoneOn tells offset total v before failed failed_now heard hears held holds Memory
GoesOnTelling tells offset total v before failed failed_now heard hears held holds Unprinted = Unit {0}

-- a whole search
abbrev pub IsToldOn : Type 0 → ℕ → ℕ → List ℕ → ℕ → ℕ → Option (List Unread) → Option (List Unread) → Told → Told → Stop → Type 0
IsToldOn tells offset total v failed failed_now heard hears held holds why = GoesOnTelling tells offset total v [] failed failed_now heard hears held holds why

-- a step from the sector `from` on to `next` passed some sectors over, at most 1 MiB for each read that failed in it, and said
-- so: with what it found all are told of which a sign can be read before `next`, where all before `from` were told
pub record PassesBy (tells : Type 0) (offset total : ℕ) (v told : List ℕ) (from next failed failed_now : ℕ) (heard hears : Option (List Unread)) (step : Step) : Type 0 where
  pub over : List Passed
  pub names : Hears heard hears (all_named offset total over)
  pub bounded : sectors_of over ≤ 2048 * (failed_now - failed)
  pub tells_all : tells → (passed : List Passed) → AreReadTo v passed from told → AreReadTo v (passed ++ over) next (told ++ starts_in step)

-- the volumes of a list were told, which are those with a sign that can be read before the sector `sectors`; then it stopped
-- for this reason, maybe with further ones that weren't told: where none was passed over
abbrev pub IsToldCalmly : Type 0 → ℕ → List ℕ → ℕ → List ℕ → Told → Told → Stop → Type 0
IsToldCalmly failing offset v sectors list held holds Device = AreReadTo v [] sectors list × HasToldBy failing offset v list held holds
IsToldCalmly failing offset v sectors list held holds Memory = HasToldRead failing offset v [] [] held holds Memory 0
IsToldCalmly failing offset v sectors list held holds Unprinted = Unit {0}

-- ---- the whole, of a search that begins: which volumes it remembers at its end isn't told

abbrev pub SearchesAll : ℕ → List ℕ → Option (List ℕ) → Option (List ℕ) → Option (List SameUuid) → Option (List SameUuid) → ℕ → Type 0
SearchesAll offset v held holds said says found = (met : List Met) × IsToldAll offset v (told_of held [] said) (told_of holds met says) found

abbrev pub SearchesFirst : ℕ → List ℕ → Option (List ℕ) → Option (List ℕ) → Option (List SameUuid) → Option (List SameUuid) → Stop → Type 0
SearchesFirst offset v held holds said says why = (met : List Met) × IsToldFirst offset v (told_of held [] said) (told_of holds met says) why

abbrev pub SearchesOn : Type 0 → ℕ → ℕ → List ℕ → ℕ → ℕ → Option (List Unread) → Option (List Unread) → Option (List ℕ) → Option (List ℕ) → Option (List SameUuid) → Option (List SameUuid) → Stop → Type 0
SearchesOn tells offset total v failed failed_now heard hears held holds said says why =
    (met : List Met) × IsToldOn tells offset total v failed failed_now heard hears (told_of held [] said) (told_of holds met says) why

-- ---- the last line

-- of a search that came to the end: `none found` where it found none
abbrev pub EndsAll : ℕ → ℕ → ℕ → Option (List ℕ) → Option (List ℕ) → ℕ → Type 0
EndsAll found prints prints_now held holds status =
    ((0 < found) × (prints_now ≡ prints) × (holds ≡ held) × (status ≡ 0))
    ⊎ ((found ≡ 0) × (prints_now ≡ prints) × Appends held holds none_found × (status ≡ 1))
    ⊎ ((prints_now ≡ prints + 1) × (status ≡ 4))

-- of one that stopped before
abbrev pub EndsEarly : Stop → ℕ → ℕ → Option (List ℕ) → Option (List ℕ) → ℕ → Type 0
EndsEarly Device prints prints_now held holds status = IsPrinted DeviceFault prints prints_now held holds status
EndsEarly Memory prints prints_now held holds status = IsPrinted NoMemory prints prints_now held holds status
EndsEarly Unprinted prints prints_now held holds status = (prints_now ≡ prints) × (status ≡ 4)

-- a line may be printed, where one will be
abbrev pub MayPrint : Stop → ℕ → Type 0
MayPrint Device prints = prints + 1 < 2 ^ 64
MayPrint Memory prints = prints + 1 < 2 ^ 64
MayPrint Unprinted prints = Unit {0}

-- a search that found so many, or stopped
abbrev pub Finishes : Result ℕ Stop → ℕ → ℕ → Option (List ℕ) → Option (List ℕ) → ℕ → Type 0
Finishes (Ok found) prints prints_now held holds status = EndsAll found prints prints_now held holds status
Finishes (Err stop) prints prints_now held holds status = EndsEarly stop prints prints_now held holds status

abbrev pub MayEnd : Result ℕ Stop → ℕ → Type 0
MayEnd (Ok found) prints = prints + 1 < 2 ^ 64
MayEnd (Err stop) prints = MayPrint stop prints
