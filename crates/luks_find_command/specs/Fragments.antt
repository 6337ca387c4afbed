-- What `find` prints of the fragments of LUKS2 metadata, and the exit status that it ends with.
use Rattle.std.specs.Prelude.{◌≡◌, ◌⊎◌, ℕ, ◌+◌, ◌^◌, ◌<◌, List, [], ◌∷◌, ◌++◌, length, Option, Bool, Result, Ok, Err}
use Rattle.std.specs.Io.KnownBytes.{Appends}
use Rattle.luks_commands.specs.declared.inputs.InputFault.{InputFault}
use Rattle.luks_fragments.specs.Fragments.{HasNoneFrom}
use Rattle.luks_seeking.specs.Seeking.{HasNoneBetween, IsFirstFound}
use Rattle.luks_seeking.specs.declared.seeking.Found.{Found}
use Rattle.luks_find_command.specs.FragmentLines.{fragment_line, last_line, last_status, unread_last}
use Rattle.luks_find_command.specs.declared.fragments.Listed.{Listed}
use Rattle.luks_find_command.specs.declared.fragments.Telling.{Telling}
use Rattle.luks_find_command.specs.declared.lines.Last.{Last}
use Rattle.luks_find_command.specs.declared.lines.Last.TheVariants.{NoneFound, DeviceFault, NoMemory}
use Rattle.luks_find_command.specs.declared.stop.Stop.{Stop}
use Rattle.luks_find_command.specs.declared.stop.Stop.TheVariants.{Device, Memory, Unprinted}

-- ---- the fragments of the bytes `v`

-- the list has the fragments from the place on, in order; what begins inside of one isn't looked at
abbrev pub AreFragmentsFrom : List ℕ → ℕ → List Found → Type 0
AreFragmentsFrom v from [] = HasNoneFrom v from
AreFragmentsFrom v from (f ∷ fs) = IsFirstFound v from f × AreFragmentsFrom v (f.at + f.len) fs

-- the same of those before the place `next`
abbrev pub AreFragmentsTo : List ℕ → ℕ → ℕ → List Found → Type 0
AreFragmentsTo v from next [] = HasNoneBetween v from next
AreFragmentsTo v from next (f ∷ fs) = IsFirstFound v from f × AreFragmentsTo v (f.at + f.len) next fs

-- ---- their lines

-- those of bytes that begin at the byte `offset` of their file
abbrev pub fragment_lines : Telling → List Found → List ℕ
fragment_lines telling [] = []
fragment_lines telling (f ∷ fs) = fragment_line telling.as_json (telling.offset + f.at) f.kind f.number ++ fragment_lines telling fs

-- where there is none, that line follows
abbrev pub fragments_end : Telling → List Found → List ℕ
fragments_end telling [] = last_line telling.as_json NoneFound
fragments_end telling (f ∷ fs) = []

abbrev pub fragments_status : List Found → ℕ
fragments_status [] = 1
fragments_status (f ∷ fs) = 0

-- ---- what was printed, step by step

-- a line for each fragment from the place `from` on and before `next`: of so many
pub record ListsTo (telling : Telling) (v : List ℕ) (from next more : ℕ) (held holds : Option (List ℕ)) : Type 0 where
  pub list : List Found
  pub are : AreFragmentsTo v from next list
  pub count : more ≡ length list
  pub printed : Appends held holds (fragment_lines telling list)

-- one step further, where `old` is how far the search was before, and `new` behind
pub record ListsStep (telling : Telling) (v : List ℕ) (old new : Listed) (held holds : Option (List ℕ)) : Type 0 where
  pub more : ℕ
  pub found : new.found ≡ old.found + more
  pub lists : ListsTo telling v old.at new.at more held holds

-- all of them were printed, as many as were found
pub record ListsAll (telling : Telling) (v : List ℕ) (found : ℕ) (held holds : Option (List ℕ)) : Type 0 where
  pub list : List Found
  pub all : AreFragmentsFrom v 0 list
  pub count : found ≡ length list
  pub printed : Appends held holds (fragment_lines telling list)

-- the first of them were
pub record ListsSome (telling : Telling) (v : List ℕ) (held holds : Option (List ℕ)) : Type 0 where
  pub next : ℕ
  pub more : ℕ
  pub lists : ListsTo telling v 0 next more held holds

-- unless a print failed, of which nothing is said
abbrev pub ListsUntil : Stop → Telling → List ℕ → Option (List ℕ) → Option (List ℕ) → Type 0
ListsUntil Device telling v held holds = ListsSome telling v held holds
ListsUntil Memory telling v held holds = ListsSome telling v held holds
ListsUntil Unprinted telling v held holds = Unit {0}

-- nothing was printed, likewise
abbrev pub PrintsNone : Stop → Option (List ℕ) → Option (List ℕ) → Type 0
PrintsNone Device held holds = holds ≡ held
PrintsNone Memory held holds = holds ≡ held
PrintsNone Unprinted held holds = Unit {0}

-- why it stopped: one device call failed, or one print, or neither
abbrev pub StopsOnce : Stop → ℕ → ℕ → ℕ → ℕ → Type 0
StopsOnce Device failed failed_now prints prints_now = (failed_now ≡ failed + 1) × (prints_now ≡ prints)
StopsOnce Memory failed failed_now prints prints_now = (failed_now ≡ failed) × (prints_now ≡ prints)
StopsOnce Unprinted failed failed_now prints prints_now = (failed_now ≡ failed) × (prints_now ≡ prints + 1)

-- ---- the last line

-- it was printed, and the exit status is its own; or the print failed
abbrev pub PrintsLast : Bool → Last → ℕ → ℕ → Option (List ℕ) → Option (List ℕ) → ℕ → Type 0
PrintsLast as_json last prints prints_now held holds status =
    ((prints_now ≡ prints) × (status ≡ last_status last) × Appends held holds (last_line as_json last)) ⊎ ((prints_now ≡ prints + 1) × (status ≡ 4))

-- of a search that found so many, or stopped
abbrev pub EndsListing : Bool → Result ℕ Stop → ℕ → ℕ → Option (List ℕ) → Option (List ℕ) → ℕ → Type 0
EndsListing as_json (Ok found) prints prints_now held holds status =
    ((0 < found) × (prints_now ≡ prints) × (holds ≡ held) × (status ≡ 0)) ⊎ ((found ≡ 0) × PrintsLast as_json NoneFound prints prints_now held holds status)
EndsListing as_json (Err Device) prints prints_now held holds status = PrintsLast as_json DeviceFault prints prints_now held holds status
EndsListing as_json (Err Memory) prints prints_now held holds status = PrintsLast as_json NoMemory prints prints_now held holds status
EndsListing as_json (Err Unprinted) prints prints_now held holds status = (prints_now ≡ prints) × (holds ≡ held) × (status ≡ 4)

-- a line may be printed, where one may have to be
abbrev pub MayEndListing : Result ℕ Stop → ℕ → Type 0
MayEndListing (Ok found) prints = prints + 1 < 2 ^ 64
MayEndListing (Err Device) prints = prints + 1 < 2 ^ 64
MayEndListing (Err Memory) prints = prints + 1 < 2 ^ 64
MayEndListing (Err Unprinted) prints = Unit {0}

-- ---- a whole run

-- What became of a run: the counts of failures before and after, of the device and of the printer, what was printed before and
-- after, and the exit status.
pub record FragmentsRun : Type 0 where
  pub failed : ℕ
  pub failed_now : ℕ
  pub prints : ℕ
  pub prints_now : ℕ
  pub held : Option (List ℕ)
  pub holds : Option (List ℕ)
  pub status : ℕ

abbrev pub fragments_run : ℕ → ℕ → ℕ → ℕ → Option (List ℕ) → Option (List ℕ) → ℕ → FragmentsRun
fragments_run failed failed_now prints prints_now held holds status = record {
  failed = failed;
  failed_now = failed_now;
  prints = prints;
  prints_now = prints_now;
  held = held;
  holds = holds;
  status = status;
}

-- a line for each fragment was printed, or the one that there is none
pub record TellsFragments (telling : Telling) (v : List ℕ) (r : FragmentsRun) : Type 0 where
  pub list : List Found
  pub all : AreFragmentsFrom v 0 list
  pub printed : Appends r.held r.holds (fragment_lines telling list ++ fragments_end telling list)
  pub ends : r.status ≡ fragments_status list

-- the same of the first of them, and then this line
pub record TellsSome (telling : Telling) (v : List ℕ) (last : Last) (r : FragmentsRun) : Type 0 where
  pub list : List Found
  pub next : ℕ
  pub first : AreFragmentsTo v 0 next list
  pub printed : Appends r.held r.holds (fragment_lines telling list ++ last_line telling.as_json last)

-- the bytes were searched to their end
pub record ListsWhole (tells : Type 0) (telling : Telling) (v : List ℕ) (r : FragmentsRun) : Type 0 where
  pub read : r.failed_now ≡ r.failed
  pub printed : r.prints_now ≡ r.prints
  pub status : (r.status ≡ 0) ⊎ (r.status ≡ 1)
  pub told : tells → TellsFragments telling v r

-- a device call failed, or memory was refused, and the last line says which
abbrev pub EndsBy : Last → ℕ → ℕ → Type 0
EndsBy NoneFound failed failed_now = ⊥
EndsBy DeviceFault failed failed_now = failed_now ≡ failed + 1
EndsBy NoMemory failed failed_now = failed_now ≡ failed

pub record ListsPart (tells : Type 0) (telling : Telling) (v : List ℕ) (r : FragmentsRun) : Type 0 where
  pub last : Last
  pub ends : EndsBy last r.failed r.failed_now
  pub printed : r.prints_now ≡ r.prints
  pub status : r.status ≡ 4
  pub told : tells → TellsSome telling v last r

-- a line couldn't be printed
pub record FailsToList (r : FragmentsRun) : Type 0 where
  pub read : (r.failed_now ≡ r.failed) ⊎ (r.failed_now ≡ r.failed + 1)
  pub printed : r.prints_now ≡ r.prints + 1
  pub status : r.status ≡ 4

abbrev pub IsFragmentsRun : Type 0 → Telling → List ℕ → FragmentsRun → Type 0
IsFragmentsRun tells telling v r = ListsWhole tells telling v r ⊎ ListsPart tells telling v r ⊎ FailsToList r

-- the same of a volume that may not be there: its file was cut to it from the byte `offset` on
abbrev pub AnswersFragments : {D : Type 0} → Type 0 → (D → List ℕ) → (D → ℕ) → ℕ → Bool → Result D InputFault → Result D InputFault
    → ℕ → ℕ → Option (List ℕ) → Option (List ℕ) → ℕ → Type 0
AnswersFragments {D} tells bytes failed offset as_json (Ok old) (Ok new) prints prints_now held holds status =
    IsFragmentsRun tells (record { offset = offset; as_json = as_json }) (bytes old) (fragments_run (failed old) (failed new) prints prints_now held holds status)
AnswersFragments {D} tells bytes failed offset as_json (Ok old) (Err fault) prints prints_now held holds status = ⊥
AnswersFragments {D} tells bytes failed offset as_json (Err fault) new prints prints_now held holds status =
    PrintsLast as_json (unread_last fault) prints prints_now held holds status
