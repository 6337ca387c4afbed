-- What `rebuild` leaves of its target and may answer, with a passphrase or without one. With one the combinations of what isn't
-- given are tried until a keyslot of a LUKS1 header opens; or what is damaged of a header of either version is sought, too.
use Rattle.std.specs.Prelude.{◌≡◌, ◌⊎◌, ℕ, List, Bool, true, false, Option, None, Some, Result}
use Rattle.luks1_mending.specs.declared.given.Given.{Given}
use Rattle.luks_request.specs.declared.rebuilding.Rebuilding.{Rebuilding}
use Rattle.luks_commands.specs.declared.answers.Answer.{Answer}
use Rattle.luks_commands.specs.declared.inputs.InputFault.{InputFault}
use Rattle.luks_commands.specs.Answer.{IsWordless}
use Rattle.luks_header_commands.specs.Rebuilding.{IsGiven, IsRebuildAnswer, KeepsRest}
use Rattle.luks_header_commands.specs.Searching.{KeepsSought, SearchedAnswer}
use Rattle.luks_header_commands.specs.Target.{AnswersHeader, Pair}
use Rattle.luks_header_commands.specs.Tried.{KeepsOpened, TriedAnswer}

-- ---- what is answered

-- by whether what is damaged is sought, too
abbrev pub TriedBy : Bool → Type 0 → Rebuilding → Given → List ℕ → List ℕ → Pair → Answer → Type 0
TriedBy false tells r g p random d a = TriedAnswer tells g p d a
TriedBy true tells r g p random d a = SearchedAnswer tells r g p random d a

-- as the command line gives it, with these random bytes
pub record IsTriedAnswer (tells : Type 0) (r : Rebuilding) (p random : List ℕ) (d : Pair) (a : Answer) : Type 0 where
  pub given : Given
  pub is : IsGiven r given
  pub says : TriedBy r.thorough tells r given p random d a

-- the passphrase can't be read, or is too long, and nothing was done
pub record IsWithoutWords {D : Type 0} (is_long : Type 0) (wordless : InputFault → Type 0) (volume volume_new old new : Result D InputFault) (a : Answer) : Type 0 where
  pub is : IsWordless is_long wordless a
  pub volume_same : volume_new ≡ volume
  pub target_same : new ≡ old

-- the passphrase is what its file has, and this is answered with it
pub record IsWithWords (HasWords : List ℕ → Type 0) (says : List ℕ → Answer → Type 0) (a : Answer) : Type 0 where
  pub words : List ℕ
  pub has : HasWords words
  pub is : says words a

-- of the volume and the target, as `AnswersHeader` says, with this passphrase
abbrev pub AnswersTried : {D : Type 0} → Type 0 → (D → ℕ) → (D → List ℕ) → (D → ℕ) → Rebuilding → (InputFault → Type 0) → (List ℕ → Type 0)
    → Result D InputFault → Result D InputFault → Result D InputFault → Result D InputFault → List ℕ → Answer → Type 0
AnswersTried tells size bytes failed r unread HasRandom volume volume_new old new p a =
    AnswersHeader tells size bytes failed r.over (IsTriedAnswer tells r p) unread HasRandom volume volume_new old new a

-- the passphrase is read before the volume
abbrev pub IsWithPassphrase : {D : Type 0} → Type 0 → (D → ℕ) → (D → List ℕ) → (D → ℕ) → Rebuilding → (List ℕ → Type 0) → Type 0 → (InputFault → Type 0)
    → (InputFault → Type 0) → (List ℕ → Type 0) → Result D InputFault → Result D InputFault → Result D InputFault → Result D InputFault → Answer → Type 0
IsWithPassphrase tells size bytes failed r HasWords is_long wordless unread HasRandom volume volume_new old new a =
    IsWithoutWords is_long wordless volume volume_new old new a
    ⊎ IsWithWords HasWords (AnswersTried tells size bytes failed r unread HasRandom volume volume_new old new) a

-- so it is where one is named
abbrev pub AnswersBy : {A D : Type 0} → Option A → Type 0 → (D → ℕ) → (D → List ℕ) → (D → ℕ) → Rebuilding → (List ℕ → Type 0) → Type 0 → (InputFault → Type 0)
    → (InputFault → Type 0) → (List ℕ → Type 0) → Result D InputFault → Result D InputFault → Result D InputFault → Result D InputFault → Answer → Type 0
AnswersBy None tells size bytes failed r HasWords is_long wordless unread HasRandom volume volume_new old new a =
    AnswersHeader tells size bytes failed r.over (IsRebuildAnswer tells r) unread HasRandom volume volume_new old new a
AnswersBy (Some file) tells size bytes failed r HasWords is_long wordless unread HasRandom volume volume_new old new a =
    IsWithPassphrase tells size bytes failed r HasWords is_long wordless unread HasRandom volume volume_new old new a

abbrev pub AnswersRebuild : {D : Type 0} → Type 0 → (D → ℕ) → (D → List ℕ) → (D → ℕ) → Rebuilding → (List ℕ → Type 0) → Type 0 → (InputFault → Type 0)
    → (InputFault → Type 0) → (List ℕ → Type 0) → Result D InputFault → Result D InputFault → Result D InputFault → Result D InputFault → Answer → Type 0
AnswersRebuild tells size bytes failed r HasWords is_long wordless unread HasRandom volume volume_new old new a =
    AnswersBy r.passphrase tells size bytes failed r HasWords is_long wordless unread HasRandom volume volume_new old new a

-- ---- what is left

-- which bytes may have changed with the passphrase, by whether what is damaged is sought, too
abbrev pub KeepsTriedBy : Bool → Rebuilding → (List ℕ → Type 0) → Given → List ℕ → List ℕ → List ℕ → Type 0
KeepsTriedBy false r HasWords g volume old new = KeepsOpened HasWords g volume old new
KeepsTriedBy true r HasWords g volume old new = KeepsSought r HasWords g volume old new

pub record KeepsGivenOpened (r : Rebuilding) (HasWords : List ℕ → Type 0) (volume old new : List ℕ) : Type 0 where
  pub given : Given
  pub is : IsGiven r given
  pub keeps : KeepsTriedBy r.thorough r HasWords given volume old new

-- nothing of the target has changed, or what may have
abbrev pub IsRestBy : Bool → Rebuilding → Given → List ℕ → List ℕ → List ℕ → List ℕ → Type 0
IsRestBy thorough r g p volume old new = (new ≡ old) ⊎ KeepsTriedBy thorough r (λ words. words ≡ p) g volume old new

abbrev pub KeepsTried : Rebuilding → (List ℕ → Type 0) → List ℕ → List ℕ → List ℕ → Type 0
KeepsTried r HasWords volume old new = (new ≡ old) ⊎ KeepsGivenOpened r HasWords volume old new

abbrev pub KeepsBy : {A : Type 0} → Option A → Rebuilding → (List ℕ → Type 0) → List ℕ → List ℕ → List ℕ → Type 0
KeepsBy None r HasWords volume old new = KeepsRest r volume old new
KeepsBy (Some file) r HasWords volume old new = KeepsTried r HasWords volume old new

abbrev pub KeepsRebuilt : Rebuilding → (List ℕ → Type 0) → List ℕ → List ℕ → List ℕ → Type 0
KeepsRebuilt r HasWords volume old new = KeepsBy r.passphrase r HasWords volume old new
