-- What is answered, and left of the target, where the combinations of what isn't given are tried until a keyslot of a LUKS1 header
-- opens by a passphrase.
use Rattle.std.specs.Prelude.{◌≡◌, ◌⊎◌, ℕ, List, false}
use Rattle.luks_writing.specs.TwoDevices.{IsOneFailure}
use Rattle.luks1_mending.specs.declared.given.Given.{Given}
use Rattle.luks1_rebuilding.specs.RebuildFaults.{is_rebuild_failure}
use Rattle.luks1_rebuilding.specs.declared.rebuild_fault.Rebuild1Fault.{Rebuild1Fault}
use Rattle.luks1_rebuilding.specs.TrialFaults.{IsAnsweredTrialFault, IsTrialFault}
use Rattle.luks1_rebuilding.specs.Openings.{IsFirstOpening, OpensNoneBelow}
use Rattle.luks1_rebuilding.specs.declared.trial.opening.Opening.{Opening}
use Rattle.luks_commands.specs.declared.answers.Answer.{Answer}
use Rattle.luks_commands.specs.declared.answers.Answer.TheVariants.{NoneOpens, Refused, DeviceFault}
use Rattle.luks_commands.specs.declared.answers.Refusal.TheVariants.{Rebuild1}
use Rattle.luks_header_commands.specs.Rebuilding.{IsLuks1Answer, KeepsRest1}
use Rattle.luks_header_commands.specs.Target.{NoneFailed, Pair}

-- ---- what is answered

-- With what is given and the passphrase `p`: a header can be made, and by none of the 64 combinations a keyslot opens. Or none
-- can be made by any, by the first fault that stands with each. Or a call of the trial failed. In these nothing is written.
-- Else LUKS1 answers with what the first combination gives that opens a keyslot.
pub data TriedAnswer (tells : Type 0) (g : Given) (p : List ℕ) (d : Pair) (a : Answer) : Type 0 where
  none_open : NoneFailed d → (tells → d.new ≡ d.old) → (tells → (f : Rebuild1Fault) → IsTrialFault d.volume g f → ⊥)
      → (tells → OpensNoneBelow d.volume g p 64) → a ≡ NoneOpens → TriedAnswer tells g p d a
  no_header : (f : Rebuild1Fault) → is_rebuild_failure f ≡ false → NoneFailed d → (tells → d.new ≡ d.old)
      → (tells → IsAnsweredTrialFault d.volume g f) → a ≡ Refused (Rebuild1 f) → TriedAnswer tells g p d a
  trial_failed : IsOneFailure d.volume_before d.volume_after d.before d.after → (tells → d.new ≡ d.old) → a ≡ DeviceFault → TriedAnswer tells g p d a
  one_opens : (o : Opening) → (tells → IsFirstOpening d.volume g p o) → IsLuks1Answer tells o.given d a → TriedAnswer tells g p d a

-- ---- what is left

-- which bytes may have changed with the passphrase: those of the header that is made with what the first combination gives that
-- opens a keyslot
pub record KeepsOpened (HasWords : List ℕ → Type 0) (g : Given) (volume old new : List ℕ) : Type 0 where
  pub words : List ℕ
  pub has : HasWords words
  pub opening : Opening
  pub first : IsFirstOpening volume g words opening
  pub keeps : KeepsRest1 opening.given volume old new

-- nothing of the target has changed, or what may have
abbrev pub IsTriedRest : Given → List ℕ → List ℕ → List ℕ → List ℕ → Type 0
IsTriedRest g p volume old new = (new ≡ old) ⊎ KeepsOpened (λ words. words ≡ p) g volume old new
