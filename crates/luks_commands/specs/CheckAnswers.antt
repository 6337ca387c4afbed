-- What `check` may answer.
use Rattle.std.specs.Prelude.{◌≡◌, ℕ, ◌+◌, List, length, Result, Ok, Err}
use Rattle.luks_area.specs.declared.areas.Entry.{Entry}
use Rattle.luks_reading.specs.declared.report.Data.{Data}
use Rattle.luks_reading.specs.declared.report.Version.{Version}
use Rattle.luks_reading.specs.Checked.{AreaOf, First, WellFormed}
use Rattle.luks_reading.specs.Header.{NeedsMetadata}
use Rattle.luks_reading.specs.Listing.{Lists}
use Rattle.luks_reading.specs.Reported.{IsVersion}
use Rattle.luks_commands.specs.declared.answers.Answer.{Answer}
use Rattle.luks_commands.specs.declared.answers.Answer.TheVariants.{Accepted, Refused, DeviceFault, NoMemory}
use Rattle.luks_commands.specs.declared.answers.Refusal.TheVariants.{Check}
use Rattle.luks_commands.specs.declared.inputs.InputFault.{InputFault}
use Rattle.luks_commands.specs.Answer.{unread_answer}

-- the volume `v` is well formed, of this version, and has so many areas
pub record IsAccepted (v : List ℕ) (payload : Data) (kind : Version) (count : ℕ) : Type 0 where
  pub formed : WellFormed v payload
  pub version : IsVersion v kind
  pub areas : List Entry
  pub listed : Lists areas (AreaOf v payload)
  pub counted : length areas ≡ count

-- of the volume `v`, while the device's count of failures went from `before` to `after`: `device fault`
-- comes exactly where a call failed, and a refusal is the volume's first fault
abbrev pub IsCheckAnswer : Type 0 → List ℕ → Data → ℕ → ℕ → Answer → Type 0
IsCheckAnswer tells v payload before after (Accepted version areas) = (after ≡ before) × (tells → IsAccepted v payload version areas)
IsCheckAnswer tells v payload before after (Refused (Check f)) = (after ≡ before) × (tells → First v payload f)
IsCheckAnswer tells v payload before after DeviceFault = after ≡ before + 1
IsCheckAnswer tells v payload before after NoMemory = (after ≡ before) × (tells → NeedsMetadata v)
IsCheckAnswer tells v payload before after a = ⊥

-- the same of a volume that may not be there
abbrev pub AnswersCheck : {D : Type 0} → Type 0 → (D → List ℕ) → (D → ℕ) → Data → Result D InputFault → Result D InputFault → Answer → Type 0
AnswersCheck {D} tells bytes failed payload (Ok old) (Ok new) a = IsCheckAnswer tells (bytes old) payload (failed old) (failed new) a
AnswersCheck {D} tells bytes failed payload (Ok old) (Err fault) a = ⊥
AnswersCheck {D} tells bytes failed payload (Err fault) new a = a ≡ unread_answer fault
