-- What the command `convert` leaves of its target, and what it may answer.
use Rattle.std.specs.Prelude.{◌≡◌, ℕ, List, Option, None, Result, true, false}
use Rattle.luks_area.specs.Ranges.{part, SameBut}
use Rattle.luks1_header.specs.Header1.{luks1_size}
use Rattle.luks_reading.specs.declared.report.Data.{Data}
use Rattle.luks_reading.specs.declared.report.Data.TheVariants.{Elsewhere}
use Rattle.luks_reading.specs.declared.open_fault.OpenFault.TheVariants.{NoSuchSlot}
use Rattle.luks_slot.specs.declared.allowed.Allowed.{Allowed}
use Rattle.luks_reading.specs.Answer.{AnswerWithin as Opening, opened_to, refused}
use Rattle.luks_reading.specs.Checked.{WellFormed}
use Rattle.luks_converting.specs.declared.convert_fault.ConvertFault.TheVariants as fault
use Rattle.luks_converting.specs.Converted.{IsConverted, IsOfConverted}
use Rattle.luks_converting.specs.Outcome.{IsAnsweredFault, IsConvertible}
use Rattle.luks_converting.specs.Source.{is_enabled}
use Rattle.luks_writing.specs.TwoDevices.{IsOneFailure}
use Rattle.luks_request.specs.declared.request.Converting.{Converting}
use Rattle.luks_commands.specs.declared.answers.Answer.{Answer}
use Rattle.luks_commands.specs.declared.answers.Answer.TheVariants.{Done, Refused, DeviceFault, NoMemory}
use Rattle.luks_commands.specs.declared.answers.Refusal.TheVariants.{Convert}
use Rattle.luks_commands.specs.declared.inputs.InputFault.{InputFault}
use Rattle.luks_header_commands.specs.Target.{AnswersHeader, NoneFailed, Pair}

-- the random bytes that it takes
abbrev pub random_count : ℕ
random_count = 128

-- ---- the header that is made

-- `new` is the target `old` after a header was made on it of the LUKS1 volume `v` with these random
-- bytes
pub record IsNewHeader (v random old new : List ℕ) : Type 0 where
  pub converted : IsConverted v random old new
  pub well_formed : WellFormed new Elsewhere
  -- each enabled keyslot opens as it did, or as it didn't, whatever is allowed
  pub opens : (allowed : Allowed) (n : ℕ) (p : List ℕ) (found : Option (List ℕ)) → is_enabled (part v 0 luks1_size) n ≡ true
      → Opening allowed v n p (opened_to found) → Opening allowed new n p (opened_to found)
  -- and there is no other
  pub absent : (allowed : Allowed) (n : ℕ) (p : List ℕ) → is_enabled (part v 0 luks1_size) n ≡ false → Opening allowed new n p (refused NoSuchSlot)

-- which bytes of the target may have changed, whatever is answered: those of both copies of the header
-- and of the areas of the volume's enabled keyslots
abbrev pub KeepsRest : List ℕ → List ℕ → List ℕ → Type 0
KeepsRest volume old new = SameBut (IsOfConverted (part volume 0 luks1_size)) old new

-- ---- what is answered

-- with these random bytes; `device fault` comes exactly where a call of one of the two failed
abbrev pub IsConvertAnswer : Type 0 → Data → List ℕ → Pair → Answer → Type 0
IsConvertAnswer tells payload random d (Done slot) = NoneFailed d × (slot ≡ None)
    × (tells → IsConvertible d.volume payload d.total random) × (tells → IsNewHeader d.volume random d.old d.new)
IsConvertAnswer tells payload random d (Refused (Convert fault.Device)) = ⊥
IsConvertAnswer tells payload random d (Refused (Convert fault.Memory)) = ⊥
IsConvertAnswer tells payload random d (Refused (Convert f)) = NoneFailed d × (tells → d.new ≡ d.old)
    × (tells → IsAnsweredFault d.volume payload d.total random f)
IsConvertAnswer tells payload random d DeviceFault = IsOneFailure d.volume_before d.volume_after d.before d.after
IsConvertAnswer tells payload random d NoMemory = NoneFailed d × (tells → d.new ≡ d.old)
    × (tells → IsAnsweredFault d.volume payload d.total random fault.Memory)
IsConvertAnswer tells payload random d a = ⊥

-- of the volume and the target, as `AnswersHeader` says
abbrev pub AnswersConvert : {D : Type 0} → Type 0 → (D → ℕ) → (D → List ℕ) → (D → ℕ) → Converting → (InputFault → Type 0) → (List ℕ → Type 0)
    → Result D InputFault → Result D InputFault → Result D InputFault → Result D InputFault → Answer → Type 0
AnswersConvert tells size bytes failed converting unread HasRandom volume volume_new old new a =
    AnswersHeader tells size bytes failed converting.over (IsConvertAnswer tells converting.payload) unread HasRandom volume volume_new old new a
