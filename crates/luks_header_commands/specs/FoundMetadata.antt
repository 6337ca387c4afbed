-- A LUKS2 header that is made of metadata that was found for the volume `v`, and what is answered then.
use Rattle.std.specs.Prelude.{◌≡◌, ◌↔◌, ℕ, List, Option, None}
use Rattle.luks_area.specs.Ranges.{SameBut}
use Rattle.luks_writing.specs.TwoDevices.{IsOneFailure}
use Rattle.luks_slot.specs.declared.allowed.Allowed.{Allowed}
use Rattle.luks_reading.specs.Answer.{AnswerWithin as Opening, Opened}
use Rattle.luks_reading.specs.Checked.{WellFormed}
use Rattle.luks_reading.specs.declared.report.Data.TheVariants.{Elsewhere}
use Rattle.luks_rebuilding.specs.Gives.{Gives}
use Rattle.luks_rebuilding.specs.Making.{source_with, IsAnsweredMaking, IsMakeable}
use Rattle.luks_rebuilding.specs.Rebuilt.{IsMade, IsOfHeader}
use Rattle.luks_rebuilding.specs.declared.place.Place.{Place}
use Rattle.luks_rebuilding.specs.declared.rebuild_fault.RebuildFault.TheVariants as fault
use Rattle.luks_commands.specs.declared.answers.Answer.{Answer}
use Rattle.luks_commands.specs.declared.answers.Answer.TheVariants.{Done, Refused, DeviceFault, NoMemory}
use Rattle.luks_commands.specs.declared.answers.Refusal.TheVariants.{Rebuild}
use Rattle.luks_header_commands.specs.Target.{NoneFailed, Pair}

-- `new` is the target `old` after a header was made on it of the JSON area `json`, as that of the copy at the place
pub record IsMadeHeader2 (v json : List ℕ) (place : Place) (given : Option (List ℕ)) (random old new : List ℕ) : Type 0 where
  pub made : IsMade v given random old new (source_with json place)
  pub well_formed : WellFormed new Elsewhere
  -- each keyslot gives what the equations give for that metadata and the volume's key areas
  pub opens : (allowed : Allowed) (n : ℕ) (p : List ℕ) (a : Opened) → Gives allowed json v n p a ↔ Opening allowed new n p a

-- which bytes may have changed: those of both copies of that header, and of its key areas
abbrev pub KeepsMade2 : List ℕ → Place → List ℕ → List ℕ → Type 0
KeepsMade2 json place old new = SameBut (IsOfHeader (source_with json place)) old new

-- with these random bytes; whether a header of the volume counts is no matter
abbrev pub IsMadeAnswer2 : Type 0 → List ℕ → Place → Option (List ℕ) → List ℕ → Pair → Answer → Type 0
IsMadeAnswer2 tells json place given random d (Done slot) = NoneFailed d × (slot ≡ None)
    × (tells → IsMakeable d.volume (source_with json place) given d.total random) × (tells → IsMadeHeader2 d.volume json place given random d.old d.new)
IsMadeAnswer2 tells json place given random d (Refused (Rebuild fault.Device)) = ⊥
IsMadeAnswer2 tells json place given random d (Refused (Rebuild fault.Memory)) = ⊥
IsMadeAnswer2 tells json place given random d (Refused (Rebuild f)) = NoneFailed d × (tells → d.new ≡ d.old)
    × (tells → IsAnsweredMaking d.volume (source_with json place) given d.total random f)
IsMadeAnswer2 tells json place given random d DeviceFault = IsOneFailure d.volume_before d.volume_after d.before d.after
IsMadeAnswer2 tells json place given random d NoMemory = NoneFailed d × (tells → d.new ≡ d.old)
    × (tells → IsAnsweredMaking d.volume (source_with json place) given d.total random fault.Memory)
IsMadeAnswer2 tells json place given random d a = ⊥
