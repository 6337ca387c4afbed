-- What is answered and left where LUKS2 is refused by a fault: words of private contracts.
use Rattle.std.specs.Prelude.{◌≡◌, ◌≢◌, ◌⊎◌, ℕ, List, length, ⊤}
use Rattle.luks_writing.specs.TwoDevices.{IsOneFailure}
use Rattle.luks_rebuilding.specs.declared.rebuild_fault.RebuildFault.{RebuildFault}
use Rattle.luks_rebuilding.specs.declared.rebuild_fault.RebuildFault.TheVariants.{Counts, NoMetadata}
use Rattle.luks1_mending.specs.declared.given.Given.{Given}
use Rattle.luks1_rebuilding.specs.KeyAreas.{header_of}
use Rattle.luks1_rebuilding.specs.Outcome.{LacksHeader}
use Rattle.luks1_rebuilding.specs.declared.rebuild_fault.Rebuild1Fault.TheVariants.{NoHeader}
use Rattle.luks_commands.specs.declared.answers.Answer.{Answer}
use Rattle.luks_commands.specs.declared.answers.Answer.TheVariants.{Refused, DeviceFault}
use Rattle.luks_commands.specs.declared.answers.Refusal.TheVariants.{Rebuild, Rebuild1}
use Rattle.luks_header_commands.specs.Rebuilding.{IsLuks1Answer, KeepsRest1, LeadsToLuks1}
use Rattle.luks_header_commands.specs.Target.{NoneFailed, Pair}

-- the faults of LUKS2 that may lead to LUKS1
abbrev pub MayLead : RebuildFault → Type 0
MayLead NoMetadata = ⊤
MayLead Counts = ⊤
MayLead f = ⊥

-- the fault is the answer, where it doesn't lead to LUKS1 or the volume lacks a header of it; or the volume's first bytes
-- weren't read; or LUKS1 answers
pub data Turned (tells : Type 0) (luks1 : Given) (fault : RebuildFault) (d : Pair) (a : Answer) : Type 0 where
  stays : NoneFailed d → (tells → d.new ≡ d.old) → (tells → LeadsToLuks1 d.volume fault → LacksHeader (header_of d.volume) (length d.volume))
      → a ≡ Refused (Rebuild fault) → Turned tells luks1 fault d a
  unread : IsOneFailure d.volume_before d.volume_after d.before d.after → a ≡ DeviceFault → Turned tells luks1 fault d a
  turns : (tells → LeadsToLuks1 d.volume fault) → IsLuks1Answer tells luks1 d a → a ≢ Refused (Rebuild1 NoHeader)
      → Turned tells luks1 fault d a

-- nothing has changed, or what LUKS1 may have changed
abbrev pub IsTurnedRest : Given → RebuildFault → List ℕ → List ℕ → List ℕ → Type 0
IsTurnedRest luks1 fault volume old new =
    (new ≡ old) ⊎ (LeadsToLuks1 volume fault × KeepsRest1 luks1 volume old new)
