-- A LUKS1 header that is made of one that was found near to what is in the volume `v`, and what is answered then.
use Rattle.std.specs.Prelude.{◌≡◌, ℕ, List, None, ⊤}
use Rattle.luks_area.specs.Ranges.{part, SameBut}
use Rattle.luks_area.specs.declared.area.Area.{Area}
use Rattle.luks_writing.specs.TwoDevices.{IsOneFailure}
use Rattle.luks_slot.specs.declared.allowed.Allowed.{Allowed}
use Rattle.luks_reading.specs.Answer.{AnswerWithin as Opening, opens}
use Rattle.luks1_mending.specs.declared.given.Given.{Given}
use Rattle.luks1_rebuilding.specs.Headed.{headed}
use Rattle.luks1_rebuilding.specs.KeyAreas.{HasKeptArea}
use Rattle.luks1_rebuilding.specs.Outcome.{IsAnsweredMaking, IsMakeable}
use Rattle.luks1_rebuilding.specs.Rebuilt.{IsOfRebuilt}
use Rattle.luks1_rebuilding.specs.declared.rebuild_fault.Rebuild1Fault.TheVariants as fault1
use Rattle.luks_commands.specs.declared.answers.Answer.{Answer}
use Rattle.luks_commands.specs.declared.answers.Answer.TheVariants.{Done, Refused, DeviceFault}
use Rattle.luks_commands.specs.declared.answers.Refusal.TheVariants.{Rebuild1}
use Rattle.luks_header_commands.specs.Rebuilding.{IsNewHeader1}
use Rattle.luks_header_commands.specs.Target.{NoneFailed, Pair}

-- ---- of a header in the place of the volume's

-- `new` is the target `old` after a header was made on it of the header `h` in the place of that of `v`, and of what is given
pub record IsHeadedHeader (v h : List ℕ) (given : Given) (old new : List ℕ) : Type 0 where
  pub made : IsNewHeader1 (headed v h) given old new
  -- each key area has the bytes that it has in the volume
  pub areas : (n : ℕ) (a : Area) → HasKeptArea (headed v h) given n a → part new a.start a.len ≡ part v a.start a.len

-- which bytes may have changed: those that `rebuild` may change of a volume with that header
abbrev pub KeepsHeaded : List ℕ → Given → List ℕ → List ℕ → List ℕ → Type 0
KeepsHeaded h given volume old new = SameBut (IsOfRebuilt (headed volume h) given) old new

-- whether that header, or the volume's, counts is no matter: so LUKS1 answers as without a passphrase, except for `Counts`
abbrev pub IsHeadedAnswer : Type 0 → List ℕ → Given → Pair → Answer → Type 0
IsHeadedAnswer tells h given d (Done slot) = NoneFailed d × (slot ≡ None)
    × (tells → IsMakeable (headed d.volume h) given d.total) × (tells → IsHeadedHeader d.volume h given d.old d.new)
IsHeadedAnswer tells h given d (Refused (Rebuild1 fault1.Device)) = ⊥
IsHeadedAnswer tells h given d (Refused (Rebuild1 f)) = NoneFailed d × (tells → d.new ≡ d.old)
    × (tells → IsAnsweredMaking (headed d.volume h) given d.total f)
IsHeadedAnswer tells h given d DeviceFault = IsOneFailure d.volume_before d.volume_after d.before d.after
IsHeadedAnswer tells h given d a = ⊥

-- ---- the keyslot

-- by the header `new` the passphrase opens the keyslot, whatever is allowed
pub record OpensMade (new p : List ℕ) (n : ℕ) : Type 0 where
  pub key : List ℕ
  pub opens : (allowed : Allowed) → Opening allowed new n p (opens key)

-- so it is where the header is made
abbrev pub OpensWhereDone : Answer → List ℕ → List ℕ → ℕ → Type 0
OpensWhereDone (Done slot) new p n = OpensMade new p n
OpensWhereDone a new p n = ⊤
