-- When no combination gives a header.
use Rattle.std.specs.Prelude.{◌≡◌, ◌≤◌, ℕ, List, length, Some, ⊤}
use Rattle.luks_area.specs.First.{IsLeast}
use Rattle.luks1_header.specs.declared.fault.HeadFault.TheVariants as head
use Rattle.luks1_header.specs.declared.fault.IterationsOf.TheVariants.{Digest}
use Rattle.luks1_header.specs.declared.fault.TextField.{TextField}
use Rattle.luks1_header.specs.declared.fault.TextField.TheVariants.{CipherMode, CipherName, HashSpec, Uuid}
use Rattle.luks1_mending.specs.Taken.{given_text, IsFieldFault, IsName}
use Rattle.luks1_mending.specs.declared.given.Given.{Given}
use Rattle.luks1_rebuilding.specs.KeyAreas.{header_of}
use Rattle.luks1_rebuilding.specs.Outcome.{IsReencrypted, LacksHeader}
use Rattle.luks1_rebuilding.specs.RebuildFaults.{rebuild_key}
use Rattle.luks1_rebuilding.specs.declared.rebuild_fault.Rebuild1Fault.{Rebuild1Fault}
use Rattle.luks1_rebuilding.specs.declared.rebuild_fault.Rebuild1Fault.TheVariants.{Counts, Reencrypting, NoHeader, Text, KeyBytes, Iterations, TooSmall, Area, Device}

-- the name that is given for the field isn't one
pub record IsGivenUnusable (g : Given) (t : TextField) : Type 0 where
  pub text : List ℕ
  pub given : given_text g t ≡ Some text
  pub bad : IsName text → ⊥

-- so is the length
pub record IsGivenLengthUnusable (g : Given) : Type 0 where
  pub len : ℕ
  pub given : g.key_bytes ≡ Some len
  pub bad : 1 ≤ len → len ≤ 128 → ⊥

-- nothing usable is tried for the field: of the uuid and the iterations what stands or is given decides
abbrev pub LacksText : List ℕ → Given → TextField → Type 0
LacksText h g CipherName = IsGivenUnusable g CipherName
LacksText h g CipherMode = IsGivenUnusable g CipherMode
LacksText h g HashSpec = IsGivenUnusable g HashSpec
LacksText h g Uuid = IsFieldFault h g (head.Text Uuid)

-- the faults that stand with each combination, of a volume of `source` bytes that begins with the 592 bytes `h`
abbrev pub IsFaultOfAll : List ℕ → ℕ → Given → Rebuild1Fault → Type 0
IsFaultOfAll h source g Counts = ⊥
IsFaultOfAll h source g Reencrypting = IsReencrypted h source
IsFaultOfAll h source g NoHeader = LacksHeader h source
IsFaultOfAll h source g (Text t) = LacksText h g t
IsFaultOfAll h source g KeyBytes = IsGivenLengthUnusable g
IsFaultOfAll h source g Iterations = IsFieldFault h g (head.Iterations Digest)
IsFaultOfAll h source g TooSmall = ⊥
IsFaultOfAll h source g (Area f) = ⊥
IsFaultOfAll h source g Device = ⊥

-- those of the volume `v`
abbrev pub IsTrialFault : List ℕ → Given → Rebuild1Fault → Type 0
IsTrialFault v g f = IsFaultOfAll (header_of v) (length v) g f

-- the answer is the first of them; or the device failed
abbrev pub IsAnsweredTrialFault : List ℕ → Given → Rebuild1Fault → Type 0
IsAnsweredTrialFault v g Device = ⊤
IsAnsweredTrialFault v g f = IsLeast rebuild_key (IsTrialFault v g) f
