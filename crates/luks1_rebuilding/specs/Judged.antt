-- What has been judged on the way to a header: words of private contracts.
use Rattle.std.specs.Prelude.{◌≡◌, ◌⊎◌, ℕ, ◌<◌, ◌≤◌, List}
use Rattle.luks_area.specs.First.{IsLeast}
use Rattle.luks_area.specs.declared.area.AreaFault.TheVariants.{Overlap}
use Rattle.luks1_header.specs.Header1.{luks1_size}
use Rattle.luks1_header.specs.Written.{WritesLuks1}
use Rattle.luks1_header.specs.declared.luks1.Luks1.{Luks1}
use Rattle.luks_reading.specs.Checked.{check_key, IsLuks1Fault}
use Rattle.luks_reading.specs.declared.check_fault.CheckFault.{CheckFault}
use Rattle.luks_reading.specs.declared.check_fault.CheckFault.TheVariants as check
use Rattle.luks_reading.specs.declared.report.Data.TheVariants.{Elsewhere}
use Rattle.luks1_rebuilding.specs.Outcome.{least_target}
use Rattle.luks1_rebuilding.specs.declared.rebuild_fault.Rebuild1Fault.{Rebuild1Fault}
use Rattle.luks1_rebuilding.specs.declared.rebuild_fault.Rebuild1Fault.TheVariants.{NoHeader, TooSmall, Area, Device}

-- the first bytes aren't read: there are too few, or the device failed
abbrev pub IsShort : ℕ → Rebuild1Fault → Type 0
IsShort total f = ((f ≡ NoHeader) × (total < luks1_size)) ⊎ (f ≡ Device)

-- the fault of what is made, as it is answered
abbrev pub target_fault : CheckFault → Rebuild1Fault
target_fault (check.Area (Overlap m n)) = Area (Overlap m n)
target_fault f = TooSmall

-- the header isn't accepted on a target of `total` bytes
pub record IsJudged (d : Luks1) (total : ℕ) (f : Rebuild1Fault) : Type 0 where
  pub large : least_target ≤ total
  pub bytes : List ℕ
  pub written : WritesLuks1 bytes d
  pub fault : CheckFault
  pub first : IsLeast check_key (IsLuks1Fault bytes Elsewhere total) fault
  pub is : f ≡ target_fault fault

abbrev pub IsUnfit : Luks1 → ℕ → Rebuild1Fault → Type 0
IsUnfit d total f = ((f ≡ TooSmall) × (total < least_target)) ⊎ IsJudged d total f
