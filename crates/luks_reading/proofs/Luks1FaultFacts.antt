-- A judged LUKS1 volume: its areas' first fault is its own first fault.
use Rattle.std.proofs.Common.{ℕ, List, arith}
use Rattle.luks_area.specs.declared.area.AreaFault.{AreaFault}
use Rattle.luks_area.specs.Area.{IsAreaFault, area_key}
use Rattle.luks_area.specs.First.{NotAfter, IsLeast}
use Rattle.luks1_header.specs.declared.fault.HeadFault.{HeadFault}
use Rattle.luks1_header.specs.Faults.{IsLuks1Fault as IsLuks1HeadFault}
use Rattle.luks_reading.specs.declared.check_fault.CheckFault.{CheckFault}
use Rattle.luks_reading.specs.declared.check_fault.CheckFault.TheVariants.{Head, Area}
use Rattle.luks_reading.specs.declared.report.Data.{Data}
use Rattle.luks_reading.specs.Checked.{check_key, IsLuks1Fault}
use Rattle.luks_reading.specs.Layout1.{Luks1Area}

pub least_area : (h : List ℕ) (payload : Data) (total : ℕ) (f : AreaFault) → ((g : HeadFault) → IsLuks1HeadFault h g → ⊥)
    → IsLeast area_key (IsAreaFault (Luks1Area h payload total) total) f → IsLeast check_key (IsLuks1Fault h payload total) (Area f)
least_area h payload total f faultless least = (least.0, after)
  where
    after : (g : CheckFault) → IsLuks1Fault h payload total g → NotAfter (check_key (Area f)) (check_key g)
    after (Head g) is = absurd (faultless g is)
    after (Area g) is = (omega arith, λ _. least.1 g is)
    after other is = absurd is
