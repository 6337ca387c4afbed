-- What has been judged of the chosen copy that the narrow reading refuses by the fault `known` of its metadata.
use Rattle.std.specs.Prelude.{◌≡◌, List, ℕ, ⊤}
use Rattle.luks_area.specs.First.{IsLeast}
use Rattle.luks1_header.specs.declared.fault.HeadFault.{HeadFault}
use Rattle.luks1_header.specs.Faults.{head_key}
use Rattle.luks2_header.specs.Header2.{IsUuidFault}
use Rattle.luks_rules.specs.declared.fault.MetaFault.{MetaFault}
use Rattle.luks_reading.specs.declared.read_fault.ReadFault.TheVariants as reading
use Rattle.luks_wider.specs.Wide.{HasUnderWay}
use Rattle.luks_wider.specs.WideFaults.{wide_key, IsUnderWayFault}
use Rattle.luks_wide_reading.specs.declared.read_fault.WideReadFault.{WideReadFault}
use Rattle.luks_wide_reading.specs.declared.read_fault.WideReadFault.TheVariants.{Read, Underway}

-- its JSON area is refused, unless memory was: by that fault where nothing is under way
abbrev pub AreaRefused : List ℕ → MetaFault → WideReadFault → Type 0
AreaRefused area known (Read (reading.Head f)) = ⊥
AreaRefused area known (Read (reading.Meta f)) = (f ≡ known) × (HasUnderWay area → ⊥)
AreaRefused area known (Read reading.Device) = ⊥
AreaRefused area known (Read reading.Memory) = ⊤
AreaRefused area known (Underway f narrow) = (narrow ≡ known) × HasUnderWay area × IsLeast wide_key (IsUnderWayFault area) f

-- the copy is refused by its uuid or by its JSON area, unless the device failed or memory was refused
abbrev pub CopyRefused : List ℕ → List ℕ → MetaFault → WideReadFault → Type 0
CopyRefused uuid json known (Read (reading.Head f)) = IsLeast head_key (IsUuidFault uuid) f
CopyRefused uuid json known (Read (reading.Meta f)) = ((g : HeadFault) → IsUuidFault uuid g → ⊥) × AreaRefused json known (Read (reading.Meta f))
CopyRefused uuid json known (Read reading.Device) = ⊤
CopyRefused uuid json known (Read reading.Memory) = (g : HeadFault) → IsUuidFault uuid g → ⊥
CopyRefused uuid json known (Underway f narrow) = ((g : HeadFault) → IsUuidFault uuid g → ⊥) × AreaRefused json known (Underway f narrow)
