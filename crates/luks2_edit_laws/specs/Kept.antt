-- When a change of a LUKS2 volume leaves a keyslot as it was.
use Rattle.std.specs.Prelude.{◌≡◌, ◌↔◌, ℕ, List, length}
use Rattle.luks_area.specs.Ranges.{part}
use Rattle.luks1_header.specs.declared.fault.HeadFault.{HeadFault}
use Rattle.luks2_header.specs.Header2.{header_at, uuid_field, IsUuidFault}
use Rattle.luks2_header.specs.Selection.{luks2, Chosen}
use Rattle.luks2_header.specs.declared.selection.Copies.{Copies}
use Rattle.luks_rules.specs.declared.fault.MetaFault.{MetaFault}
use Rattle.luks_rules.specs.MetaFault.{IsMetaFault}
use Rattle.luks_slot.specs.declared.plan.SlotPlan.{SlotPlan}
use Rattle.luks_reading.specs.Answer.{HasNoKeyslot}
use Rattle.luks_reading.specs.Header.{json_at}
use Rattle.luks_reading.specs.Plans.{HasLuks2Plan}

-- the keyslot `m` is in both JSON areas or in neither, and has the same plans in both
pub record IsSameKeyslot (old new : List ℕ) (m : ℕ) : Type 0 where
  pub absent : HasNoKeyslot old m ↔ HasNoKeyslot new m
  pub plans : (plan : SlotPlan) → HasLuks2Plan old m plan ↔ HasLuks2Plan new m plan

-- the copies of `v` and `w` that count have metadata with no fault, and uuids with the same faults, if with
-- any; they say the same of the keyslot `m`, and the bytes of its area are the same: all that the keyslot needs
pub record HasSameKeyslot (v w : List ℕ) (m : ℕ) : Type 0 where
  pub old_place : ℕ
  pub old_copies : Copies
  pub old_chosen : Chosen v (luks2 old_place old_copies)
  pub new_place : ℕ
  pub new_copies : Copies
  pub new_chosen : Chosen w (luks2 new_place new_copies)
  pub long : length w ≡ length v
  pub uuid : (f : HeadFault) → IsUuidFault (uuid_field (header_at v old_place)) f ↔ IsUuidFault (uuid_field (header_at w new_place)) f
  pub old_faultless : (f : MetaFault) → IsMetaFault (json_at v old_place) f → ⊥
  pub new_faultless : (f : MetaFault) → IsMetaFault (json_at w new_place) f → ⊥
  pub slot : IsSameKeyslot (json_at v old_place) (json_at w new_place) m
  pub bytes : (plan : SlotPlan) → HasLuks2Plan (json_at v old_place) m plan
      → part w plan.area.start plan.area.len ≡ part v plan.area.start plan.area.len
