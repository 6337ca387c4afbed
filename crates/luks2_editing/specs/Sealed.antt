-- What writing a new key area and then both copies of a LUKS2 header may leave: words of private
-- contracts.
use Rattle.std.specs.Prelude.{◌≡◌, ℕ, ◌*◌, ◌≤◌, ◌⊎◌, List, drop, length, true, Some, ⊤}
use Rattle.serde_json.specs.Data.{Data as Value}
use Rattle.luks_area.specs.Ranges.{IsAt, IsOfEither, SameBut}
use Rattle.luks_area.specs.Sectors.{rounded_to_sectors}
use Rattle.luks2_header.specs.Header2.{hdr_size, header_at}
use Rattle.luks_slot.specs.declared.allowed.Allowed.{Allowed}
use Rattle.luks_slot.specs.declared.fault.SlotFault.{SlotFault}
use Rattle.luks_slot.specs.declared.fault.SlotFault.TheVariants as sealing
use Rattle.luks_slot.specs.declared.plan.SlotPlan.{SlotPlan}
use Rattle.luks_slot.specs.Opening.{area_bytes, stripe_bytes}
use Rattle.luks_slot.specs.Refusal.{is_argon2, slot_refusal_within}
use Rattle.luks_slot.specs.Sealing.{IsReadyToSeal, IsSealed}
use Rattle.luks_edit.specs.declared.edit.Edit.{Edit}
use Rattle.luks_edit.specs.declared.edit_fault.EditFault.{EditFault}
use Rattle.luks_edit.specs.declared.edit_fault.EditFault.TheVariants as fault
use Rattle.luks2_edit_laws.specs.Copies.{other_place, IsWrittenAnew}
use Rattle.luks2_edit_laws.specs.Places.{IsOfCopies}

-- the place is of the sectors that hold the stripes of the plan's keyslot
abbrev pub IsOfStripes : SlotPlan → ℕ → Type 0
IsOfStripes plan = IsAt plan.area.start (rounded_to_sectors (stripe_bytes plan))

-- the key can be sealed by the plan with these random bytes but the first 160, of which the header takes: its area lies behind
-- copies of `h` bytes
pub record IsReadyPlan (h : ℕ) (plan : SlotPlan) (key random : List ℕ) (total : ℕ) : Type 0 where
  pub long : 160 ≤ length random
  pub sealed : IsReadyToSeal plan key (drop 160 random) total
  pub behind : 2 * h ≤ plan.area.start

-- the fault of sealing as that of an edit
abbrev pub sealing_fault : SlotFault → EditFault
sealing_fault sealing.Device = fault.Device
sealing_fault sealing.Memory = fault.Memory
sealing_fault f = fault.Slot f

-- why the key isn't sealed, where so much is allowed: the plan is refused, memory was
-- refused to Argon2, or the device failed
abbrev pub IsPlanFault : Allowed → SlotPlan → EditFault → Type 0
IsPlanFault allowed plan (fault.Slot f) = slot_refusal_within allowed plan ≡ Some f
IsPlanFault allowed plan fault.Memory = is_argon2 plan.derivation ≡ true
IsPlanFault allowed plan fault.Device = ⊤
IsPlanFault allowed plan f = ⊥

-- the key is sealed, and the copy of `v` that is at the place `o` is as it was
pub record IsOtherTorn
    (v : List ℕ) (o : ℕ) (plan : SlotPlan) (passphrase key stripes : List ℕ) (u w : List ℕ)
    : Type 0 where
  pub sealed : IsSealed plan (area_bytes w plan.area) passphrase key stripes
  pub rest : SameBut (IsOfEither (IsOfStripes plan)
      (IsAt (other_place (hdr_size (header_at v o)) o) (hdr_size (header_at v o)))) u w

-- the key is sealed, and the other copy takes the place of the one at `o`
pub record IsChosenTorn
    (v : List ℕ) (o : ℕ) (e : Edit) (random : List ℕ) (j : Value)
    (plan : SlotPlan) (passphrase key stripes : List ℕ) (u w : List ℕ)
    : Type 0 where
  pub sealed : IsSealed plan (area_bytes w plan.area) passphrase key stripes
  pub other : IsWrittenAnew v o e random j w (other_place (hdr_size (header_at v o)) o)
  pub rest : SameBut (IsOfEither (IsOfStripes plan) (IsOfCopies (hdr_size (header_at v o)))) u w

-- what is left of the volume `u` by the step that was under way, or all of them
abbrev pub MayBeHalfSealed :
    List ℕ → ℕ → Edit → List ℕ → Value → SlotPlan → List ℕ → List ℕ → List ℕ → List ℕ → List ℕ
    → Type 0
MayBeHalfSealed v o e random j plan passphrase key stripes u w =
    SameBut (IsOfStripes plan) u w
    ⊎ IsOtherTorn v o plan passphrase key stripes u w
    ⊎ IsChosenTorn v o e random j plan passphrase key stripes u w
