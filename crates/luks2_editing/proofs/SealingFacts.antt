-- A new key area that is sealed before both copies of a LUKS2 header are written anew.
use Rattle.std.proofs.Common.{◌≡◌, ◌≢◌, ℕ, ◌*◌, ◌≤◌, List, false, inl, inr, refl, arith}
use Rattle.serde_json.specs.Data.{Data as Value}
use Rattle.luks_area.specs.declared.area.Area.{Area}
use Rattle.luks_area.specs.Ranges.{SameBut}
use Rattle.luks_area.proofs.RangeFacts.{part-same_but, same_but-either}
use Rattle.luks_slot.specs.declared.allowed.Allowed.{Allowed}
use Rattle.luks_slot.specs.declared.fault.SlotFault.{SlotFault}
use Rattle.luks_slot.specs.declared.fault.SlotFault.TheVariants as sealing
use Rattle.luks_slot.specs.declared.plan.SlotPlan.{SlotPlan}
use Rattle.luks_slot.specs.Fault.{is_device_fault, IsAnsweredWithin}
use Rattle.luks_slot.specs.Opening.{area_bytes}
use Rattle.luks_slot.specs.Sealing.{IsSealed}
use Rattle.luks_edit.specs.declared.edit.Edit.{Edit}
use Rattle.luks_edit.specs.declared.edit_fault.EditFault.TheVariants as fault
use Rattle.luks2_edit_laws.specs.Places.{IsOfCopies}
use Rattle.luks2_editing.specs.Rewriting.{MayBeHalfWritten}
use Rattle.luks2_editing.specs.Sealed.{sealing_fault, IsOfStripes, IsPlanFault, MayBeHalfSealed}

-- ---- the fault of sealing

-- it is that of the plan
pub unsealed_fault : (allowed : Allowed) (plan : SlotPlan) (f : SlotFault) → IsAnsweredWithin allowed plan f → IsPlanFault allowed plan (sealing_fault f)
unsealed_fault allowed plan sealing.Argon2 x = x
unsealed_fault allowed plan sealing.Cipher x = x
unsealed_fault allowed plan sealing.Hash x = x
unsealed_fault allowed plan sealing.KeySize x = x
unsealed_fault allowed plan sealing.Device x = tt
unsealed_fault allowed plan sealing.Memory x = x.1

-- where it isn't, nor was it
pub unsealed_own : (f : SlotFault) → sealing_fault f ≢ fault.Device → is_device_fault f ≡ false
unsealed_own sealing.Argon2 other = refl
unsealed_own sealing.Cipher other = refl
unsealed_own sealing.Hash other = refl
unsealed_own sealing.KeySize other = refl
unsealed_own sealing.Device other = absurd (other refl)
unsealed_own sealing.Memory other = refl

-- ---- an area and the copies

-- an area behind the copies stays where they are written
pub area_behind : (h : ℕ) (area : Area) (v w : List ℕ) → 2 * h ≤ area.start → SameBut (IsOfCopies h) v w → area_bytes w area ≡ area_bytes v area
area_behind h area v w behind same = part-same_but area.start area.len same (λ p here there. let low = here.0 in absurd (omega (arith, low, there, behind)))

-- what the writes of the copies leave after it
module _ (v : List ℕ) (o : ℕ) (e : Edit) (random : List ℕ) (j : Value) (plan : SlotPlan) (passphrase key stripes : List ℕ) (u mid w : List ℕ)
    (sealing : SameBut (IsOfStripes plan) u mid)
    (sealed : IsSealed plan (area_bytes w plan.area) passphrase key stripes) where
  pub half_sealed : MayBeHalfWritten v o e random j mid w → MayBeHalfSealed v o e random j plan passphrase key stripes u w
  half_sealed (inl same) = inr (inl (record { sealed = sealed; rest = same_but-either sealing same }))
  half_sealed (inr half) = inr (inr (record { sealed = sealed; other = half.other; rest = same_but-either sealing half.rest }))
