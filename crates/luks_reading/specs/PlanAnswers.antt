-- What a plan gives in a volume, whichever header it was read from.
use Rattle.std.specs.Prelude.{◌≡◌, ℕ, ◌+◌, ◌<◌, ◌≤◌, List, length, true, Option, Some, None, ⊤}
use Rattle.luks_area.specs.Ranges.{part}
use Rattle.luks_area.specs.Sectors.{rounded_to_sectors}
use Rattle.luks_slot.specs.declared.allowed.Allowed.{Allowed}
use Rattle.luks_slot.specs.declared.plan.SlotPlan.{SlotPlan}
use Rattle.luks_slot.specs.Opening.{slot_key, stripe_bytes, HasIterations}
use Rattle.luks_slot.specs.Refusal.{is_argon2, slot_refusal_within}
use Rattle.luks_reading.specs.declared.open_fault.OpenFault.{OpenFault}
use Rattle.luks_reading.specs.declared.open_fault.OpenFault.TheVariants.{Head, Meta, NoSuchSlot, SlotFree, Outside, Slot, Device, Memory}
use Rattle.luks_reading.specs.Failures.{is_own}

-- the plan's numbers are those of a header that has been judged, and its area holds the sectors
pub record IsOpenable (plan : SlotPlan) : Type 0 where
  pub turns : HasIterations plan.derivation
  pub digest_turns : 1 ≤ plan.digest.iterations
  pub digest_length : length plan.digest.stored.now ≤ 64
  pub some_bytes : 1 ≤ plan.key_bytes
  pub at_most_128 : plan.key_bytes ≤ 128
  pub some_stripes : 1 ≤ plan.stripes
  pub sectors : rounded_to_sectors (stripe_bytes plan) ≤ plan.area.len

-- ---- where so much is allowed

-- the plan opens to `found` in the volume `v` by the passphrase `p`
pub record PlanOpens (allowed : Allowed) (plan : SlotPlan) (v p : List ℕ) (found : Option (List ℕ)) : Type 0 where
  pub inside : plan.area.start + plan.area.len ≤ length v
  pub accepted : slot_refusal_within allowed plan ≡ None
  pub is : found ≡ slot_key plan (part v plan.area.start plan.area.len) p

-- the plan's area is inside a volume of `total` bytes, and nothing refuses the plan
pub record IsPlanAccepted (allowed : Allowed) (plan : SlotPlan) (total : ℕ) : Type 0 where
  pub inside : plan.area.start + plan.area.len ≤ total
  pub accepted : slot_refusal_within allowed plan ≡ None

-- the plan is refused by `f` in a volume of `total` bytes
abbrev pub IsPlanRefusal : Allowed → SlotPlan → ℕ → OpenFault → Type 0
IsPlanRefusal allowed plan total (Head f) = ⊥
IsPlanRefusal allowed plan total (Meta f) = ⊥
IsPlanRefusal allowed plan total NoSuchSlot = ⊥
IsPlanRefusal allowed plan total SlotFree = ⊥
IsPlanRefusal allowed plan total Outside = total < plan.area.start + plan.area.len
IsPlanRefusal allowed plan total (Slot f) = (plan.area.start + plan.area.len ≤ total) × (slot_refusal_within allowed plan ≡ Some f)
IsPlanRefusal allowed plan total Device = ⊥
IsPlanRefusal allowed plan total Memory = ⊥

-- nothing refuses the plan, and it derives by Argon2
pub record PlanTakesMemory (allowed : Allowed) (plan : SlotPlan) (total : ℕ) : Type 0 where
  pub accepted : IsPlanAccepted allowed plan total
  pub argon2 : is_argon2 plan.derivation ≡ true

-- the plan is refused, unless the device failed, or memory was refused that it takes
abbrev pub PlanRefused : Allowed → SlotPlan → ℕ → OpenFault → Type 0
PlanRefused allowed plan total f = (is_own f ≡ true → IsPlanRefusal allowed plan total f) × (f ≡ Memory → PlanTakesMemory allowed plan total)

-- the fault isn't the volume's own: the device failed, or memory was refused
abbrev pub IsOfDevice : OpenFault → Type 0
IsOfDevice (Head f) = ⊥
IsOfDevice (Meta f) = ⊥
IsOfDevice NoSuchSlot = ⊥
IsOfDevice SlotFree = ⊥
IsOfDevice Outside = ⊥
IsOfDevice (Slot f) = ⊥
IsOfDevice Device = ⊤
IsOfDevice Memory = ⊤
