-- What the keyslots of metadata give by themselves: the metadata's own equations, applied to the
-- bytes of the volume where their key areas stand.
use Rattle.std.specs.Prelude.{◌≡◌, ℕ, List, Option, Some, None}
use Rattle.luks_area.specs.First.{IsLeast}
use Rattle.luks_area.specs.Ranges.{part}
use Rattle.luks_slot.specs.Opening.{slot_key}
use Rattle.luks_slot.specs.declared.allowed.Allowed.{Allowed}
use Rattle.luks_slot.specs.declared.plan.SlotPlan.{SlotPlan}
use Rattle.luks_reading.specs.Answer.{open_key, opens, no_key, refused, HasNoKeyslot, HasRefusedPlanWithin, Opened}
use Rattle.luks_reading.specs.Plans.{HasLuks2Plan}
use Rattle.luks_reading.specs.declared.open_fault.OpenFault.{OpenFault}
use Rattle.luks_reading.specs.declared.open_fault.OpenFault.TheVariants.{Head, Meta, NoSuchSlot, SlotFree, Outside, Slot, Device, Memory}

-- what refuses the keyslot `n` of the metadata in the JSON area, where so much is allowed: it isn't
-- there, or its plan is refused
abbrev pub IsRefusedSlot : Allowed → List ℕ → ℕ → OpenFault → Type 0
IsRefusedSlot allowed json n (Head f) = ⊥
IsRefusedSlot allowed json n (Meta f) = ⊥
IsRefusedSlot allowed json n NoSuchSlot = HasNoKeyslot json n
IsRefusedSlot allowed json n SlotFree = ⊥
IsRefusedSlot allowed json n Outside = ⊥
IsRefusedSlot allowed json n (Slot f) = HasRefusedPlanWithin allowed (HasLuks2Plan json n) f
IsRefusedSlot allowed json n Device = ⊥
IsRefusedSlot allowed json n Memory = ⊥

-- nothing refuses it, and its plan gives `found` of the bytes of its area in the volume `v`
pub record GivesKey (allowed : Allowed) (json v : List ℕ) (n : ℕ) (p : List ℕ) (found : Option (List ℕ)) : Type 0 where
  pub plan : SlotPlan
  pub is : HasLuks2Plan json n plan
  pub unrefused : (f : OpenFault) → IsRefusedSlot allowed json n f → ⊥
  pub key : slot_key plan (part v plan.area.start plan.area.len) p ≡ found

-- what the keyslot gives by the passphrase `p`
abbrev pub Gives : Allowed → List ℕ → List ℕ → ℕ → List ℕ → Opened → Type 0
Gives allowed json v n p (refused f) = IsLeast open_key (IsRefusedSlot allowed json n) f
Gives allowed json v n p (opens k) = GivesKey allowed json v n p (Some k)
Gives allowed json v n p no_key = GivesKey allowed json v n p None
