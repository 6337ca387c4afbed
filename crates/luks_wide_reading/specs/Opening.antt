-- What opening a keyslot gives where something is under way in the metadata of the JSON area `json`. No equation changes: the plan is that of
-- LUKS2 On-Disk Format 1.1, 3.2 and 3.4, with the digest that the keyslot is assigned to.
use Rattle.std.specs.Prelude.{◌≡◌, ℕ, ◌<◌, List, length, true, Option, Result, IfOk, IfErr}
use Rattle.serde_json.specs.Data.{Data}
use Rattle.luks_area.specs.First.{IsLeast}
use Rattle.luks_area.specs.Ranges.{part}
use Rattle.luks_json.specs.AreaText.{Json}
use Rattle.luks_slot.specs.declared.allowed.Allowed.{Allowed}
use Rattle.luks_slot.specs.declared.plan.SlotPlan.{SlotPlan}
use Rattle.luks_slot.specs.Opening.{slot_key}
use Rattle.luks_slot.specs.Refusal.{is_argon2}
use Rattle.luks_reading.specs.declared.open_fault.OpenFault.TheVariants as opening
use Rattle.luks_reading.specs.Answer.{HasAreaPast, HasNoKeyslot, HasRefusedPlanWithin}
use Rattle.luks_reading.specs.Plans.{HasLuks2Plan}
use Rattle.luks_underway.specs.Kinds.{has_reencrypt}
use Rattle.luks_wide_reading.specs.declared.open_fault.WideOpenFault.{WideOpenFault}
use Rattle.luks_wide_reading.specs.declared.open_fault.WideOpenFault.TheVariants.{Open, NoKey}
use Rattle.luks_wide_reading.specs.Faults.{is_wide_own, wide_open_key}

-- the keyslot `n` is there, and holds no key
pub record HasNoKey (json : List ℕ) (n : ℕ) : Type 0 where
  pub value : Data
  pub holds : Json json value
  pub numbered : n < 32
  pub is : has_reencrypt value n ≡ true

-- In these, so much is `allowed`, and the volume has `total` bytes, or the bytes `v`:

-- the refusals of the keyslot `n`
abbrev pub IsUnderwayRefusal : Allowed → List ℕ → ℕ → ℕ → WideOpenFault → Type 0
IsUnderwayRefusal allowed json total n (Open (opening.Head f)) = ⊥
IsUnderwayRefusal allowed json total n (Open (opening.Meta f)) = ⊥
IsUnderwayRefusal allowed json total n (Open opening.NoSuchSlot) = HasNoKeyslot json n
IsUnderwayRefusal allowed json total n (Open opening.SlotFree) = ⊥
IsUnderwayRefusal allowed json total n (Open opening.Outside) = HasAreaPast (HasLuks2Plan json n) total
IsUnderwayRefusal allowed json total n (Open (opening.Slot f)) = HasRefusedPlanWithin allowed (HasLuks2Plan json n) f
IsUnderwayRefusal allowed json total n (Open opening.Device) = ⊥
IsUnderwayRefusal allowed json total n (Open opening.Memory) = ⊥
IsUnderwayRefusal allowed json total n NoKey = HasNoKey json n

-- nothing refuses the keyslot `n`, and its plan gives `found` by the passphrase `p`: the standard's equations applied to the area's bytes,
-- where their key meets the digest that the keyslot is assigned to
pub record UnderwayOpens (allowed : Allowed) (json v : List ℕ) (n : ℕ) (p : List ℕ) (found : Option (List ℕ)) : Type 0 where
  pub plan : SlotPlan
  pub is : HasLuks2Plan json n plan
  pub unrefused : (f : WideOpenFault) → IsUnderwayRefusal allowed json (length v) n f → ⊥
  pub key : slot_key plan (part v plan.area.start plan.area.len) p ≡ found

-- nothing refuses the keyslot `n`, and it derives by Argon2
pub record UnderwayTakesMemory (allowed : Allowed) (json : List ℕ) (total n : ℕ) : Type 0 where
  pub plan : SlotPlan
  pub is : HasLuks2Plan json n plan
  pub unrefused : (f : WideOpenFault) → IsUnderwayRefusal allowed json total n f → ⊥
  pub argon2 : is_argon2 plan.derivation ≡ true

-- it is refused, unless the device failed, or memory was refused that it takes
abbrev pub UnderwayRefused : Allowed → List ℕ → ℕ → ℕ → WideOpenFault → Type 0
UnderwayRefused allowed json total n f =
    (is_wide_own f ≡ true → IsLeast wide_open_key (IsUnderwayRefusal allowed json total n) f) × (f ≡ Open opening.Memory → UnderwayTakesMemory allowed json total n)

-- the result of opening the keyslot `n` by the passphrase `p`, of a device that has the bytes `v` where it `tells` them
pub record IsUnderwayOpening (tells : Type 0) (total : ℕ) (v json : List ℕ) (allowed : Allowed) (n : ℕ) (p : List ℕ) (result : Result (Option (List ℕ)) WideOpenFault) : Type 0 where
  pub opens : tells → IfOk result (UnderwayOpens allowed json v n p)
  pub one : tells → IfOk result (λ found. (other : Option (List ℕ)) → UnderwayOpens allowed json v n p other → other ≡ found)
  pub refused : IfErr result (UnderwayRefused allowed json total n)
