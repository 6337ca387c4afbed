-- What has been judged of a LUKS2 copy on the way to a keyslot.
use Rattle.std.specs.Prelude.{◌≡◌, ℕ, List, length, true, Option}
use Rattle.luks_area.specs.First.{IsLeast}
use Rattle.luks_area.specs.Ranges.{part}
use Rattle.luks_slot.specs.declared.allowed.Allowed.{Allowed}
use Rattle.luks_slot.specs.declared.plan.SlotPlan.{SlotPlan}
use Rattle.luks_slot.specs.Opening.{slot_key}
use Rattle.luks_slot.specs.Refusal.{is_argon2}
use Rattle.luks_reading.specs.declared.open_fault.OpenFault.{OpenFault}
use Rattle.luks_reading.specs.declared.open_fault.OpenFault.TheVariants.{Memory}
use Rattle.luks_reading.specs.Answer.{open_key, IsLuks2RefusalWithin}
use Rattle.luks_reading.specs.Failures.{is_own}
use Rattle.luks_reading.specs.Plans.{HasLuks2Plan}

-- If so much is allowed, by the copy with the binary header `b` and the JSON area
-- `json` in a volume of `total` bytes:

-- nothing refuses the keyslot `n`, and it derives by Argon2
pub record Luks2TakesMemory (allowed : Allowed) (b json : List ℕ) (total n : ℕ) : Type 0 where
  pub plan : SlotPlan
  pub is : HasLuks2Plan json n plan
  pub unrefused : (f : OpenFault) → IsLuks2RefusalWithin allowed b json total n f → ⊥
  pub argon2 : is_argon2 plan.derivation ≡ true

-- opening the keyslot `n` is refused, unless the device failed, or memory was refused that it takes
abbrev pub Luks2Refused : Allowed → List ℕ → List ℕ → ℕ → ℕ → OpenFault → Type 0
Luks2Refused allowed b json total n f =
    (is_own f ≡ true → IsLeast open_key (IsLuks2RefusalWithin allowed b json total n) f) × (f ≡ Memory → Luks2TakesMemory allowed b json total n)

-- the keyslot `n` of the volume `v` with that copy opens to `found`
pub record Luks2Opens (allowed : Allowed) (b json v : List ℕ) (n : ℕ) (p : List ℕ) (found : Option (List ℕ)) : Type 0 where
  pub plan : SlotPlan
  pub is : HasLuks2Plan json n plan
  pub unrefused : (f : OpenFault) → IsLuks2RefusalWithin allowed b json (length v) n f → ⊥
  pub key : slot_key plan (part v plan.area.start plan.area.len) p ≡ found
