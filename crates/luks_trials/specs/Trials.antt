-- What trying a passphrase on one keyslot comes to, of either version.
use Rattle.std.specs.Prelude.{◌≡◌, ℕ, ◌*◌, ◌≤◌, ◌^◌, List, Option, Some, None, Result, Ok, Err, true, ⊤}
use Rattle.luks_slot.specs.declared.allowed.Allowed.{Allowed}
use Rattle.luks_slot.specs.declared.fault.SlotFault.{SlotFault}
use Rattle.luks_slot.specs.declared.fault.SlotFault.TheVariants as slot
use Rattle.luks_slot.specs.declared.opening.Tried.{Tried}
use Rattle.luks_slot.specs.declared.opening.Tried.TheVariants.{Opens, Differs}
use Rattle.luks_slot.specs.declared.plan.Derivation.{Derivation}
use Rattle.luks_slot.specs.declared.plan.Derivation.TheVariants.{Pbkdf2, Argon2}
use Rattle.luks_slot.specs.declared.plan.SlotPlan.{SlotPlan}
use Rattle.luks_slot.specs.Distance.{slot_distance}
use Rattle.luks_slot.specs.Opening.{area_bytes}
use Rattle.luks_slot.specs.Refusal.{is_argon2, slot_refusal_within}
use Rattle.luks_reading.specs.PlanAnswers.{PlanOpens}
use Rattle.luks_trials.specs.declared.fault.SearchFault.{SearchFault}
use Rattle.luks_trials.specs.declared.fault.SearchFault.TheVariants as search

-- what a derivation may take that is tried: a number of which a high bit was turned may be any, and would hold the
-- program for hours
abbrev pub most_turns : ℕ
most_turns = 2 ^ 26

abbrev pub most_stripes : ℕ
most_stripes = 2 ^ 16

-- iterations of PBKDF2, and KiB that are passed over by Argon2
abbrev pub IsCheapDerivation : Derivation → Type 0
IsCheapDerivation (Pbkdf2 hash iterations salt) = iterations ≤ most_turns
IsCheapDerivation (Argon2 costs) = costs.time * costs.memory ≤ most_turns

-- a plan that is tried
pub record IsCheapPlan (plan : SlotPlan) : Type 0 where
  pub derivation : IsCheapDerivation plan.derivation
  pub digest : plan.digest.iterations ≤ most_turns
  pub stripes : plan.stripes ≤ most_stripes

-- by the plan the area's bytes give a key that meets its digest
pub record IsOpenedPlan (allowed : Allowed) (plan : SlotPlan) (v p : List ℕ) : Type 0 where
  pub cheap : IsCheapPlan plan
  pub key : List ℕ
  pub opens : PlanOpens allowed plan v p (Some key)

-- in how many bits the digest differs, 0 where the keyslot opens; none where it is refused
abbrev pub IsDistance : Result Tried SlotFault → Result (Option ℕ) SearchFault → Type 0
IsDistance (Ok (Opens key)) result = result ≡ Ok (Some 0)
IsDistance (Ok (Differs bits)) result = result ≡ Ok (Some bits)
IsDistance (Err slot.Device) result = result ≡ Err search.Device
IsDistance (Err slot.Memory) result = result ≡ Err search.Memory
IsDistance (Err f) result = result ≡ Ok None

-- the same of the digest that the stripes give
abbrev pub IsDigest : {A : Type 0} → Result A SlotFault → Result (Option A) SearchFault → Type 0
IsDigest {A} (Ok digest) result = result ≡ Ok (Some digest)
IsDigest {A} (Err slot.Device) result = result ≡ Err search.Device
IsDigest {A} (Err slot.Memory) result = result ≡ Err search.Memory
IsDigest {A} (Err f) result = result ≡ Ok None

-- a plan that is tried: nothing refuses it, and it is cheap
pub record IsTriedPlan (allowed : Allowed) (plan : SlotPlan) : Type 0 where
  pub cheap : IsCheapPlan plan
  pub accepted : slot_refusal_within allowed plan ≡ None

-- the distance of a plan that is tried, in the volume `v` by the passphrase `p`; another has none
abbrev pub IsDistanceOf : Allowed → SlotPlan → List ℕ → List ℕ → Option ℕ → Type 0
IsDistanceOf allowed plan v p (Some bits) = IsTriedPlan allowed plan × (bits ≡ slot_distance plan (area_bytes v plan.area) p)
IsDistanceOf allowed plan v p None = IsTriedPlan allowed plan → ⊥

-- memory is refused only where Argon2 takes it
abbrev pub TakesMemory : Allowed → SlotPlan → SearchFault → Type 0
TakesMemory allowed plan search.Memory = (slot_refusal_within allowed plan ≡ None) × (is_argon2 plan.derivation ≡ true)
TakesMemory allowed plan search.Device = ⊤
TakesMemory allowed plan search.Spent = ⊤
