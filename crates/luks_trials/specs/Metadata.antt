-- Metadata of LUKS2 that is put in place of that of a copy, and its keyslots that are tried in the volume `v`.
use Rattle.std.specs.Prelude.{ℕ, List, Option, Some, None}
use Rattle.luks_meta.specs.Accepted.{IsMeta}
use Rattle.luks_meta.specs.Content.{content}
use Rattle.luks_meta.specs.MetaFault.{IsMetaFault}
use Rattle.luks_meta.specs.declared.meta.Meta.{Meta}
use Rattle.luks_rules.specs.declared.fault.MetaFault.{MetaFault}
use Rattle.luks_slot.specs.declared.allowed.Allowed.{Allowed}
use Rattle.luks_slot.specs.declared.plan.SlotPlan.{SlotPlan}
use Rattle.luks_reading.specs.Plans.{HasLuks2Plan}
use Rattle.luks_trials.specs.Trials.{IsOpenedPlan}

-- the JSON area has none of the faults of metadata, and by it the keyslot `n` opens by the passphrase `p`: the key that
-- its area in `v` gives meets the digest that the metadata has of it
pub record OpensAt (allowed : Allowed) (v p json : List ℕ) (n : ℕ) : Type 0 where
  pub faultless : (f : MetaFault) → IsMetaFault json f → ⊥
  pub plan : SlotPlan
  pub is : HasLuks2Plan json n plan
  pub opened : IsOpenedPlan allowed plan v p

-- no keyslot opens by the JSON area
abbrev pub OpensNone : Allowed → List ℕ → List ℕ → List ℕ → Type 0
OpensNone allowed v p json = (n : ℕ) → OpensAt allowed v p json n → ⊥

-- by `new` no keyslot opens that doesn't open by `old` as well
abbrev pub AddsNone : Allowed → List ℕ → List ℕ → List ℕ → List ℕ → Type 0
AddsNone allowed v p old new = (n : ℕ) → OpensAt allowed v p new n → OpensAt allowed v p old n

-- the metadata of the area, or a fault of it
abbrev pub IsMetaOf : List ℕ → Option Meta → Type 0
IsMetaOf json (Some m) = IsMeta json (content m)
IsMetaOf json None = (f : MetaFault) × IsMetaFault json f
