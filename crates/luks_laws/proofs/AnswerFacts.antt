-- A keyslot that nothing refuses opens to a key or to none.
use Rattle.std.proofs.Common.{◌≡◌, ℕ, ◌<◌, List, refl, arith, Option, Some, None, inl, inr}
use Rattle.std.specs.Prelude.{◌↔◌}
use Rattle.std.proofs.lemmas.Bool.{cases_lt}
use Rattle.serde_json.specs.Data.{Data as Value}
use Rattle.luks_area.specs.Ranges.{part}
use Rattle.luks1_header.specs.declared.fault.HeadFault.TheVariants as head
use Rattle.luks2_header.specs.declared.selection.Copies.{Copies}
use Rattle.luks2_header.specs.Selection.{Choice, luks1, luks2, nothing, Chosen}
use Rattle.luks_json.specs.Number.{number_of, number_text}
use Rattle.luks_rules.specs.declared.fault.MetaFault.{MetaFault}
use Rattle.luks_rules.specs.declared.table.Section.TheVariants.{Keyslots}
use Rattle.luks_rules.specs.Accepted.{IsMeta}
use Rattle.luks_rules.specs.Faults.{object_at}
use Rattle.luks_rules.specs.MetaFault.{IsMetaFault}
use Rattle.luks_slot.specs.declared.allowed.Allowed.{Allowed}
use Rattle.luks_slot.specs.declared.plan.SlotPlan.{SlotPlan}
use Rattle.luks_slot.specs.Opening.{slot_key}
use Rattle.luks_reading.specs.declared.open_fault.OpenFault.{OpenFault}
use Rattle.luks_reading.specs.declared.open_fault.OpenFault.TheVariants as opening
use Rattle.luks_reading.specs.Answer.{AnswerWithin, HasPlanAs, IsRefusalWithin, IsRefusalAsWithin, OpensWithin, opened_to}
use Rattle.luks_reading.specs.Header.{json_at}
use Rattle.luks_laws.proofs.PlanFacts1.{has_luks1_plan}
use Rattle.luks_laws.proofs.PlanFacts2.{has_luks2_plan}

-- the equations' key, or none, is the answer
opened : (allowed : Allowed) (v : List ℕ) (n : ℕ) (p : List ℕ) (found : Option (List ℕ)) → OpensWithin allowed v n p found → AnswerWithin allowed v n p (opened_to found)
opened allowed v n p (Some key) x = x
opened allowed v n p None x = x

answer_of_plan : (allowed : Allowed) (v : List ℕ) (n : ℕ) (p : List ℕ) (c : Choice) (plan : SlotPlan) → Chosen v c → HasPlanAs v n c plan → ((f : OpenFault) → IsRefusalAsWithin allowed v n c f → ⊥)
    → (found : Option (List ℕ)) × AnswerWithin allowed v n p (opened_to found)
answer_of_plan allowed v n p c plan chosen is none =
    let found = slot_key plan (part v plan.area.start plan.area.len) p in
    (found, opened allowed v n p found (record { choice = c; chosen = chosen; plan = plan; is = is; unrefused = none; key = refl }))

-- a keyslot of LUKS1 that nothing refuses has a number below 8, and so a plan
luks1_plan : (allowed : Allowed) (v : List ℕ) (n : ℕ) → ((f : OpenFault) → IsRefusalAsWithin allowed v n luks1 f → ⊥) → (plan : SlotPlan) × HasPlanAs v n luks1 plan
luks1_plan allowed v n none = elim (cases_lt n 8) [
  | inl low ↦ has_luks1_plan (part v 0 592) n low
  | inr high ↦ absurd (none opening.NoSuchSlot high)
]

-- a keyslot of LUKS2 that nothing refuses is one of accepted metadata, and so has a plan
module _ (says : (text : List ℕ) (n : ℕ) → number_of text ≡ Some n → (text ≡ number_text n) × (n < 32))
    (metadata : (json : List ℕ) → ((f : MetaFault) → IsMetaFault json f → ⊥) ↔ ((j : Value) × IsMeta json j))
    (allowed : Allowed) (v : List ℕ) (n o : ℕ) (copies : Copies) (none : (f : OpenFault) → IsRefusalAsWithin allowed v n (luks2 o copies) f → ⊥) where
  plan_of_object : (j : Value) → IsMeta (json_at v o) j → n < 32 → (found : Option Value) → object_at j Keyslots n ≡ found → (plan : SlotPlan) × HasPlanAs v n (luks2 o copies) plan
  plan_of_object j accepted low (Some d) is = has_luks2_plan says (json_at v o) j n d accepted low is
  plan_of_object j accepted low None is = absurd (none opening.NoSuchSlot (record { value = j; holds = accepted.json; absent = λ _. is }))

  luks2_plan : (plan : SlotPlan) × HasPlanAs v n (luks2 o copies) plan
  luks2_plan =
      let accepted = (metadata (json_at v o)).0 (λ f bad. none (opening.Meta f) bad) in
      elim (cases_lt n 32) [
        | inl low ↦ plan_of_object accepted.0 accepted.1 low (object_at accepted.0 Keyslots n) refl
        | inr high ↦ absurd (none opening.NoSuchSlot (record { value = accepted.0; holds = accepted.1.json; absent = λ low. absurd (omega (arith, low, high)) }))
      ]

-- a keyslot that nothing refuses has a plan
plan_as : ((text : List ℕ) (n : ℕ) → number_of text ≡ Some n → (text ≡ number_text n) × (n < 32))
    → ((json : List ℕ) → ((f : MetaFault) → IsMetaFault json f → ⊥) ↔ ((j : Value) × IsMeta json j))
    → (allowed : Allowed) (v : List ℕ) (n : ℕ) (c : Choice) → Chosen v c → ((f : OpenFault) → IsRefusalAsWithin allowed v n c f → ⊥) → (plan : SlotPlan) × HasPlanAs v n c plan
plan_as says metadata allowed v n luks1 chosen none = luks1_plan allowed v n none
plan_as says metadata allowed v n (luks2 o copies) chosen none = luks2_plan says metadata allowed v n o copies none
plan_as says metadata allowed v n nothing chosen none = absurd (none (opening.Head head.NoSoundCopy) chosen)

pub answer_unrefused : ((text : List ℕ) (n : ℕ) → number_of text ≡ Some n → (text ≡ number_text n) × (n < 32))
    → ((json : List ℕ) → ((f : MetaFault) → IsMetaFault json f → ⊥) ↔ ((j : Value) × IsMeta json j))
    → ((v : List ℕ) → (c : Choice) × Chosen v c)
    → (allowed : Allowed) (v : List ℕ) (n : ℕ) (p : List ℕ) → ((f : OpenFault) → IsRefusalWithin allowed v n f → ⊥) → (found : Option (List ℕ)) × AnswerWithin allowed v n p (opened_to found)
answer_unrefused says metadata some allowed v n p none =
    let c = some v in
    let unrefused : (f : OpenFault) → IsRefusalAsWithin allowed v n c.0 f → ⊥ = λ f bad. none f (record { choice = c.0; chosen = c.1; fault = bad }) in
    let plan = plan_as says metadata allowed v n c.0 c.1 unrefused in
    answer_of_plan allowed v n p c.0 plan.0 c.1 plan.1 unrefused
