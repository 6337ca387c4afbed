-- The refusals of a LUKS2 keyslot, step by step: the first of a step is the first of all, where no
-- earlier step has any.
use Rattle.std.proofs.Common.{◌≡◌, ℕ, ◌<◌, List, [], ◌∷◌, length, refl, sym, ap, ◌∙◌, arith, subst, Option, Some, None, IfSome, IsNone}
use Rattle.serde_json.specs.Data.{Data}
use Rattle.luks_area.specs.First.{NotAfter, IsLeast}
use Rattle.luks1_header.specs.declared.fault.HeadFault.{HeadFault}
use Rattle.luks1_header.specs.declared.fault.HeadFault.TheVariants as head
use Rattle.luks2_header.specs.Header2.{uuid_field, IsUuidFault}
use Rattle.luks_rules.specs.declared.table.Section.TheVariants.{Keyslots}
use Rattle.luks_meta.specs.Faults.{object_at}
use Rattle.luks_meta.specs.MetaFault.{Json}
use Rattle.luks_slot.specs.declared.allowed.Allowed.{Allowed}
use Rattle.luks_slot.specs.declared.fault.SlotFault.{SlotFault}
use Rattle.luks_slot.specs.declared.plan.SlotPlan.{SlotPlan}
use Rattle.luks_slot.specs.Refusal.{slot_refusal_within}
use Rattle.luks_reading.specs.declared.open_fault.OpenFault.{OpenFault}
use Rattle.luks_reading.specs.declared.open_fault.OpenFault.TheVariants.{Head, Meta, NoSuchSlot, Outside, Slot}
use Rattle.luks_reading.specs.Answer.{open_key, head_step, slot_row, FirstRefusal, IsLuks2RefusalWithin}
use Rattle.luks_reading.specs.ChosenCopies.{IsCleared}
use Rattle.luks_reading.specs.Luks2Keyslots.{Luks2Opens, Luks2Refused, Luks2TakesMemory}
use Rattle.luks_reading.specs.PlanAnswers.{IsPlanAccepted, IsPlanRefusal, PlanOpens, PlanRefused, PlanTakesMemory}
use Rattle.luks_reading.specs.Plans.{HasLuks2Plan}
use Rattle.luks_reading.proofs.SamePlans.{same_refusal_within}
use Rattle.luks_reading.proofs.Luks2Plans.{IsOnly, one_luks2_plan}
use Rattle.luks_reading.proofs.Luks1Refusals.{sooner, together}

pub uuid_step : (uuid : List ℕ) (f : HeadFault) → IsUuidFault uuid f → head_step f ≡ 1
uuid_step uuid (head.Text t) x = refl
uuid_step uuid head.Uuid x = refl
uuid_step uuid other x = absurd x

-- ---- the keyslot

same_slot : (allowed : Allowed) (json : List ℕ) (j : Data) (n : ℕ) (a b : SlotPlan) (f g : SlotFault) → IsOnly json j n → HasLuks2Plan json n a → HasLuks2Plan json n b
    → slot_refusal_within allowed a ≡ Some f → slot_refusal_within allowed b ≡ Some g → f ≡ g
same_slot allowed json j n a b f g only x y p q = let same = same_refusal_within allowed a b (one_luks2_plan json j n a b only x y) in cc

-- the keyslot that has a plan is there
is_there : (json : List ℕ) (j : Data) (n : ℕ) (plan : SlotPlan) (i : Data) → IsOnly json j n → HasLuks2Plan json n plan → Json json i
    → (n < 32 → object_at i Keyslots n ≡ None) → ⊥
is_there json j n plan i only x holds gone =
    let e : i ≡ x.value = sym (only.value i holds) ∙ only.value x.value x.holds in
    let none = subst (λ k. object_at k Keyslots n ≡ None) e (gone x.numbered) in
    let there = x.there in
    cc

pub plan_first2 : (allowed : Allowed) (b json : List ℕ) (total n : ℕ) (j : Data) (plan : SlotPlan) (f : OpenFault) → IsCleared (uuid_field b) json j → IsOnly json j n
    → HasLuks2Plan json n plan → IsPlanRefusal allowed plan total f → IsLeast open_key (IsLuks2RefusalWithin allowed b json total n) f
plan_first2 allowed b json total n j plan Outside clear only is x = (record { plan = plan; is = is; past = x }, after)
  where
    after : (g : OpenFault) → IsLuks2RefusalWithin allowed b json total n g → NotAfter (open_key Outside) (open_key g)
    after (Head g) y = absurd (clear.uuid_faultless g y)
    after (Meta g) y = absurd (clear.faultless g y)
    after NoSuchSlot y = absurd (is_there json j n plan y.value only is y.holds y.absent)
    after Outside y = together 6 6 [] [] refl tt
    after (Slot g) y = sooner 6 7 [] (slot_row g ∷ []) (omega arith)
    after other y = absurd y
plan_first2 allowed b json total n j plan (Slot f) clear only is x = (record { plan = plan; is = is; refused = x.1 }, after)
  where
    after : (g : OpenFault) → IsLuks2RefusalWithin allowed b json total n g → NotAfter (open_key (Slot f)) (open_key g)
    after (Head g) y = absurd (clear.uuid_faultless g y)
    after (Meta g) y = absurd (clear.faultless g y)
    after NoSuchSlot y = absurd (is_there json j n plan y.value only is y.holds y.absent)
    after Outside y =
        let same = one_luks2_plan json j n plan y.plan only is y.is in
        let start = same.start in
        let len = same.len in
        let inside = x.0 in
        let past = y.past in
        absurd (omega (arith, start, len, inside, past))
    after (Slot g) y =
        let e : f ≡ g = same_slot allowed json j n plan y.plan f g only is y.is x.1 y.refused in
        together 7 7 (slot_row f ∷ []) (slot_row g ∷ []) refl (together (slot_row f) (slot_row g) [] [] (ap slot_row e) tt)
    after other y = absurd y
plan_first2 allowed b json total n j plan other clear only is x = absurd x

-- nothing refuses a keyslot whose plan is accepted
pub plan_unrefused2 : (allowed : Allowed) (b json : List ℕ) (total n : ℕ) (j : Data) (plan : SlotPlan) → IsCleared (uuid_field b) json j → IsOnly json j n
    → HasLuks2Plan json n plan → IsPlanAccepted allowed plan total → (f : OpenFault) → IsLuks2RefusalWithin allowed b json total n f → ⊥
plan_unrefused2 allowed b json total n j plan clear only is x (Head g) y = clear.uuid_faultless g y
plan_unrefused2 allowed b json total n j plan clear only is x (Meta g) y = clear.faultless g y
plan_unrefused2 allowed b json total n j plan clear only is x NoSuchSlot y = is_there json j n plan y.value only is y.holds y.absent
plan_unrefused2 allowed b json total n j plan clear only is x Outside y =
    let same = one_luks2_plan json j n plan y.plan only is y.is in
    let start = same.start in
    let len = same.len in
    let inside = x.inside in
    let past = y.past in
    omega (arith, start, len, inside, past)
plan_unrefused2 allowed b json total n j plan clear only is x (Slot g) y =
    let same = same_refusal_within allowed plan y.plan (one_luks2_plan json j n plan y.plan only is y.is) in
    let accepted = x.accepted in
    let refused = y.refused in
    absurd (cc)
plan_unrefused2 allowed b json total n j plan clear only is x other y = y

pub plan_opens2 : (allowed : Allowed) (b json v : List ℕ) (n : ℕ) (j : Data) (plan : SlotPlan) (p : List ℕ) (found : Option (List ℕ)) → IsCleared (uuid_field b) json j → IsOnly json j n
    → HasLuks2Plan json n plan → PlanOpens allowed plan v p found → Luks2Opens allowed b json v n p found
plan_opens2 allowed b json v n j plan p found clear only is x = record {
  plan = plan;
  is = is;
  unrefused = plan_unrefused2 allowed b json (length v) n j plan clear only is (record { inside = x.inside; accepted = x.accepted });
  key = sym x.is;
}

-- what the plan is refused by is what the keyslot is refused by
pub plan_judged2 : (allowed : Allowed) (b json : List ℕ) (total n : ℕ) (j : Data) (plan : SlotPlan) (r : Option OpenFault) → IsCleared (uuid_field b) json j → IsOnly json j n
    → HasLuks2Plan json n plan → IfSome r (IsPlanRefusal allowed plan total) → (IsNone r → IsPlanAccepted allowed plan total)
    → FirstRefusal (IsLuks2RefusalWithin allowed b json total n) r
plan_judged2 allowed b json total n j plan (Some f) clear only is refused accepted = plan_first2 allowed b json total n j plan f clear only is refused
plan_judged2 allowed b json total n j plan None clear only is refused accepted = plan_unrefused2 allowed b json total n j plan clear only is (accepted refl)

-- so are the failed allocation of the plan and of the keyslot
pub plan_takes2 : (allowed : Allowed) (b json : List ℕ) (total n : ℕ) (j : Data) (plan : SlotPlan) → IsCleared (uuid_field b) json j → IsOnly json j n
    → HasLuks2Plan json n plan → PlanTakesMemory allowed plan total → Luks2TakesMemory allowed b json total n
plan_takes2 allowed b json total n j plan clear only is x =
    record { plan = plan; is = is; unrefused = plan_unrefused2 allowed b json total n j plan clear only is x.accepted; argon2 = x.argon2 }

-- what the plan answers is what the keyslot answers
pub plan_refused2 : (allowed : Allowed) (b json : List ℕ) (total n : ℕ) (j : Data) (plan : SlotPlan) (f : OpenFault) → IsCleared (uuid_field b) json j → IsOnly json j n
    → HasLuks2Plan json n plan → PlanRefused allowed plan total f → Luks2Refused allowed b json total n f
plan_refused2 allowed b json total n j plan f clear only is x = (
  λ own. plan_first2 allowed b json total n j plan f clear only is (x.0 own),
  λ e. plan_takes2 allowed b json total n j plan clear only is (x.1 e),
)
