-- The refusals of a LUKS1 keyslot, step by step: the first of a step is the first of all, where no
-- earlier step has any.
use Rattle.std.proofs.Common.{◌≡◌, ℕ, ◌<◌, List, [], ◌∷◌, length, ◌⊎◌, inl, inr, refl, sym, ap, subst, ◌∙◌, arith, Bool, Option, Some, None, IfSome, IsNone}
use Rattle.luks_area.specs.First.{NotAfter, IsLeast}
use Rattle.luks1_header.specs.declared.fault.HeadFault.{HeadFault}
use Rattle.luks1_header.specs.declared.fault.HeadFault.TheVariants as head
use Rattle.luks1_header.specs.declared.fault.IterationsOf.TheVariants as of
use Rattle.luks1_header.specs.declared.luks1.Luks1Slot.{Luks1Slot}
use Rattle.luks1_header.specs.Faults.{head_key, IsCommonFault, IsEntryFault}
use Rattle.luks1_header.specs.Header1.{active_word, disabled_word, entry}
use Rattle.luks_slot.specs.declared.fault.SlotFault.{SlotFault}
use Rattle.luks_slot.specs.declared.plan.SlotPlan.{SlotPlan}
use Rattle.luks_slot.specs.Allowance.{without_memory}
use Rattle.luks_slot.specs.Refusal.{slot_refusal_within}
use Rattle.luks_reading.specs.declared.open_fault.OpenFault.{OpenFault}
use Rattle.luks_reading.specs.declared.open_fault.OpenFault.TheVariants.{Head, NoSuchSlot, SlotFree, Outside, Slot}
use Rattle.luks_reading.specs.Answer.{open_key, head_step, slot_row, FirstRefusal, IsLuks1HeadRefusal, IsLuks1Refusal}
use Rattle.luks_reading.specs.declared.read_fault.ReadFault.TheVariants as reading
use Rattle.luks_reading.specs.Conversions.{head_unread, unread_opened}
use Rattle.luks_reading.specs.Luks1Keyslots.{IsEnabled, EntryRefused, Luks1Opens}
use Rattle.luks_reading.specs.PlanAnswers.{IsPlanAccepted, IsPlanRefusal, PlanOpens}
use Rattle.luks_reading.specs.Plans.{HasLuks1Plan}
use Rattle.luks_reading.proofs.SamePlans.{same_refusal_within}
use Rattle.luks_reading.proofs.Luks1Plans.{one_luks1_plan}
use Rattle.luks_reading.proofs.ReadFaults.{own_head}

-- a step before another
pub sooner : (a b : ℕ) (xs ys : List ℕ) → a < b → NotAfter (a ∷ xs) (b ∷ ys)
sooner a b xs ys lt = (omega (arith, lt), λ e. absurd (omega (arith, lt, e)))

pub together : (a b : ℕ) (xs ys : List ℕ) → a ≡ b → NotAfter xs ys → NotAfter (a ∷ xs) (b ∷ ys)
together a b xs ys e h = (omega (arith, e), λ _. h)

-- a refusal by the header is of the fields before the keyslots, or of the keyslot's own entry
pub record IsOfCommon (h : List ℕ) (f : HeadFault) : Type 0 where
  pub fault : IsCommonFault h f
  pub step : head_step f ≡ 1

pub record IsOfEntry (h : List ℕ) (n : ℕ) (f : HeadFault) : Type 0 where
  pub numbered : n < 8
  pub fault : IsEntryFault n (entry h n) f
  pub step : head_step f ≡ 4

pub which : (h : List ℕ) (n : ℕ) (f : HeadFault) → IsLuks1HeadRefusal h n f → IsOfCommon h f ⊎ IsOfEntry h n f
which h n (head.SlotState m) x = inr (record { numbered = x.0; fault = x.1; step = refl })
which h n (head.Stripes m) x = inr (record { numbered = x.0; fault = x.1; step = refl })
which h n (head.Iterations (of.Slot m)) x = inr (record { numbered = x.0; fault = x.1; step = refl })
which h n other x = inl (record { fault = x; step = refl })

pub common_refuses : (h : List ℕ) (n : ℕ) (f : HeadFault) → IsCommonFault h f → IsLuks1HeadRefusal h n f × (head_step f ≡ 1)
common_refuses h n (head.SlotState m) x = absurd x.0
common_refuses h n (head.Stripes m) x = absurd x.0
common_refuses h n (head.Iterations (of.Slot m)) x = absurd x.0
common_refuses h n other x = (x, refl)

entry_refuses : (h : List ℕ) (n : ℕ) (f : HeadFault) → n < 8 → IsEntryFault n (entry h n) f → IsLuks1HeadRefusal h n f × (head_step f ≡ 4)
entry_refuses h n (head.SlotState m) lt x = ((lt, x), refl)
entry_refuses h n (head.Stripes m) lt x = ((lt, x), refl)
entry_refuses h n (head.Iterations (of.Slot m)) lt x = ((lt, x), refl)
entry_refuses h n other lt x = absurd x

-- ---- the first step: the fields before the keyslots

pub common_own : (h : List ℕ) (f : HeadFault) → IsLeast head_key (IsCommonFault h) f → head_unread f ≡ reading.Head f
common_own h f least =
    own_head f (λ e. let no = subst (IsCommonFault h) e least.0 in no.0) (λ e. let no = subst (IsCommonFault h) e least.0 in no.0)

pub common_first : (older : Bool) (h : List ℕ) (total n : ℕ) (f : HeadFault) → IsLeast head_key (IsCommonFault h) f
    → IsLeast open_key (IsLuks1Refusal older h total n) (Head f)
common_first older h total n f least = (refuses.0, after)
  where
    refuses : IsLuks1HeadRefusal h n f × (head_step f ≡ 1)
    refuses = common_refuses h n f least.0

    after : (g : OpenFault) → IsLuks1Refusal older h total n g → NotAfter (open_key (Head f)) (open_key g)
    after (Head g) is = elim (which h n g is) [
      | inl x ↦ together (head_step f) (head_step g) (head_key f) (head_key g) (refuses.1 ∙ sym x.step) (least.1 g x.fault)
      | inr x ↦ let here = refuses.1 in let there = x.step in sooner (head_step f) (head_step g) (head_key f) (head_key g) (omega (arith, here, there))
    ]
    after NoSuchSlot is = let here = refuses.1 in sooner (head_step f) 3 (head_key f) [] (omega (arith, here))
    after SlotFree is = let here = refuses.1 in sooner (head_step f) 5 (head_key f) [] (omega (arith, here))
    after Outside is = let here = refuses.1 in sooner (head_step f) 6 (head_key f) [] (omega (arith, here))
    after (Slot g) is = let here = refuses.1 in sooner (head_step f) 7 (head_key f) (slot_row g ∷ []) (omega (arith, here))
    after other is = absurd is

-- in the words of an opening
pub common_refused : (older : Bool) (h : List ℕ) (total n : ℕ) (f : HeadFault) → IsLeast head_key (IsCommonFault h) f
    → IsLeast open_key (IsLuks1Refusal older h total n) (unread_opened (head_unread f))
common_refused older h total n f least =
    subst (λ r. IsLeast open_key (IsLuks1Refusal older h total n) (unread_opened r)) (sym (common_own h f least)) (common_first older h total n f least)

-- ---- the keyslot's number and its entry

pub entry_first : (older : Bool) (h : List ℕ) (total n : ℕ) (f : OpenFault) → ((g : HeadFault) → IsCommonFault h g → ⊥)
    → EntryRefused h n f → IsLeast open_key (IsLuks1Refusal older h total n) f
entry_first older h total n (Head f) clear x = (refuses.0, after)
  where
    refuses : IsLuks1HeadRefusal h n f × (head_step f ≡ 4)
    refuses = entry_refuses h n f x.numbered x.least.0

    after : (g : OpenFault) → IsLuks1Refusal older h total n g → NotAfter (open_key (Head f)) (open_key g)
    after (Head g) is = elim (which h n g is) [
      | inl y ↦ absurd (clear g y.fault)
      | inr y ↦ together (head_step f) (head_step g) (head_key f) (head_key g) (refuses.1 ∙ sym y.step) (x.least.1 g y.fault)
    ]
    after NoSuchSlot is = let lt = x.numbered in absurd (omega (arith, lt, is))
    after SlotFree is = let here = refuses.1 in sooner (head_step f) 5 (head_key f) [] (omega (arith, here))
    after Outside is = let here = refuses.1 in sooner (head_step f) 6 (head_key f) [] (omega (arith, here))
    after (Slot g) is = let here = refuses.1 in sooner (head_step f) 7 (head_key f) (slot_row g ∷ []) (omega (arith, here))
    after other is = absurd is
entry_first older h total n NoSuchSlot clear x = (x, after)
  where
    after : (g : OpenFault) → IsLuks1Refusal older h total n g → NotAfter (open_key NoSuchSlot) (open_key g)
    after (Head g) is = elim (which h n g is) [
      | inl y ↦ absurd (clear g y.fault)
      | inr y ↦ let there = y.step in sooner 3 (head_step g) [] (head_key g) (omega (arith, there))
    ]
    after NoSuchSlot is = together 3 3 [] [] refl tt
    after SlotFree is = sooner 3 5 [] [] (omega arith)
    after Outside is = sooner 3 6 [] [] (omega arith)
    after (Slot g) is = sooner 3 7 [] (slot_row g ∷ []) (omega arith)
    after other is = absurd is
entry_first older h total n SlotFree clear x = ((x.numbered, x.disabled), after)
  where
    after : (g : OpenFault) → IsLuks1Refusal older h total n g → NotAfter (open_key SlotFree) (open_key g)
    after (Head g) is = elim (which h n g is) [
      | inl y ↦ absurd (clear g y.fault)
      | inr y ↦ absurd (x.faultless g y.fault)
    ]
    after NoSuchSlot is = let lt = x.numbered in absurd (omega (arith, lt, is))
    after SlotFree is = together 5 5 [] [] refl tt
    after Outside is = sooner 5 6 [] [] (omega arith)
    after (Slot g) is = sooner 5 7 [] (slot_row g ∷ []) (omega arith)
    after other is = absurd is
entry_first older h total n other clear x = absurd x

-- ---- the keyslot's plan

same_slot : (older : Bool) (h : List ℕ) (n : ℕ) (a b : SlotPlan) (f g : SlotFault) → HasLuks1Plan h n a → HasLuks1Plan h n b
    → slot_refusal_within (without_memory older) a ≡ Some f → slot_refusal_within (without_memory older) b ≡ Some g → f ≡ g
same_slot older h n a b f g x y p q = let same = same_refusal_within (without_memory older) a b (one_luks1_plan h n a b x y) in cc

-- a refusal that isn't of the plan is out, where the header and the entry are cleared
not_of_head : (h : List ℕ) (n : ℕ) (s : Luks1Slot) (g : HeadFault) → ((f : HeadFault) → IsCommonFault h f → ⊥) → IsEnabled h n s
    → IsLuks1HeadRefusal h n g → ⊥
not_of_head h n s g clear on is = elim (which h n g is) [ inl y ↦ clear g y.fault | inr y ↦ on.faultless g y.fault ]

in_use : (h : List ℕ) (n : ℕ) (s : Luks1Slot) → IsEnabled h n s → active_word (entry h n) ≡ disabled_word → ⊥
in_use h n s on off = let is = on.enabled in omega (arith, is, off)

pub plan_first : (older : Bool) (h : List ℕ) (total n : ℕ) (s : Luks1Slot) (plan : SlotPlan) (f : OpenFault) → ((g : HeadFault) → IsCommonFault h g → ⊥)
    → IsEnabled h n s → HasLuks1Plan h n plan → IsPlanRefusal (without_memory older) plan total f
    → IsLeast open_key (IsLuks1Refusal older h total n) f
plan_first older h total n s plan Outside clear on is x = (record { plan = plan; is = is; past = x }, after)
  where
    after : (g : OpenFault) → IsLuks1Refusal older h total n g → NotAfter (open_key Outside) (open_key g)
    after (Head g) y = absurd (not_of_head h n s g clear on y)
    after NoSuchSlot y = let lt = on.numbered in absurd (omega (arith, lt, y))
    after SlotFree y = absurd (in_use h n s on y.1)
    after Outside y = together 6 6 [] [] refl tt
    after (Slot g) y = sooner 6 7 [] (slot_row g ∷ []) (omega arith)
    after other y = absurd y
plan_first older h total n s plan (Slot f) clear on is x = (record { plan = plan; is = is; refused = x.1 }, after)
  where
    after : (g : OpenFault) → IsLuks1Refusal older h total n g → NotAfter (open_key (Slot f)) (open_key g)
    after (Head g) y = absurd (not_of_head h n s g clear on y)
    after NoSuchSlot y = let lt = on.numbered in absurd (omega (arith, lt, y))
    after SlotFree y = absurd (in_use h n s on y.1)
    after Outside y =
        let same = one_luks1_plan h n plan y.plan is y.is in
        let start = same.start in
        let len = same.len in
        let inside = x.0 in
        let past = y.past in
        absurd (omega (arith, start, len, inside, past))
    after (Slot g) y =
        let e : f ≡ g = same_slot older h n plan y.plan f g is y.is x.1 y.refused in
        together 7 7 (slot_row f ∷ []) (slot_row g ∷ []) refl (together (slot_row f) (slot_row g) [] [] (ap slot_row e) tt)
    after other y = absurd y
plan_first older h total n s plan other clear on is x = absurd x

-- nothing refuses a keyslot whose plan is accepted
pub plan_unrefused : (older : Bool) (h : List ℕ) (total n : ℕ) (s : Luks1Slot) (plan : SlotPlan) → ((g : HeadFault) → IsCommonFault h g → ⊥)
    → IsEnabled h n s → HasLuks1Plan h n plan → IsPlanAccepted (without_memory older) plan total → (f : OpenFault) → IsLuks1Refusal older h total n f → ⊥
plan_unrefused older h total n s plan clear on is x (Head g) y = not_of_head h n s g clear on y
plan_unrefused older h total n s plan clear on is x NoSuchSlot y = let lt = on.numbered in omega (arith, lt, y)
plan_unrefused older h total n s plan clear on is x SlotFree y = in_use h n s on y.1
plan_unrefused older h total n s plan clear on is x Outside y =
    let same = one_luks1_plan h n plan y.plan is y.is in
    let start = same.start in
    let len = same.len in
    let inside = x.inside in
    let past = y.past in
    omega (arith, start, len, inside, past)
plan_unrefused older h total n s plan clear on is x (Slot g) y =
    let same = same_refusal_within (without_memory older) plan y.plan (one_luks1_plan h n plan y.plan is y.is) in
    let accepted = x.accepted in
    let refused = y.refused in
    absurd (cc)
plan_unrefused older h total n s plan clear on is x other y = y

pub plan_opens : (older : Bool) (h v : List ℕ) (n : ℕ) (s : Luks1Slot) (plan : SlotPlan) (p : List ℕ) (found : Option (List ℕ)) → ((g : HeadFault) → IsCommonFault h g → ⊥)
    → IsEnabled h n s → HasLuks1Plan h n plan → PlanOpens (without_memory older) plan v p found → Luks1Opens older h v n p found
plan_opens older h v n s plan p found clear on is x = record {
  plan = plan;
  is = is;
  unrefused = plan_unrefused older h (length v) n s plan clear on is (record { inside = x.inside; accepted = x.accepted });
  key = sym x.is;
}

-- what the plan is refused by is what the keyslot is refused by
pub plan_judged : (older : Bool) (h : List ℕ) (total n : ℕ) (s : Luks1Slot) (plan : SlotPlan) (r : Option OpenFault) → ((g : HeadFault) → IsCommonFault h g → ⊥)
    → IsEnabled h n s → HasLuks1Plan h n plan → IfSome r (IsPlanRefusal (without_memory older) plan total) → (IsNone r → IsPlanAccepted (without_memory older) plan total)
    → FirstRefusal (IsLuks1Refusal older h total n) r
plan_judged older h total n s plan (Some f) clear on is refused accepted = plan_first older h total n s plan f clear on is refused
plan_judged older h total n s plan None clear on is refused accepted = plan_unrefused older h total n s plan clear on is (accepted refl)
