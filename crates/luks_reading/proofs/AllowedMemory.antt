-- What the allowance changes: with nothing allowed all is as it is without Argon2 and without older ciphers
-- and hashes, and with more no keyslot is refused that wasn't.
use Rattle.std.proofs.Common.{◌≡◌, ◌∙◌, ◌↔◌, ◌≤◌, ℕ, List, true, false, Option, Some, None, refl, ap, sym, subst, inl, inr, arith}
use Rattle.std.specs.Prelude.{◌||◌, ◌==◌, not, Bool, if◌then◌else◌}
use Rattle.luks_area.specs.Ranges.{part}
use Rattle.luks1_header.specs.declared.fault.HeadFault.{HeadFault}
use Rattle.luks1_header.specs.Header1.{entry}
use Rattle.luks2_header.specs.Selection.{Choice, luks1, luks2, nothing}
use Rattle.luks2_header.proofs.ChoiceFacts.{choices_agree}
use Rattle.luks_slot.specs.declared.allowed.Allowed.{Allowed}
use Rattle.luks_slot.specs.declared.fault.SlotFault.{SlotFault}
use Rattle.luks_slot.specs.declared.fault.SlotFault.TheVariants as fault
use Rattle.luks_slot.specs.declared.plan.Derivation.{Derivation}
use Rattle.luks_slot.specs.declared.plan.Derivation.TheVariants.{Pbkdf2, Argon2}
use Rattle.luks_slot.specs.declared.plan.SlotPlan.{SlotPlan}
use Rattle.luks_slot.specs.Allowance.{none_allowed, without_memory}
use Rattle.luks_slot.specs.Refusal.{are_known_hashes, is_argon2, is_argon2_refused, is_open_cipher, slot_refusal, slot_refusal_within}
use Rattle.luks_reading.specs.declared.open_fault.OpenFault.{OpenFault}
use Rattle.luks_reading.specs.declared.open_fault.OpenFault.TheVariants.{Head, Meta, NoSuchSlot, SlotFree, Outside, Slot}
use Rattle.luks_reading.specs.Answer.{HasPlanAs, HasRefusedPlanWithin, IsRefusalAsWithin, OpensWithin, TakesMemory}
use Rattle.luks_reading.specs.declared.read_fault.ReadFault.TheVariants as reading
use Rattle.luks_reading.specs.Header.{json_at, IsReadFaultAs, TakesNoMemory}
use Rattle.luks_reading.proofs.MemoryFacts.{argon2_at_zero, refusal_at_zero, still_accepted}
use Rattle.luks_reading.specs.Plans.{HasLuks1Plan, HasLuks2Plan, IsLuks1Derivation}

-- ---- none

pub as_before : (plans : SlotPlan → Type 0) (f : SlotFault) → HasRefusedPlanWithin none_allowed plans f ↔ ((plan : SlotPlan) × (plans plan × (slot_refusal plan ≡ Some f)))
as_before plans f = (
  λ x. (x.plan, (x.is, sym (refusal_at_zero x.plan) ∙ x.refused)),
  λ x. record { plan = x.0; is = x.1.0; refused = refusal_at_zero x.0 ∙ x.1.1 },
)

-- `Argon2` stands exactly where its test holds
stands : (plan : SlotPlan) → is_argon2 plan.derivation ≡ true → slot_refusal plan ≡ Some fault.Argon2
stands plan is = simp is

tested : (b cipher hashes size : Bool)
    → (if b then Some fault.Argon2 else if not cipher then Some fault.Cipher else if not hashes then Some fault.Hash else if not size then Some fault.KeySize else None)
    ≡ Some fault.Argon2 → b ≡ true
tested true cipher hashes size is = refl
tested false false hashes size is = absurd (cc)
tested false true false size is = absurd (cc)
tested false true true false is = absurd (cc)
tested false true true true is = absurd (cc)

holds : (plan : SlotPlan) → slot_refusal plan ≡ Some fault.Argon2 → is_argon2 plan.derivation ≡ true
holds plan is =
    tested (is_argon2 plan.derivation) (is_open_cipher plan.cipher) (are_known_hashes false plan) (plan.area_key_bytes == 32 || plan.area_key_bytes == 64) is

pub by_argon2 : (json : List ℕ) (n : ℕ)
    → HasRefusedPlanWithin none_allowed (HasLuks2Plan json n) fault.Argon2 ↔ ((plan : SlotPlan) × (HasLuks2Plan json n plan × (is_argon2 plan.derivation ≡ true)))
by_argon2 json n = (
  λ x. (x.plan, (x.is, holds x.plan (sym (refusal_at_zero x.plan) ∙ x.refused))),
  λ x. record { plan = x.0; is = x.1.0; refused = refusal_at_zero x.0 ∙ stands x.0 x.1.1 },
)

none_of : (r : Option SlotFault) → ((f : SlotFault) → r ≡ Some f → ⊥) → r ≡ None
none_of None some = refl
none_of (Some f) some = absurd (some f refl)

unrefused_as : (v : List ℕ) (n : ℕ) (c : Choice) (plan : SlotPlan) → HasPlanAs v n c plan → ((f : OpenFault) → IsRefusalAsWithin none_allowed v n c f → ⊥)
    → (f : SlotFault) → slot_refusal_within none_allowed plan ≡ Some f → ⊥
unrefused_as v n luks1 plan is clear f refused = clear (Slot f) (record { plan = plan; is = is; refused = refused })
unrefused_as v n (luks2 o copies) plan is clear f refused = clear (Slot f) (record { plan = plan; is = is; refused = refused })
unrefused_as v n nothing plan is clear f refused = absurd is

-- what opens is refused by none of them
pub opens_as_before : (v : List ℕ) (n : ℕ) (p : List ℕ) (found : Option (List ℕ)) (x : OpensWithin none_allowed v n p found) → slot_refusal x.plan ≡ None
opens_as_before v n p found x =
    sym (refusal_at_zero x.plan) ∙ none_of (slot_refusal_within none_allowed x.plan) (unrefused_as v n x.choice x.plan x.is x.unrefused)

luks1_never : (h e : List ℕ) (d : Derivation) → IsLuks1Derivation h e d → is_argon2 d ≡ true → ⊥
luks1_never h e (Pbkdf2 k i s) x is = cc
luks1_never h e (Argon2 c) x is = x

stands_within : (allowed : Allowed) (plan : SlotPlan) → allowed.memory ≡ 0 → is_argon2 plan.derivation ≡ true → slot_refusal_within allowed plan ≡ Some fault.Argon2
stands_within allowed plan none is = let refused = ap (λ kib. is_argon2_refused kib plan.derivation) none ∙ argon2_at_zero plan.derivation is in simp refused

taken_as : (allowed : Allowed) (v : List ℕ) (n : ℕ) (c : Choice) (plan : SlotPlan) → HasPlanAs v n c plan → ((f : OpenFault) → IsRefusalAsWithin allowed v n c f → ⊥)
    → allowed.memory ≡ 0 → is_argon2 plan.derivation ≡ true → ⊥
taken_as allowed v n luks1 plan is clear none argon2 = luks1_never (part v 0 592) (entry (part v 0 592) n) plan.derivation is.is.derivation argon2
taken_as allowed v n (luks2 o copies) plan is clear none argon2 =
    clear (Slot fault.Argon2) (record { plan = plan; is = is; refused = stands_within allowed plan none argon2 })
taken_as allowed v n nothing plan is clear none argon2 = is

pub nothing_taken : (allowed : Allowed) (v : List ℕ) (n : ℕ) → allowed.memory ≡ 0 → TakesMemory allowed v n → ⊥
nothing_taken allowed v n none x = taken_as allowed v n x.choice x.plan x.is x.unrefused none x.argon2

-- none is taken of a volume that takes none
none_taken_as : (allowed : Allowed) (v : List ℕ) (n : ℕ) (x : TakesMemory allowed v n) (c : Choice) → x.choice ≡ c → (f : HeadFault) → IsReadFaultAs v c (reading.Head f) → ⊥
none_taken_as allowed v n x luks1 is f fault_ = fault_
none_taken_as allowed v n x (luks2 o copies) is f fault_ = x.unrefused (Head f) (subst (λ d. IsRefusalAsWithin allowed v n d (Head f)) (sym is) fault_)
none_taken_as allowed v n x nothing is f fault_ = subst (λ d. HasPlanAs v n d x.plan) is x.is

pub none_taken : (allowed : Allowed) (v : List ℕ) (n : ℕ) → TakesMemory allowed v n → TakesNoMemory v → ⊥
none_taken allowed v n x (inl chosen) =
    let is : HasLuks1Plan (part v 0 592) n x.plan = subst (λ d. HasPlanAs v n d x.plan) (choices_agree v x.choice luks1 x.chosen chosen) x.is in
    luks1_never (part v 0 592) (entry (part v 0 592) n) x.plan.derivation is.is.derivation x.argon2
none_taken allowed v n x (inr unread) = none_taken_as allowed v n x unread.1.choice (choices_agree v x.choice unread.1.choice x.chosen unread.1.chosen) unread.0 unread.1.fault

-- ---- more

-- a plan that isn't refused where so much is allowed isn't refused where more is
still_planned : (allowed more : Allowed) (plans : SlotPlan → Type 0) → allowed.memory ≤ more.memory → (allowed.older ≡ true → more.older ≡ true)
    → ((f : SlotFault) → HasRefusedPlanWithin allowed plans f → ⊥) → (f : SlotFault) → HasRefusedPlanWithin more plans f → ⊥
still_planned allowed more plans le older clear f y =
    let before = none_of (slot_refusal_within allowed y.plan) (λ g is. clear g (record { plan = y.plan; is = y.is; refused = is })) in
    let after = still_accepted allowed more y.plan le older before in
    let refused = y.refused in
    cc

still_unrefused : (allowed more : Allowed) (v : List ℕ) (n : ℕ) (c : Choice) → allowed.memory ≤ more.memory → (allowed.older ≡ true → more.older ≡ true)
    → ((f : OpenFault) → IsRefusalAsWithin allowed v n c f → ⊥) → (f : OpenFault) → IsRefusalAsWithin more v n c f → ⊥
still_unrefused allowed more v n luks1 le older clear (Slot f) y =
    still_planned (without_memory allowed.older) (without_memory more.older) (HasLuks1Plan (part v 0 592) n) (omega arith) older (λ g is. clear (Slot g) is) f y
still_unrefused allowed more v n luks1 le older clear (Head f) y = clear (Head f) y
still_unrefused allowed more v n luks1 le older clear NoSuchSlot y = clear NoSuchSlot y
still_unrefused allowed more v n luks1 le older clear SlotFree y = clear SlotFree y
still_unrefused allowed more v n luks1 le older clear Outside y = clear Outside y
still_unrefused allowed more v n luks1 le older clear other y = y
still_unrefused allowed more v n (luks2 o copies) le older clear (Slot f) y =
    still_planned allowed more (HasLuks2Plan (json_at v o) n) le older (λ g is. clear (Slot g) is) f y
still_unrefused allowed more v n (luks2 o copies) le older clear (Head f) y = clear (Head f) y
still_unrefused allowed more v n (luks2 o copies) le older clear (Meta f) y = clear (Meta f) y
still_unrefused allowed more v n (luks2 o copies) le older clear NoSuchSlot y = clear NoSuchSlot y
still_unrefused allowed more v n (luks2 o copies) le older clear Outside y = clear Outside y
still_unrefused allowed more v n (luks2 o copies) le older clear other y = y
still_unrefused allowed more v n nothing le older clear f y = clear f y

pub opens_alike : (allowed more : Allowed) (v : List ℕ) (n : ℕ) (p : List ℕ) (found : Option (List ℕ)) → allowed.memory ≤ more.memory
    → (allowed.older ≡ true → more.older ≡ true) → OpensWithin allowed v n p found → OpensWithin more v n p found
opens_alike allowed more v n p found le older x = record {
  choice = x.choice;
  chosen = x.chosen;
  plan = x.plan;
  is = x.is;
  unrefused = still_unrefused allowed more v n x.choice le older x.unrefused;
  key = x.key;
}
