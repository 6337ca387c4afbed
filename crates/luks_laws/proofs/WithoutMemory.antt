-- An edit that allows no memory opens its keyslot as without Argon2, and one that allows nothing as before.
use Rattle.std.proofs.Common.{◌≡◌, ◌∙◌, ℕ, List, Bool, true, false, Option, Some, None, refl, sym, subst, ap}
use Rattle.std.specs.Prelude.{IsSomeAnd, ◌&&◌, ◌↔◌, ◌^◌, nat_lt, if◌then◌else◌, length}
use Rattle.luks_area.specs.Ranges.{part}
use Rattle.luks2_header.specs.Selection.{Choice, luks1, luks2, nothing}
use Rattle.luks_slot.specs.Allowance.{none_allowed, without_memory}
use Rattle.luks_slot.specs.Refusal.{slot_refusal}
use Rattle.luks_slot.specs.declared.allowed.Allowed.{Allowed}
use Rattle.luks_slot.specs.declared.fault.SlotFault.{SlotFault}
use Rattle.luks_slot.specs.declared.plan.SlotPlan.{SlotPlan}
use Rattle.luks_reading.specs.declared.open_fault.OpenFault.TheVariants.{Slot}
use Rattle.luks_reading.specs.Answer.{AnswerWithin, HasPlanAs, HasRefusedPlanWithin, IsRefusalAs, Opened, TakesMemory}
use Rattle.luks_reading.specs.Header.{json_at}
use Rattle.luks_reading.specs.Plans.{HasLuks1Plan, HasLuks2Plan}
use Rattle.luks_edit.specs.Asked.{allowed_by, allowed_for, allowed_of, bytes_of, deed_of, MatchOpener, opener_in}
use Rattle.luks_edit.specs.declared.edit.Edit.{Edit}
use Rattle.luks_edit.specs.declared.edit.Opener.{Opener}
use Rattle.luks_edit.specs.declared.edit.Opener.TheVariants.{Keyslot, Key}
use Rattle.luks2_judging.specs.Opened.{TakesMemoryToOpen}

-- so much memory, and whether older ciphers and hashes
abbrev allowing : ℕ → Bool → Allowed
allowing m older = record { memory = m; older = older }

-- nothing or nothing is nothing
none_either : (b : Bool) (m : ℕ) → m ≡ 0 → (if b then m else 0) ≡ 0
none_either true m zero = zero
none_either false m zero = refl

-- what opens without memory allows none
pub memoryless : (old : Opener) (new : List ℕ) → (allowed_of old).memory ≡ 0 → allowed_for old new ≡ without_memory (allowed_of old).older
memoryless old new zero =
    ap (λ (m : ℕ). allowing m (allowed_of old).older) (none_either (nat_lt (length (bytes_of old)) (2 ^ 32) && nat_lt (length new) (2 ^ 32)) (allowed_of old).memory zero)

-- where no memory is allowed, what is allowed is told by the older ciphers and hashes
pub allowance_alone : (allowed : Allowed) → allowed.memory ≡ 0 → allowed ≡ without_memory allowed.older
allowance_alone allowed zero = ap (λ (m : ℕ). allowing m allowed.older) zero

-- what is allowed alike has one answer
pub answers_alike : (v : List ℕ) (a b : Allowed) (n : ℕ) (p : List ℕ) (o : Opened) → a ≡ b → (AnswerWithin a v n p o ↔ AnswerWithin b v n p o)
answers_alike v a b n p o same = (λ x. subst (λ k. AnswerWithin k v n p o) same x, λ x. subst (λ k. AnswerWithin k v n p o) (sym same) x)

-- what opens, and is allowed nothing, allows nothing
pub nothing_for : (old : Opener) (new : List ℕ) → allowed_of old ≡ none_allowed → allowed_for old new ≡ none_allowed
nothing_for old new same = memoryless old new (ap (λ (a : Allowed). a.memory) same) ∙ ap (λ (a : Allowed). without_memory a.older) same

-- where nothing is allowed, the plan of a keyslot is refused as before, whatever counts of the volume
pub refused_alone : ((h : List ℕ) (n : ℕ) (f : SlotFault) → HasRefusedPlanWithin none_allowed (HasLuks1Plan h n) f ↔ ((plan : SlotPlan) × (HasLuks1Plan h n plan × (slot_refusal plan ≡ Some f))))
    → ((json : List ℕ) (n : ℕ) (f : SlotFault) → HasRefusedPlanWithin none_allowed (HasLuks2Plan json n) f ↔ ((plan : SlotPlan) × (HasLuks2Plan json n plan × (slot_refusal plan ≡ Some f))))
    → (v : List ℕ) (n : ℕ) (c : Choice) (f : SlotFault) → IsRefusalAs v n c (Slot f) ↔ ((plan : SlotPlan) × (HasPlanAs v n c plan × (slot_refusal plan ≡ Some f)))
refused_alone refusal1 refusal2 v n luks1 f = refusal1 (part v 0 592) n f
refused_alone refusal1 refusal2 v n (luks2 o copies) f = refusal2 (json_at v o) n f
refused_alone refusal1 refusal2 v n nothing f = (λ bad. absurd bad, λ x. absurd x.1.0)

-- and no keyslot takes memory where none is allowed
module _ (nothing_is : (allowed : Allowed) (v : List ℕ) (n : ℕ) → allowed.memory ≡ 0 → TakesMemory allowed v n → ⊥) (v : List ℕ) (e : Edit) (zero : (allowed_by e).memory ≡ 0) where
  none_by : (o : Opener) → MatchOpener o (λ slot secret. TakesMemory (allowed_by e) v slot) (λ key. ⊥) → ⊥
  none_by (Keyslot slot secret) takes = nothing_is (allowed_by e) v slot zero takes
  none_by (Key key) takes = takes

  none_in : (o : Option Opener) → IsSomeAnd o (λ o. MatchOpener o (λ slot secret. TakesMemory (allowed_by e) v slot) (λ key. ⊥)) → ⊥
  none_in None takes = takes
  none_in (Some o) takes = none_by o takes

  pub none_taken : TakesMemoryToOpen v e → ⊥
  none_taken = none_in (opener_in (deed_of e))
