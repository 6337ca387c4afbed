-- The plan of a keyslot lies past the volume's end or not, and is refused or not.
use Rattle.std.proofs.Common.{◌≡◌, ◌⊎◌, ℕ, ◌+◌, List, [], ◌∷◌, map, Option, Some, None, refl, ap, ◌∙◌, arith, inl, inr}
use Rattle.luks_rules.specs.Faults.{Among}
use Rattle.luks_slot.specs.declared.allowed.Allowed.{Allowed}
use Rattle.luks_slot.specs.declared.fault.SlotFault.{SlotFault}
use Rattle.luks_slot.specs.declared.fault.SlotFault.TheVariants as slot
use Rattle.luks_slot.specs.declared.plan.SlotPlan.{SlotPlan}
use Rattle.luks_slot.specs.Refusal.{slot_refusal_within}
use Rattle.luks_reading.specs.declared.open_fault.OpenFault.{OpenFault}
use Rattle.luks_reading.specs.declared.open_fault.OpenFault.TheVariants as opening
use Rattle.luks_reading.specs.Answer.{HasAreaPast, HasRefusedPlanWithin}
use Rattle.luks_laws.proofs.DecidedFacts.{Decided, less_decided}

-- ---- the faults of a plan

-- the faults of a plan, each of which is among them
unfoldable pub slot_faults : List SlotFault
slot_faults = slot.Argon2 ∷ slot.Cipher ∷ slot.Hash ∷ slot.KeySize ∷ slot.Device ∷ slot.Memory ∷ []

pub among_slots : (f : SlotFault) → Among f slot_faults
unfolding slot_faults
among_slots slot.Argon2 = inl refl
among_slots slot.Cipher = inr (inl refl)
among_slots slot.Hash = inr (inr (inl refl))
among_slots slot.KeySize = inr (inr (inr (inl refl)))
among_slots slot.Device = inr (inr (inr (inr (inl refl))))
among_slots slot.Memory = inr (inr (inr (inr (inr (inl refl)))))

-- the refusals of a keyslot but those of the header and the metadata
unfoldable pub of_keyslot : List OpenFault
of_keyslot = opening.NoSuchSlot ∷ opening.SlotFree ∷ opening.Outside ∷ map opening.Slot slot_faults

-- two faults are one, or they are not
pub same_fault_decided : (f g : SlotFault) → Decided (f ≡ g)
same_fault_decided slot.Argon2 slot.Argon2 = inl refl
same_fault_decided slot.Cipher slot.Cipher = inl refl
same_fault_decided slot.Hash slot.Hash = inl refl
same_fault_decided slot.KeySize slot.KeySize = inl refl
same_fault_decided slot.Device slot.Device = inl refl
same_fault_decided slot.Memory slot.Memory = inl refl
same_fault_decided f g = inr (λ e. cc)

-- an answer is this fault or not
pub is_fault_decided : (o : Option SlotFault) (f : SlotFault) → Decided (o ≡ Some f)
is_fault_decided None f = inr (λ e. cc)
is_fault_decided (Some g) f = elim (same_fault_decided g f) [ inl same ↦ inl (ap Some same) | inr other ↦ inr (λ e. other (cc)) ]

-- ---- the plans of a keyslot

-- two plans have one area, and are refused alike
pub record AreAlike (a b : SlotPlan) : Type 0 where
  pub start : a.area.start ≡ b.area.start
  pub len : a.area.len ≡ b.area.len
  pub refusal_within : (allowed : Allowed) → slot_refusal_within allowed a ≡ slot_refusal_within allowed b

-- a set of plans has a member or none
abbrev pub PlanOrNone : (SlotPlan → Type 0) → Type 0
PlanOrNone plans = ((plan : SlotPlan) × plans plan) ⊎ ((plan : SlotPlan) → plans plan → ⊥)

module _ (plans : SlotPlan → Type 0) (find : PlanOrNone plans) (alike : (a b : SlotPlan) → plans a → plans b → AreAlike a b) where
  -- a plan of the set decides whether one lies past the volume's end
  pub area_past_decided : (total : ℕ) → Decided (HasAreaPast plans total)
  area_past_decided total = elim find [
    | inl own ↦ elim (less_decided total (own.0.area.start + own.0.area.len)) [
      | inl past ↦ inl (record { plan = own.0; is = own.1; past = past })
      | inr within ↦ inr (λ x. within (
          let same = alike own.0 x.plan own.1 x.is in
          let start = same.start in
          let len = same.len in
          let past = x.past in
          omega (arith, start, len, past)))
    ]
    | inr none ↦ inr (λ x. none x.plan x.is)
  ]

  -- a plan of the set decides whether one is refused so, whatever is allowed
  pub refused_within_decided : (allowed : Allowed) (f : SlotFault) → Decided (HasRefusedPlanWithin allowed plans f)
  refused_within_decided allowed f = elim find [
    | inl own ↦ elim (is_fault_decided (slot_refusal_within allowed own.0) f) [
      | inl bad ↦ inl (record { plan = own.0; is = own.1; refused = bad })
      | inr good ↦ inr (λ x. good ((alike own.0 x.plan own.1 x.is).refusal_within allowed ∙ x.refused))
    ]
    | inr none ↦ inr (λ x. none x.plan x.is)
  ]
