-- A keyslot of a LUKS2 volume has a first refusal or none.
use Rattle.std.proofs.Common.{◌≡◌, ◌⊎◌, ℕ, ◌<◌, List, ◌∷◌, Some, None, refl, subst, arith, inl, inr}
use Rattle.std.specs.Prelude.{◌↔◌}
use Rattle.std.proofs.lemmas.Bool.{cases_lt}
use Rattle.serde_json.specs.Data.{Data as Value}
use Rattle.luks_area.specs.First.{IsLeast, NotAfter}
use Rattle.luks1_header.specs.declared.fault.HeadFault.{HeadFault}
use Rattle.luks1_header.specs.declared.fault.HeadFault.TheVariants as head
use Rattle.luks1_header.specs.declared.fault.IterationsOf.TheVariants as of
use Rattle.luks1_header.specs.Faults.{head_key}
use Rattle.luks2_header.specs.Header2.{IsUuidFault, uuid_field}
use Rattle.luks_json.specs.AreaText.{IsBadJson, Json, JsonText}
use Rattle.luks_json.specs.Number.{number_of, number_text}
use Rattle.luks_making.specs.Naming.{IsDigestOf}
use Rattle.luks_rules.specs.declared.fault.MetaFault.{MetaFault}
use Rattle.luks_rules.specs.declared.table.Section.TheVariants.{Keyslots}
use Rattle.luks_rules.specs.Accepted.{IsMeta}
use Rattle.luks_rules.specs.Faults.{Among, object_at}
use Rattle.luks_rules.specs.MetaFault.{IsMetaFault, meta_key}
use Rattle.luks_slot.specs.declared.allowed.Allowed.{Allowed}
use Rattle.luks_reading.specs.declared.open_fault.OpenFault.{OpenFault}
use Rattle.luks_reading.specs.declared.open_fault.OpenFault.TheVariants as opening
use Rattle.luks_reading.specs.Answer.{HasNoKeyslot, head_step, IsLuks2RefusalWithin, open_key}
use Rattle.luks_reading.specs.Plans.{HasLuks2Plan}
use Rattle.luks_laws.proofs.DecidedFacts.{alike_decided, among_map, Decided, LeastOrNone, least_or_none, none_some, option_there}
use Rattle.luks_laws.proofs.HeaderDecisions2.{meta_fault_or_none, uuid_fault_or_none}
use Rattle.luks_laws.proofs.PlanDecisions.{among_slots, area_past_decided, of_keyslot, PlanOrNone, refused_within_decided, slot_faults}
use Rattle.luks_laws.proofs.PlanFacts2.{has_luks2_plan}
use Rattle.luks_laws.proofs.PlanLikeness2.{alike_plans, object_of_plan}

-- ---- the header and the metadata

-- the faults of the uuid are those of the first step
first_step : (text : List ℕ) (f : HeadFault) → IsUuidFault text f → head_step f ≡ 1
first_step text (head.SlotState n) bad = absurd bad
first_step text (head.Stripes n) bad = absurd bad
first_step text (head.Iterations (of.Slot n)) bad = absurd bad
first_step text f bad = refl

module _ (allowed : Allowed) (b json : List ℕ) (total n : ℕ) where
  -- a fault of the uuid comes before all refusals but the uuid's
  before_all : (f : HeadFault) → IsLeast {F = HeadFault} head_key (IsUuidFault (uuid_field b)) f
      → (g : OpenFault) → IsLuks2RefusalWithin allowed b json total n g → NotAfter (head_step f ∷ head_key f) (open_key g)
  before_all f least (opening.Head g) bad =
      let one = first_step (uuid_field b) f least.0 in
      let other = first_step (uuid_field b) g bad in
      (omega (arith, one, other), λ _. least.1 g bad)
  before_all f least g bad = let one = first_step (uuid_field b) f least.0 in (omega (arith, one), λ same. absurd (omega (arith, one, same)))

  -- where the uuid has no fault, one of the metadata comes before all refusals but the metadata's
  before_others : ((f : HeadFault) → IsUuidFault (uuid_field b) f → ⊥) → (f : MetaFault) → IsLeast {F = MetaFault} meta_key (IsMetaFault json) f
      → (g : OpenFault) → IsLuks2RefusalWithin allowed b json total n g → NotAfter (2 ∷ meta_key f) (open_key g)
  before_others none f least (opening.Head g) bad = absurd (none g bad)
  before_others none f least (opening.Meta g) bad = (omega arith, λ _. least.1 g bad)
  before_others none f least g bad = (omega arith, λ same. absurd (omega (arith, same)))

-- ---- a keyslot of accepted metadata

module _ (says : (text : List ℕ) (n : ℕ) → number_of text ≡ Some n → (text ≡ number_text n) × (n < 32))
    (json : List ℕ) (j : Value) (accepted : IsMeta json j) (value : (i : Value) → Json json i → i ≡ j)
    (n : ℕ) (digest : (m k : ℕ) → IsDigestOf j n m → IsDigestOf j n k → m ≡ k) where
  -- the value has the keyslot or not
  absent_decided : Decided (n < 32 → object_at j Keyslots n ≡ None)
  absent_decided = elim (cases_lt n 32) [
    | inl low ↦ elim (option_there (object_at j Keyslots n)) [
      | inl there ↦ inr (λ absent. none_some _ _ (absent low) there.1)
      | inr absent ↦ inl (λ _. absent)
    ]
    | inr high ↦ inl (λ low. absurd (omega (arith, low, high)))
  ]

  -- so the metadata has the keyslot or not
  no_keyslot_decided : Decided (HasNoKeyslot json n)
  no_keyslot_decided = alike_decided (n < 32 → object_at j Keyslots n ≡ None) (HasNoKeyslot json n) (λ x. record { value = j; holds = accepted.json; absent = x })
      (λ x low. subst (λ i. object_at i Keyslots n ≡ None) (value x.value x.holds) (x.absent low)) absent_decided

  -- a keyslot that is there has a plan, and one that isn't has none
  pub find_plan : PlanOrNone (HasLuks2Plan json n)
  find_plan = elim (cases_lt n 32) [
    | inl low ↦ elim (option_there (object_at j Keyslots n)) [
      | inl there ↦ inl (has_luks2_plan says json j n there.0 accepted low there.1)
      | inr absent ↦ inr (λ plan x. none_some _ _ absent (object_of_plan json j n value digest plan x))
    ]
    | inr high ↦ inr (λ plan x. let low = x.numbered in absurd (omega (arith, low, high)))
  ]

  module _ (allowed : Allowed) (b : List ℕ) (total : ℕ) (head_none : (f : HeadFault) → IsUuidFault (uuid_field b) f → ⊥) (meta_none : (f : MetaFault) → IsMetaFault json f → ⊥) where
    -- each refusal stands or not
    refusal_decided : (f : OpenFault) → Decided (IsLuks2RefusalWithin allowed b json total n f)
    refusal_decided (opening.Head f) = inr (head_none f)
    refusal_decided (opening.Meta f) = inr (meta_none f)
    refusal_decided opening.NoSuchSlot = no_keyslot_decided
    refusal_decided opening.SlotFree = inr (λ bad. bad)
    refusal_decided opening.Outside = area_past_decided (HasLuks2Plan json n) find_plan (alike_plans json j n value digest) total
    refusal_decided (opening.Slot f) = refused_within_decided (HasLuks2Plan json n) find_plan (alike_plans json j n value digest) allowed f
    refusal_decided opening.Device = inr (λ bad. bad)
    refusal_decided opening.Memory = inr (λ bad. bad)

    -- those that may stand
    among_refusals : (f : OpenFault) → IsLuks2RefusalWithin allowed b json total n f → Among f of_keyslot
    unfolding of_keyslot
    among_refusals (opening.Head f) bad = absurd (head_none f bad)
    among_refusals (opening.Meta f) bad = absurd (meta_none f bad)
    among_refusals opening.NoSuchSlot bad = inl refl
    among_refusals opening.SlotFree bad = absurd bad
    among_refusals opening.Outside bad = inr (inr (inl refl))
    among_refusals (opening.Slot f) bad = inr (inr (inr (among_map opening.Slot f slot_faults (among_slots f))))
    among_refusals opening.Device bad = absurd bad
    among_refusals opening.Memory bad = absurd bad

    -- a keyslot of accepted metadata has a first refusal or none
    accepted_refusal_or_none : LeastOrNone OpenFault open_key (IsLuks2RefusalWithin allowed b json total n)
    accepted_refusal_or_none = least_or_none OpenFault open_key (IsLuks2RefusalWithin allowed b json total n) refusal_decided of_keyslot among_refusals

-- ---- any keyslot

module _ (kinds : (json : List ℕ) → ((j : Value) × Json json j) ⊎ IsBadJson json ⊎ ((text : List ℕ) → JsonText json text → ⊥))
    (good : (json : List ℕ) (j : Value) → Json json j → IsBadJson json → ⊥)
    (one : (json : List ℕ) (i j : Value) → Json json i → Json json j → i ≡ j)
    (says : (text : List ℕ) (n : ℕ) → number_of text ≡ Some n → (text ≡ number_text n) × (n < 32))
    (metadata : (json : List ℕ) → ((f : MetaFault) → IsMetaFault json f → ⊥) ↔ ((j : Value) × IsMeta json j))
    (digest : (json : List ℕ) (j : Value) → IsMeta json j → (n m k : ℕ) → IsDigestOf j n m → IsDigestOf j n k → m ≡ k) where
  -- the metadata's first fault, or by accepted metadata
  by_metadata : (allowed : Allowed) (b json : List ℕ) (total n : ℕ) → ((f : HeadFault) → IsUuidFault (uuid_field b) f → ⊥) → LeastOrNone MetaFault meta_key (IsMetaFault json)
      → LeastOrNone OpenFault open_key (IsLuks2RefusalWithin allowed b json total n)
  by_metadata allowed b json total n head_none (inl first) = inl (opening.Meta first.0, (first.1.0, before_others allowed b json total n head_none first.0 first.1))
  by_metadata allowed b json total n head_none (inr meta_none) =
      let j = (metadata json).0 meta_none in
      accepted_refusal_or_none says json j.0 j.1 (λ i holds. one json i j.0 holds j.1.json) n (digest json j.0 j.1 n) allowed b total head_none meta_none

  -- the uuid's first fault, or by the metadata
  by_uuid : (allowed : Allowed) (b json : List ℕ) (total n : ℕ) → LeastOrNone HeadFault head_key (IsUuidFault (uuid_field b)) → LeastOrNone OpenFault open_key (IsLuks2RefusalWithin allowed b json total n)
  by_uuid allowed b json total n (inl first) = inl (opening.Head first.0, (first.1.0, before_all allowed b json total n first.0 first.1))
  by_uuid allowed b json total n (inr none) = by_metadata allowed b json total n none (meta_fault_or_none kinds good one json)

  -- a keyslot of a copy has a first refusal or none
  pub luks2_refusal_or_none : (allowed : Allowed) (b json : List ℕ) (total n : ℕ) → LeastOrNone OpenFault open_key (IsLuks2RefusalWithin allowed b json total n)
  luks2_refusal_or_none allowed b json total n = by_uuid allowed b json total n (uuid_fault_or_none (uuid_field b))
