-- For accepted LUKS2 metadata: each fault for which the volume key gives no keyslot is there, or isn't.
use Rattle.std.proofs.Common.{◌≡◌, ℕ, List, length, Bool, Option, Some, None, refl, subst, inl, inr}
use Rattle.serde_json.specs.Data.{Data as Value}
use Rattle.luks_json.specs.AreaText.{Json}
use Rattle.luks_json.proofs.Numbers.{text_of_named}
use Rattle.luks_rules.specs.Accepted.{IsMeta}
use Rattle.luks_rules.proofs.AreaFaults.{one_value}
use Rattle.luks_meta.proofs.Namings.{one_digest}
use Rattle.luks_slot.specs.declared.fault.SlotFault.{SlotFault}
use Rattle.luks_slot.specs.declared.fault.SlotFault.TheVariants.{Hash}
use Rattle.luks_slot.specs.declared.plan.DigestPlan.{DigestPlan}
use Rattle.luks_slot.specs.Allowance.{without_memory}
use Rattle.luks_slot.specs.Refusal.{slot_refusal_within}
use Rattle.luks_reading.specs.Plans.{HasLuks2Plan}
use Rattle.luks_edit.specs.declared.edit_fault.EditFault.{EditFault}
use Rattle.luks_edit.specs.declared.edit_fault.EditFault.TheVariants as fault
use Rattle.luks2_edit_laws.specs.declared.like.Like.{Like}
use Rattle.luks2_edit_laws.specs.declared.like.Like.TheVariants.{Keyslot, Digest}
use Rattle.luks2_edit_laws.specs.Likes.{derived_anew, HasNoDigestFor, HasRefusal, HasRefusedLike, IsRefusedLike, IsUnknownTo, MayMeetUnknown, MeetsKey, MeetsNone, TakesKey}
use Rattle.luks2_edit_laws.specs.Refused.{IsUnkeyed2}
use Rattle.luks2_edit_laws.proofs.LikeFacts.{one_like_by_key}
use Rattle.luks2_judging.proofs.UnkeyedFacts.{refusal_once}
use Rattle.luks_laws.proofs.DecidedFacts.{alike_decided, Decided, one_decided, three_decided}
use Rattle.luks_laws.proofs.SearchFacts.{none_of_decided, some_of_decided, SomeOrNone}
use Rattle.luks_laws.proofs.PlanDecisions.{is_fault_decided, same_fault_decided}
use Rattle.luks_laws.proofs.PlanLikeness2.{object_of_plan, plan_of_object}
use Rattle.luks_laws.proofs.KeyslotDecisions2.{find_plan}
use Rattle.luks_laws.proofs.DigestDecisions2.{meets_decided, takes_or_none, unknown_decided}
use Rattle.luks_laws.proofs.LikeDecisions2.{like_by_key_or_none}

-- ---- the digests

module _ (j : Value) (len : ℕ) where
  -- some digest of the number takes a key of so many bytes
  abbrev IsTaken : ℕ → Type 0
  IsTaken m = (d : DigestPlan) × TakesKey j m len d

  taken_decided : (m : ℕ) → Decided (IsTaken m)
  taken_decided m = elim (takes_or_none j m len) [ inl d ↦ inl d | inr none ↦ inr (λ x. none x.0 x.1) ]

  -- no digest takes it, or some does
  none_takes_decided : Decided (HasNoDigestFor j len)
  none_takes_decided = alike_decided ((m : ℕ) → IsTaken m → ⊥) (HasNoDigestFor j len) (λ none m d x. none m (d, x)) (λ none m x. none m x.0 x.1)
      (none_of_decided IsTaken taken_decided 32 (λ m x. x.1.there.named))

module _ (older : Bool) (j : Value) (key : List ℕ) where
  -- the key meets no digest, or it meets one
  none_met_decided : Decided ((m : ℕ) → MeetsKey older j key m → ⊥)
  none_met_decided = none_of_decided (MeetsKey older j key) (meets_decided older j key) 32 (λ m x. x.takes.there.named)

  -- the digests that take it are known, and it meets none, or not
  meets_none_decided : Decided (MeetsNone older j key)
  meets_none_decided = alike_decided (((m : ℕ) × IsTaken j (length key) m) × ((m : ℕ) → IsUnknownTo older j key m → ⊥) × ((m : ℕ) → MeetsKey older j key m → ⊥)) (MeetsNone older j key)
      (λ x. record { number = x.0.0; digest = x.0.1.0; takes = x.0.1.1; known = x.1; none = x.2 }) (λ x. ((x.number, (x.digest, x.takes)), x.known, x.none))
      (three_decided _ _ _ (some_of_decided (IsTaken j (length key)) (taken_decided j (length key)) 32 (λ m x. x.1.there.named))
      (none_of_decided (IsUnknownTo older j key) (unknown_decided older j key) 32 (λ m x. x.takes.there.named)) none_met_decided)

  -- it may meet one whose hash isn't known, or not
  may_meet_decided : (f : SlotFault) → Decided (MayMeetUnknown older j key f)
  may_meet_decided f = alike_decided ((f ≡ Hash) × ((m : ℕ) × IsUnknownTo older j key m) × ((m : ℕ) → MeetsKey older j key m → ⊥)) (MayMeetUnknown older j key f)
      (λ x. record { is = x.0; number = x.1.0; unknown = x.1.1; none = x.2 }) (λ x. (x.is, (x.number, x.unknown), x.none))
      (three_decided _ _ _ (same_fault_decided f Hash) (some_of_decided (IsUnknownTo older j key) (unknown_decided older j key) 32 (λ m x. x.takes.there.named)) none_met_decided)

-- ---- the keyslot that is made

module _ (json : List ℕ) (j : Value) (accepted : IsMeta json j) where
  value : (i : Value) → Json json i → i ≡ j
  value i holds = one_value json i j holds accepted.json

  -- the plan of a keyslot that is there
  plan_there : (older : Bool) (n : ℕ) (refusal : Option SlotFault) (x : IsRefusedLike older j n refusal) → HasLuks2Plan json n x.plan
  plan_there older n refusal x = record { numbered = x.there.named; value = j; holds = accepted.json; object = x.object; there = x.there.is; is = x.is }

  -- a keyslot that is made like one is refused by something or nothing, unless that one isn't there
  refusal_or_none : (older : Bool) (l : Like) → SomeOrNone (Option SlotFault) (HasRefusal older j l)
  refusal_or_none older (Keyslot n) =
      let digest = one_digest json j accepted n in
      elim (find_plan text_of_named json j accepted value n digest) [
        | inl own ↦ (let object = object_of_plan json j n value digest own.0 own.1 in
            inl (
              slot_refusal_within (without_memory older) (derived_anew own.0),
              record {
                object = own.1.object;
                there = record { numbered = refl; named = own.1.numbered; is = object };
                plan = own.0;
                is = plan_of_object json j n value digest own.1.object object own.0 own.1;
                refused = refl;
              },
            ))
        | inr none ↦ inr (λ refusal x. none x.plan (plan_there older n refusal x))
      ]
  refusal_or_none older (Digest number len) = inl (None, refl)

  -- it is refused so, or it isn't
  refusal_decided : (older : Bool) (l : Like) (f : SlotFault) → Decided (HasRefusal older j l (Some f))
  refusal_decided older l f = elim (refusal_or_none older l) [
    | inl own ↦ elim (is_fault_decided own.0 f) [
      | inl same ↦ inl (subst (HasRefusal older j l) same own.1)
      | inr other ↦ inr (λ x. other (refusal_once json j accepted older l own.0 (Some f) own.1 x))
    ]
    | inr none ↦ inr (none (Some f))
  ]

  module _ (older : Bool) (key : List ℕ) where
    -- the key meets a digest, by which such a keyslot is made and refused so, or not
    refused_like_decided : (f : SlotFault) → Decided (HasRefusedLike older j key f)
    refused_like_decided f = elim (like_by_key_or_none older j key) [
      | inl l ↦ alike_decided (HasRefusal older j l.0 (Some f)) (HasRefusedLike older j key f) (λ x. record { like = l.0; is_like = l.1; refused = x })
          (λ x. subst (λ k. HasRefusal older j k (Some f)) (one_like_by_key older j key x.like l.0 x.is_like l.1) x.refused) (refusal_decided older l.0 f)
      | inr none ↦ inr (λ x. none x.like x.is_like)
    ]

    -- each fault stands, or it doesn't
    pub unkeyed_decided : (f : EditFault) → Decided (IsUnkeyed2 older j key f)
    unkeyed_decided fault.KeyLength = none_takes_decided j (length key)
    unkeyed_decided fault.WrongKey = meets_none_decided older j key
    unkeyed_decided (fault.Slot f) = one_decided _ _ (may_meet_decided older j key f) (refused_like_decided f)
    unkeyed_decided f = inr (λ bad. bad)
