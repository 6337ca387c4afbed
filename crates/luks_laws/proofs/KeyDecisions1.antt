-- What gives the key for an edit of a LUKS1 volume: whether it does, and by what it is refused, is decided.
use Rattle.std.proofs.Common.{◌≡◌, ◌∙◌, ℕ, ◌<◌, Bool, List, None, inl, inr}
use Rattle.luks_area.specs.Ranges.{part}
use Rattle.luks1_header.specs.Header1.{key_bytes_of, luks1_size}
use Rattle.luks_slot.specs.declared.allowed.Allowed.{Allowed}
use Rattle.luks_slot.specs.declared.fault.SlotFault.{SlotFault}
use Rattle.luks_slot.specs.declared.plan.SlotPlan.{SlotPlan}
use Rattle.luks_slot.specs.Allowance.{without_memory}
use Rattle.luks_slot.specs.Refusal.{slot_refusal_within}
use Rattle.luks_reading.specs.Answer.{AnswerWithin, HasRefusedPlanWithin, Opened}
use Rattle.luks_reading.specs.Plans.{HasLuks1Plan}
use Rattle.luks_reading.proofs.Luks1Plans.{one_luks1_plan}
use Rattle.luks_reading.proofs.SamePlans.{same_refusal_within}
use Rattle.luks_edit.specs.declared.edit.Edit.{Edit}
use Rattle.luks_edit.specs.declared.edit.Opener.{Opener}
use Rattle.luks_edit.specs.declared.edit.Opener.TheVariants.{Keyslot, Key}
use Rattle.luks_edit.specs.declared.edit.SecretKind.TheVariants as kind
use Rattle.luks_edit.specs.declared.edit_fault.EditFault.{EditFault}
use Rattle.luks_edit.specs.declared.edit_fault.EditFault.TheVariants as fault
use Rattle.luks_edit.specs.Asked.{allowed_by, deed_of, opener_in}
use Rattle.luks_edit.specs.Opener.{lock_fault}
use Rattle.luks_edit.specs.Secrets.{own_key}
use Rattle.luks_edit.proofs.OpeningFacts.{lock_is}
use Rattle.luks_edit.proofs.SecretFacts.{same_own}
use Rattle.luks1_edits.specs.Edited.{GivesKey}
use Rattle.luks1_edits.specs.Refused.{IsOtherKey, IsRefusedAnywhere, IsUnkeyed1, IsUnopened1, IsUnopenedBy1}
use Rattle.luks_laws.proofs.AskedDecisions.{keyslot_decided, lock_decided}
use Rattle.luks_laws.proofs.DecidedFacts.{alike_decided, both_decided, Decided, some_below_decided}
use Rattle.luks_laws.proofs.KeyslotDecisions1.{alike_plans, find_plan}
use Rattle.luks_laws.proofs.MemberDecisions2.{none_decided}
use Rattle.luks_laws.proofs.PlanDecisions.{refused_within_decided}
use Rattle.luks_laws.proofs.SearchFacts.{some_decided}

-- ---- the volume key

-- by the keyslot `n` of the header the bytes aren't the key
record GivesNone (older : Bool) (v bytes : List ℕ) (n : ℕ) : Type 0 where
  plan : SlotPlan
  is : HasLuks1Plan (part v 0 luks1_size) n plan
  accepted : slot_refusal_within (without_memory older) plan ≡ None
  key : own_key plan bytes ≡ None

module _ (older : Bool) (v bytes : List ℕ) where
  -- they aren't, or they are, or it is refused
  none_by_decided : (n : ℕ) → Decided (GivesNone older v bytes n)
  none_by_decided n = elim (find_plan (part v 0 luks1_size) n) [
    | inl own ↦ elim (both_decided _ _ (none_decided (slot_refusal_within (without_memory older) own.0)) (none_decided (own_key own.0 bytes))) [
      | inl is ↦ inl (record { plan = own.0; is = own.1; accepted = is.0; key = is.1 })
      | inr isnt ↦ inr (λ x. (let s = one_luks1_plan (part v 0 luks1_size) n own.0 x.plan own.1 x.is in
          isnt (same_refusal_within (without_memory older) own.0 x.plan s ∙ x.accepted, same_own own.0 x.plan bytes s ∙ x.key)))
    ]
    | inr none ↦ inr (λ x. none x.plan x.is)
  ]

  -- so the header tells that they aren't, or it doesn't
  none_given_decided : Decided (GivesKey older v bytes None)
  none_given_decided = alike_decided ((n : ℕ) × (n < 8) × GivesNone older v bytes n) (GivesKey older v bytes None)
      (λ x. record { slot = x.0; plan = x.2.plan; is = x.2.is; accepted = x.2.accepted; key = x.2.key })
      (λ x. (x.slot, x.is.numbered, record { plan = x.plan; is = x.is; accepted = x.accepted; key = x.key }))
      (some_below_decided (GivesNone older v bytes) none_by_decided 8)

  -- the volume has another key, or it hasn't
  other_key_decided : (f : EditFault) → Decided (IsOtherKey older v bytes f)
  other_key_decided f = alike_decided (GivesKey older v bytes None × (f ≡ lock_fault kind.Key (key_bytes_of v) bytes)) (IsOtherKey older v bytes f)
      (λ x. record { gives = x.0; is = x.1 }) (λ x. (x.gives, x.is))
      (both_decided _ _ none_given_decided (lock_decided f (lock_fault kind.Key (key_bytes_of v) bytes) (lock_is kind.Key (key_bytes_of v) bytes)))

  -- what the header says of its keyslots is refused, or it isn't
  refused_anywhere_decided : (f : SlotFault) → Decided (IsRefusedAnywhere older v f)
  refused_anywhere_decided f =
      let h = part v 0 luks1_size in
      alike_decided ((n : ℕ) × (n < 8) × HasRefusedPlanWithin (without_memory older) (HasLuks1Plan h n) f) (IsRefusedAnywhere older v f)
      (λ x. record { slot = x.0; refused = x.2 }) (λ x. (x.slot, x.refused.is.numbered, x.refused))
      (some_below_decided (λ n. HasRefusedPlanWithin (without_memory older) (HasLuks1Plan h n) f)
      (λ n. refused_within_decided (HasLuks1Plan h n) (find_plan h n) (alike_plans h n) (without_memory older) f) 8)

  -- the fault says why it doesn't give itself, or it doesn't
  unkeyed1_decided : (f : EditFault) → Decided (IsUnkeyed1 older v bytes f)
  unkeyed1_decided (fault.Slot s) = refused_anywhere_decided s
  unkeyed1_decided f = other_key_decided f

-- ---- whatever gives the key

module _ (v : List ℕ) (answer : (m : Allowed) (n : ℕ) (p : List ℕ) → (a : Opened) × AnswerWithin m v n p a) (e : Edit) (f : EditFault) where
  by_opener : (o : Opener) → Decided (IsUnopenedBy1 (allowed_by e) v o f)
  by_opener (Keyslot slot secret) =
      (let a = answer (allowed_by e) slot secret.bytes.now in keyslot_decided (allowed_by e) v slot secret a.0 a.1 f)
  by_opener (Key key) = unkeyed1_decided (allowed_by e).older v key.bytes.now f

  -- the fault says why it gives none, or it doesn't
  pub unopened1_decided : Decided (IsUnopened1 v e f)
  unopened1_decided = some_decided Opener (opener_in (deed_of e)) (λ o. IsUnopenedBy1 (allowed_by e) v o f) by_opener
