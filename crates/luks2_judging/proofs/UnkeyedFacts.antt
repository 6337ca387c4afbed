-- Why the volume key doesn't give itself: one fault, and none where it does.
use Rattle.std.proofs.Common.{◌≡◌, ℕ, ◌≤◌, List, length, Bool, Option, Some, None, inl, inr, sym, ap, subst, ◌∙◌, arith}
use Rattle.std.proofs.lemmas.Option.{same_Some}
use Rattle.std.specs.Prelude.{◌⊎◌}
use Rattle.serde_json.specs.Data.{Data as Value}
use Rattle.luks_area.specs.First.{NotAfter}
use Rattle.luks_rules.specs.Accepted.{IsMeta}
use Rattle.luks_rules.proofs.AreaFaults.{one_value}
use Rattle.luks_meta.proofs.Namings.{one_digest}
use Rattle.luks_slot.specs.declared.fault.SlotFault.{SlotFault}
use Rattle.luks_slot.specs.declared.plan.SlotPlan.{SlotPlan}
use Rattle.luks_slot.specs.Allowance.{without_memory}
use Rattle.luks_slot.specs.Refusal.{is_key_size, slot_refusal_within}
use Rattle.luks_reading.specs.Answer.{slot_row}
use Rattle.luks_reading.proofs.Luks2Plans.{one_luks2_plan, IsOnly}
use Rattle.luks_reading.proofs.SamePlans.{SameFields}
use Rattle.luks_edit.specs.declared.edit_fault.EditFault.{EditFault}
use Rattle.luks_edit.specs.declared.edit_fault.EditFault.TheVariants as fault
use Rattle.luks_edit.specs.EditFaults.{edit_key}
use Rattle.luks_edit.proofs.OpeningFacts.{plan_first}
use Rattle.luks2_edit_laws.specs.declared.like.Like.{Like}
use Rattle.luks2_edit_laws.specs.declared.like.Like.TheVariants.{Keyslot, Digest}
use Rattle.luks2_edit_laws.specs.Likes.{derived_anew, HasNoDigestFor, HasRefusal, HasRefusedLike, IsLikeByKey, MayMeetUnknown, MeetsNone}
use Rattle.luks2_edit_laws.specs.Refused.{IsUnkeyed2}
use Rattle.luks2_edit_laws.proofs.LikeFacts.{one_like_by_key}

-- plans that say the same are refused alike where they derive anew
same_anew : (older : Bool) (a b : SlotPlan) → SameFields a b → slot_refusal_within (without_memory older) (derived_anew a) ≡ slot_refusal_within (without_memory older) (derived_anew b)
same_anew older a b s =
    let cipher = s.cipher older in
    let size = ap (is_key_size a.cipher) s.area_key_bytes ∙ s.key_size b.area_key_bytes in
    simp (cipher, size, s.splitter_hash, s.digest_hash)

module _ (json : List ℕ) (j : Value) (meta : IsMeta json j) where
  only : (n : ℕ) → IsOnly json j n
  only n = record {
    value = λ i holds. one_value json j i meta.json holds;
    digest = λ m k p q. one_digest json j meta n m k p q;
  }

  -- what refuses a keyslot that is made like another is one thing
  pub refusal_once : (older : Bool) (like : Like) (f g : Option SlotFault) → HasRefusal older j like f → HasRefusal older j like g → f ≡ g
  refusal_once older (Keyslot n) f g x y =
      let fields = one_luks2_plan json j n x.plan y.plan (only n)
      (record { numbered = x.there.named; value = j; holds = meta.json; object = x.object; there = x.there.is; is = x.is })
      (record { numbered = y.there.named; value = j; holds = meta.json; object = y.object; there = y.there.is; is = y.is }) in
      sym x.refused ∙ same_anew older x.plan y.plan fields ∙ y.refused
  refusal_once older (Digest number key_bytes) f g x y = x ∙ sym y

  module _ (older : Bool) (key : List ℕ) where
    slot_once : (s t : SlotFault) → MayMeetUnknown older j key s ⊎ HasRefusedLike older j key s → MayMeetUnknown older j key t ⊎ HasRefusedLike older j key t → s ≡ t
    slot_once s t (inl x) (inl y) = x.is ∙ sym y.is
    slot_once s t (inl x) (inr y) = absurd (x.none y.is_like.digest y.is_like.is.meets)
    slot_once s t (inr x) (inl y) = absurd (y.none x.is_like.digest x.is_like.is.meets)
    slot_once s t (inr x) (inr y) =
        let same : y.like ≡ x.like = one_like_by_key older j key y.like x.like y.is_like x.is_like in
        same_Some s t (refusal_once older x.like (Some s) (Some t) x.refused (subst (λ l. HasRefusal older j l (Some t)) same y.refused))

    -- a digest takes it where one of these stands
    slot_takes : (s : SlotFault) → MayMeetUnknown older j key s ⊎ HasRefusedLike older j key s → HasNoDigestFor j (length key) → ⊥
    slot_takes s (inl x) none = none x.number x.unknown.digest x.unknown.takes
    slot_takes s (inr x) none = none x.is_like.digest x.is_like.is.meets.digest x.is_like.is.meets.takes

    slot_met : (s : SlotFault) → MayMeetUnknown older j key s ⊎ HasRefusedLike older j key s → MeetsNone older j key → ⊥
    slot_met s (inl x) none = none.known x.number x.unknown
    slot_met s (inr x) none = none.none x.is_like.digest x.is_like.is.meets

    length_first : (g : EditFault) → HasNoDigestFor j (length key) → IsUnkeyed2 older j key g → NotAfter (edit_key fault.KeyLength) (edit_key g)
    length_first fault.KeyLength x y = (omega arith, λ _. tt)
    length_first fault.WrongKey x y = absurd (x y.number y.digest y.takes)
    length_first (fault.Slot s) x y = absurd (slot_takes s y x)
    length_first g x y = absurd y

    wrong_first : (g : EditFault) → MeetsNone older j key → IsUnkeyed2 older j key g → NotAfter (edit_key fault.WrongKey) (edit_key g)
    wrong_first fault.KeyLength x y = absurd (y x.number x.digest x.takes)
    wrong_first fault.WrongKey x y = (omega arith, λ _. tt)
    wrong_first (fault.Slot s) x y = absurd (slot_met s y x)
    wrong_first g x y = absurd y

    slot_first : (s : SlotFault) (g : EditFault) → MayMeetUnknown older j key s ⊎ HasRefusedLike older j key s → IsUnkeyed2 older j key g → NotAfter (edit_key (fault.Slot s)) (edit_key g)
    slot_first s fault.KeyLength x y = absurd (slot_takes s x y)
    slot_first s fault.WrongKey x y = absurd (slot_met s x y)
    slot_first s (fault.Slot t) x y = plan_first s t (subst (λ k. slot_row s ≤ slot_row k) (slot_once s t x y) (omega arith))
    slot_first s g x y = absurd y

    -- of two the first one stands where it stands
    pub unkeyed_first : (f g : EditFault) → IsUnkeyed2 older j key f → IsUnkeyed2 older j key g → NotAfter (edit_key f) (edit_key g)
    unkeyed_first fault.KeyLength g x y = length_first g x y
    unkeyed_first fault.WrongKey g x y = wrong_first g x y
    unkeyed_first (fault.Slot s) g x y = slot_first s g x y
    unkeyed_first f g x y = absurd x

    -- a key that gives itself has none
    pub unkeyed_past : (like : Like) → IsLikeByKey older j key like → HasRefusal older j like None → (f : EditFault) → IsUnkeyed2 older j key f → ⊥
    unkeyed_past like is accepted fault.KeyLength bad = bad is.digest is.is.meets.digest is.is.meets.takes
    unkeyed_past like is accepted fault.WrongKey bad = bad.none is.digest is.is.meets
    unkeyed_past like is accepted (fault.Slot s) (inl bad) = bad.none is.digest is.is.meets
    unkeyed_past like is accepted (fault.Slot s) (inr bad) =
        let same : bad.like ≡ like = one_like_by_key older j key bad.like like bad.is_like is in
        absurd (let two : Some s ≡ None = refusal_once older like (Some s) None (subst (λ l. HasRefusal older j l (Some s)) same bad.refused) accepted in cc)
    unkeyed_past like is accepted f bad = absurd bad
