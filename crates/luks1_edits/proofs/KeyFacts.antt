-- What gives the key for an edit of a LUKS1 volume: one key at most, or one fault, whatever memory is allowed.
use Rattle.std.proofs.Common.{◌≡◌, ℕ, ◌≤◌, List, [], length, Bool, true, false, Option, Some, None, refl, sym, ap, subst, ◌∙◌, arith}
use Rattle.std.proofs.lemmas.Bool.{false≢true}
use Rattle.std.proofs.lemmas.Option.{same_Some}
use Rattle.luks_area.specs.First.{NotAfter}
use Rattle.luks_area.specs.Ranges.{part}
use Rattle.luks1_header.specs.Header1.{entry}
use Rattle.luks2_header.specs.Selection.{luks1, Chosen}
use Rattle.luks2_header.proofs.ChoiceFacts.{choices_agree}
use Rattle.luks_slot.specs.declared.allowed.Allowed.{Allowed}
use Rattle.luks_slot.specs.declared.fault.SlotFault.{SlotFault}
use Rattle.luks_slot.specs.declared.plan.SlotPlan.{SlotPlan}
use Rattle.luks_slot.specs.Allowance.{without_memory}
use Rattle.luks_slot.specs.Refusal.{slot_refusal_within}
use Rattle.luks_reading.specs.declared.open_fault.OpenFault.TheVariants as opening
use Rattle.luks_reading.specs.Answer.{HasPlanAs, IsLuks1Refusal, IsRefusalAsWithin, slot_row}
use Rattle.luks_reading.specs.Plans.{HasLuks1Plan}
use Rattle.luks_edit.specs.declared.edit.Opener.{Opener}
use Rattle.luks_edit.specs.declared.edit.Opener.TheVariants.{Keyslot, Key}
use Rattle.luks_edit.specs.declared.edit.SecretKind.TheVariants as kind
use Rattle.luks_edit.specs.declared.edit_fault.EditFault.{EditFault}
use Rattle.luks_edit.specs.declared.edit_fault.EditFault.TheVariants as fault
use Rattle.luks_edit.specs.EditFaults.{edit_key}
use Rattle.luks_edit.specs.Secrets.{GivesWithin, own_key}
use Rattle.luks_edit.proofs.OpeningFacts.{is_lock, is_opening, lock_first, lock_is, no_lock, not_opening, opened_past, plan_first, unopened_alike, unopened_first}
use Rattle.luks_edit.proofs.SecretFacts.{given_meets}
use Rattle.luks1_edits.specs.Edited.{Gives1, GivesKey}
use Rattle.luks1_edits.specs.Refused.{IsUnkeyed1, IsUnopenedBy1}
use Rattle.luks1_edits.proofs.AnswerFacts.{found_once, same_front}
use Rattle.luks1_edits.proofs.MadeKeyslotFacts.{IsPlanned, SameTerms, same_digest, same_refusal, same_terms}

-- the plans of a header's keyslots say the same of all but the keyslot
header_terms : (v : List ℕ) (n m : ℕ) (a b : SlotPlan) → HasLuks1Plan (part v 0 592) n a → HasLuks1Plan (part v 0 592) m b → SameTerms a b
header_terms v n m a b x y = same_terms (part v 0 592) (part v 0 592) (entry (part v 0 592) n) (entry (part v 0 592) m) a b (same_front v v refl) x.is y.is

pub refused_alike : (v : List ℕ) (n m : ℕ) (a b : SlotPlan) (allowed : Allowed) → HasLuks1Plan (part v 0 592) n a → HasLuks1Plan (part v 0 592) m b
    → slot_refusal_within allowed a ≡ slot_refusal_within allowed b
refused_alike v n m a b allowed x y = same_refusal allowed a b (header_terms v n m a b x y)

own_alike : (v : List ℕ) (n m : ℕ) (a b : SlotPlan) (key : List ℕ) → HasLuks1Plan (part v 0 592) n a → HasLuks1Plan (part v 0 592) m b → own_key a key ≡ own_key b key
own_alike v n m a b key x y =
    let digests = same_digest a b key (header_terms v n m a b x y) in
    let long = x.is.key_bytes ∙ sym y.is.key_bytes in
    simp (digests, long)

-- ---- the volume key

gives_key_once : (less more : Bool) (v key : List ℕ) (a b : Option (List ℕ)) → GivesKey less v key a → GivesKey more v key b → a ≡ b
gives_key_once less more v key a b x y = sym x.key ∙ own_alike v x.slot y.slot x.plan y.plan key x.is y.is ∙ y.key

module _ (older : Bool) (v key : List ℕ) where
  unkeyed_lock : (f g : EditFault) → f ≡ g → is_lock g ≡ true → is_lock f ≡ true
  unkeyed_lock f g same is = ap is_lock same ∙ is

  -- of two faults of it the first one stands where it stands
  unkeyed_first : (f g : EditFault) → IsUnkeyed1 older v key f → IsUnkeyed1 older v key g → NotAfter (edit_key f) (edit_key g)
  unkeyed_first (fault.Slot s) (fault.Slot t) x y =
      let same : s ≡ t = same_Some s t (sym x.refused.refused ∙ refused_alike v x.slot y.slot x.refused.plan y.refused.plan (without_memory older) x.refused.is y.refused.is ∙ y.refused.refused) in
      plan_first s t (subst (λ k. slot_row s ≤ slot_row k) same (omega arith))
  unkeyed_first (fault.Slot s) g x y =
      let two : Some s ≡ None = sym x.refused.refused ∙ refused_alike v x.slot y.gives.slot x.refused.plan y.gives.plan (without_memory older) x.refused.is y.gives.is ∙ y.gives.accepted in
      absurd (cc)
  unkeyed_first f (fault.Slot t) x y =
      let two : None ≡ Some t = sym x.gives.accepted ∙ refused_alike v x.gives.slot y.slot x.gives.plan y.refused.plan (without_memory older) x.gives.is y.refused.is ∙ y.refused.refused in
      absurd (cc)
  unkeyed_first f g x y = lock_first f g (unkeyed_lock f _ x.is (lock_is kind.Key _ key)) (y.is ∙ sym x.is)

  unkeyed_not : (f : EditFault) → is_opening f ≡ false → IsUnkeyed1 older v key f → ⊥
  unkeyed_not (fault.Slot s) not bad = false≢true (sym not)
  unkeyed_not fault.Locked not bad = false≢true (sym not)
  unkeyed_not fault.KeyLength not bad = false≢true (sym not)
  unkeyed_not fault.WrongKey not bad = false≢true (sym not)
  unkeyed_not f not bad = no_lock kind.Key _ key f refl bad.is

  -- a key that is given has none
  unkeyed_past : (own : List ℕ) → GivesKey older v key (Some own) → (f : EditFault) → IsUnkeyed1 older v key f → ⊥
  unkeyed_past own x (fault.Slot s) bad =
      let two : None ≡ Some s = sym x.accepted ∙ refused_alike v x.slot bad.slot x.plan bad.refused.plan (without_memory older) x.is bad.refused.is ∙ bad.refused.refused in
      absurd (cc)
  unkeyed_past own x f bad = let two = gives_key_once older older v key (Some own) None x bad.gives in absurd (cc)

-- ---- each opener

pub gives_once : (v : List ℕ) → Chosen v luks1 → (less more : Allowed) (o : Opener) (a b : Option (List ℕ)) → Gives1 less v o a → Gives1 more v o b → a ≡ b
gives_once v chosen less more (Keyslot slot secret) a b x y = found_once secret.kind v chosen less more slot secret.bytes.now a b x y
gives_once v chosen less more (Key key) a b x y = gives_key_once less.older more.older v key.bytes.now a b x y

pub opener_alike : (v : List ℕ) → Chosen v luks1 → (less more : Allowed) (o : Opener) (f : EditFault) → less.older ≡ more.older → IsUnopenedBy1 less v o f → IsUnopenedBy1 more v o f
opener_alike v chosen less more (Keyslot slot secret) f alike x = unopened_alike v chosen less more slot alike secret f x
opener_alike v chosen less more (Key key) f alike x = subst (λ older. IsUnkeyed1 older v key.bytes.now f) alike x

pub opener_first : (allowed : Allowed) (v : List ℕ) (o : Opener) (f g : EditFault) → IsUnopenedBy1 allowed v o f → IsUnopenedBy1 allowed v o g → NotAfter (edit_key f) (edit_key g)
opener_first allowed v (Keyslot slot secret) f g x y = unopened_first allowed v slot secret f g x y
opener_first allowed v (Key key) f g x y = unkeyed_first allowed.older v key.bytes.now f g x y

pub opener_not : (allowed : Allowed) (v : List ℕ) (o : Opener) (f : EditFault) → is_opening f ≡ false → IsUnopenedBy1 allowed v o f → ⊥
opener_not allowed v (Keyslot slot secret) f not bad = not_opening allowed v slot secret f not bad
opener_not allowed v (Key key) f not bad = unkeyed_not allowed.older v key.bytes.now f not bad

pub opener_past : (allowed : Allowed) (v : List ℕ) (o : Opener) (key : List ℕ) → Gives1 allowed v o (Some key) → (f : EditFault) → IsUnopenedBy1 allowed v o f → ⊥
opener_past allowed v (Keyslot slot secret) key x f bad = opened_past allowed v slot secret key x f bad
opener_past allowed v (Key own) key x f bad = unkeyed_past allowed.older v own.bytes.now key x f bad

-- ---- a key that is given meets the digest, by a plan that isn't refused

none_of : (o : Option SlotFault) → ((s : SlotFault) → o ≡ Some s → ⊥) → o ≡ None
none_of None not = refl
none_of (Some s) not = absurd (not s refl)

keyslot_planned : (v : List ℕ) → Chosen v luks1 → (allowed : Allowed) (n : ℕ) (k : _) (p key : List ℕ) → GivesWithin k allowed v n p (Some key) → IsPlanned allowed.older v key
keyslot_planned v chosen allowed n k p key x =
    let one = choices_agree v x.choice luks1 x.chosen chosen in
    let there : HasLuks1Plan (part v 0 592) n x.plan = subst (λ c. HasPlanAs v n c x.plan) one x.is in
    record {
      slot = n;
      plan = x.plan;
      is = there;
      accepted = none_of (slot_refusal_within (without_memory allowed.older) x.plan) (λ s refused.
          let refusal : IsLuks1Refusal allowed.older (part v 0 592) (length v) n (opening.Slot s) = record { plan = x.plan; is = there; refused = refused } in
          x.unrefused (opening.Slot s) (subst (λ c. IsRefusalAsWithin allowed v n c (opening.Slot s)) (sym one) refusal));
      meets = given_meets k x.plan (part v x.plan.area.start x.plan.area.len) p key x.key;
    }

pub planned_of : (v : List ℕ) → Chosen v luks1 → (allowed : Allowed) (o : Opener) (key : List ℕ) → Gives1 allowed v o (Some key) → IsPlanned allowed.older v key
planned_of v chosen allowed (Keyslot slot secret) key x = keyslot_planned v chosen allowed slot secret.kind secret.bytes.now key x
planned_of v chosen allowed (Key own) key x =
    record { slot = x.slot; plan = x.plan; is = x.is; accepted = x.accepted; meets = given_meets kind.Key x.plan [] own.bytes.now key x.key }
