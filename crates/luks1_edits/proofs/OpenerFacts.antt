-- The keyslot that an edit opens: what opening it says of a well formed LUKS1 volume.
use Rattle.std.proofs.Common.{◌≡◌, ℕ, List, length, subst, refl, sym, ap, ◌∙◌, arith, inl, inr, Option, Some, None, slice_index_or, Bool, true, false, ◌≢◌, ◌≤◌, ◌-◌, min}
use Rattle.std.proofs.lemmas.Bool.{false≢true}
use Rattle.luks_area.specs.declared.area.AreaName.TheVariants as area_name
use Rattle.std.proofs.lemmas.Option.{same_Some}
use Rattle.luks_area.specs.First.{NotAfter}
use Rattle.luks_area.specs.Ranges.{part}
use Rattle.luks_area.proofs.RangeFacts.{length-part}
use Rattle.luks1_header.specs.Faults.{IsLuks1Fault as IsLuks1HeadFault}
use Rattle.luks1_header.specs.Header1.{active_word, disabled_word, enabled_word, entry, HoldsSlots, IsCommon, IsEntry, IsLuks1, key_bytes_of, mk_digest_iterations_of}
use Rattle.luks1_header.specs.declared.fault.HeadFault.{HeadFault}
use Rattle.luks1_header.specs.declared.luks1.Luks1.{Luks1}
use Rattle.luks1_header.specs.declared.luks1.Luks1Slot.{Luks1Slot}
use Rattle.luks2_header.specs.Selection.{luks1}
use Rattle.luks2_header.proofs.ChoiceFacts.{choices_agree}
use Rattle.luks_slot.specs.declared.allowed.Allowed.{Allowed}
use Rattle.luks_slot.specs.declared.fault.SlotFault.{SlotFault}
use Rattle.luks_slot.specs.declared.fault.SlotFault.TheVariants as slot
use Rattle.luks_slot.specs.declared.plan.SlotPlan.{SlotPlan}
use Rattle.luks_slot.specs.Fault.{IsAnsweredWithin}
use Rattle.luks_slot.specs.Allowance.{without_memory}
use Rattle.luks_slot.specs.Refusal.{slot_refusal_within}
use Rattle.luks_slot.proofs.DerivationFacts.{refusal_answered}
use Rattle.luks_reading.specs.declared.open_fault.OpenFault.{OpenFault}
use Rattle.luks_reading.specs.declared.open_fault.OpenFault.TheVariants as opening
use Rattle.luks_reading.specs.declared.report.Data.{Data}
use Rattle.luks_reading.specs.Answer.{AnswerWithin, HasRefusedPlanWithin, IsLuks1Refusal, IsRefusalWithin, IsRefusalAsWithin, open_key, refused}
use Rattle.luks_reading.specs.Checked.{IsLuks1Volume}
use Rattle.luks_reading.specs.PlanAnswers.{IsOpenable}
use Rattle.luks_reading.specs.Plans.{HasLuks1Plan, IsLuks1Plan}
use Rattle.luks_edit.specs.declared.edit_fault.EditFault.TheVariants as fault
use Rattle.luks_edit.specs.declared.edit_fault.EditFault.{EditFault}
use Rattle.luks1_edits.specs.Accepted.{IsHeaderOf, IsOpenedBy, IsUnopened, keyslot_fault}
use Rattle.luks1_edits.specs.Edited.{GivesKey, IsFree, IsInUse, Opens1}
use Rattle.luks1_edits.specs.Refused.{IsOtherKey}
use Rattle.luks_edit.specs.declared.edit.Opener.TheVariants.{Keyslot, Key}
use Rattle.luks_edit.specs.declared.edit.Secret.{Secret}
use Rattle.luks_edit.specs.declared.edit.SecretKind.{SecretKind}
use Rattle.luks_edit.specs.declared.edit.SecretKind.TheVariants as kind
use Rattle.luks_edit.specs.declared.edit.VolumeKey.{VolumeKey}
use Rattle.luks_edit.specs.EditFaults.{is_edit_failure}
use Rattle.luks_edit.specs.Opener.{IsUnmet, lock_fault}
use Rattle.luks_edit.specs.Secrets.{given_by, GivesWithin, own_key}
use Rattle.luks_edit.proofs.OpeningFacts.{is_lock, lock_is}
use Rattle.luks1_edits.proofs.AnswerFacts.{common_or_entry, same_front}
use Rattle.luks1_edits.proofs.KeyFacts.{opener_past}
use Rattle.luks1_edits.proofs.MadeKeyslotFacts.{no_argon2, same_refusal, same_terms}
use Rattle.luks1_edits.proofs.HeaderFacts.{entry_fault, entry_is, header_clear, key_is, volume_of}

-- the keyslots of the header are those of the volume
pub slots_in : (h : List ℕ) (payload : Data) (v : List ℕ) (slots : List Luks1Slot) → IsHeaderOf h payload v → HoldsSlots h slots → HoldsSlots v slots
slots_in h payload v slots x holds = record {
  eight = holds.eight;
  each = λ n s lt. subst (λ e. IsEntry e (slice_index_or slots n s)) (ap (λ b. entry b n) x.begins ∙ entry_is v n lt) (holds.each n s lt);
}

-- no keyslot is in use and free
pub used_or_free : (v : List ℕ) (n : ℕ) → IsInUse v n → IsFree v n → ⊥
used_or_free v n used free = let two : enabled_word ≡ disabled_word = sym used.1 ∙ free.1 in omega (arith, two)

-- the plan of a keyslot in use of the header
module _ (h : List ℕ) (d : Luks1) (n : ℕ) (s : Luks1Slot) (plan : SlotPlan) (is : IsLuks1 h d) (used : (v : List ℕ) → HoldsSlots v d.slots → IsInUse v n) where
  pub plan_openable : ((h e : List ℕ) → IsCommon h d.common → IsEntry e (slice_index_or d.slots n s) → active_word e ≡ enabled_word → IsOpenable plan) → IsOpenable plan
  plan_openable judged = let u = used h is.slots in judged h (entry h n) is.common (is.slots.each n s u.0) u.1

  pub plan_there : ((h e : List ℕ) → IsCommon h d.common → IsEntry e (slice_index_or d.slots n s) → IsLuks1Plan h e plan) → HasLuks1Plan h n plan
  plan_there says = let u = used h is.slots in record { numbered = u.0; is = says h (entry h n) is.common (is.slots.each n s u.0) }

module _ (h : List ℕ) (payload : Data) (v : List ℕ) (x : IsHeaderOf h payload v) (n : ℕ) (used : IsInUse v n) where
  whole : IsLuks1Volume (part v 0 592) payload (length v)
  whole = volume_of v payload x.chosen x.well

  clear : (f : HeadFault) → IsLuks1HeadFault (part v 0 592) f → ⊥
  clear = header_clear v payload x.chosen x.well

  -- a keyslot in use of a well formed volume is refused by its plan alone
  plan_alone : (older : Bool) (f : OpenFault) → IsLuks1Refusal older (part v 0 592) (length v) n f
      → (s : SlotFault) × ((f ≡ opening.Slot s) × HasRefusedPlanWithin (without_memory older) (HasLuks1Plan (part v 0 592) n) s)
  plan_alone older (opening.Head f) is = elim (common_or_entry (part v 0 592) n f is) [
    | inl y ↦ absurd (clear f y.1)
    | inr y ↦ absurd (clear f (entry_fault (part v 0 592) n f y.numbered y.fault))
  ]
  plan_alone older opening.NoSuchSlot over = absurd (let lt = used.0 in omega (arith, over, lt))
  plan_alone older opening.SlotFree off = absurd (
      let two : disabled_word ≡ enabled_word = sym off.1 ∙ ap active_word (entry_is v n off.0) ∙ used.1 in
      omega (arith, two)
      )
  plan_alone older opening.Outside out = absurd (
      let past = out.past in
      let within = whole.fit.inside (area_name.Slot n) out.plan.area (out.is.numbered, out.is.is.start, out.is.is.len) in
      omega (arith, past, within)
      )
  plan_alone older (opening.Slot s) is = (s, (refl, is))
  plan_alone older f is = absurd is

  module _ (plan : SlotPlan) (there : HasLuks1Plan h n plan) (older : Bool) where
    at : HasLuks1Plan (part v 0 592) n plan
    at = subst (λ b. HasLuks1Plan b n plan) x.begins there

    -- each plan of it is refused alike
    refused_alike : (s : SlotFault) → HasRefusedPlanWithin (without_memory older) (HasLuks1Plan (part v 0 592) n) s → slot_refusal_within (without_memory older) plan ≡ Some s
    refused_alike s y =
        same_refusal (without_memory older) plan y.plan
        (same_terms (part v 0 592) (part v 0 592) (entry (part v 0 592) n) (entry (part v 0 592) n) plan y.plan (same_front v v refl) at.is y.is.is) ∙ y.refused

    planned : (kind : SecretKind) (p : List ℕ) (found : Option (List ℕ)) → slot_refusal_within (without_memory older) plan ≡ None → given_by kind plan (part v plan.area.start plan.area.len) p ≡ found
        → GivesWithin kind (without_memory older) v n p found
    planned kind p found fine is = record {
      choice = luks1;
      chosen = x.chosen;
      plan = plan;
      is = at;
      unrefused = λ f bad.
          let y = plan_alone older f bad in
          let two : None ≡ Some y.0 = sym fine ∙ refused_alike y.0 y.1.1 in
          cc;
      key = is;
    }

    shut : (p : List ℕ) (s : SlotFault) → slot_refusal_within (without_memory older) plan ≡ Some s → AnswerWithin (without_memory older) v n p (refused (opening.Slot s))
    shut p s why = (record { choice = luks1; chosen = x.chosen; fault = record { plan = plan; is = at; refused = why } }, least)
      where
        least : (g : OpenFault) → IsRefusalWithin (without_memory older) v n g → NotAfter (open_key (opening.Slot s)) (open_key g)
        least g bad =
            let y = plan_alone older g (subst (λ c. IsRefusalAsWithin (without_memory older) v n c g) (choices_agree v bad.choice luks1 bad.chosen x.chosen) bad.fault) in
            let same : s ≡ y.0 = same_Some s y.0 (sym why ∙ refused_alike y.0 y.1.1) in
            rw y.1.0 (subst (λ t. NotAfter (open_key (opening.Slot s)) (open_key (opening.Slot t))) same (omega arith, λ _. (omega arith, λ _. tt)))

    module _ (secret : Secret) (same : secret.allowed.older ≡ older) where
      -- the secret gives a key
      pub opened_by : (key : List ℕ) (found : Option (List ℕ)) → slot_refusal_within (without_memory older) plan ≡ None → found ≡ given_by secret.kind plan (part v plan.area.start plan.area.len) secret.bytes.now → found ≡ Some key → IsOpenedBy v (Keyslot n secret) key
      opened_by key found fine is some =
          let opened : Opens1 v (Keyslot n secret) key = rw same (planned secret.kind secret.bytes.now (Some key) fine (sym is ∙ some)) in
          record { opened = opened; past = opener_past (without_memory secret.allowed.older) v (Keyslot n secret) key opened }

      -- it gives none
      pub locked_by : (found : Option (List ℕ)) → slot_refusal_within (without_memory older) plan ≡ None → found ≡ given_by secret.kind plan (part v plan.area.start plan.area.len) secret.bytes.now → found ≡ None
          → IsUnmet (without_memory older) v n secret (lock_fault secret.kind plan.key_bytes secret.bytes.now)
      unfolding planned
      locked_by found fine is none = record { gives = planned secret.kind secret.bytes.now None fine (sym is ∙ none); is = refl }

      -- the plan is refused, or the device failed
      pub unopened_by : (f : SlotFault) → IsAnsweredWithin (without_memory older) plan f → IsUnopened v (Keyslot n secret) (keyslot_fault f)
      unopened_by slot.Device is = tt
      unopened_by slot.Memory is = absurd (no_argon2 (part v 0 592) (entry (part v 0 592) n) plan.derivation at.is.derivation is.1)
      unopened_by f is = rw same (shut secret.bytes.now f is)

-- a secret that gives no key refuses by its own fault
pub unmet_unopened : (v : List ℕ) (n : ℕ) (secret : Secret) (f : EditFault) → is_lock f ≡ true → IsUnmet (without_memory secret.allowed.older) v n secret f → IsUnopened v (Keyslot n secret) f
unmet_unopened v n secret fault.Locked is x = x
unmet_unopened v n secret fault.KeyLength is x = x
unmet_unopened v n secret fault.WrongKey is x = x
unmet_unopened v n secret f is x = absurd (false≢true is)

-- ---- the volume key

-- the plan of the header's first keyslot, which needn't be in use, says all that telling it takes
pub record IsTelling (plan : SlotPlan) : Type 0 where
  pub digest_turns : 1 ≤ plan.digest.iterations
  pub digest_length : length plan.digest.stored.now ≤ 64
  pub some_bytes : 1 ≤ plan.key_bytes
  pub at_most_128 : plan.key_bytes ≤ 128

module _ (h : List ℕ) (d : Luks1) (s : Luks1Slot) (plan : SlotPlan) (is : IsLuks1 h d)
    (says : (h e : List ℕ) → IsCommon h d.common → IsEntry e (slice_index_or d.slots 0 s) → IsLuks1Plan h e plan) where
  pub key_there : HasLuks1Plan h 0 plan
  key_there = record { numbered = omega arith; is = says h (entry h 0) is.common (is.slots.each 0 s (omega arith)) }

  pub key_telling : IsTelling plan
  key_telling =
      let y = says h (entry h 0) is.common (is.slots.each 0 s (omega arith)) in
      let turns : plan.digest.iterations ≡ mk_digest_iterations_of h = y.digest.iterations in
      let some : 1 ≤ mk_digest_iterations_of h = is.common.digest_iterated in
      let stored : length plan.digest.stored.now ≡ min 20 (length h - 112) = ap length y.digest.stored ∙ length-part h 112 20 in
      let long : plan.key_bytes ≡ key_bytes_of h = y.key_bytes in
      let least : 1 ≤ key_bytes_of h = is.common.key_at_least in
      let most : key_bytes_of h ≤ 128 = is.common.key_at_most in
      record {
        digest_turns = omega (arith, turns, some);
        digest_length = omega (arith, stored);
        some_bytes = omega (arith, long, least);
        at_most_128 = omega (arith, long, most);
      }

-- what refuses it is no failure of the device
pub key_uncounted : (allowed : Allowed) (plan : SlotPlan) (f : SlotFault) → slot_refusal_within allowed plan ≡ Some f → is_edit_failure (keyslot_fault f) ≡ false
key_uncounted allowed plan slot.Argon2 is = refl
key_uncounted allowed plan slot.Cipher is = refl
key_uncounted allowed plan slot.Hash is = refl
key_uncounted allowed plan slot.KeySize is = refl
key_uncounted allowed plan slot.Memory is = refl
key_uncounted allowed plan slot.Device is = let two : Some slot.Device ≡ None = sym is ∙ refusal_answered allowed plan slot.Device is in absurd (cc)

module _ (h : List ℕ) (payload : Data) (v : List ℕ) (x : IsHeaderOf h payload v) (n : ℕ) (plan : SlotPlan) (there : HasLuks1Plan h n plan) (key : VolumeKey) where
  key_at : HasLuks1Plan (part v 0 592) n plan
  key_at = subst (λ b. HasLuks1Plan b n plan) x.begins there

  given_key : (found : Option (List ℕ)) → slot_refusal_within (without_memory key.allowed.older) plan ≡ None → found ≡ own_key plan key.bytes.now → GivesKey key.allowed.older v key.bytes.now found
  given_key found fine is = record { slot = n; plan = plan; is = key_at; accepted = fine; key = sym is }

  -- it is the volume's
  pub key_opened : (own : List ℕ) (found : Option (List ℕ)) → slot_refusal_within (without_memory key.allowed.older) plan ≡ None → found ≡ own_key plan key.bytes.now → found ≡ Some own → IsOpenedBy v (Key key) own
  key_opened own found fine is some =
      let opened : Opens1 v (Key key) own = given_key (Some own) fine (sym some ∙ is) in
      record { opened = opened; past = opener_past (without_memory key.allowed.older) v (Key key) own opened }

  -- it isn't
  other_key : (f : EditFault) → is_lock f ≡ true → IsOtherKey key.allowed.older v key.bytes.now f → IsUnopened v (Key key) f
  other_key fault.Locked is bad = bad
  other_key fault.KeyLength is bad = bad
  other_key fault.WrongKey is bad = bad
  other_key f is bad = absurd (false≢true is)

  pub key_locked : (found : Option (List ℕ)) → slot_refusal_within (without_memory key.allowed.older) plan ≡ None → found ≡ own_key plan key.bytes.now → found ≡ None
      → IsUnopened v (Key key) (lock_fault kind.Key plan.key_bytes key.bytes.now)
  key_locked found fine is none =
      let long : plan.key_bytes ≡ key_bytes_of v = key_at.is.key_bytes ∙ key_is v in
      other_key (lock_fault kind.Key plan.key_bytes key.bytes.now) (lock_is kind.Key plan.key_bytes key.bytes.now)
      (record { gives = given_key None fine (sym none ∙ is); is = ap (λ k. lock_fault kind.Key k key.bytes.now) long })

  -- its plan is refused
  pub key_refused : (f : SlotFault) → slot_refusal_within (without_memory key.allowed.older) plan ≡ Some f → IsUnopened v (Key key) (keyslot_fault f)
  key_refused slot.Device is = tt
  key_refused slot.Memory is = absurd (no_argon2 (part v 0 592) (entry (part v 0 592) n) plan.derivation key_at.is.derivation (refusal_answered (without_memory key.allowed.older) plan slot.Memory is).1)
  key_refused f is = record { slot = n; refused = record { plan = plan; is = key_at; refused = is } }

-- what a plan of LUKS1 answers isn't a failed allocation, which Argon2 alone takes
pub never_memory : (older : Bool) (h : List ℕ) (n : ℕ) (plan : SlotPlan) → HasLuks1Plan h n plan → (f : SlotFault) → IsAnsweredWithin (without_memory older) plan f
    → keyslot_fault f ≢ fault.Memory
never_memory older h n plan there slot.Memory is same = no_argon2 h (entry h n) plan.derivation there.is.derivation is.1
never_memory older h n plan there slot.Argon2 is same = absurd (cc)
never_memory older h n plan there slot.Cipher is same = absurd (cc)
never_memory older h n plan there slot.Hash is same = absurd (cc)
never_memory older h n plan there slot.KeySize is same = absurd (cc)
never_memory older h n plan there slot.Device is same = absurd (cc)
