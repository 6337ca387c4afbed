-- The answer of a keyslot of LUKS1 depends on the fields before the uuid, the faults of the uuid's field, its
-- entry, its area and the volume's length alone.
use Rattle.std.proofs.Common.{◌≡◌, ℕ, ◌+◌, ◌*◌, ◌<◌, ◌≤◌, ◌⊎◌, List, length, subst, sym, ap, ◌∙◌, Option, Some, None, inl, inr, lit≤, Bool}
use Rattle.luks_area.specs.Ranges.{part}
use Rattle.luks_area.specs.Sectors.{rounded_to_sectors}
use Rattle.luks1_header.specs.Bytes.{number_at, text_at}
use Rattle.luks1_header.specs.Header1.{active_word, entry, entry_stripes}
use Rattle.luks1_header.specs.Faults.{IsCommonFault, IsEntryFault}
use Rattle.luks1_header.specs.declared.fault.HeadFault.{HeadFault}
use Rattle.luks1_header.specs.declared.fault.HeadFault.TheVariants as head
use Rattle.luks1_header.specs.declared.fault.IterationsOf.TheVariants as of
use Rattle.luks2_header.specs.Selection.{luks1, Choice, Chosen}
use Rattle.luks_slot.specs.declared.allowed.Allowed.{Allowed}
use Rattle.luks_slot.specs.declared.plan.AreaCipher.{AreaCipher}
use Rattle.luks_slot.specs.declared.plan.AreaCipher.TheVariants.{Apart, Whole}
use Rattle.luks_slot.specs.declared.plan.Derivation.{Derivation}
use Rattle.luks_slot.specs.declared.plan.Derivation.TheVariants.{Pbkdf2, Argon2}
use Rattle.luks_slot.specs.declared.plan.SlotPlan.{SlotPlan}
use Rattle.luks_slot.specs.Opening.{slot_key}
use Rattle.luks2_header.proofs.ChoiceFacts.{choices_agree}
use Rattle.luks_reading.specs.declared.open_fault.OpenFault.{OpenFault}
use Rattle.luks_reading.specs.declared.open_fault.OpenFault.TheVariants.{Head, Meta, NoSuchSlot, SlotFree, Outside, Slot, Device, Memory}
use Rattle.luks_reading.specs.Answer.{AnswerWithin, IsLuks1HeadRefusal, IsLuks1Refusal, IsRefusalWithin, IsRefusalAsWithin, HasPlanAs, Opened, refused, opens, no_key, OpensWithin}
use Rattle.luks_reading.specs.Plans.{HasLuks1Plan, IsLuks1Cipher, IsLuks1Derivation, IsLuks1Plan}
use Rattle.luks_reading.proofs.Luks1Plans.{one_luks1_plan}
use Rattle.luks_edit.specs.declared.edit.SecretKind.{SecretKind}
use Rattle.luks_edit.specs.Secrets.{given_by, GivesWithin}
use Rattle.luks_edit.proofs.SecretFacts.{same_given}
use Rattle.luks1_edits.specs.Kept.{HasSameKeyslot}
use Rattle.luks1_edits.specs.Places.{area_len, area_start}
use Rattle.luks1_edits.proofs.HeaderFacts.{chosen_moves, common_moves, entry_is, front_moves, header_moves, len_is, number_same, same_common_back, start_is, text_same}

-- the two headers have the same 168 bytes before the uuid
pub record SameFront (h g : List ℕ) : Type 0 where
  pub parts : (o l : ℕ) → o + l ≤ 168 → part h o l ≡ part g o l

pub number_moves : (h g : List ℕ) → SameFront h g → (o l : ℕ) → o + l ≤ 168 → number_at h o l ≡ number_at g o l
number_moves h g same o l within = number_same h g o l (same.parts o l within)

pub text_moves : (h g : List ℕ) → SameFront h g → (o l : ℕ) → o + l ≤ 168 → text_at h o l ≡ text_at g o l
text_moves h g same o l within = text_same h g o l (same.parts o l within)

pub same_front : (v w : List ℕ) → part w 0 168 ≡ part v 0 168 → SameFront (part v 0 592) (part w 0 592)
same_front v w e = record { parts = λ o l within. sym (header_moves v w e o l within) }

-- ---- plans

derivation_moves : (h g e : List ℕ) (d : Derivation) → SameFront h g → IsLuks1Derivation h e d → IsLuks1Derivation g e d
derivation_moves h g e (Pbkdf2 hash iterations salt) same x = (x.0 ∙ text_moves h g same 72 32 (lit≤ tt), x.1, x.2)
derivation_moves h g e (Argon2 c) same x = absurd x

cipher_moves : (h g : List ℕ) (c : AreaCipher) → SameFront h g → IsLuks1Cipher h c → IsLuks1Cipher g c
cipher_moves h g (Apart name mode) same x = (x.0 ∙ text_moves h g same 8 32 (lit≤ tt), x.1 ∙ text_moves h g same 40 32 (lit≤ tt))
cipher_moves h g (Whole text) same x = absurd x

pub plan_moves : (h g e : List ℕ) (plan : SlotPlan) → SameFront h g → IsLuks1Plan h e plan → IsLuks1Plan g e plan
plan_moves h g e plan same x =
    let key : number_at h 108 4 ≡ number_at g 108 4 = number_moves h g same 108 4 (lit≤ tt) in
    let hash : text_at h 72 32 ≡ text_at g 72 32 = text_moves h g same 72 32 (lit≤ tt) in
    record {
      derivation = derivation_moves h g e plan.derivation same x.derivation;
      cipher = cipher_moves h g plan.cipher same x.cipher;
      start = x.start;
      len = x.len ∙ ap (λ k. rounded_to_sectors (k * entry_stripes e)) key;
      area_key_bytes = x.area_key_bytes ∙ key;
      key_bytes = x.key_bytes ∙ key;
      stripes = x.stripes;
      splitter_hash = x.splitter_hash ∙ hash;
      digest = record {
        hash = x.digest.hash ∙ hash;
        iterations = x.digest.iterations ∙ number_moves h g same 164 4 (lit≤ tt);
        salt = x.digest.salt ∙ same.parts 132 32 (lit≤ tt);
        stored = x.digest.stored ∙ same.parts 112 20 (lit≤ tt);
      };
    }

pub has_plan_moves : (h g : List ℕ) (n : ℕ) (plan : SlotPlan) → SameFront h g → (n < 8 → entry h n ≡ entry g n)
    → HasLuks1Plan h n plan → HasLuks1Plan g n plan
has_plan_moves h g n plan same at x = record {
  numbered = x.numbered;
  is = subst (λ e. IsLuks1Plan g e plan) (at x.numbered) (plan_moves h g (entry h n) plan same x.is);
}

-- ---- refusals

-- a refusal by the header is of the fields before the keyslots, or of the keyslot's own entry
pub record IsOfEntry (h : List ℕ) (n : ℕ) (f : HeadFault) : Type 0 where
  pub numbered : n < 8
  pub fault : IsEntryFault n (entry h n) f

pub common_or_entry : (h : List ℕ) (n : ℕ) (f : HeadFault) → IsLuks1HeadRefusal h n f → IsCommonFault h f ⊎ IsOfEntry h n f
common_or_entry h n (head.SlotState m) x = inr (record { numbered = x.0; fault = x.1 })
common_or_entry h n (head.Stripes m) x = inr (record { numbered = x.0; fault = x.1 })
common_or_entry h n (head.Iterations (of.Slot m)) x = inr (record { numbered = x.0; fault = x.1 })
common_or_entry h n f x = inl x

head_moves : (h g : List ℕ) (n : ℕ) (f : HeadFault) → (IsCommonFault h f → IsCommonFault g f) → (n < 8 → entry h n ≡ entry g n)
    → IsLuks1HeadRefusal h n f → IsLuks1HeadRefusal g n f
head_moves h g n (head.SlotState m) common at x = (x.0, subst (λ e. IsEntryFault n e (head.SlotState m)) (at x.0) x.1)
head_moves h g n (head.Stripes m) common at x = (x.0, subst (λ e. IsEntryFault n e (head.Stripes m)) (at x.0) x.1)
head_moves h g n (head.Iterations (of.Slot m)) common at x = (x.0, subst (λ e. IsEntryFault n e (head.Iterations (of.Slot m))) (at x.0) x.1)
head_moves h g n f common at x = common x

refusal_moves : (older : Bool) (h g : List ℕ) (total n : ℕ) (f : OpenFault) → SameFront h g → ((f : HeadFault) → IsCommonFault h f → IsCommonFault g f)
    → (n < 8 → entry h n ≡ entry g n) → IsLuks1Refusal older h total n f → IsLuks1Refusal older g total n f
refusal_moves older h g total n (Head f) same common at x = head_moves h g n f (common f) at x
refusal_moves older h g total n (Meta f) same common at x = x
refusal_moves older h g total n NoSuchSlot same common at x = x
refusal_moves older h g total n SlotFree same common at x = (x.0, ap active_word (sym (at x.0)) ∙ x.1)
refusal_moves older h g total n Outside same common at x = record { plan = x.plan; is = has_plan_moves h g n x.plan same at x.is; past = x.past }
refusal_moves older h g total n (Slot f) same common at x = record { plan = x.plan; is = has_plan_moves h g n x.plan same at x.is; refused = x.refused }
refusal_moves older h g total n Device same common at x = x
refusal_moves older h g total n Memory same common at x = x

-- ---- volumes

entries_same : (n : ℕ) (v w : List ℕ) → HasSameKeyslot n v w → n < 8 → entry (part v 0 592) n ≡ entry (part w 0 592) n
entries_same n v w same lt = entry_is v n lt ∙ sym (same.entry lt) ∙ sym (entry_is w n lt)

-- the same the other way round
pub same_keyslot_back : (n : ℕ) (v w : List ℕ) → HasSameKeyslot n v w → HasSameKeyslot n w v
same_keyslot_back n v w same = record {
  length_same = sym same.length_same;
  common = same_common_back v w same.common;
  entry = λ lt. sym (same.entry lt);
  area = λ lt.
      let key : number_at v 108 4 ≡ number_at w 108 4 = number_same v w 108 4 (sym (front_moves v w same.common.front 108 4 (lit≤ tt))) in
      let starts : area_start v n ≡ area_start w n = ap (λ e. number_at e 40 4 * 512) (sym (same.entry lt)) in
      let lens : area_len v n ≡ area_len w n =
      ap (λ k. rounded_to_sectors (k * entry_stripes (entry v n))) key ∙ ap (λ e. rounded_to_sectors (number_at w 108 4 * entry_stripes e)) (sym (same.entry lt)) in
      subst (λ k. part v (area_start w n) k ≡ part w (area_start w n) k) lens
      (subst (λ s. part v s (area_len v n) ≡ part w s (area_len v n)) starts (sym (same.area lt)));
}

-- what refuses the keyslot in one of the headers does in the other
luks1_refusal_moves : (older : Bool) (n : ℕ) (v w : List ℕ) (f : OpenFault) → HasSameKeyslot n v w
    → IsLuks1Refusal older (part v 0 592) (length v) n f → IsLuks1Refusal older (part w 0 592) (length w) n f
luks1_refusal_moves older n v w f same x =
    subst (λ t. IsLuks1Refusal older (part w 0 592) t n f) (sym same.length_same)
    (refusal_moves older (part v 0 592) (part w 0 592) (length v) n f (same_front v w same.common.front) (common_moves v w same.common) (entries_same n v w same) x)

is_refusal_moves : (allowed : Allowed) (n : ℕ) (v w : List ℕ) (f : OpenFault) → Chosen v luks1 → HasSameKeyslot n v w → IsRefusalWithin allowed v n f → IsRefusalWithin allowed w n f
is_refusal_moves allowed n v w f chosen same x = record {
  choice = luks1;
  chosen = chosen_moves v w same.length_same same.common.front chosen;
  fault = luks1_refusal_moves allowed.older n v w f same (subst (λ c. IsRefusalAsWithin allowed v n c f) (choices_agree v x.choice luks1 x.chosen chosen) x.fault);
}

-- its area has the same bytes
area_moves : (n : ℕ) (v w : List ℕ) (plan : SlotPlan) → HasSameKeyslot n v w → HasLuks1Plan (part v 0 592) n plan → part w plan.area.start plan.area.len ≡ part v plan.area.start plan.area.len
area_moves n v w plan same there =
    let start : plan.area.start ≡ area_start v n = there.is.start ∙ start_is v n there.numbered in
    let len : plan.area.len ≡ area_len v n = there.is.len ∙ len_is v n there.numbered in
    subst (λ s. part w s plan.area.len ≡ part v s plan.area.len) (sym start)
    (subst (λ l. part w (area_start v n) l ≡ part v (area_start v n) l) (sym len) (same.area there.numbered))

opens_moves : (allowed : Allowed) (n : ℕ) (v w p : List ℕ) (found : Option (List ℕ)) → Chosen v luks1 → HasSameKeyslot n v w → OpensWithin allowed v n p found → OpensWithin allowed w n p found
opens_moves allowed n v w p found chosen same x =
    let one = choices_agree v x.choice luks1 x.chosen chosen in
    let there : HasLuks1Plan (part v 0 592) n x.plan = subst (λ c. HasPlanAs v n c x.plan) one x.is in
    let bytes : part w x.plan.area.start x.plan.area.len ≡ part v x.plan.area.start x.plan.area.len = area_moves n v w x.plan same there in
    record {
      choice = luks1;
      chosen = chosen_moves v w same.length_same same.common.front chosen;
      plan = x.plan;
      is = has_plan_moves (part v 0 592) (part w 0 592) n x.plan (same_front v w same.common.front) (entries_same n v w same) there;
      unrefused = λ f y. x.unrefused f (subst (λ c. IsRefusalAsWithin allowed v n c f) (sym one) (luks1_refusal_moves allowed.older n w v f (same_keyslot_back n v w same) y));
      key = ap (λ b. slot_key x.plan b p) bytes ∙ x.key;
    }

-- the answer depends on these bytes alone
pub answer_moves : (allowed : Allowed) (n : ℕ) (v w p : List ℕ) (a : Opened) → Chosen v luks1 → HasSameKeyslot n v w → AnswerWithin allowed v n p a → AnswerWithin allowed w n p a
answer_moves allowed n v w p (refused f) chosen same x = (
  is_refusal_moves allowed n v w f chosen same x.0,
  λ g y. x.1 g (is_refusal_moves allowed n w v g (chosen_moves v w same.length_same same.common.front chosen) (same_keyslot_back n v w same) y),
)
answer_moves allowed n v w p (opens k) chosen same x = opens_moves allowed n v w p (Some k) chosen same x
answer_moves allowed n v w p no_key chosen same x = opens_moves allowed n v w p None chosen same x

-- and so it does the other way round
pub answer_returns : (allowed : Allowed) (n : ℕ) (v w p : List ℕ) (a : Opened) → Chosen v luks1 → HasSameKeyslot n v w → AnswerWithin allowed w n p a → AnswerWithin allowed v n p a
answer_returns allowed n v w p a chosen same x =
    answer_moves allowed n w v p a (chosen_moves v w same.length_same same.common.front chosen) (same_keyslot_back n v w same) x

-- ---- one answer

luks1_plan_of : (v : List ℕ) (n : ℕ) (c : Choice) (plan : SlotPlan) → Chosen v luks1 → Chosen v c → HasPlanAs v n c plan → HasLuks1Plan (part v 0 592) n plan
luks1_plan_of v n c plan chosen counts is = subst (λ d. HasPlanAs v n d plan) (choices_agree v c luks1 counts chosen) is

-- a keyslot gives one key or none by a secret, whatever is allowed
pub found_once : (kind : SecretKind) (v : List ℕ) → Chosen v luks1 → (less more : Allowed) (n : ℕ) (p : List ℕ) (a b : Option (List ℕ)) → GivesWithin kind less v n p a → GivesWithin kind more v n p b → a ≡ b
found_once kind v chosen less more n p a b x y =
    sym x.key
    ∙ same_given kind x.plan y.plan v p (one_luks1_plan (part v 0 592) n x.plan y.plan (luks1_plan_of v n x.choice x.plan chosen x.chosen x.is) (luks1_plan_of v n y.choice y.plan chosen y.chosen y.is))
    ∙ y.key

-- ---- by a secret

-- what is given by it depends on the same bytes
given_there : (kind : SecretKind) (plan : SlotPlan) (a b p : List ℕ) (found : Option (List ℕ)) → b ≡ a → given_by kind plan a p ≡ found → given_by kind plan b p ≡ found
given_there kind plan a b p found same is = ap (λ x. given_by kind plan x p) same ∙ is

pub gives_moves : (kind : SecretKind) (allowed : Allowed) (n : ℕ) (v w p : List ℕ) (found : Option (List ℕ)) → Chosen v luks1 → HasSameKeyslot n v w → GivesWithin kind allowed v n p found → GivesWithin kind allowed w n p found
gives_moves kind allowed n v w p found chosen same x =
    let there : HasLuks1Plan (part v 0 592) n x.plan = luks1_plan_of v n x.choice x.plan chosen x.chosen x.is in
    record {
      choice = luks1;
      chosen = chosen_moves v w same.length_same same.common.front chosen;
      plan = x.plan;
      is = has_plan_moves (part v 0 592) (part w 0 592) n x.plan (same_front v w same.common.front) (entries_same n v w same) there;
      unrefused = λ f y. x.unrefused f
          (subst (λ c. IsRefusalAsWithin allowed v n c f) (sym (choices_agree v x.choice luks1 x.chosen chosen)) (luks1_refusal_moves allowed.older n w v f (same_keyslot_back n v w same) y));
      key = given_there kind x.plan (part v x.plan.area.start x.plan.area.len) (part w x.plan.area.start x.plan.area.len) p found (area_moves n v w x.plan same there) x.key;
    }
