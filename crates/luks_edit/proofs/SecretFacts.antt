-- What a keyslot gives by a secret: one answer at most, a key that meets its digest, and by a passphrase what opening
-- it gives.
use Rattle.std.proofs.Common.{◌≡◌, ◌↔◌, ℕ, List, length, Bool, true, false, Option, Some, None, Result, Ok, Err, IfErr, refl, sym, subst, ◌∙◌}
use Rattle.std.specs.Prelude.{◌==◌, ◌&&◌, if◌then◌else◌}
use Rattle.std.proofs.lemmas.Bool.{and_parts}
use Rattle.luks_area.specs.Device.{CountsFailure}
use Rattle.luks_area.specs.Ranges.{part}
use Rattle.luks2_header.specs.Selection.{Choice, luks1, luks2, nothing}
use Rattle.luks2_header.proofs.ChoiceFacts.{choices_agree}
use Rattle.luks_rules.proofs.AreaFaults.{one_value}
use Rattle.luks_rules.proofs.Deciding.{metadata_faultless}
use Rattle.luks_meta.proofs.Namings.{one_digest}
use Rattle.luks_slot.specs.declared.allowed.Allowed.{Allowed}
use Rattle.luks_slot.specs.declared.plan.SlotPlan.{SlotPlan}
use Rattle.luks_slot.specs.declared.fault.SlotFault.{SlotFault}
use Rattle.luks_slot.specs.Fault.{is_device_fault}
use Rattle.luks_slot.specs.Opening.{meets_digest}
use Rattle.luks_slot.specs.Refusal.{slot_refusal_within}
use Rattle.luks_slot.proofs.DerivationFacts.{uncounted}
use Rattle.luks_slot.proofs.OpeningFacts.{found_meets}
use Rattle.luks_reading.specs.declared.open_fault.OpenFault.{OpenFault}
use Rattle.luks_reading.specs.declared.open_fault.OpenFault.TheVariants.{Meta}
use Rattle.luks_reading.specs.Agreement.{IsSameAnswer}
use Rattle.luks_reading.specs.Answer.{AnswerWithin, HasPlanAs, IsRefusalAsWithin, IsRefusalWithin, no_key, open_key, Opened, opens, OpensWithin, refused}
use Rattle.luks_reading.specs.Header.{json_at}
use Rattle.luks_reading.proofs.Luks1Plans.{one_luks1_plan}
use Rattle.luks_reading.proofs.Luks2Plans.{one_luks2_plan}
use Rattle.luks_reading.proofs.OneAnswer.{least_once}
use Rattle.luks_reading.proofs.SamePlans.{same_answer, same_digest, SameFields}
use Rattle.luks_edit.specs.declared.edit.SecretKind.{SecretKind}
use Rattle.luks_edit.specs.declared.edit.SecretKind.TheVariants.{Passphrase, Key}
use Rattle.luks_edit.specs.Secrets.{AnswersTo, given_by, GivesWithin, own_key}

-- ---- by a passphrase what opening gives

pub gives_opens : (allowed : Allowed) (v : List ℕ) (n : ℕ) (p : List ℕ) (found : Option (List ℕ)) → GivesWithin Passphrase allowed v n p found → OpensWithin allowed v n p found
gives_opens allowed v n p found x = record { choice = x.choice; chosen = x.chosen; plan = x.plan; is = x.is; unrefused = x.unrefused; key = x.key }

pub opens_gives : (allowed : Allowed) (v : List ℕ) (n : ℕ) (p : List ℕ) (found : Option (List ℕ)) → OpensWithin allowed v n p found → GivesWithin Passphrase allowed v n p found
opens_gives allowed v n p found x = record { choice = x.choice; chosen = x.chosen; plan = x.plan; is = x.is; unrefused = x.unrefused; key = x.key }

pub answer_opens : (allowed : Allowed) (v : List ℕ) (n : ℕ) (p : List ℕ) (a : Opened) → AnswersTo Passphrase allowed v n p a → AnswerWithin allowed v n p a
answer_opens allowed v n p (refused f) x = x
answer_opens allowed v n p (opens k) x = gives_opens allowed v n p (Some k) x
answer_opens allowed v n p no_key x = gives_opens allowed v n p None x

pub opens_answer : (allowed : Allowed) (v : List ℕ) (n : ℕ) (p : List ℕ) (a : Opened) → AnswerWithin allowed v n p a → AnswersTo Passphrase allowed v n p a
opens_answer allowed v n p (refused f) x = x
opens_answer allowed v n p (opens k) x = opens_gives allowed v n p (Some k) x
opens_answer allowed v n p no_key x = opens_gives allowed v n p None x

pub passphrase_answers : (allowed : Allowed) (v : List ℕ) (n : ℕ) (p : List ℕ) (a : Opened) → AnswersTo Passphrase allowed v n p a ↔ AnswerWithin allowed v n p a
passphrase_answers allowed v n p a = (answer_opens allowed v n p a, opens_answer allowed v n p a)

-- ---- what is given meets the digest

-- a choice that is something is of the test that holds
chosen_some : (b : Bool) (x y : List ℕ) → (if b then Some x else None) ≡ Some y → (b ≡ true) × (x ≡ y)
chosen_some true x y same = (refl, cc)
chosen_some false x y same = absurd (cc)

own_parts : (plan : SlotPlan) (p key : List ℕ) → own_key plan p ≡ Some key → (meets_digest plan.digest p ≡ true) × (p ≡ key)
own_parts plan p key is =
    let some = chosen_some ((length p == plan.key_bytes) && meets_digest plan.digest p) p key is in
    ((and_parts (length p == plan.key_bytes) (meets_digest plan.digest p) some.0).1, some.1)

pub given_meets : (kind : SecretKind) (plan : SlotPlan) (area p key : List ℕ) → given_by kind plan area p ≡ Some key → meets_digest plan.digest key ≡ true
given_meets Passphrase plan area p key is = found_meets plan area p key is
given_meets Key plan area p key is = let own = own_parts plan p key is in subst (λ k. meets_digest plan.digest k ≡ true) own.1 own.0

-- a key that is given by a key is that one
pub own_is : (allowed : Allowed) (v : List ℕ) (n : ℕ) (p key : List ℕ) → GivesWithin Key allowed v n p (Some key) → key ≡ p
own_is allowed v n p key x = sym (own_parts x.plan p key x.key).1

-- ---- one answer

pub same_own : (a b : SlotPlan) (p : List ℕ) → SameFields a b → own_key a p ≡ own_key b p
same_own a b p s =
    let digests = same_digest a b p s in
    simp (digests, s.key_bytes)

pub same_given : (kind : SecretKind) (a b : SlotPlan) (v p : List ℕ) → SameFields a b
    → given_by kind a (part v a.area.start a.area.len) p ≡ given_by kind b (part v b.area.start b.area.len) p
same_given Passphrase a b v p s = same_answer a b v p s
same_given Key a b v p s = same_own a b p s

-- a keyslot has one plan, except for what decides nothing
pub one_plan : (allowed : Allowed) (v : List ℕ) (n : ℕ) (c : Choice) (a b : SlotPlan) → HasPlanAs v n c a → HasPlanAs v n c b
    → ((f : OpenFault) → IsRefusalAsWithin allowed v n c f → ⊥) → SameFields a b
one_plan allowed v n luks1 a b x y clear = one_luks1_plan (part v 0 592) n a b x y
one_plan allowed v n (luks2 o copies) a b x y clear =
    let json = json_at v o in
    let meta = (metadata_faultless json).0 (λ f is. clear (Meta f) is) in
    one_luks2_plan json meta.0 n a b (record {
      value = λ i holds. one_value json meta.0 i meta.1.json holds;
      digest = λ m k p q. one_digest json meta.0 meta.1 n m k p q;
    }) x y
one_plan allowed v n nothing a b x y clear = absurd x

pub given_once : (kind : SecretKind) (allowed : Allowed) (v : List ℕ) (n : ℕ) (p : List ℕ) (a b : Option (List ℕ)) → GivesWithin kind allowed v n p a → GivesWithin kind allowed v n p b → a ≡ b
given_once kind allowed v n p a b x y =
    let e : y.choice ≡ x.choice = choices_agree v y.choice x.choice y.chosen x.chosen in
    let plan = subst (λ c. HasPlanAs v n c y.plan) e y.is in
    sym x.key ∙ same_given kind x.plan y.plan v p (one_plan allowed v n x.choice x.plan y.plan x.is plan x.unrefused) ∙ y.key

-- what gives a key or none isn't refused
pub given_unrefused : (kind : SecretKind) (allowed : Allowed) (v : List ℕ) (n : ℕ) (p : List ℕ) (found : Option (List ℕ)) (f : OpenFault)
    → GivesWithin kind allowed v n p found → AnswerWithin allowed v n p (refused f) → ⊥
given_unrefused kind allowed v n p found f x y = x.unrefused f (subst (λ c. IsRefusalAsWithin allowed v n c f) (choices_agree v y.0.choice x.choice y.0.chosen x.chosen) y.0.fault)

pub one_answer_to : (kind : SecretKind) (allowed : Allowed) (v : List ℕ) (n : ℕ) (p : List ℕ) (a b : Opened) → AnswersTo kind allowed v n p a → AnswersTo kind allowed v n p b → IsSameAnswer a b
one_answer_to kind allowed v n p (opens k) (opens l) x y = let same = given_once kind allowed v n p (Some k) (Some l) x y in cc
one_answer_to kind allowed v n p (opens k) no_key x y = let same = given_once kind allowed v n p (Some k) None x y in absurd (cc)
one_answer_to kind allowed v n p (opens k) (refused g) x y = given_unrefused kind allowed v n p (Some k) g x y
one_answer_to kind allowed v n p no_key (opens l) x y = let same = given_once kind allowed v n p None (Some l) x y in absurd (cc)
one_answer_to kind allowed v n p no_key no_key x y = tt
one_answer_to kind allowed v n p no_key (refused g) x y = given_unrefused kind allowed v n p None g x y
one_answer_to kind allowed v n p (refused f) (opens l) x y = given_unrefused kind allowed v n p (Some l) f y x
one_answer_to kind allowed v n p (refused f) no_key x y = given_unrefused kind allowed v n p None f y x
one_answer_to kind allowed v n p (refused f) (refused g) x y = least_once open_key (IsRefusalWithin allowed v n) f g x y

-- ---- a refusal isn't the device's failure

pub uncounted_refusal : {T : Type 0} (allowed : Allowed) (plan : SlotPlan) (r : Result T SlotFault) (n : ℕ) → IfErr r (λ f. slot_refusal_within allowed plan ≡ Some f) → CountsFailure is_device_fault r n n
uncounted_refusal allowed plan (Ok x) n is = refl
uncounted_refusal allowed plan (Err f) n is = uncounted allowed plan f n is
