-- What an edit asks for: its iterations are enough or too few, the Argon2 that it chooses may be made or not, and the answer of a keyslot tells why it gives no key.
use Rattle.std.proofs.Common.{◌≡◌, ◌⊎◌, ℕ, List, [], ◌∷◌, true, Option, Some, None, get_or, refl, sym, ap, subst, ◌∙◌, arith, inl, inr}
use Rattle.std.proofs.lemmas.Bool.{cases_eq, false≢true}
use Rattle.luks1_header.specs.Bytes.{IsUuid}
use Rattle.luks1_header.proofs.DecidableFacts.{uuid_or_not}
use Rattle.luks1_header.specs.declared.fault.HeadFault.{HeadFault}
use Rattle.luks1_header.specs.declared.fault.HeadFault.TheVariants as head
use Rattle.luks1_header.specs.declared.fault.IterationsOf.TheVariants as of
use Rattle.luks_making.specs.Derivations.{asked_beyond, asked_few_turns, takes_memory}
use Rattle.luks_slot.specs.declared.allowed.Allowed.{Allowed}
use Rattle.luks_slot.specs.declared.fault.SlotFault.{SlotFault}
use Rattle.luks_slot.specs.declared.fault.SlotFault.TheVariants as slot
use Rattle.luks_reading.specs.declared.open_fault.OpenFault.{OpenFault}
use Rattle.luks_reading.specs.declared.open_fault.OpenFault.TheVariants as opening
use Rattle.luks_reading.specs.Answer.{AnswerWithin, head_step, no_key, open_key, Opened, opens, OpensWithin, refused, slot_row}
use Rattle.luks_reading.proofs.VolumeLaws.{one_answer}
use Rattle.luks_edit.specs.declared.edit.Edit.{Edit}
use Rattle.luks_edit.specs.declared.edit.Opener.{Opener}
use Rattle.luks_edit.specs.declared.edit.Opener.TheVariants as opener
use Rattle.luks_edit.specs.declared.edit.Secret.{Secret}
use Rattle.luks_edit.specs.declared.edit.SecretKind.{SecretKind}
use Rattle.luks_edit.specs.declared.edit.SecretKind.TheVariants.{Key, Passphrase}
use Rattle.luks_edit.specs.declared.edit_fault.EditFault.{EditFault}
use Rattle.luks_edit.specs.declared.edit_fault.EditFault.TheVariants as fault
use Rattle.luks_edit.specs.declared.new_uuid.NewUuid.{NewUuid}
use Rattle.luks_edit.specs.declared.new_uuid.NewUuid.TheVariants.{Text, Random}
use Rattle.luks_edit.specs.Secrets.{AnswersTo, GivesWithin, own_key}
use Rattle.luks_edit.specs.declared.deed.Deed.{Deed}
use Rattle.luks_edit.specs.declared.deed.Deed.TheVariants as deed
use Rattle.luks_edit.specs.declared.deed.Removed.{Removed}
use Rattle.luks_edit.specs.declared.deed.Sealed.{Sealed}
use Rattle.luks_edit.specs.Asked.{ChoosesArgon2, deed_of, HasFewIterations, IsBeyondMemory, MatchDeed, MatchOpener, allowed_for, NamesItself, opener_at, opener_of, removed_by, sealed_by, uuid_by, Wants}
use Rattle.luks_edit.specs.NewUuids.{HasBadUuid, IsBadUuid}
use Rattle.luks_edit.specs.Opener.{IsUnmet, IsUnopenedKeyslot, lock_fault}
use Rattle.luks_edit.proofs.OpeningFacts.{is_lock, lock_is, unmet_once}
use Rattle.luks_edit.proofs.SecretFacts.{one_answer_to, opens_answer}
use Rattle.luks_laws.proofs.DecidedFacts.{alike_decided, Decided, not_decided, one_decided, true_decided}
use Rattle.luks_laws.proofs.SearchFacts.{number_decided, some_decided}

-- ---- the derivation

-- the iterations of the edit are too few, or they aren't
pub few_decided : (e : Edit) → Decided (HasFewIterations e)
few_decided e = some_decided Sealed (sealed_by e) (λ s. asked_few_turns s.derivation ≡ true) (λ s. true_decided (asked_few_turns s.derivation))

-- it chooses an Argon2 that is beyond its memory, or it doesn't
pub beyond_decided : (e : Edit) → Decided (IsBeyondMemory e)
beyond_decided e = some_decided Sealed (sealed_by e) (λ s. asked_beyond (allowed_for (opener_at s.place) s.passphrase.now).memory s.derivation ≡ true)
    (λ s. true_decided (asked_beyond (allowed_for (opener_at s.place) s.passphrase.now).memory s.derivation))

-- it chooses Argon2, or it doesn't
pub argon2_decided : (e : Edit) → Decided (ChoosesArgon2 e)
argon2_decided e = some_decided Sealed (sealed_by e) (λ s. takes_memory s.derivation.chosen ≡ true) (λ s. true_decided (takes_memory s.derivation.chosen))

-- ---- the uuid

-- a uuid that is given is a bad one, or it isn't
bad_given_decided : (given : Option NewUuid) → Decided (IsBadUuid given)
bad_given_decided None = inr (λ bad. bad)
bad_given_decided (Some (Text text)) = not_decided (IsUuid text.now) (uuid_or_not text.now)
bad_given_decided (Some Random) = inr (λ bad. bad)

-- the same of an edit
pub bad_uuid_decided : (e : Edit) → Decided (HasBadUuid e)
bad_uuid_decided e = bad_given_decided (uuid_by e)

-- ---- the keyslots that it wants

-- a keyslot of one number has the property, or it hasn't
pub of_one_decided : (P : ℕ → Type 0) → ((n : ℕ) → Decided (P n)) → (m : ℕ) → Decided ((n : ℕ) × (n ≡ m) × P n)
of_one_decided P decide m = alike_decided (P m) ((n : ℕ) × (n ≡ m) × P n) (λ x. (m, refl, x)) (λ x. subst P x.1 x.2) (decide m)

-- of the keyslot of an opener, if it is of one
opened_decided : (o : Opener) (P : ℕ → Type 0) → ((n : ℕ) → Decided (P n)) → Decided ((n : ℕ) × MatchOpener o (λ slot secret. n ≡ slot) (λ key. ⊥) × P n)
opened_decided (opener.Keyslot slot secret) P decide = of_one_decided P decide slot
opened_decided (opener.Key key) P decide = inr (λ x. x.1)

-- what is decided of each keyslot is decided of those that the edit wants
wanted_in : (d : Deed) (P : ℕ → Type 0) → ((n : ℕ) → Decided (P n))
    → Decided ((n : ℕ) × MatchDeed d (λ s. MatchOpener (opener_at s.place) (λ slot secret. n ≡ slot) (λ key. ⊥)) (λ r. (n ≡ opener_of r.slot r.by_) ⊎ (n ≡ r.slot)) (λ r. ⊥) ⊥ × P n)
wanted_in (deed.Seal s) P decide = opened_decided (opener_at s.place) P decide
wanted_in (deed.Remove r) P decide = alike_decided _ _
    (λ x. elim x [ inl own ↦ (own.0, inl own.1, own.2) | inr removed ↦ (removed.0, inr removed.1, removed.2) ])
    (λ x. elim x.1 [ inl own ↦ inl (x.0, own, x.2) | inr removed ↦ inr (x.0, removed, x.2) ])
    (one_decided _ _ (of_one_decided P decide (opener_of r.slot r.by_)) (of_one_decided P decide r.slot))
wanted_in (deed.Rewrite rewritten) P decide = inr (λ x. x.1)
wanted_in deed.Erase P decide = inr (λ x. x.1)

pub wanted_decided : (e : Edit) (P : ℕ → Type 0) → ((n : ℕ) → Decided (P n)) → Decided ((n : ℕ) × Wants e n × P n)
wanted_decided e = wanted_in (deed_of e)

-- the edit names the keyslot that it removes as the one to open by, or it doesn't
pub itself_decided : (e : Edit) → Decided (NamesItself e)
itself_decided e = some_decided Removed (removed_by e) (λ r. r.by_ ≡ Some r.slot) (λ r. number_decided r.by_ r.slot)

-- ---- refusals of a keyslot

-- the faults of a plan, each at its row
slot_faults : List SlotFault
slot_faults = slot.Memory ∷ slot.Argon2 ∷ slot.Cipher ∷ slot.Hash ∷ slot.KeySize ∷ slot.Device ∷ []

-- each of them is there
at_its_row : (f : SlotFault) → get_or slot_faults (slot_row f) slot.Memory ≡ f
unfolding slot_faults
at_its_row slot.Argon2 = refl
at_its_row slot.Cipher = refl
at_its_row slot.Hash = refl
at_its_row slot.KeySize = refl
at_its_row slot.Device = refl
at_its_row slot.Memory = refl

-- a row has one fault
one_of_row : (f g : SlotFault) → slot_row f ≡ slot_row g → f ≡ g
one_of_row f g same = sym (at_its_row f) ∙ ap (λ k. get_or slot_faults k slot.Memory) same ∙ at_its_row g

-- the row of a key
first_number : List ℕ → ℕ
first_number [] = 0
first_number (x ∷ xs) = x

-- and the number behind it
second_number : List ℕ → ℕ
second_number [] = 0
second_number (x ∷ xs) = first_number xs

-- a fault of the header isn't judged where the plan is
head_apart : (f : HeadFault) → head_step f ≡ 7 → ⊥
head_apart (head.SlotState m) e = omega (arith, e)
head_apart (head.Stripes m) e = omega (arith, e)
head_apart (head.Iterations (of.Slot m)) e = omega (arith, e)
head_apart f e = omega (arith, e)

-- ---- answers

module _ (m : Allowed) (v : List ℕ) (n : ℕ) (p : List ℕ) where
  -- a key that is given, or none, is an answer
  given_answer : (kind : SecretKind) (found : Option (List ℕ)) → GivesWithin kind m v n p found → (a : Opened) × AnswersTo kind m v n p a
  given_answer kind (Some key) x = (opens key, x)
  given_answer kind None x = (no_key, x)

  -- where a keyslot opens to one or none, it gives one or none by a key
  own_answer : (found : Option (List ℕ)) → OpensWithin m v n p found → (a : Opened) × AnswersTo Key m v n p a
  own_answer found x =
      given_answer Key (own_key x.plan p) (record { choice = x.choice; chosen = x.chosen; plan = x.plan; is = x.is; unrefused = x.unrefused; key = refl })

  -- so it has an answer to a secret of either kind
  answer_to : (kind : SecretKind) (a : Opened) → AnswerWithin m v n p a → (b : Opened) × AnswersTo kind m v n p b
  answer_to Passphrase a x = (a, opens_answer m v n p a x)
  answer_to Key (refused f) x = (refused f, x)
  answer_to Key (opens key) x = own_answer (Some key) x
  answer_to Key no_key x = own_answer None x

  -- the refusal by the plan's fault, where the answer is a refusal
  refused_as : (f : SlotFault) (g : OpenFault) → AnswerWithin m v n p (refused g) → Decided (AnswerWithin m v n p (refused (opening.Slot f)))
  unfolding first_number second_number
  refused_as f (opening.Slot g) x = elim (cases_eq (slot_row g) (slot_row f)) [
    | inl same ↦ inl (subst (λ h. AnswerWithin m v n p (refused (opening.Slot h))) (one_of_row g f same) x)
    | inr other ↦ inr (λ y. other (ap second_number (one_answer m v n p (refused (opening.Slot g)) (refused (opening.Slot f)) x y)))
  ]
  refused_as f (opening.Head g) x = inr (λ y. head_apart g (ap first_number (one_answer m v n p (refused (opening.Head g)) (refused (opening.Slot f)) x y)))
  refused_as f g x = inr (λ y. let e : first_number (open_key g) ≡ 7 = ap first_number (one_answer m v n p (refused g) (refused (opening.Slot f)) x y) in omega (arith, e))

  -- an answer is the refusal by a plan's fault, or it isn't
  shut_as : (f : SlotFault) (a : Opened) → AnswerWithin m v n p a → Decided (AnswerWithin m v n p (refused (opening.Slot f)))
  shut_as f (refused g) x = refused_as f g x
  shut_as f (opens key) x = inr (λ y. one_answer m v n p (opens key) (refused (opening.Slot f)) x y)
  shut_as f no_key x = inr (λ y. one_answer m v n p no_key (refused (opening.Slot f)) x y)

-- ---- why a keyslot gives no key

-- one of the faults of a secret is another one of them, or it isn't
locked_is : (g : EditFault) → is_lock g ≡ true → Decided (fault.Locked ≡ g)
locked_is fault.Locked is = inl refl
locked_is fault.KeyLength is = inr (λ e. cc)
locked_is fault.WrongKey is = inr (λ e. cc)
locked_is g is = absurd (false≢true is)

length_is : (g : EditFault) → is_lock g ≡ true → Decided (fault.KeyLength ≡ g)
length_is fault.Locked is = inr (λ e. cc)
length_is fault.KeyLength is = inl refl
length_is fault.WrongKey is = inr (λ e. cc)
length_is g is = absurd (false≢true is)

wrong_is : (g : EditFault) → is_lock g ≡ true → Decided (fault.WrongKey ≡ g)
wrong_is fault.Locked is = inr (λ e. cc)
wrong_is fault.KeyLength is = inr (λ e. cc)
wrong_is fault.WrongKey is = inl refl
wrong_is g is = absurd (false≢true is)

-- so each fault is that of a secret, or it isn't
pub lock_decided : (f g : EditFault) → is_lock g ≡ true → Decided (f ≡ g)
lock_decided fault.Locked g is = locked_is g is
lock_decided fault.KeyLength g is = length_is g is
lock_decided fault.WrongKey g is = wrong_is g is
lock_decided f g is = inr (λ e. false≢true (ap is_lock e ∙ is))

module _ (m : Allowed) (v : List ℕ) (n : ℕ) (secret : Secret) where
  -- where the secret gives none, one fault says why
  unmet_by : GivesWithin secret.kind m v n secret.bytes.now None → (f : EditFault) → Decided (IsUnmet m v n secret f)
  unmet_by gives f = elim (lock_decided f (lock_fault secret.kind gives.plan.key_bytes secret.bytes.now) (lock_is secret.kind gives.plan.key_bytes secret.bytes.now)) [
    | inl same ↦ inl (record { gives = gives; is = same })
    | inr other ↦ inr (λ x. other (unmet_once m v n secret (lock_fault secret.kind gives.plan.key_bytes secret.bytes.now) f (record { gives = gives; is = refl }) x))
  ]

  -- by what it answers
  unmet_as : (a : Opened) → AnswersTo secret.kind m v n secret.bytes.now a → (f : EditFault) → Decided (IsUnmet m v n secret f)
  unmet_as (refused g) x f = inr (λ y. one_answer_to secret.kind m v n secret.bytes.now (refused g) no_key x y.gives)
  unmet_as (opens key) x f = inr (λ y. one_answer_to secret.kind m v n secret.bytes.now (opens key) no_key x y.gives)
  unmet_as no_key x f = unmet_by x f

  -- the fault says why it gives none, or it doesn't
  pub keyslot_decided : (a : Opened) → AnswerWithin m v n secret.bytes.now a → (f : EditFault) → Decided (IsUnopenedKeyslot m v n secret f)
  keyslot_decided a x (fault.Slot s) = shut_as m v n secret.bytes.now s a x
  keyslot_decided a x f = (let b = answer_to m v n secret.bytes.now secret.kind a x in unmet_as b.0 b.1 f)
