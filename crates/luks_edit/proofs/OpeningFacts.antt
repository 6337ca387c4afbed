-- Why a keyslot gives no key by a secret: one fault at most, of the rows from `Locked` to that of a keyslot's plan.
use Rattle.std.proofs.Common.{◌≡◌, ℕ, ◌≤◌, List, length, Bool, true, false, Some, None, refl, sym, ap, subst, ◌∙◌, arith}
use Rattle.std.specs.Prelude.{◌==◌, if◌then◌else◌}
use Rattle.std.proofs.lemmas.Bool.{false≢true}
use Rattle.luks_area.specs.First.{NotAfter}
use Rattle.luks2_header.specs.Selection.{luks1, Chosen}
use Rattle.luks2_header.proofs.ChoiceFacts.{choices_agree}
use Rattle.luks_slot.specs.declared.allowed.Allowed.{Allowed}
use Rattle.luks_slot.specs.declared.fault.SlotFault.{SlotFault}
use Rattle.luks_reading.specs.declared.open_fault.OpenFault.TheVariants as opening
use Rattle.luks_reading.specs.Answer.{AnswerWithin, HasPlanAs, refused, slot_row}
use Rattle.luks_edit.specs.declared.edit.Secret.{Secret}
use Rattle.luks_edit.specs.declared.edit.SecretKind.{SecretKind}
use Rattle.luks_edit.specs.declared.edit.SecretKind.TheVariants.{Passphrase, Key}
use Rattle.luks_edit.specs.declared.edit_fault.EditFault.{EditFault}
use Rattle.luks_edit.specs.declared.edit_fault.EditFault.TheVariants as fault
use Rattle.luks_edit.specs.EditFaults.{edit_key}
use Rattle.luks_edit.specs.Opener.{IsUnmet, IsUnopenedKeyslot, lock_fault}
use Rattle.luks_edit.specs.Secrets.{GivesWithin}
use Rattle.luks_edit.proofs.AllowedMemory.{luks1_answers_alike, refused_as}
use Rattle.luks_edit.proofs.SecretFacts.{given_once, given_unrefused, one_plan}

-- the fault is of one of these rows
abbrev pub is_opening : EditFault → Bool
is_opening fault.Locked = true
is_opening fault.KeyLength = true
is_opening fault.WrongKey = true
is_opening (fault.Slot s) = true
is_opening f = false

-- that of a secret is of the first three
abbrev pub is_lock : EditFault → Bool
is_lock fault.Locked = true
is_lock fault.KeyLength = true
is_lock fault.WrongKey = true
is_lock f = false

key_lock : (b : Bool) → is_lock (if b then fault.WrongKey else fault.KeyLength) ≡ true
key_lock true = refl
key_lock false = refl

pub lock_is : (kind : SecretKind) (n : ℕ) (p : List ℕ) → is_lock (lock_fault kind n p) ≡ true
lock_is Passphrase n p = refl
lock_is Key n p = key_lock (length p == n)

-- a fault that isn't of these isn't that of a secret
pub no_lock : (kind : SecretKind) (n : ℕ) (p : List ℕ) (f : EditFault) → is_lock f ≡ false → f ≡ lock_fault kind n p → ⊥
no_lock kind n p f not is = false≢true (sym not ∙ ap is_lock is ∙ lock_is kind n p)

-- nor is it one of a keyslot that gives none
pub not_opening : (allowed : Allowed) (v : List ℕ) (n : ℕ) (secret : Secret) (f : EditFault) → is_opening f ≡ false → IsUnopenedKeyslot allowed v n secret f → ⊥
not_opening allowed v n secret (fault.Slot s) not bad = false≢true (sym not)
not_opening allowed v n secret fault.Locked not bad = false≢true (sym not)
not_opening allowed v n secret fault.KeyLength not bad = false≢true (sym not)
not_opening allowed v n secret fault.WrongKey not bad = false≢true (sym not)
not_opening allowed v n secret f not bad = no_lock secret.kind bad.gives.plan.key_bytes secret.bytes.now f refl bad.is

-- ---- one fault

-- a fault doesn't follow itself
same_row : (f : EditFault) → is_lock f ≡ true → NotAfter (edit_key f) (edit_key f)
same_row fault.Locked is = (omega arith, λ _. tt)
same_row fault.KeyLength is = (omega arith, λ _. tt)
same_row fault.WrongKey is = (omega arith, λ _. tt)
same_row f is = absurd (false≢true is)

pub lock_first : (f g : EditFault) → is_lock f ≡ true → g ≡ f → NotAfter (edit_key f) (edit_key g)
lock_first f g is same = subst (λ k. NotAfter (edit_key f) (edit_key k)) (sym same) (same_row f is)

-- that of a plan comes before that of a plan whose row it doesn't come behind
pub plan_first : (s t : SlotFault) → slot_row s ≤ slot_row t → NotAfter (edit_key (fault.Slot s)) (edit_key (fault.Slot t))
plan_first s t le = (omega arith, λ _. (le, λ _. tt))

module _ (allowed : Allowed) (v : List ℕ) (n : ℕ) (secret : Secret) where
  pub unmet_once : (f g : EditFault) → IsUnmet allowed v n secret f → IsUnmet allowed v n secret g → g ≡ f
  unmet_once f g x y =
      let e : y.gives.choice ≡ x.gives.choice = choices_agree v y.gives.choice x.gives.choice y.gives.chosen x.gives.chosen in
      let plan = subst (λ c. HasPlanAs v n c y.gives.plan) e y.gives.is in
      let same = one_plan allowed v n x.gives.choice x.gives.plan y.gives.plan x.gives.is plan x.gives.unrefused in
      y.is ∙ ap (λ k. lock_fault secret.kind k secret.bytes.now) (sym same.key_bytes) ∙ sym x.is

  unmet_lock : (f : EditFault) → IsUnmet allowed v n secret f → is_lock f ≡ true
  unmet_lock f x = ap is_lock x.is ∙ lock_is secret.kind x.gives.plan.key_bytes secret.bytes.now

  unmet_first : (f g : EditFault) → IsUnmet allowed v n secret f → IsUnmet allowed v n secret g → NotAfter (edit_key f) (edit_key g)
  unmet_first f g x y = lock_first f g (unmet_lock f x) (unmet_once f g x y)

  unmet_unshut : (f : EditFault) (s : SlotFault) → IsUnmet allowed v n secret f → AnswerWithin allowed v n secret.bytes.now (refused (opening.Slot s)) → ⊥
  unmet_unshut f s x y = given_unrefused secret.kind allowed v n secret.bytes.now None (opening.Slot s) x.gives y

  -- of two the first one stands where it stands
  pub unopened_first : (f g : EditFault) → IsUnopenedKeyslot allowed v n secret f → IsUnopenedKeyslot allowed v n secret g → NotAfter (edit_key f) (edit_key g)
  unopened_first (fault.Slot s) (fault.Slot t) x y = plan_first s t ((x.1 (opening.Slot t) y.0).1 refl).0
  unopened_first (fault.Slot s) g x y = absurd (unmet_unshut g s y x)
  unopened_first f (fault.Slot t) x y = absurd (unmet_unshut f t x y)
  unopened_first f g x y = unmet_first f g x y

  -- a keyslot that gives a key has none
  pub opened_past : (key : List ℕ) → GivesWithin secret.kind allowed v n secret.bytes.now (Some key) → (f : EditFault) → IsUnopenedKeyslot allowed v n secret f → ⊥
  opened_past key opened (fault.Slot s) bad = given_unrefused secret.kind allowed v n secret.bytes.now (Some key) (opening.Slot s) opened bad
  opened_past key opened f bad = let two = given_once secret.kind allowed v n secret.bytes.now (Some key) None opened bad.gives in absurd (cc)

-- ---- LUKS1: whatever memory is allowed

unmet_alike : (v : List ℕ) → Chosen v luks1 → (less more : Allowed) (n : ℕ) → less.older ≡ more.older → (secret : Secret) (f : EditFault)
    → IsUnmet less v n secret f → IsUnmet more v n secret f
unmet_alike v chosen less more n alike secret f x = record {
  gives = record {
    choice = x.gives.choice;
    chosen = x.gives.chosen;
    plan = x.gives.plan;
    is = x.gives.is;
    unrefused = λ g bad. x.gives.unrefused g (refused_as v more less n x.gives.choice g (sym alike) (choices_agree v x.gives.choice luks1 x.gives.chosen chosen) bad);
    key = x.gives.key;
  };
  is = x.is;
}

pub unopened_alike : (v : List ℕ) → Chosen v luks1 → (less more : Allowed) (n : ℕ) → less.older ≡ more.older → (secret : Secret) (f : EditFault)
    → IsUnopenedKeyslot less v n secret f → IsUnopenedKeyslot more v n secret f
unopened_alike v chosen less more n alike secret (fault.Slot s) x = luks1_answers_alike v chosen less more n alike secret.bytes.now (refused (opening.Slot s)) x
unopened_alike v chosen less more n alike secret f x = unmet_alike v chosen less more n alike secret f x
