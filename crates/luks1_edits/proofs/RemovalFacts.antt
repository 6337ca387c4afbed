-- What a removal replies, from what was judged of it.
use Rattle.std.proofs.Common.{◌≡◌, ◌≢◌, ◌⊎◌, ℕ, List, length, subst, refl, sym, ◌∙◌, inl, inr, Option, Some, None, Result, Ok, Err, MatchResult}
use Rattle.luks_reading.specs.declared.report.Data.{Data}
use Rattle.luks_edit.specs.declared.edit.Edit.{Edit}
use Rattle.luks_edit.specs.declared.deed.Deed.TheVariants.{Remove}
use Rattle.luks_edit.specs.declared.deed.Removed.{Removed}
use Rattle.luks_edit.specs.declared.edit_fault.EditFault.TheVariants as fault
use Rattle.luks_edit.specs.declared.edit_fault.EditFault.{EditFault}
use Rattle.luks_edit.specs.declared.edit.Opener.{Opener}
use Rattle.luks_edit.specs.declared.edit.Secret.{Secret}
use Rattle.luks_edit.specs.declared.edit.SecretKind.{SecretKind}
use Rattle.luks_edit.specs.declared.edit.SecretKind.TheVariants as kind
use Rattle.luks_edit.specs.Asked.{allowed_by, allowed_of, ChoosesArgon2, deed_of, HasFewIterations, NamesItself, opener_in, opener_of, remover_by, remover_of, Wants}
use Rattle.luks_edit.specs.NewUuids.{HasBadUuid}
use Rattle.luks_edit.proofs.RowFacts.{Passed, first_of_row}
use Rattle.luks1_edits.specs.Accepted.{AreAllThere, HasOther, IsHeaderOf, IsMisnamed, IsNamedTwice, IsOpenedBy, IsRemovable, IsUnremovable, IsUsable}
use Rattle.luks1_edits.specs.Edited.{After1, IsInUse, IsRemoved}
use Rattle.luks1_edits.specs.Leftovers.{IsHalfRemoved, IsTorn1, Leftover1}
use Rattle.luks1_edits.specs.Refused.{HasNoFree, IsEditFault1, IsLabel, IsLast, IsTaken, IsUnrefused1, Need1, Refusal1}
use Rattle.luks1_edits.specs.Replies.{IsDone1, Tells1}
use Rattle.luks1_edits.proofs.RowFacts.{IsOpener, opener_passed, past_argon2, past_label, past_new, past_uuid, unrefused}

-- the edit removes the keyslot `slot`, and has a key for that of the opener
pub record IsRemoval (v : List ℕ) (e : Edit) (o : Opener) (slot : ℕ) (by_ : Option ℕ) (r : List ℕ) : Type 0 where
  pub asked : opener_in (deed_of e) ≡ Some o
  pub older : (allowed_by e).older ≡ (allowed_of o).older
  pub wants_opener : Wants e (opener_of slot by_)
  pub wants_removed : Wants e slot
  pub wants_only : (n : ℕ) → Wants e n → (n ≡ opener_of slot by_) ⊎ (n ≡ slot)
  pub itself_is : by_ ≡ Some slot → NamesItself e
  pub itself_only : NamesItself e → by_ ≡ Some slot
  pub untaken : IsTaken v e → ⊥
  pub some_free : HasNoFree v e → ⊥
  pub last_is : ((m : ℕ) → IsInUse v m → m ≡ slot) → IsLast v e
  pub last_only : IsLast v e → (m : ℕ) → IsInUse v m → m ≡ slot
  pub many : HasFewIterations e → ⊥
  pub no_argon2 : ChoosesArgon2 e → ⊥
  pub no_label : IsLabel e → ⊥
  pub good_uuid : HasBadUuid e → ⊥
  pub need : Need1 v e 0
  pub need_only : (k : ℕ) → Need1 v e k → k ≡ 0
  pub after : (w : List ℕ) → IsRemoved v slot w → After1 v e r w
  pub torn : (w : List ℕ) → IsHalfRemoved v slot w → IsTorn1 v e r w
  pub told : Tells1 v e None

-- each edit does that removes one
pub removal : (v : List ℕ) (e : Edit) (d : Removed) (r : List ℕ) → deed_of e ≡ Remove d → IsRemoval v e (remover_of d.slot d.by_ d.secret) d.slot d.by_ r
removal v e d r is = record {
  asked = rw is refl;
  older = rw is refl;
  wants_opener = rw is (inl refl);
  wants_removed = rw is (inr refl);
  wants_only = λ n y. rw is at y;
  itself_is = λ y. rw is y;
  itself_only = λ y. rw is at y;
  untaken = λ y. rw is at y;
  some_free = λ y. rw is at y;
  last_is = λ y. rw is y;
  last_only = λ y. rw is at y;
  many = λ y. rw is at y;
  no_argon2 = λ y. rw is at y;
  no_label = λ y. rw is at y;
  good_uuid = λ y. rw is at y;
  need = rw is refl;
  need_only = λ k y. rw is at y;
  after = λ w y. rw is y;
  torn = λ w y. rw is y;
  told = rw is refl;
}

-- both of its keyslots are there
both_there : {v : List ℕ} {e : Edit} {o : Opener} {slot : ℕ} {by_ : Option ℕ} {r : List ℕ} → IsRemoval v e o slot by_ r → IsInUse v (opener_of slot by_) → IsInUse v slot → (n : ℕ) → Wants e n → IsInUse v n
both_there {v = v} is opener removed n wants = elim (is.wants_only n wants) [
  | inl y ↦ subst (λ k. IsInUse v k) (sym y) opener
  | inr y ↦ subst (λ k. IsInUse v k) (sym y) removed
]

removable_there : {v : List ℕ} {e : Edit} {o : Opener} {slot : ℕ} {by_ : Option ℕ} {r : List ℕ} → IsRemoval v e o slot by_ r → IsRemovable v slot by_ → AreAllThere v e
removable_there is x = record { there = both_there is x.opener x.removed; other = λ bad. x.other (is.itself_only bad) }

-- they are one
twice_there : {v : List ℕ} {e : Edit} {o : Opener} {slot : ℕ} {by_ : Option ℕ} {r : List ℕ} → IsRemoval v e o slot by_ r → IsNamedTwice v slot by_ → (n : ℕ) → Wants e n → IsInUse v n
twice_there {v} {slot = slot} {by_ = by_} is x =
    let opener : IsInUse v (opener_of slot by_) = subst (λ b. IsInUse v (opener_of slot b)) (sym x.same) x.removed in
    both_there is opener x.removed

-- a keyslot isn't there, or it is named twice
unremovable_misnamed : {v : List ℕ} {e : Edit} {o : Opener} {slot : ℕ} {by_ : Option ℕ} {r : List ℕ} → IsRemoval v e o slot by_ r → (f : EditFault) → IsUnremovable v slot by_ f → IsMisnamed v e f
unremovable_misnamed {slot = slot} {by_ = by_} is fault.NoSuchSlot (inl unused) = record { slot = opener_of slot by_; wanted = is.wants_opener; unused = unused }
unremovable_misnamed {slot = slot} is fault.NoSuchSlot (inr unused) = record { slot = slot; wanted = is.wants_removed; unused = unused }
unremovable_misnamed is fault.SameSlot bad = record { there = twice_there is bad; same = is.itself_is bad.same }
unremovable_misnamed is f bad = absurd bad

pub removal_judged : {v : List ℕ} {e : Edit} {o : Opener} {slot : ℕ} {by_ : Option ℕ} {r : List ℕ} {A : Type 0} → IsRemoval v e o slot by_ r → (result : Result A EditFault)
    → MatchResult result (λ _. IsRemovable v slot by_) (IsUnremovable v slot by_) → MatchResult result (λ _. AreAllThere v e) (IsMisnamed v e)
removal_judged is (Ok a) x = removable_there is x
removal_judged is (Err f) x = unremovable_misnamed is f x

-- where all is there that it wants it can be done
pub removable_of : {v : List ℕ} {e : Edit} {o : Opener} {slot : ℕ} {by_ : Option ℕ} {r : List ℕ} → IsRemoval v e o slot by_ r → AreAllThere v e → IsRemovable v slot by_
removable_of {slot = slot} {by_ = by_} is all =
    record { opener = all.there (opener_of slot by_) is.wants_opener; removed = all.there slot is.wants_removed; other = λ bad. all.other (is.itself_is bad) }

-- then that of the opener is, if it is of one
remover_usable : (v : List ℕ) (slot : ℕ) (k : SecretKind) (secret : Secret) → IsInUse v slot → IsUsable v (remover_by slot k secret)
remover_usable v slot kind.Passphrase secret used = used
remover_usable v slot kind.Key secret used = tt

pub removable_usable : (v : List ℕ) (slot : ℕ) (by_ : Option ℕ) (secret : Secret) → IsRemovable v slot by_ → IsUsable v (remover_of slot by_ secret)
removable_usable v slot None secret x = remover_usable v slot secret.kind secret x.removed
removable_usable v slot (Some other) secret x = x.opener

module _ (v : List ℕ) (payload : Data) (e : Edit) (r : List ℕ) (o : Opener) (slot : ℕ) (by_ : Option ℕ) (is : IsRemoval v e o slot by_ r) (able : IsRemovable v slot by_) where
  pub removal_opener : IsOpener v e o
  removal_opener = record { asked = is.asked; older = is.older; all = λ usable. removable_there is able }

module _ (v : List ℕ) (payload : Data) (e : Edit) (r : List ℕ) (o : Opener) (slot : ℕ) (by_ : Option ℕ) (key : List ℕ) (is : IsRemoval v e o slot by_ r)
    (h : List ℕ) (of : IsHeaderOf h payload v) (able : IsRemovable v slot by_) (usable : IsUsable v o) (opened : IsOpenedBy v o key) where
  passed : Passed (IsEditFault1 v payload e r) 11
  passed = past_new v payload e r (opener_passed v payload e r of.faultless of.chosen o (removal_opener v payload e r o slot by_ is able) usable key opened) is.untaken is.some_free

  pub last_refused : ((m : ℕ) → IsInUse v m → m ≡ slot) → Refusal1 v payload e r fault.LastSlot
  last_refused last = first_of_row (IsEditFault1 v payload e r) fault.LastSlot refl passed (is.last_is last)

  module _ (more : HasOther v slot) where
    past_last : Passed (IsEditFault1 v payload e r) 23
    past_last = past_uuid v payload e r (past_label v payload e r (past_argon2 v payload e r passed (λ bad. more.other (is.last_only bad more.keyslot more.used)) is.many is.no_argon2) is.no_label) is.good_uuid

    pub random_refused : length r ≢ 0 → Refusal1 v payload e r fault.RandomLength
    random_refused some = first_of_row (IsEditFault1 v payload e r) fault.RandomLength refl past_last (record { need = 0; is = is.need; other = some })

    module _ (none : length r ≡ 0) where
      free : IsUnrefused1 v payload e r
      free = unrefused v payload e r past_last (λ bad. bad.other (none ∙ sym (is.need_only bad.need bad.is)))

      pub removal_done : (w : List ℕ) → IsRemoved v slot w → IsDone1 payload v e r (record { slot = None }) w
      removal_done w removed = record { unrefused = free; after = is.after w removed; told = is.told }

      pub removal_torn : (w : List ℕ) → IsHalfRemoved v slot w → Leftover1 v payload e r w
      removal_torn w half = inr (free, is.torn w half)
