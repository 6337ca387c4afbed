-- What an edit that sets the uuid, or nothing, replies, from what was judged of it.
use Rattle.std.proofs.Common.{◌≡◌, ℕ, List, refl, sym, ◌∙◌, inr, Some, None, true, false}
use Rattle.std.proofs.lemmas.Bool.{both_ways}
use Rattle.luks_area.specs.Ranges.{SameBut}
use Rattle.luks_reading.specs.declared.check_fault.CheckFault.{CheckFault}
use Rattle.luks_reading.specs.declared.report.Data.{Data}
use Rattle.luks_reading.specs.Checked.{IsFault}
use Rattle.luks_edit.specs.declared.edit.Edit.{Edit}
use Rattle.luks_edit.specs.declared.deed.Deed.TheVariants as deed
use Rattle.luks_edit.specs.declared.deed.Rewritten.{Rewritten}
use Rattle.luks_edit.specs.declared.edit_fault.EditFault.{EditFault}
use Rattle.luks_edit.specs.declared.edit_fault.EditFault.TheVariants as fault
use Rattle.luks_edit.specs.declared.new_uuid.NewUuid.{NewUuid}
use Rattle.luks_edit.specs.Asked.{deed_of, sets_uuid_at_most}
use Rattle.luks_edit.specs.NewUuids.{IsBadUuid, uuid_need}
use Rattle.luks_edit.proofs.RowFacts.{Passed, first_of_row}
use Rattle.luks1_edits.specs.Accepted.{IsSettable, IsUnsettable}
use Rattle.luks1_edits.specs.Edited.{IsUuidSet}
use Rattle.luks1_edits.specs.Leftovers.{Leftover1}
use Rattle.luks1_edits.specs.Places.{IsOfUuid}
use Rattle.luks1_edits.specs.Refused.{IsEditFault1, IsLabel, IsUnrefused1, Need1}
use Rattle.luks1_edits.specs.Replies.{EndsBy1, IsDone1}
use Rattle.luks1_edits.proofs.RowFacts.{none_to_open, opens_none, past_argon2, past_label, past_new, past_uuid, unrefused}

module _ (v : List ℕ) (payload : Data) (r : List ℕ) (accepted : (f : CheckFault) → IsFault v payload f → ⊥) (e : Edit) (rewritten : Rewritten)
    (is : deed_of e ≡ deed.Rewrite rewritten) where
  new_passed : Passed (IsEditFault1 v payload e r) 11
  new_passed = past_new v payload e r (none_to_open v payload e r accepted (opens_none e rewritten is)) (λ bad. rw is at bad) (λ bad. rw is at bad)

  at_label : Passed (IsEditFault1 v payload e r) 14
  at_label = past_argon2 v payload e r new_passed (λ bad. rw is at bad) (λ bad. rw is at bad) (λ bad. rw is at bad)

  -- one that sets the uuid at most isn't refused for its label
  unset : sets_uuid_at_most rewritten ≡ true → IsLabel e → ⊥
  unset alone bad = let set : sets_uuid_at_most rewritten ≡ false = (rw is at bad) in both_ways _ set alone

  at_uuid : sets_uuid_at_most rewritten ≡ true → Passed (IsEditFault1 v payload e r) 19
  at_uuid alone = past_label v payload e r at_label (unset alone)

  at_random : sets_uuid_at_most rewritten ≡ true → (IsBadUuid rewritten.uuid → ⊥) → Passed (IsEditFault1 v payload e r) 23
  at_random alone good = past_uuid v payload e r (at_uuid alone) (λ bad. good (rw is at bad))

  needs : (k : ℕ) → Need1 v e k → k ≡ uuid_need rewritten.uuid
  needs k x = rw is at x

  pub unsettable_ends : (f : EditFault) → IsUnsettable rewritten r f → EndsBy1 payload v e r f v
  unsettable_ends fault.BadLabel set = (first_of_row (IsEditFault1 v payload e r) fault.BadLabel refl at_label (rw is set), refl)
  unsettable_ends fault.BadUuid x = (first_of_row (IsEditFault1 v payload e r) fault.BadUuid refl (at_uuid x.alone) (rw is x.bad), refl)
  unsettable_ends fault.RandomLength x = (
    first_of_row (IsEditFault1 v payload e r) fault.RandomLength refl (at_random x.alone x.good)
        (record { need = uuid_need rewritten.uuid; is = rw is refl; other = x.other }),
    refl,
  )
  unsettable_ends f x = absurd x

  module _ (able : IsSettable rewritten r) where
    free : IsUnrefused1 v payload e r
    free = unrefused v payload e r (at_random able.alone able.good) (λ bad. bad.other (able.counted ∙ sym (needs bad.need bad.is)))

    -- nothing is set
    pub nothing_set : rewritten.uuid ≡ None → IsDone1 payload v e r (record { slot = None }) v
    nothing_set none = record { unrefused = free; after = rw (is, none) (able.alone, refl); told = rw is refl }

    -- the uuid was set, or was being set
    module _ (uuid : NewUuid) (given : rewritten.uuid ≡ Some uuid) where
      pub uuid_done : (w : List ℕ) → IsUuidSet uuid v r w → IsDone1 payload v e r (record { slot = None }) w
      uuid_done w set = record { unrefused = free; after = rw (is, given) (able.alone, set); told = rw is refl }

      pub uuid_torn : (w : List ℕ) → SameBut IsOfUuid v w → Leftover1 v payload e r w
      uuid_torn w same = inr (free, rw (is, given) same)
