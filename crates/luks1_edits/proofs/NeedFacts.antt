-- How many random bytes an edit takes, and the first fault that is seen without opening a keyslot.
use Rattle.std.proofs.Common.{◌≡◌, ℕ, ◌<◌, ◌≤◌, List, [], arith, refl, None, Option, Result, Ok, Err, MatchResult}
use Rattle.luks_area.specs.First.{IsLeast}
use Rattle.luks_reading.specs.declared.check_fault.CheckFault.{CheckFault}
use Rattle.luks_reading.specs.declared.report.Data.{Data}
use Rattle.luks_reading.specs.Checked.{IsFault}
use Rattle.luks_making.specs.declared.derivation.AskedDerivation.{AskedDerivation}
use Rattle.luks_edit.specs.declared.edit.Edit.{Edit}
use Rattle.luks_edit.specs.declared.edit.Opener.{Opener}
use Rattle.luks_edit.specs.declared.edit_fault.EditFault.{EditFault}
use Rattle.luks_edit.specs.declared.edit_fault.EditFault.TheVariants as fault
use Rattle.luks_edit.specs.Asked.{deed_of, sealed_in, uuid_by}
use Rattle.luks_edit.specs.NewUuids.{uuid_need}
use Rattle.luks_edit.specs.EditFaults.{edit_key, edit_row}
use Rattle.luks_edit.proofs.RowFacts.{Passed, after_check, after_opening, first_of_row, next}
use Rattle.luks1_edits.specs.Accepted.{AreAllThere, IsNewFault, IsNewFree}
use Rattle.luks1_edits.specs.Needed.{IsNeedFault1, NeedsRandom, TellsNeed1}
use Rattle.luks1_edits.specs.Refused.{HasNoFree, IsEditFault1, IsTaken, Need1, NeedsFor, Refusal1}
use Rattle.luks1_edits.proofs.NewKeyslotFacts.{IsMaking, free_found, free_untaken, taken_excludes}
use Rattle.luks1_edits.proofs.RowFacts.{there_of}

module _ (v : List ℕ) (payload : Data) (e : Edit) where
  -- each of the faults that are seen without a key is one of the edit
  is_edits : (f : EditFault) → IsNeedFault1 v payload e f → IsEditFault1 v payload e [] f
  is_edits (fault.NotAccepted f) bad = bad
  is_edits fault.NoSuchSlot bad = bad
  is_edits fault.SameSlot bad = bad
  is_edits fault.SlotTaken bad = bad
  is_edits fault.NoFreeSlot bad = bad
  is_edits f bad = absurd bad

  -- each of the edit's before the row `Locked` is seen without a key
  is_seen : (f : EditFault) → edit_row f < 4 → IsEditFault1 v payload e [] f → IsNeedFault1 v payload e f
  is_seen (fault.NotAccepted f) low bad = bad
  is_seen fault.Requirements low bad = bad
  is_seen fault.NoSuchSlot low bad = bad
  is_seen fault.SameSlot low bad = bad
  is_seen f low bad = absurd (omega (arith, low))

  -- so the first of these rows is the first of both
  pub need_first : (f : EditFault) → edit_row f < 4 → Refusal1 v payload e [] f → IsLeast edit_key (IsNeedFault1 v payload e) f
  need_first f low first = (is_seen f low first.0, λ g bad. first.1 g (is_edits g bad))

module _ (v : List ℕ) (payload : Data) (e : Edit) (accepted : (f : CheckFault) → IsFault v payload f → ⊥) (all : AreAllThere v e) where
  -- none of the faults that are seen without opening a keyslot stands
  told : (k : ℕ) → (IsTaken v e → ⊥) → (HasNoFree v e → ⊥) → Need1 v e k → NeedsRandom v payload e k
  told k untaken some_free need = record { unrefused = none; need = need }
    where
      none : (f : EditFault) → IsNeedFault1 v payload e f → ⊥
      none (fault.NotAccepted f) bad = accepted f bad
      none fault.NoSuchSlot bad = there_of v e all bad
      none fault.SameSlot bad = all.other bad
      none fault.SlotTaken bad = untaken bad
      none fault.NoFreeSlot bad = some_free bad
      none f bad = bad

  -- an edit that makes no keyslot takes the random bytes of the uuid that it makes, if it makes one
  pub uuid_needs : sealed_in (deed_of e) ≡ None → (k : ℕ) → k ≡ uuid_need (uuid_by e) → NeedsRandom v payload e k
  uuid_needs none k is = told k (λ bad. rw none at bad) (λ bad. rw none at bad) (rw none is)

  past_opener : Passed (IsNeedFault1 v payload e) 8
  past_opener =
      let s = IsNeedFault1 v payload e in
      let asked : Passed s 2 = next s fault.Requirements refl (after_check s accepted) (λ bad. bad) in
      after_opening s (next s fault.SameSlot refl (next s fault.NoSuchSlot refl asked (there_of v e all)) all.other) none
    where
      none : (f : EditFault) → 4 ≤ edit_row f → edit_row f < 8 → IsNeedFault1 v payload e f → ⊥
      none fault.SlotTaken from to bad = omega (arith, to)
      none fault.NoFreeSlot from to bad = omega (arith, to)
      none (fault.NotAccepted f) from to bad = omega (arith, from)
      none fault.NoSuchSlot from to bad = omega (arith, from)
      none fault.SameSlot from to bad = omega (arith, from)
      none f from to bad = bad

  module _ (o : Opener) (to : Option ℕ) (asked : AskedDerivation) (is : IsMaking v e o to asked) where
    need_refused : (f : EditFault) → IsNewFault v to f → IsLeast edit_key (IsNeedFault1 v payload e) f
    need_refused fault.SlotTaken bad = first_of_row (IsNeedFault1 v payload e) fault.SlotTaken refl past_opener (is.taken_is bad)
    need_refused fault.NoFreeSlot bad =
        let s = IsNeedFault1 v payload e in
        first_of_row s fault.NoFreeSlot refl (next s fault.SlotTaken refl past_opener (λ taken. taken_excludes v to (is.taken_only taken) bad)) (is.free_is bad)
    need_refused f bad = absurd bad

    pub new_need_tells : (result : Result ℕ EditFault) → MatchResult result (NeedsFor v (IsNewFree v to)) (IsNewFault v to) → TellsNeed1 payload v e result
    new_need_tells (Ok k) x = told k
        (λ bad. free_untaken v to x.slot x.is (is.taken_only bad)) (λ bad. free_found v to x.slot x.is (is.free_only bad))
        (is.need k (record { slot = x.slot; is = x.is.is_new; count = x.count }))
    new_need_tells (Err f) x = need_refused f x
