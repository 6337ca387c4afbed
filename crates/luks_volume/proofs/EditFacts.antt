-- What an edit of a volume keeps, whatever its reply.
use Rattle.std.proofs.Common.{◌≡◌, ◌∙◌, ℕ, List, Ok, Err, Some, ap, sym, subst}
use Rattle.std.proofs.lemmas.Option.{same_Some}
use Rattle.luks2_header.specs.Selection.{Choice, luks1, luks2, nothing, Chosen}
use Rattle.luks_reading.specs.declared.report.Data.{Data}
use Rattle.luks_reading.specs.Checked.{WellFormed}
use Rattle.luks_edit.specs.declared.edit.Done.{Done}
use Rattle.luks_edit.specs.declared.edit.Edit.{Edit}
use Rattle.luks_edit.specs.declared.deed.Deed.{Deed}
use Rattle.luks_edit.specs.declared.deed.Deed.TheVariants as deed
use Rattle.luks_edit.specs.declared.deed.Removed.{Removed}
use Rattle.luks_edit.specs.declared.deed.Rewritten.{Rewritten}
use Rattle.luks_edit.specs.declared.deed.Sealed.{Sealed}
use Rattle.luks_edit.specs.declared.edit.Step.{Step}
use Rattle.luks_edit.specs.declared.edit_fault.EditFault.TheVariants as fault
use Rattle.luks_edit.specs.Asked.{deed_of, MatchDeed, NamesItself, removed_in}
use Rattle.luks_edit.specs.Kept.{Keeps, KeepsSlot}
use Rattle.luks_edit.specs.Ran.{AreRun, HasNoFailure, IsCompleted, IsFailure, IsNamedIn, Reply}
use Rattle.luks1_edits.specs.Edited.{NamedKeyslots1}
use Rattle.luks1_edits.proofs.EditedFacts.{keeps}
use Rattle.luks2_edit_laws.specs.Edited.{HasRanges, NamedKeyslots2}
use Rattle.luks2_edit_laws.proofs.AfterFacts.{after_keeps}
use Rattle.luks_volume.specs.Edits.{AfterAs, IsEditFaultAs, IsUnrefused, NamedSlots, NamesAs, Replies}
use Rattle.luks_volume.proofs.RanFacts.{kept_same, list_keeps}

-- what fewer names keep, more names keep
keeps_fewer : (payload : Data) (named more : ℕ → Type 0) (v w : List ℕ) → ((n : ℕ) → named n → more n) → Keeps payload named v w → Keeps payload more v w
keeps_fewer payload named more v w of x = record {
  size = x.size;
  well = x.well;
  segments = x.segments;
  slots = λ n not. x.slots n (λ is. not (of n is));
}

-- an edit that changed nothing keeps all
unchanged : (payload : Data) (named : ℕ → Type 0) (v w : List ℕ) → WellFormed v payload → w ≡ v → Keeps payload named v w
unchanged payload named v w well same = subst (λ u. Keeps payload named v u) (sym same) (kept_same payload named v well)

-- a completed edit keeps what it doesn't name
completed : (payload : Data) (e : Edit) (v random w : List ℕ) (c : Choice) → Chosen v c → WellFormed v payload → HasRanges v e random → IsUnrefused v payload e random
    → AfterAs v payload e random c w → Keeps payload (NamedSlots v e) v w
completed payload e v random w luks1 chosen well ranges fine after =
    keeps_fewer payload (NamedKeyslots1 v e) (NamedSlots v e) v w (λ n is. record { choice = luks1; chosen = chosen; named = is })
    (keeps payload v chosen well e random w (record { none = λ f is. fine.none f (record { choice = luks1; chosen = chosen; fault = is }) }) after)
completed payload e v random w (luks2 o copies) chosen well ranges fine after =
    keeps_fewer payload (NamedKeyslots2 v e) (NamedSlots v e) v w (λ n is. record { choice = luks2 o copies; chosen = chosen; named = is })
    (after_keeps v payload e random w well ranges (record { none = λ f is. fine.none f (record { choice = luks2 o copies; chosen = chosen; fault = is }) }) after)
completed payload e v random w nothing chosen well ranges fine after = absurd after

-- so the reply that it is completed tells
pub done_keeps : (payload : Data) (v w : List ℕ) (e : Edit) (random : List ℕ) (done : Done) → WellFormed v payload → Replies payload v e random (Ok done) w
    → Keeps payload (NamedSlots v e) v w
done_keeps payload v w e random done well is = completed payload e v random w is.3.choice is.3.chosen well is.0 is.1 is.3.after

-- an edit in which the device didn't fail keeps what it doesn't name, and all where it isn't completed
pub edit_keeps : (payload : Data) (v w : List ℕ) (e : Edit) (random : List ℕ) (r : Reply) → WellFormed v payload → Replies payload v e random r w
    → (IsFailure r → ⊥) → Keeps payload (λ n. IsCompleted r × NamedSlots v e n) v w
edit_keeps payload v w e random (Ok done) well is fine =
    keeps_fewer payload (NamedSlots v e) (λ n. IsCompleted (Ok done) × NamedSlots v e n) v w (λ n named. (tt, named))
    (done_keeps payload v w e random done well is)
edit_keeps payload v w e random (Err fault.Device) well is fine = absurd (fine tt)
edit_keeps payload v w e random (Err f) well is fine = unchanged payload _ v w well is.1

-- an edit that removes a keyslot names that one
removed_named : (d : Deed) (removed : Removed) (S : Sealed → Type 0) (W : Rewritten → Type 0) (E : Type 0) (n : ℕ)
    → removed_in d ≡ Some removed → MatchDeed d S (λ r. n ≡ r.slot) W E → n ≡ removed.slot
removed_named (deed.Seal s) removed S W E n is x = absurd (cc)
removed_named (deed.Remove r) removed S W E n is x = x ∙ ap (λ (k : Removed). k.slot) (same_Some r removed is)
removed_named (deed.Rewrite rewritten) removed S W E n is x = absurd (cc)
removed_named deed.Erase removed S W E n is x = absurd (cc)

-- the keyslot that is named to remove another one by isn't itself the one that is removed
module _ (v : List ℕ) (payload : Data) (e : Edit) (removed : Removed) (by_ : ℕ) (is : removed_in (deed_of e) ≡ Some removed) (named : removed.by_ ≡ Some by_) where
  itself : by_ ≡ removed.slot → NamesItself e
  itself same = rw is (named ∙ ap Some same)

  names_itself : (random : List ℕ) (c : Choice) → NamesAs v e c by_ → IsEditFaultAs v payload e random c fault.SameSlot
  names_itself random luks1 same = itself (removed_named (deed_of e) removed _ _ _ by_ is same)
  names_itself random (luks2 o copies) same = itself (removed_named (deed_of e) removed _ _ _ by_ is same)
  names_itself random nothing same = same

  -- so the one that opened is as it was
  pub opener_kept : (w random : List ℕ) (done : Done) → WellFormed v payload → Replies payload v e random (Ok done) w → KeepsSlot payload by_ v w
  opener_kept w random done well is_done =
      (edit_keeps payload v w e random (Ok done) well is_done (λ x. x)).slots by_
      (λ x. is_done.1.none fault.SameSlot (record { choice = x.1.choice; chosen = x.1.chosen; fault = names_itself random x.1.choice x.1.named }))

-- a list of edits in which it didn't fail keeps what no completed one names
pub edits_keep : (payload : Data) (steps : List Step) (replies : List Reply) (volumes : List (List ℕ)) (v w : List ℕ) → WellFormed v payload
    → AreRun (Replies payload) v steps replies volumes w → HasNoFailure replies → Keeps payload (IsNamedIn NamedSlots v steps replies volumes) v w
edits_keep payload = list_keeps (Replies payload) NamedSlots payload (edit_keeps payload)
