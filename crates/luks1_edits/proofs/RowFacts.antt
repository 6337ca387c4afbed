-- The first refusal of an edit, row by row.
use Rattle.std.proofs.Common.{◌≡◌, ℕ, ◌<◌, ◌≤◌, List, subst, refl, sym, arith, inl, Some, None}
use Rattle.luks_area.specs.First.{NotAfter}
use Rattle.luks_slot.specs.Allowance.{without_memory}
use Rattle.luks_reading.specs.declared.check_fault.CheckFault.{CheckFault}
use Rattle.luks_reading.specs.declared.report.Data.{Data}
use Rattle.luks2_header.specs.Selection.{luks1, Chosen}
use Rattle.luks_reading.specs.Checked.{IsFault}
use Rattle.luks_edit.specs.declared.edit.Edit.{Edit}
use Rattle.luks_edit.specs.declared.deed.Deed.TheVariants as deed
use Rattle.luks_edit.specs.declared.deed.Rewritten.{Rewritten}
use Rattle.luks_edit.specs.declared.edit.Opener.{Opener}
use Rattle.luks_edit.specs.declared.edit.Opener.TheVariants.{Keyslot, Key}
use Rattle.luks_edit.specs.declared.edit_fault.EditFault.{EditFault}
use Rattle.luks_edit.specs.declared.edit_fault.EditFault.TheVariants as fault
use Rattle.luks_edit.specs.Asked.{allowed_by, allowed_of, ChoosesArgon2, deed_of, HasFewIterations, MatchOpener, NamesItself, opener_in, Wants}
use Rattle.luks_edit.specs.EditFaults.{edit_key, edit_row}
use Rattle.luks_edit.specs.NewUuids.{HasBadUuid}
use Rattle.luks_edit.proofs.RowFacts.{Passed, after_check, after_opening, after_token, first_of_opening, first_of_row, next, none_at_all}
use Rattle.luks1_edits.specs.Accepted.{AreAllThere, IsMisnamed, IsOpenedBy, IsUnopened, IsUsable}
use Rattle.luks1_edits.specs.Edited.{IsInUse}
use Rattle.luks1_edits.specs.Refused.{HasNoFree, IsAbsent, IsEditFault1, IsLabel, IsLast, IsMiscounted, IsTaken, IsUnopened1, IsUnopenedBy1, IsUnrefused1, Refusal1}
use Rattle.luks1_edits.specs.Replies.{EndsBy1}
use Rattle.luks1_edits.proofs.KeyFacts.{opener_alike, opener_first, opener_not}

-- the opener gives the key for the edit, and where its keyslot is there, all are that the edit wants
pub record IsOpener (v : List ℕ) (e : Edit) (o : Opener) : Type 0 where
  pub asked : opener_in (deed_of e) ≡ Some o
  pub older : (allowed_by e).older ≡ (allowed_of o).older
  pub all : IsUsable v o → AreAllThere v e

-- the edit needs no key and wants no keyslot
pub record OpensNone (e : Edit) : Type 0 where
  pub opens : opener_in (deed_of e) ≡ None
  pub wants : (n : ℕ) → Wants e n → ⊥
  pub other : NamesItself e → ⊥

-- one that rewrites the header doesn't
pub opens_none : (e : Edit) (r : Rewritten) → deed_of e ≡ deed.Rewrite r → OpensNone e
opens_none e r is = record { opens = rw is refl; wants = λ n x. rw is at x; other = λ x. rw is at x }

-- the keyslot of an opener that can be asked is in use
in_use_of : (v : List ℕ) (o : Opener) (m : ℕ) → IsUsable v o → MatchOpener o (λ slot secret. m ≡ slot) (λ key. ⊥) → IsInUse v m
in_use_of v (Keyslot slot secret) m used same = subst (λ k. IsInUse v k) (sym same) used
in_use_of v (Key key) m used same = absurd same

-- it wants none but that of the opener
pub alone : (v : List ℕ) (e : Edit) (o : Opener) → opener_in (deed_of e) ≡ Some o → (allowed_by e).older ≡ (allowed_of o).older
    → ((m : ℕ) → Wants e m → MatchOpener o (λ slot secret. m ≡ slot) (λ key. ⊥)) → (NamesItself e → ⊥) → IsOpener v e o
alone v e o asked older only other = record {
  asked = asked;
  older = older;
  all = λ used. record { there = λ m wants. in_use_of v o m used (only m wants); other = other };
}

pub none_wanted : (v : List ℕ) (e : Edit) → OpensNone e → AreAllThere v e
none_wanted v e none = record { there = λ n wants. absurd (none.wants n wants); other = none.other }

pub there_of : (v : List ℕ) (e : Edit) → AreAllThere v e → IsAbsent v e → ⊥
there_of v e all bad = bad.unused (all.there bad.slot bad.wanted)

module _ (v : List ℕ) (payload : Data) (e : Edit) (r : List ℕ) where
  -- ---- the rows from the new keyslot's on

  pub past_new : Passed (IsEditFault1 v payload e r) 8 → (IsTaken v e → ⊥) → (HasNoFree v e → ⊥) → Passed (IsEditFault1 v payload e r) 11
  past_new before untaken free =
      let s = IsEditFault1 v payload e r in
      next s fault.NoRoom refl (next s fault.NoFreeSlot refl (next s fault.SlotTaken refl before untaken) free) (λ bad. bad)

  pub past_argon2 : Passed (IsEditFault1 v payload e r) 11 → (IsLast v e → ⊥) → (HasFewIterations e → ⊥) → (ChoosesArgon2 e → ⊥) → Passed (IsEditFault1 v payload e r) 14
  past_argon2 before last few argon2 =
      let s = IsEditFault1 v payload e r in
      next s fault.Argon2 refl (next s fault.Iterations refl (next s fault.LastSlot refl before last) few) argon2

  -- LUKS1 has no tokens
  pub past_label : Passed (IsEditFault1 v payload e r) 14 → (IsLabel e → ⊥) → Passed (IsEditFault1 v payload e r) 19
  past_label before label =
      let s = IsEditFault1 v payload e r in
      next s fault.UnreadableToken refl
      (next s fault.NoFreeToken refl
      (next s fault.TokenTaken refl (next s fault.NoSuchToken refl (next s fault.BadLabel refl before label) (λ bad. bad)) (λ bad. bad)) (λ bad. bad))
      (λ bad. bad)

  pub past_uuid : Passed (IsEditFault1 v payload e r) 19 → (HasBadUuid e → ⊥) → Passed (IsEditFault1 v payload e r) 23
  past_uuid before good =
      let s = IsEditFault1 v payload e r in
      next s fault.MetadataFull refl (next s fault.SeqExhausted refl (after_token s (next s fault.BadUuid refl before good) (λ m bad. bad)) (λ bad. bad)) (λ bad. bad)

  -- nothing refuses it
  pub unrefused : Passed (IsEditFault1 v payload e r) 23 → (IsMiscounted v e r → ⊥) → IsUnrefused1 v payload e r
  unrefused before counted =
      let s = IsEditFault1 v payload e r in
      record { none = none_at_all s (next s fault.Device refl (next s fault.Memory refl (next s fault.RandomLength refl before counted) (λ bad. bad)) (λ bad. bad)) }

  -- ---- the keyslot that the edit opens

  module _ (accepted : (f : CheckFault) → IsFault v payload f → ⊥) where
    past_requirements : Passed (IsEditFault1 v payload e r) 2
    past_requirements = let s = IsEditFault1 v payload e r in next s fault.Requirements refl (after_check s accepted) (λ bad. bad)

    -- the keyslots that it wants aren't there
    absent_refused : IsAbsent v e → Refusal1 v payload e r fault.NoSuchSlot
    absent_refused bad = first_of_row (IsEditFault1 v payload e r) fault.NoSuchSlot refl past_requirements bad

    -- they are, and it names the one to remove as the one to open by
    itself_refused : ((n : ℕ) → Wants e n → IsInUse v n) → NamesItself e → Refusal1 v payload e r fault.SameSlot
    itself_refused there bad =
        let s = IsEditFault1 v payload e r in
        first_of_row s fault.SameSlot refl (next s fault.NoSuchSlot refl past_requirements (λ absent. absent.unused (there absent.slot absent.wanted))) bad

    -- so it isn't judged further
    pub misnamed_refused : (f : EditFault) → IsMisnamed v e f → Refusal1 v payload e r f
    misnamed_refused fault.NoSuchSlot bad = absent_refused bad
    misnamed_refused fault.SameSlot bad = itself_refused bad.there bad.same
    misnamed_refused f bad = absurd bad

    past_wanted : AreAllThere v e → Passed (IsEditFault1 v payload e r) 4
    past_wanted all =
        let s = IsEditFault1 v payload e r in
        next s fault.SameSlot refl (next s fault.NoSuchSlot refl past_requirements (there_of v e all)) all.other

    past_opener : AreAllThere v e → ((f : EditFault) → IsUnopened1 v e f → ⊥) → Passed (IsEditFault1 v payload e r) 8
    past_opener all none = after_opening (IsEditFault1 v payload e r) (past_wanted all) opening_none
      where
        opening_none : (f : EditFault) → 4 ≤ edit_row f → edit_row f < 8 → IsEditFault1 v payload e r f → ⊥
        opening_none fault.Locked from to bad = none fault.Locked bad
        opening_none fault.KeyLength from to bad = none fault.KeyLength bad
        opening_none fault.WrongKey from to bad = none fault.WrongKey bad
        opening_none (fault.Slot s) from to bad = none (fault.Slot s) bad
        opening_none f from to bad = omega (arith, from, to)

    -- there is none
    pub none_to_open : OpensNone e → Passed (IsEditFault1 v payload e r) 8
    none_to_open none = past_opener (none_wanted v e none) (λ f bad. rw none.opens at bad)

    module _ (chosen : Chosen v luks1) (o : Opener) (opener : IsOpener v e o) (usable : IsUsable v o) where
      -- what is said where the edit's memory is allowed is said where none is, and so the other way round
      without : (f : EditFault) → IsUnopened1 v e f → IsUnopenedBy1 (without_memory (allowed_of o).older) v o f
      without f bad = opener_alike v chosen (allowed_by e) (without_memory (allowed_of o).older) o f opener.older (rw opener.asked at bad)

      within : (f : EditFault) → IsUnopenedBy1 (without_memory (allowed_of o).older) v o f → IsUnopened1 v e f
      within f bad = rw opener.asked (opener_alike v chosen (without_memory (allowed_of o).older) (allowed_by e) o f (sym opener.older) bad)

      -- it gives the key
      pub opener_passed : (key : List ℕ) → IsOpenedBy v o key → Passed (IsEditFault1 v payload e r) 8
      opener_passed key x = past_opener (opener.all usable) (λ f bad. x.past f (without f bad))

      -- the first of the faults by which it doesn't
      first : (f : EditFault) → edit_row f < 8 → IsEditFault1 v payload e r f → IsUnopenedBy1 (without_memory (allowed_of o).older) v o f → Refusal1 v payload e r f
      first f low here bad = first_of_opening (IsEditFault1 v payload e r) f (past_wanted (opener.all usable)) low here least
        where
          least : (g : EditFault) → 4 ≤ edit_row g → edit_row g < 8 → IsEditFault1 v payload e r g → NotAfter (edit_key f) (edit_key g)
          least fault.Locked from to other = opener_first (without_memory (allowed_of o).older) v o f fault.Locked bad (without fault.Locked other)
          least fault.KeyLength from to other = opener_first (without_memory (allowed_of o).older) v o f fault.KeyLength bad (without fault.KeyLength other)
          least fault.WrongKey from to other = opener_first (without_memory (allowed_of o).older) v o f fault.WrongKey bad (without fault.WrongKey other)
          least (fault.Slot s) from to other = opener_first (without_memory (allowed_of o).older) v o f (fault.Slot s) bad (without (fault.Slot s) other)
          least g from to other = absurd (omega (arith, from, to))

      pub unopened_ends : (w : List ℕ) (f : EditFault) → w ≡ v → IsUnopened v o f → EndsBy1 payload v e r f w
      unopened_ends w fault.Locked same bad = (first fault.Locked (omega arith) (within fault.Locked bad) bad, same)
      unopened_ends w fault.KeyLength same bad = (first fault.KeyLength (omega arith) (within fault.KeyLength bad) bad, same)
      unopened_ends w fault.WrongKey same bad = (first fault.WrongKey (omega arith) (within fault.WrongKey bad) bad, same)
      unopened_ends w (fault.Slot s) same bad = (first (fault.Slot s) (omega arith) (within (fault.Slot s) bad) bad, same)
      unopened_ends w fault.Device same bad = inl same
      unopened_ends w f same bad = absurd (opener_not (without_memory (allowed_of o).older) v o f refl bad)
