-- How many random bytes an edit takes, and the first of the faults that are seen without a key.
use Rattle.std.proofs.Common.{Bor, Option, None, refl, ◌≡◌, ℕ, ◌+◌, ◌<◌, ◌≤◌, List, [], ap, arith, subst, sym}
use Rattle.std.specs.Prelude.{IsSomeAnd}
use Rattle.serde_json.specs.Data.{Data as Value}
use Rattle.luks_area.specs.First.{IsLeast}
use Rattle.luks_area.specs.declared.areas.Entry.{Entry}
use Rattle.luks_meta.specs.Content.{content}
use Rattle.luks_reading.specs.declared.header.ChosenCopy.{ChosenCopy}
use Rattle.luks_reading.specs.declared.report.Data.{Data}
use Rattle.luks_making.specs.declared.derivation.AskedDerivation.{AskedDerivation}
use Rattle.luks_edit.specs.declared.edit.Edit.{Edit}
use Rattle.luks_edit.specs.declared.deed.Deed.{Deed}
use Rattle.luks_edit.specs.declared.deed.Deed.TheVariants as deed
use Rattle.luks_edit.specs.declared.deed.Place.TheVariants.{New, Opened}
use Rattle.luks_edit.specs.declared.deed.Removed.{Removed}
use Rattle.luks_edit.specs.declared.deed.Rewritten.{Rewritten}
use Rattle.luks_edit.specs.declared.edit.Opener.{Opener}
use Rattle.luks_edit.specs.declared.edit.Opener.TheVariants as opener
use Rattle.luks_edit.specs.declared.edit.Secret.{Secret}
use Rattle.luks_edit.specs.declared.edit_fault.EditFault.{EditFault}
use Rattle.luks_edit.specs.declared.edit_fault.EditFault.TheVariants as fault
use Rattle.luks_edit.specs.Asked.{allowed_by, deed_of, MatchOpener, opener_at, opener_in, sealed_in, uuid_by, uuid_in}
use Rattle.luks_edit.specs.EditFaults.{edit_key, edit_row}
use Rattle.luks_edit.specs.NewUuids.{uuid_need}
use Rattle.luks_edit.proofs.RowFacts.{after_opening, first_of_opening, first_of_row, next, none_at_all, passed_from, past_tokens, Passed}
use Rattle.luks_slot.specs.declared.allowed.Allowed.{Allowed}
use Rattle.luks_reading.specs.Checked.{WellFormed}
use Rattle.luks_reading.specs.Header.{json_at}
use Rattle.luks2_edit_laws.specs.declared.like.Like.{Like}
use Rattle.luks2_edit_laws.specs.declared.like.Like.TheVariants as made_like
use Rattle.luks2_edit_laws.specs.Likes.{IsLike}
use Rattle.luks2_edit_laws.specs.Metadata.{HasMetadata}
use Rattle.luks2_edit_laws.specs.Refused.{HasNoFree, HasSaid, IsEditFault2, IsTaken, IsUnkeyed2, IsUnopened2, IsUnopenedBy2, Need2, NeedsLike, Refusal2}
use Rattle.luks2_judging.specs.Judged.{IsNewNumber, IsNumberFault}
use Rattle.luks2_judging.specs.Judging.{IsJudgedTo, sealing}
use Rattle.luks2_judging.specs.Keys.{IsAcceptedLike}
use Rattle.luks2_judging.specs.Needed.{IsNeedFault2, IsUnkeyedNew, NeedsRandom}
use Rattle.luks2_judging.specs.Rows.{HasNoFaultBefore}
use Rattle.luks2_judging.proofs.ChosenFacts.{metadata_of, said, say}
use Rattle.luks2_judging.proofs.JudgedFacts.{opener_first}
use Rattle.luks2_judging.proofs.NumberFacts.{new_numbered, new_untaken, unnumbered_untaken}
use Rattle.luks2_judging.proofs.OpenerFacts.{meta_of, unopened_other}
use Rattle.luks2_judging.proofs.UnkeyedFacts.{unkeyed_past}

-- ---- what a new keyslot's key is told by

-- the volume key that doesn't give itself doesn't open
unkeyed_opener : (allowed : Allowed) (v : List ℕ) (o : Opener) (f : EditFault)
    → MatchOpener o (λ slot secret. ⊥) (λ key. HasSaid v (λ p j. IsUnkeyed2 key.allowed.older j key.bytes.now f)) → IsUnopenedBy2 allowed v o f
unkeyed_opener allowed v (opener.Keyslot slot secret) f bad = absurd bad
unkeyed_opener allowed v (opener.Key key) f bad = bad

unkeyed_by : (v : List ℕ) (e : Edit) (d : Deed) → deed_of e ≡ d → (f : EditFault) → IsUnkeyedNew v e f → IsUnopened2 v e f
unkeyed_by v e (deed.Seal s) is f bad =
    subst (λ x. IsSomeAnd x (λ o. IsUnopenedBy2 (allowed_by e) v o f)) (sym (ap opener_in is)) (unkeyed_opener (allowed_by e) v (opener_at s.place) f (rw is at bad))
unkeyed_by v e (deed.Remove r) is f bad = absurd (rw is at bad)
unkeyed_by v e (deed.Rewrite r) is f bad = absurd (rw is at bad)
unkeyed_by v e deed.Erase is f bad = absurd (rw is at bad)

unkeyed_unopened : (v : List ℕ) (e : Edit) (f : EditFault) → IsUnkeyedNew v e f → IsUnopened2 v e f
unkeyed_unopened v e f bad = unkeyed_by v e (deed_of e) refl f bad

-- a volume key is never locked
locked_opener : (v : List ℕ) (o : Opener) → MatchOpener o (λ slot secret. ⊥) (λ key. HasSaid v (λ p j. IsUnkeyed2 key.allowed.older j key.bytes.now fault.Locked)) → ⊥
locked_opener v (opener.Keyslot slot secret) bad = bad
locked_opener v (opener.Key key) bad = bad.is

unkeyed_locked : (v : List ℕ) (e : Edit) (d : Deed) → deed_of e ≡ d → IsUnkeyedNew v e fault.Locked → ⊥
unkeyed_locked v e (deed.Seal s) is bad = locked_opener v (opener_at s.place) (rw is at bad)
unkeyed_locked v e (deed.Remove r) is bad = rw is at bad
unkeyed_locked v e (deed.Rewrite r) is bad = rw is at bad
unkeyed_locked v e deed.Erase is bad = rw is at bad

-- ---- the rows that are judged without opening a keyslot are those of the edit

module _ (v : List ℕ) (payload : Data) (e : Edit) where
  -- each of the faults that are seen so is one of the edit
  is_edits : (f : EditFault) → IsNeedFault2 v payload e f → IsEditFault2 v payload e [] f
  is_edits (fault.NotAccepted f) bad = bad
  is_edits fault.Requirements bad = bad
  is_edits fault.NoSuchSlot bad = bad
  is_edits fault.SameSlot bad = bad
  is_edits fault.KeyLength bad = unkeyed_unopened v e fault.KeyLength bad
  is_edits fault.WrongKey bad = unkeyed_unopened v e fault.WrongKey bad
  is_edits (fault.Slot f) bad = unkeyed_unopened v e (fault.Slot f) bad
  is_edits fault.SlotTaken bad = bad
  is_edits fault.NoFreeSlot bad = bad
  is_edits f bad = absurd bad

  -- each of the edit's before the row `Locked` is seen so
  is_seen : (f : EditFault) → edit_row f < 4 → IsEditFault2 v payload e [] f → IsNeedFault2 v payload e f
  is_seen (fault.NotAccepted f) low bad = bad
  is_seen fault.Requirements low bad = bad
  is_seen fault.NoSuchSlot low bad = bad
  is_seen fault.SameSlot low bad = bad
  is_seen f low bad = absurd (omega (arith, low))

  -- so the first of these rows is the first of both
  pub need_first : (f : EditFault) → edit_row f < 4 → Refusal2 v payload e [] f → IsLeast edit_key (IsNeedFault2 v payload e) f
  need_first f low first = (is_seen f low first.0, λ g bad. first.1 g (is_edits g bad))

  pub need_passed : HasNoFaultBefore 4 v payload e [] → Passed (IsNeedFault2 v payload e) 4
  need_passed x = passed_from (IsNeedFault2 v payload e) 4 (λ g bad. x.each g (is_edits g bad))

  -- of the rows of the key those are seen by which the volume key doesn't give itself
  need_opening : (f : EditFault) → 4 ≤ edit_row f → edit_row f < 8 → IsNeedFault2 v payload e f → IsUnkeyedNew v e f
  need_opening fault.Locked from to bad = absurd bad
  need_opening fault.KeyLength from to bad = bad
  need_opening fault.WrongKey from to bad = bad
  need_opening (fault.Slot s) from to bad = bad
  need_opening f from to bad = absurd (omega (arith, from, to))

  -- none does
  pub need_keyed : Passed (IsNeedFault2 v payload e) 4 → ((f : EditFault) → IsUnkeyedNew v e f → ⊥) → Passed (IsNeedFault2 v payload e) 8
  need_keyed four keyed = after_opening (IsNeedFault2 v payload e) four (λ f from to bad. keyed f (need_opening f from to bad))

  -- one does
  unkeyed_row : WellFormed v payload → Passed (IsNeedFault2 v payload e) 4 → (f : EditFault) → edit_row f < 8 → IsNeedFault2 v payload e f → IsUnkeyedNew v e f
      → IsLeast edit_key (IsNeedFault2 v payload e) f
  unkeyed_row well four f low here bad = first_of_opening (IsNeedFault2 v payload e) f four low here
      (λ g from to other. opener_first v payload e well f g (opener_in (deed_of e)) refl (unkeyed_unopened v e f bad) (unkeyed_unopened v e g (need_opening g from to other)))

  pub need_unkeyed : WellFormed v payload → Passed (IsNeedFault2 v payload e) 4 → (f : EditFault) → IsUnkeyedNew v e f → IsLeast edit_key (IsNeedFault2 v payload e) f
  need_unkeyed well four fault.KeyLength bad = unkeyed_row well four fault.KeyLength (omega arith) bad bad
  need_unkeyed well four fault.WrongKey bad = unkeyed_row well four fault.WrongKey (omega arith) bad bad
  need_unkeyed well four (fault.Slot s) bad = unkeyed_row well four (fault.Slot s) (omega arith) bad bad
  need_unkeyed well four fault.Locked bad = absurd (unkeyed_locked v e (deed_of e) refl bad)
  need_unkeyed well four f bad = absurd (unopened_other v e f (opener_in (deed_of e)) refl refl (unkeyed_unopened v e f bad))

-- ---- the rows behind them, `j` being the metadata of the copy at the place `o`

module _ (v : List ℕ) (payload : Data) (o : ℕ) (j : Value) (m : HasMetadata v o j) (e : Edit) (eight : Passed (IsNeedFault2 v payload e) 8) where
  past_taken : (IsTaken j e → ⊥) → Passed (IsNeedFault2 v payload e) 9
  past_taken untaken = next (IsNeedFault2 v payload e) fault.SlotTaken refl eight (λ bad. untaken (said v o j m (λ p i. IsTaken i e) bad))

  pub need_taken : IsTaken j e → IsLeast edit_key (IsNeedFault2 v payload e) fault.SlotTaken
  need_taken bad = first_of_row (IsNeedFault2 v payload e) fault.SlotTaken refl eight (say v o j m (λ p i. IsTaken i e) bad)

  pub need_unfree : (IsTaken j e → ⊥) → HasNoFree j e → IsLeast edit_key (IsNeedFault2 v payload e) fault.NoFreeSlot
  need_unfree untaken bad = first_of_row (IsNeedFault2 v payload e) fault.NoFreeSlot refl (past_taken untaken) (say v o j m (λ p i. HasNoFree i e) bad)

  -- none of the faults stands
  past_all : (untaken : IsTaken j e → ⊥) → (HasNoFree j e → ⊥) → Passed (IsNeedFault2 v payload e) 26
  past_all untaken free =
      let s = IsNeedFault2 v payload e in
      let p10 : Passed s 10 = next s fault.NoFreeSlot refl (past_taken untaken) (λ bad. free (said v o j m (λ p i. HasNoFree i e) bad)) in
      let p11 : Passed s 11 = next s fault.NoRoom refl p10 (λ bad. bad) in
      let p12 : Passed s 12 = next s fault.LastSlot refl p11 (λ bad. bad) in
      let p13 : Passed s 13 = next s fault.Iterations refl p12 (λ bad. bad) in
      let p14 : Passed s 14 = next s fault.Argon2 refl p13 (λ bad. bad) in
      let p15 : Passed s 15 = next s fault.BadLabel refl p14 (λ bad. bad) in
      let p21 : Passed s 21 = past_tokens s p15 (λ bad. bad) (λ bad. bad) (λ bad. bad) (λ bad. bad) (λ bad. bad) (λ m bad. bad) in
      let p22 : Passed s 22 = next s fault.SeqExhausted refl p21 (λ bad. bad) in
      let p23 : Passed s 23 = next s fault.MetadataFull refl p22 (λ bad. bad) in
      let p24 : Passed s 24 = next s fault.RandomLength refl p23 (λ bad. bad) in
      let p25 : Passed s 25 = next s fault.Memory refl p24 (λ bad. bad) in
      next s fault.Device refl p25 (λ bad. bad)

  pub need_told : (k : ℕ) → (IsTaken j e → ⊥) → (HasNoFree j e → ⊥) → Need2 j e k → NeedsRandom v payload e k
  need_told k untaken free need = record {
    unrefused = none_at_all (IsNeedFault2 v payload e) (past_all untaken free);
    need = say v o j m (λ p i. Need2 i e k) need;
  }

-- ---- an edit that seals a key

-- in a new keyslot
module _ (v : List ℕ) (payload : Data) (o : ℕ) (j : Value) (m : HasMetadata v o j) (e : Edit) (opener_ : Opener) (to : Option ℕ) (new : Bor (List ℕ)) (asked : AskedDerivation)
    (is : deed_of e ≡ deed.Seal (sealing (New opener_ to) new asked)) (four : Passed (IsNeedFault2 v payload e) 4) where
  -- the volume key doesn't give itself
  pub new_unkeyed : WellFormed v payload → (f : EditFault) → MatchOpener opener_ (λ slot secret. ⊥) (λ key. IsUnkeyed2 key.allowed.older j key.bytes.now f)
      → IsLeast edit_key (IsNeedFault2 v payload e) f
  new_unkeyed well f bad = need_unkeyed v payload e well four f (rw is (say_by opener_ bad))
    where
      say_by : (x : Opener) → MatchOpener x (λ slot secret. ⊥) (λ key. IsUnkeyed2 key.allowed.older j key.bytes.now f)
          → MatchOpener x (λ slot secret. ⊥) (λ key. HasSaid v (λ p i. IsUnkeyed2 key.allowed.older i key.bytes.now f))
      say_by (opener.Keyslot slot secret) y = y
      say_by (opener.Key key) y = say v o j m (λ p i. IsUnkeyed2 key.allowed.older i key.bytes.now f) y

  -- it does, or none has to
  pub new_keyed : WellFormed v payload → (like : Like) → IsLike j opener_ like → IsAcceptedLike j opener_ like → (f : EditFault) → IsUnkeyedNew v e f → ⊥
  new_keyed well like is_like accepted f bad = keyed_by opener_ is_like accepted (rw is at bad)
    where
      keyed_by : (x : Opener) → IsLike j x like → IsAcceptedLike j x like → MatchOpener x (λ slot secret. ⊥) (λ key. HasSaid v (λ p i. IsUnkeyed2 key.allowed.older i key.bytes.now f)) → ⊥
      keyed_by (opener.Keyslot slot secret) y fine z = z
      keyed_by (opener.Key key) y fine z =
          unkeyed_past (json_at v o) j (meta_of v payload well o j m) key.allowed.older key.bytes.now like y fine f
          (said v o j m (λ p i. IsUnkeyed2 key.allowed.older i key.bytes.now f) z)

  module _ (keyed : (f : EditFault) → IsUnkeyedNew v e f → ⊥) where
    eight_here : Passed (IsNeedFault2 v payload e) 8
    eight_here = need_keyed v payload e four keyed

    pub need_unnumbered : (f : EditFault) → IsNumberFault j to f → IsLeast edit_key (IsNeedFault2 v payload e) f
    need_unnumbered fault.SlotTaken bad = need_taken v payload o j m e eight_here (rw is bad)
    need_unnumbered fault.NoFreeSlot bad = need_unfree v payload o j m e eight_here (λ taken. unnumbered_untaken j to bad (rw is at taken)) (rw is bad)
    need_unnumbered f bad = absurd bad

    pub need_added : (made : ℕ) → IsNewNumber j to made → (like : Like) → IsLike j opener_ like → (k : ℕ) → NeedsLike j k like → NeedsRandom v payload e k
    need_added made number like is_like k needs =
        need_told v payload o j m e eight_here k (λ taken. new_untaken j to made number (rw is at taken)) (λ none. new_numbered j to made number (rw is at none))
        (rw is (record { like = like; is_like = is_like; has = needs }))

-- in the keyslot that was opened
pub need_again : (v : List ℕ) (payload : Data) (o : ℕ) (j : Value) (m : HasMetadata v o j) (e : Edit) (slot : ℕ) (old : Secret) (new : Bor (List ℕ)) (asked : AskedDerivation)
    → deed_of e ≡ deed.Seal (sealing (Opened slot old) new asked) → Passed (IsNeedFault2 v payload e) 4 → (k : ℕ) → NeedsLike j k (made_like.Keyslot slot) → NeedsRandom v payload e k
need_again v payload o j m e slot old new asked is four k needs =
    need_told v payload o j m e (need_keyed v payload e four (λ f bad. rw is at bad)) k (λ x. rw is at x) (λ x. rw is at x)
    (rw is (record { like = made_like.Keyslot slot; is_like = refl; has = needs }))

-- ---- by the copy that was read

module _ {v : List ℕ} {payload : Data} {copy : ChosenCopy} {areas : List Entry} {e : Edit} (judged : IsJudgedTo 4 copy areas v payload e []) where
  pub four_here : Passed (IsNeedFault2 v payload e) 4
  four_here = need_passed v payload e judged.passed

  -- one that seals no key takes the salts of the copies, and what its uuid takes
  idle_need : sealed_in (deed_of e) ≡ None → NeedsRandom v payload e (128 + uuid_need (uuid_by e))
  idle_need none =
      need_told v payload copy.header.hdr_offset (content copy.meta) (metadata_of v copy judged.chosen) e
      (need_keyed v payload e four_here (λ f bad. rw none at bad)) (128 + uuid_need (uuid_by e)) (λ x. rw none at x) (λ x. rw none at x) (rw none refl)

  -- one that removes a keyslot sets no uuid
  pub removed_need : {d : Removed} → deed_of e ≡ deed.Remove d → NeedsRandom v payload e 128
  removed_need is = subst (λ d. NeedsRandom v payload e (128 + uuid_need (uuid_in d))) is (idle_need (ap sealed_in is))

  -- nor does one that erases all keyslots
  pub erased_need : deed_of e ≡ deed.Erase → NeedsRandom v payload e 128
  erased_need is = subst (λ d. NeedsRandom v payload e (128 + uuid_need (uuid_in d))) is (idle_need (ap sealed_in is))

  -- one that writes the header anew may
  pub rewritten_need : {r : Rewritten} → deed_of e ≡ deed.Rewrite r → NeedsRandom v payload e (128 + uuid_need r.uuid)
  rewritten_need is = subst (λ d. NeedsRandom v payload e (128 + uuid_need (uuid_in d))) is (idle_need (ap sealed_in is))
