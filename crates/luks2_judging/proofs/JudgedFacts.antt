-- An edit judged row by row, up to `BadUuid`: the first fault, and what stands where none does.
use Rattle.std.proofs.Common.{◌≡◌, ◌↔◌, ℕ, ◌<◌, ◌≤◌, Bor, List, length, true, Option, Some, None, ap, refl, arith}
use Rattle.std.specs.Prelude.{IsSomeAnd}
use Rattle.std.proofs.lemmas.Bool.{both_ways}
use Rattle.serde_json.specs.Data.{Data as Value}
use Rattle.luks2_header.specs.Header2.{hdr_size, header_at}
use Rattle.luks_meta.specs.Requirements.{has_requirements}
use Rattle.luks_area.specs.First.{NotAfter}
use Rattle.luks_reading.specs.declared.check_fault.CheckFault.{CheckFault}
use Rattle.luks_reading.specs.declared.report.Data.{Data}
use Rattle.luks_reading.specs.Checked.{IsFault, WellFormed}
use Rattle.luks_reading.specs.Header.{json_at}
use Rattle.luks_edit.specs.declared.edit.Edit.{Edit}
use Rattle.luks_edit.specs.declared.deed.Deed.TheVariants as deed
use Rattle.luks_edit.specs.declared.deed.Place.TheVariants.{New, Opened}
use Rattle.luks_edit.specs.declared.deed.Removed.{Removed}
use Rattle.luks_edit.specs.declared.deed.Sealed.{Sealed}
use Rattle.luks_edit.specs.declared.edit.Opener.{Opener}
use Rattle.luks_edit.specs.declared.edit.Opener.TheVariants as opener
use Rattle.luks_edit.specs.declared.edit.Secret.{Secret}
use Rattle.luks_edit.specs.declared.edit_fault.EditFault.{EditFault}
use Rattle.luks_edit.specs.declared.edit_fault.EditFault.TheVariants as fault
use Rattle.luks_making.specs.Derivations.{asked_beyond, asked_few_turns}
use Rattle.luks_making.specs.declared.derivation.AskedDerivation.{AskedDerivation}
use Rattle.luks_edit.specs.Asked.{allowed_by, change_by, change_in, deed_of, HasFewIterations, IsBeyondMemory, allowed_for, NamesItself, opener_at, opener_in}
use Rattle.luks_edit.specs.EditFaults.{edit_key, edit_row}
use Rattle.luks_edit.specs.NewUuids.{HasBadUuid}
use Rattle.luks_edit.proofs.OpeningFacts.{unopened_first as keyslot_first}
use Rattle.luks_edit.proofs.RowFacts.{after_check, after_opening, first_of_check, first_of_opening, first_of_row, next, not_before, passed_from, past_token_number, Passed}
use Rattle.luks2_edit_laws.specs.declared.like.Like.{Like}
use Rattle.luks2_edit_laws.specs.declared.like.Like.TheVariants as made_like
use Rattle.luks2_edit_laws.specs.Likes.{IsLike}
use Rattle.luks2_edit_laws.specs.Metadata.{HasMetadata}
use Rattle.luks2_edit_laws.specs.Places.{HasNoNewArea}
use Rattle.luks2_edit_laws.specs.Refused.{HasNoFree, HasNoFreeToken, HasNoRoom, HasSaid, IsAbsent, IsBadLabel, IsEditFault2, IsLast, IsOnlyOne, IsTaken, IsTokenTaken, IsUnkeyed2, IsUnopened2, IsUnreadableToken, LacksToken, Refusal2}
use Rattle.luks2_edit_laws.proofs.LikeFacts.{for_like}
use Rattle.luks2_judging.specs.Accepted.{IsUnaccepted}
use Rattle.luks2_judging.specs.Judged.{IsNewNumber, IsNumberFault}
use Rattle.luks2_judging.specs.Judging.{IsRefusedEarly, sealing}
use Rattle.luks2_judging.specs.Opened.{IsUnlocked, IsUnopened}
use Rattle.luks2_judging.specs.Room.{IsAllowed, IsUnsealable}
use Rattle.luks2_judging.specs.Rows.{HasNoFaultBefore}
use Rattle.luks2_judging.proofs.ChosenFacts.{said, say}
use Rattle.luks2_judging.proofs.NumberFacts.{new_numbered, new_untaken, unnumbered_untaken}
use Rattle.luks2_judging.proofs.OpenerFacts.{meta_of, unopened_other}
use Rattle.luks2_judging.proofs.UnkeyedFacts.{unkeyed_first}

-- the set of the edit's faults has none of a row before the row `k`
abbrev pub IsPast : ℕ → List ℕ → Data → Edit → List ℕ → Type 0
IsPast k v payload e random = Passed (IsEditFault2 v payload e random) k

pub passed_of : (k : ℕ) (v : List ℕ) (payload : Data) (e : Edit) (random : List ℕ) → HasNoFaultBefore k v payload e random → IsPast k v payload e random
passed_of k v payload e random x = passed_from (IsEditFault2 v payload e random) k x.each

pub before_of : (k : ℕ) (v : List ℕ) (payload : Data) (e : Edit) (random : List ℕ) → IsPast k v payload e random → HasNoFaultBefore k v payload e random
before_of k v payload e random x = record { each = λ g bad. not_before (IsEditFault2 v payload e random) k g x bad }

-- ---- the check

pub unaccepted_first : (v : List ℕ) (payload : Data) (e : Edit) (random : List ℕ) (f : EditFault) → IsUnaccepted v payload f → Refusal2 v payload e random f
unaccepted_first v payload e random (fault.NotAccepted f) bad = first_of_check (IsEditFault2 v payload e random) f bad.0 bad.1
unaccepted_first v payload e random f bad = absurd bad

-- ---- what gives the key

-- the faults of these rows are those by which it doesn't
opening_fault : (v : List ℕ) (payload : Data) (e : Edit) (random : List ℕ) (f : EditFault) → 4 ≤ edit_row f → edit_row f < 8 → IsEditFault2 v payload e random f → IsUnopened2 v e f
opening_fault v payload e random fault.Locked from to bad = bad
opening_fault v payload e random fault.KeyLength from to bad = bad
opening_fault v payload e random fault.WrongKey from to bad = bad
opening_fault v payload e random (fault.Slot s) from to bad = bad
opening_fault v payload e random f from to bad = absurd (omega (arith, from, to))

module _ (v : List ℕ) (payload : Data) (e : Edit) (well : WellFormed v payload) where
  -- of two of them the first one stands where it stands
  pub opener_first : (f g : EditFault) (o : Option Opener) → opener_in (deed_of e) ≡ o → IsUnopened2 v e f → IsUnopened2 v e g → NotAfter (edit_key f) (edit_key g)
  opener_first f g None asked x y = absurd (rw asked at x)
  opener_first f g (Some (opener.Keyslot slot secret)) asked x y = keyslot_first (allowed_by e) v slot secret f g (rw asked at x) (rw asked at y)
  opener_first f g (Some (opener.Key key)) asked x y =
      let one : HasSaid v (λ o j. IsUnkeyed2 key.allowed.older j key.bytes.now f) = rw asked at x in
      let two : HasSaid v (λ o j. IsUnkeyed2 key.allowed.older j key.bytes.now g) = rw asked at y in
      unkeyed_first (json_at v one.place) one.value (meta_of v payload well one.place one.value one.metadata) key.allowed.older key.bytes.now f g one.is
      (said v one.place one.value one.metadata (λ o j. IsUnkeyed2 key.allowed.older j key.bytes.now g) two)

  -- it doesn't give it
  unopened_row : (f : EditFault) → edit_row f < 8 → ((random : List ℕ) → IsPast 4 v payload e random) → ((random : List ℕ) → IsEditFault2 v payload e random f) → IsUnopened2 v e f
      → (random : List ℕ) → Refusal2 v payload e random f
  unopened_row f low passed here bad random = first_of_opening (IsEditFault2 v payload e random) f (passed random) low (here random)
      (λ g from to other. opener_first f g (opener_in (deed_of e)) refl bad (opening_fault v payload e random g from to other))

  pub unopened_first : (f : EditFault) → ((random : List ℕ) → IsPast 4 v payload e random) → IsUnopened v e f → IsRefusedEarly v payload e f
  unopened_first fault.Locked passed bad = unopened_row fault.Locked (omega arith) passed (λ random. bad) bad
  unopened_first fault.KeyLength passed bad = unopened_row fault.KeyLength (omega arith) passed (λ random. bad) bad
  unopened_first fault.WrongKey passed bad = unopened_row fault.WrongKey (omega arith) passed (λ random. bad) bad
  unopened_first (fault.Slot s) passed bad = unopened_row (fault.Slot s) (omega arith) passed (λ random. bad) bad
  unopened_first fault.Memory passed bad = bad
  unopened_first fault.Device passed bad = tt
  unopened_first f passed bad = absurd (unopened_other v e f (opener_in (deed_of e)) refl refl bad)

-- it is past that
pub past_opened : (v : List ℕ) (payload : Data) (e : Edit) (random : List ℕ) → IsUnlocked v e → IsPast 4 v payload e random → IsPast 8 v payload e random
past_opened v payload e random x passed =
    after_opening (IsEditFault2 v payload e random) passed (λ f from to bad. x.none f (opening_fault v payload e random f from to bad))

-- an edit that needs no key is
pub none_opened : (v : List ℕ) (e : Edit) → opener_in (deed_of e) ≡ None → IsUnlocked v e
none_opened v e asked = record { none = λ f bad. rw asked at bad }

-- ---- the rows that the metadata tells, `j` being that of the copy at the place `o`

module _ (v : List ℕ) (payload : Data) (o : ℕ) (j : Value) (m : HasMetadata v o j) (e : Edit) (random : List ℕ) where
  -- NotAccepted
  pub past_check : ((f : CheckFault) → IsFault v payload f → ⊥) → IsPast 1 v payload e random
  past_check accepted = after_check (IsEditFault2 v payload e random) accepted

  -- Requirements
  pub required_first : IsPast 1 v payload e random → has_requirements j ≡ true → Refusal2 v payload e random fault.Requirements
  required_first passed bad = first_of_row (IsEditFault2 v payload e random) fault.Requirements refl passed (say v o j m (λ p i. has_requirements i ≡ true) bad)

  pub past_required : IsPast 1 v payload e random → (has_requirements j ≡ true → ⊥) → IsPast 2 v payload e random
  past_required passed not =
      next (IsEditFault2 v payload e random) fault.Requirements refl passed (λ bad. not (said v o j m (λ p i. has_requirements i ≡ true) bad))

  -- NoSuchSlot
  pub absent_first : IsPast 2 v payload e random → IsAbsent j e → Refusal2 v payload e random fault.NoSuchSlot
  absent_first passed bad = first_of_row (IsEditFault2 v payload e random) fault.NoSuchSlot refl passed (say v o j m (λ p i. IsAbsent i e) bad)

  pub past_absent : IsPast 2 v payload e random → (IsAbsent j e → ⊥) → IsPast 3 v payload e random
  past_absent passed not = next (IsEditFault2 v payload e random) fault.NoSuchSlot refl passed (λ bad. not (said v o j m (λ p i. IsAbsent i e) bad))

  -- SlotTaken, NoFreeSlot
  past_taken : IsPast 8 v payload e random → (IsTaken j e → ⊥) → IsPast 9 v payload e random
  past_taken passed not = next (IsEditFault2 v payload e random) fault.SlotTaken refl passed (λ bad. not (said v o j m (λ p i. IsTaken i e) bad))

  pub taken_first : IsPast 8 v payload e random → IsTaken j e → Refusal2 v payload e random fault.SlotTaken
  taken_first passed bad = first_of_row (IsEditFault2 v payload e random) fault.SlotTaken refl passed (say v o j m (λ p i. IsTaken i e) bad)

  pub unfree_first : IsPast 8 v payload e random → (IsTaken j e → ⊥) → HasNoFree j e → Refusal2 v payload e random fault.NoFreeSlot
  unfree_first passed untaken bad =
      first_of_row (IsEditFault2 v payload e random) fault.NoFreeSlot refl (past_taken passed untaken) (say v o j m (λ p i. HasNoFree i e) bad)

  pub past_number : IsPast 8 v payload e random → (IsTaken j e → ⊥) → (HasNoFree j e → ⊥) → IsPast 10 v payload e random
  past_number passed untaken free = next (IsEditFault2 v payload e random) fault.NoFreeSlot refl (past_taken passed untaken) (λ bad. free (said v o j m (λ p i. HasNoFree i e) bad))

  -- NoRoom
  pub roomless_first : IsPast 10 v payload e random → HasNoRoom (hdr_size (header_at v o)) (length v) payload j e → Refusal2 v payload e random fault.NoRoom
  roomless_first passed bad =
      first_of_row (IsEditFault2 v payload e random) fault.NoRoom refl passed (say v o j m (λ p i. HasNoRoom (hdr_size (header_at v p)) (length v) payload i e) bad)

  pub past_room : IsPast 10 v payload e random → (HasNoRoom (hdr_size (header_at v o)) (length v) payload j e → ⊥) → IsPast 11 v payload e random
  past_room passed not =
      next (IsEditFault2 v payload e random) fault.NoRoom refl passed (λ bad. not (said v o j m (λ p i. HasNoRoom (hdr_size (header_at v p)) (length v) payload i e) bad))

  -- LastSlot
  pub last_first : IsPast 11 v payload e random → IsLast j e → Refusal2 v payload e random fault.LastSlot
  last_first passed bad = first_of_row (IsEditFault2 v payload e random) fault.LastSlot refl passed (say v o j m (λ p i. IsLast i e) bad)

  pub past_last : IsPast 11 v payload e random → (IsLast j e → ⊥) → IsPast 12 v payload e random
  past_last passed not = next (IsEditFault2 v payload e random) fault.LastSlot refl passed (λ bad. not (said v o j m (λ p i. IsLast i e) bad))

-- ---- the rows that the edit tells

module _ (v : List ℕ) (payload : Data) (e : Edit) (random : List ℕ) where
  -- SameSlot
  pub same_first : IsPast 3 v payload e random → NamesItself e → Refusal2 v payload e random fault.SameSlot
  same_first passed bad = first_of_row (IsEditFault2 v payload e random) fault.SameSlot refl passed bad

  pub past_same : IsPast 3 v payload e random → (NamesItself e → ⊥) → IsPast 4 v payload e random
  past_same passed not = next (IsEditFault2 v payload e random) fault.SameSlot refl passed not

  -- Iterations
  pub few_first : IsPast 12 v payload e random → HasFewIterations e → Refusal2 v payload e random fault.Iterations
  few_first passed bad = first_of_row (IsEditFault2 v payload e random) fault.Iterations refl passed bad

  pub past_few : IsPast 12 v payload e random → (HasFewIterations e → ⊥) → IsPast 13 v payload e random
  past_few passed not = next (IsEditFault2 v payload e random) fault.Iterations refl passed not

  -- Argon2
  pub large_first : IsPast 13 v payload e random → IsBeyondMemory e → Refusal2 v payload e random fault.Argon2
  large_first passed bad = first_of_row (IsEditFault2 v payload e random) fault.Argon2 refl passed bad

  pub past_large : IsPast 13 v payload e random → (IsBeyondMemory e → ⊥) → IsPast 14 v payload e random
  past_large passed not = next (IsEditFault2 v payload e random) fault.Argon2 refl passed not

  -- BadLabel
  pub unlabelled_first : IsPast 14 v payload e random → IsBadLabel e → Refusal2 v payload e random fault.BadLabel
  unlabelled_first passed bad = first_of_row (IsEditFault2 v payload e random) fault.BadLabel refl passed bad

  pub past_label : IsPast 14 v payload e random → (IsBadLabel e → ⊥) → IsPast 15 v payload e random
  past_label passed not = next (IsEditFault2 v payload e random) fault.BadLabel refl passed not

  -- NoSuchToken, TokenTaken, NoFreeToken, UnreadableToken, BadUuid: of an edit that changes nothing of the metadata
  -- and sets no uuid none stands
  pub past_unamended : change_by e ≡ None → (HasBadUuid e → ⊥) → IsPast 15 v payload e random → IsPast 20 v payload e random
  past_unamended none good passed =
      past_token_number (IsEditFault2 v payload e random) passed (λ bad. rw none at bad.is) (λ bad. rw none at bad.is) (λ bad. rw none at bad.is) (λ bad. rw none at bad) good

-- a keyslot is sealed that is made like this one, and derives as is asked: the rows `NoRoom` to `BadLabel`
module _ (v : List ℕ) (payload : Data) (o : ℕ) (j : Value) (m : HasMetadata v o j) (e : Edit) (like : Like) (memory : ℕ) (asked : AskedDerivation)
    (rooms : HasNoRoom (hdr_size (header_at v o)) (length v) payload j e ↔ HasNoNewArea (hdr_size (header_at v o)) (length v) payload j like)
    (few : HasFewIterations e ↔ (asked_few_turns asked ≡ true)) (large : IsBeyondMemory e ↔ (asked_beyond memory asked ≡ true)) (kept : IsLast j e → ⊥) (good : IsBadLabel e → ⊥)
    (unamended : change_by e ≡ None) (own : HasBadUuid e → ⊥) (ten : (random : List ℕ) → IsPast 10 v payload e random) where
  past_area : (HasNoNewArea (hdr_size (header_at v o)) (length v) payload j like → ⊥) → (random : List ℕ) → IsPast 12 v payload e random
  past_area room random = past_last v payload o j m e random (past_room v payload o j m e random (ten random) (λ bad. room (rooms.0 bad))) kept

  pub unsealed_first : (f : EditFault) → IsUnsealable (hdr_size (header_at v o)) (length v) payload j like memory asked f → IsRefusedEarly v payload e f
  unsealed_first fault.NoRoom bad = λ random. roomless_first v payload o j m e random (ten random) (rooms.1 bad)
  unsealed_first fault.Iterations bad = λ random. few_first v payload e random (past_area bad.room random) (few.1 bad.turns)
  unsealed_first fault.Argon2 bad =
      λ random. large_first v payload e random (past_few v payload e random (past_area bad.room random) (λ quick. both_ways _ bad.turns (few.0 quick))) (large.1 bad.beyond)
  unsealed_first f bad = absurd bad

  pub sealed_past : (HasNoNewArea (hdr_size (header_at v o)) (length v) payload j like → ⊥) → IsAllowed memory asked → (random : List ℕ)
      → HasNoFaultBefore 20 v payload e random
  sealed_past room enough random = before_of 20 v payload e random
      (past_unamended v payload e random unamended own
      (past_label v payload e random
      (past_large v payload e random (past_few v payload e random (past_area room random) (λ bad. both_ways _ enough.turns (few.0 bad))) (λ bad. both_ways _ enough.within (large.0 bad))) good))

-- ---- an edit that seals a key

-- what is said of the sealed key is said of the edit
module _ (h total : ℕ) (payload : Data) (j : Value) (e : Edit) (s : Sealed) (is : deed_of e ≡ deed.Seal s) (like : Like) (is_like : IsLike j (opener_at s.place) like) where
  sealed_rooms : HasNoRoom h total payload j e ↔ HasNoNewArea h total payload j like
  sealed_rooms = (
    λ x. for_like j (opener_at s.place) (HasNoNewArea h total payload j) like is_like (rw is at x),
    λ x. rw is (record { like = like; is_like = is_like; has = x }),
  )

sealed_few : (e : Edit) (s : Sealed) → deed_of e ≡ deed.Seal s → HasFewIterations e ↔ (asked_few_turns s.derivation ≡ true)
sealed_few e s is = (λ x. rw is at x, λ x. rw is x)

sealed_large : (e : Edit) (s : Sealed) → deed_of e ≡ deed.Seal s → IsBeyondMemory e ↔ (asked_beyond (allowed_for (opener_at s.place) s.passphrase.now).memory s.derivation ≡ true)
sealed_large e s is = (λ x. rw is at x, λ x. rw is x)

-- in a new keyslot
module _ (v : List ℕ) (payload : Data) (o : ℕ) (j : Value) (m : HasMetadata v o j) (e : Edit) (opener_ : Opener) (to : Option ℕ) (new : Bor (List ℕ)) (asked : AskedDerivation)
    (is : deed_of e ≡ deed.Seal (sealing (New opener_ to) new asked)) (past : (random : List ℕ) → IsPast 8 v payload e random) where
  pub number_first : (f : EditFault) → IsNumberFault j to f → IsRefusedEarly v payload e f
  number_first fault.SlotTaken bad = λ random. taken_first v payload o j m e random (past random) (rw is bad)
  number_first fault.NoFreeSlot bad = λ random. unfree_first v payload o j m e random (past random) (λ taken. unnumbered_untaken j to bad (rw is at taken)) (rw is bad)
  number_first f bad = absurd bad

  module _ (made : ℕ) (number : IsNewNumber j to made) (like : Like) (is_like : IsLike j opener_ like) where
    ten : (random : List ℕ) → IsPast 10 v payload e random
    ten random = past_number v payload o j m e random (past random) (λ taken. new_untaken j to made number (rw is at taken)) (λ none. new_numbered j to made number (rw is at none))

    pub unadded_first : (f : EditFault) → IsUnsealable (hdr_size (header_at v o)) (length v) payload j like (allowed_for opener_ new.now).memory asked f → IsRefusedEarly v payload e f
    unadded_first f bad =
        unsealed_first v payload o j m e like (allowed_for opener_ new.now).memory asked (sealed_rooms (hdr_size (header_at v o)) (length v) payload j e _ is like is_like)
        (sealed_few e _ is) (sealed_large e _ is) (λ x. rw is at x) (λ x. rw is at x) (ap change_in is) (λ x. rw is at x) ten f bad

    pub added_past : (HasNoNewArea (hdr_size (header_at v o)) (length v) payload j like → ⊥) → IsAllowed (allowed_for opener_ new.now).memory asked → (random : List ℕ)
        → HasNoFaultBefore 20 v payload e random
    added_past =
        sealed_past v payload o j m e like (allowed_for opener_ new.now).memory asked (sealed_rooms (hdr_size (header_at v o)) (length v) payload j e _ is like is_like)
        (sealed_few e _ is) (sealed_large e _ is) (λ x. rw is at x) (λ x. rw is at x) (ap change_in is) (λ x. rw is at x) ten

-- in the keyslot that was opened
module _ (v : List ℕ) (payload : Data) (o : ℕ) (j : Value) (m : HasMetadata v o j) (e : Edit) (slot : ℕ) (old : Secret) (new : Bor (List ℕ)) (asked : AskedDerivation)
    (is : deed_of e ≡ deed.Seal (sealing (Opened slot old) new asked)) (past : (random : List ℕ) → IsPast 8 v payload e random) where
  change_ten : (random : List ℕ) → IsPast 10 v payload e random
  change_ten random = past_number v payload o j m e random (past random) (λ x. rw is at x) (λ x. rw is at x)

  pub unchanged_first : (f : EditFault) → IsUnsealable (hdr_size (header_at v o)) (length v) payload j (made_like.Keyslot slot) (allowed_for (opener.Keyslot slot old) new.now).memory asked f
      → IsRefusedEarly v payload e f
  unchanged_first f bad =
      unsealed_first v payload o j m e (made_like.Keyslot slot) (allowed_for (opener.Keyslot slot old) new.now).memory asked
      (sealed_rooms (hdr_size (header_at v o)) (length v) payload j e _ is (made_like.Keyslot slot) refl) (sealed_few e _ is) (sealed_large e _ is) (λ x. rw is at x) (λ x. rw is at x) (ap change_in is) (λ x. rw is at x) change_ten f bad

  pub changed_past : (HasNoNewArea (hdr_size (header_at v o)) (length v) payload j (made_like.Keyslot slot) → ⊥) → IsAllowed (allowed_for (opener.Keyslot slot old) new.now).memory asked
      → (random : List ℕ) → HasNoFaultBefore 20 v payload e random
  changed_past =
      sealed_past v payload o j m e (made_like.Keyslot slot) (allowed_for (opener.Keyslot slot old) new.now).memory asked
      (sealed_rooms (hdr_size (header_at v o)) (length v) payload j e _ is (made_like.Keyslot slot) refl) (sealed_few e _ is) (sealed_large e _ is) (λ x. rw is at x) (λ x. rw is at x) (ap change_in is) (λ x. rw is at x) change_ten

-- ---- an edit that removes a keyslot

module _ (v : List ℕ) (payload : Data) (o : ℕ) (j : Value) (m : HasMetadata v o j) (e : Edit) (r : Removed) (is : deed_of e ≡ deed.Remove r)
    (past : (random : List ℕ) → IsPast 8 v payload e random) where
  eleven : (random : List ℕ) → IsPast 11 v payload e random
  eleven random = past_room v payload o j m e random (past_number v payload o j m e random (past random) (λ x. rw is at x) (λ x. rw is at x)) (λ x. rw is at x)

  pub only_first : IsOnlyOne j r.slot → IsRefusedEarly v payload e fault.LastSlot
  only_first bad = λ random. last_first v payload o j m e random (eleven random) (rw is bad)

  pub removed_past : (IsOnlyOne j r.slot → ⊥) → (random : List ℕ) → HasNoFaultBefore 20 v payload e random
  removed_past other random = before_of 20 v payload e random
      (past_unamended v payload e random (ap change_in is) (λ x. rw is at x)
      (past_label v payload e random
      (past_large v payload e random
      (past_few v payload e random (past_last v payload o j m e random (eleven random) (λ x. other (rw is at x))) (λ x. rw is at x)) (λ x. rw is at x)) (λ x. rw is at x)))

-- an edit that names no keyslot
module _ (v : List ℕ) (payload : Data) (o : ℕ) (j : Value) (m : HasMetadata v o j) (e : Edit) (untaken : IsTaken j e → ⊥) (free : HasNoFree j e → ⊥)
    (room : HasNoRoom (hdr_size (header_at v o)) (length v) payload j e → ⊥) (kept : IsLast j e → ⊥) (enough : HasFewIterations e → ⊥) (within : IsBeyondMemory e → ⊥)
    (past : (random : List ℕ) → IsPast 8 v payload e random) where
  fourteen : (random : List ℕ) → IsPast 14 v payload e random
  fourteen random = past_large v payload e random (past_few v payload e random (past_last v payload o j m e random (past_room v payload o j m e random
      (past_number v payload o j m e random (past random) untaken free) room) kept) enough) within

  pub label_first : IsBadLabel e → IsRefusedEarly v payload e fault.BadLabel
  label_first bad = λ random. unlabelled_first v payload e random (fourteen random) bad

  module _ (good : IsBadLabel e → ⊥) where
    fifteen : (random : List ℕ) → IsPast 15 v payload e random
    fifteen random = past_label v payload e random (fourteen random) good

    pub lacking_first : IsSomeAnd (change_by e) (LacksToken j) → IsRefusedEarly v payload e fault.NoSuchToken
    lacking_first bad = λ random. first_of_row (IsEditFault2 v payload e random) fault.NoSuchToken refl (fifteen random) (say v o j m (λ p i. IsSomeAnd (change_by e) (LacksToken i)) bad)

    module _ (there : IsSomeAnd (change_by e) (LacksToken j) → ⊥) where
      past_lacking : (random : List ℕ) → IsPast 16 v payload e random
      past_lacking random =
          next (IsEditFault2 v payload e random) fault.NoSuchToken refl (fifteen random) (λ bad. there (said v o j m (λ p i. IsSomeAnd (change_by e) (LacksToken i)) bad))

      pub token_taken_first : IsSomeAnd (change_by e) (IsTokenTaken j) → IsRefusedEarly v payload e fault.TokenTaken
      token_taken_first bad = λ random.
          first_of_row (IsEditFault2 v payload e random) fault.TokenTaken refl (past_lacking random) (say v o j m (λ p i. IsSomeAnd (change_by e) (IsTokenTaken i)) bad)

      module _ (fresh : IsSomeAnd (change_by e) (IsTokenTaken j) → ⊥) where
        past_taken_token : (random : List ℕ) → IsPast 17 v payload e random
        past_taken_token random =
            next (IsEditFault2 v payload e random) fault.TokenTaken refl (past_lacking random) (λ bad. fresh (said v o j m (λ p i. IsSomeAnd (change_by e) (IsTokenTaken i)) bad))

        pub unfree_token_first : IsSomeAnd (change_by e) (HasNoFreeToken j) → IsRefusedEarly v payload e fault.NoFreeToken
        unfree_token_first bad = λ random.
            first_of_row (IsEditFault2 v payload e random) fault.NoFreeToken refl (past_taken_token random) (say v o j m (λ p i. IsSomeAnd (change_by e) (HasNoFreeToken i)) bad)

        module _ (numbered : IsSomeAnd (change_by e) (HasNoFreeToken j) → ⊥) where
          past_token : (random : List ℕ) → IsPast 18 v payload e random
          past_token random =
              next (IsEditFault2 v payload e random) fault.NoFreeToken refl (past_taken_token random)
              (λ bad. numbered (said v o j m (λ p i. IsSomeAnd (change_by e) (HasNoFreeToken i)) bad))

          pub unread_token_first : IsSomeAnd (change_by e) IsUnreadableToken → IsRefusedEarly v payload e fault.UnreadableToken
          unread_token_first bad = λ random. first_of_row (IsEditFault2 v payload e random) fault.UnreadableToken refl (past_token random) bad

          module _ (readable : IsSomeAnd (change_by e) IsUnreadableToken → ⊥) where
            past_unread : (random : List ℕ) → IsPast 19 v payload e random
            past_unread random = next (IsEditFault2 v payload e random) fault.UnreadableToken refl (past_token random) readable

            pub bad_uuid_first : HasBadUuid e → IsRefusedEarly v payload e fault.BadUuid
            bad_uuid_first bad = λ random. first_of_row (IsEditFault2 v payload e random) fault.BadUuid refl (past_unread random) bad

            pub amended_past : (HasBadUuid e → ⊥) → (random : List ℕ) → HasNoFaultBefore 20 v payload e random
            amended_past own random = before_of 20 v payload e random (next (IsEditFault2 v payload e random) fault.BadUuid refl (past_unread random) own)

-- ---- an edit that erases all keyslots

pub erased_past : (v : List ℕ) (payload : Data) (o : ℕ) (j : Value) → HasMetadata v o j → (e : Edit) → deed_of e ≡ deed.Erase → ((random : List ℕ) → IsPast 8 v payload e random)
    → (random : List ℕ) → HasNoFaultBefore 20 v payload e random
erased_past v payload o j m e is past random =
    before_of 20 v payload e random
    (past_unamended v payload e random (ap change_in is) (λ x. rw is at x)
    (past_label v payload e random
    (fourteen v payload o j m e (λ x. rw is at x) (λ x. rw is at x) (λ x. rw is at x) (λ x. rw is at x) (λ x. rw is at x) (λ x. rw is at x) past random) (λ x. rw is at x)))
