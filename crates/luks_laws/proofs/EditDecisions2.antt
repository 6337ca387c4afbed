-- Each fault of an edit of an accepted volume stands by LUKS2's rules, or it doesn't.
use Rattle.std.proofs.Common.{◌≡◌, ◌⊎◌, ℕ, Bool, ◌+◌, ◌-◌, ◌^◌, List, length, subst, inl, inr}
use Rattle.std.proofs.lemmas.Bool.{cases_eq}
use Rattle.base64.specs.GeneralPurpose.{IsBytes}
use Rattle.serde_json.specs.Data.{Data as Value}
use Rattle.serde_json.specs.Written.{compact_text}
use Rattle.luks_area.specs.declared.area.Area.{Area}
use Rattle.luks2_header.specs.Header2.{hdr_size, header_at, seqid}
use Rattle.luks_making.specs.Naming.{IsDigestOf}
use Rattle.luks_rules.specs.declared.fault.MetaFault.{MetaFault}
use Rattle.luks_rules.specs.Faults.{Among}
use Rattle.luks_rules.specs.MetaFault.{meta_key}
use Rattle.luks_meta.specs.Requirements.{has_requirements}
use Rattle.luks_slot.specs.declared.allowed.Allowed.{Allowed}
use Rattle.luks_reading.specs.declared.check_fault.CheckFault.{CheckFault}
use Rattle.luks_reading.specs.declared.report.Data.{Data}
use Rattle.luks_reading.specs.Answer.{AnswerWithin, Opened}
use Rattle.luks_reading.specs.Checked.{IsFault}
use Rattle.luks_edit.specs.Asked.{allowed_by, change_by, deed_of, opener_in}
use Rattle.luks_edit.specs.declared.edit.Edit.{Edit}
use Rattle.luks_edit.specs.declared.edit.Opener.{Opener}
use Rattle.luks_edit.specs.declared.edit.Opener.TheVariants.{Keyslot, Key}
use Rattle.luks_edit.specs.declared.edit_fault.EditFault.{EditFault}
use Rattle.luks_edit.specs.declared.edit_fault.EditFault.TheVariants as edit
use Rattle.luks2_edit_laws.specs.declared.like.Like.{Like}
use Rattle.luks2_edit_laws.specs.Edited.{IsEdited}
use Rattle.luks2_edit_laws.specs.Metadata.{HasMetadata}
use Rattle.luks2_edit_laws.specs.Places.{HasNoNewArea, IsNewArea}
use Rattle.luks2_edit_laws.specs.Refused.{HasSaid, IsEditFault2, IsUnkeyed2, IsUnopened2, IsUnopenedBy2}
use Rattle.luks2_judging.specs.Keys.{IsThereLike}
use Rattle.luks_laws.proofs.AskedDecisions.{bad_uuid_decided, beyond_decided, few_decided, itself_decided, keyslot_decided}
use Rattle.luks_laws.proofs.ChangeDecisions2.{known_token, some_bad_decided, some_lacks_decided, some_no_free_decided, some_taken_decided, some_unread_decided}
use Rattle.luks_laws.proofs.DecidedFacts.{Decided, true_decided}
use Rattle.luks_laws.proofs.HeaderDecisions2.{meta_candidates}
use Rattle.luks_laws.proofs.FullDecisions2.{full_decided}
use Rattle.luks_laws.proofs.RowDecisions2.{absent_decided, bad_label_decided, last_decided, miscounted_decided, no_free_decided, no_room_decided, taken_decided}
use Rattle.luks_laws.proofs.SearchFacts.{some_decided}

-- ---- the metadata that counts

-- the metadata that counts, and what is known of it
pub record Counting (v : List ℕ) (payload : Data) : Type 0 where
  pub place : ℕ
  pub value : Value
  pub there : HasMetadata v place value
  pub only : (p : ℕ) (i : Value) → HasMetadata v p i → (p ≡ place) × (i ≡ value)
  pub digest : (n m k : ℕ) → IsDigestOf value n m → IsDigestOf value n k → m ≡ k
  pub unkeyed : (older : Bool) (key : List ℕ) (f : EditFault) → Decided (IsUnkeyed2 older value key f)
  pub area : (l : Like) → IsThereLike value l → ((a : Area) × IsNewArea (hdr_size (header_at v place)) (length v) payload value l a)
      ⊎ HasNoNewArea (hdr_size (header_at v place)) (length v) payload value l
  pub alike : (e : Edit) (a b : List ℕ) (x y : Value) → IsBytes a → IsBytes b → length a ≡ length b
      → IsEdited (hdr_size (header_at v place)) (length v) payload e a value x → IsEdited (hdr_size (header_at v place)) (length v) payload e b value y
      → length (compact_text x) ≡ length (compact_text y)

-- a fact that is decided of that metadata is decided of the volume
said_decided : (v : List ℕ) (payload : Data) (c : Counting v payload) (says : ℕ → Value → Type 0) → Decided (says c.place c.value) → Decided (HasSaid v says)
said_decided v payload c says (inl is) = inl (record { place = c.place; value = c.value; metadata = c.there; is = is })
said_decided v payload c says (inr isnt) = inr (λ x. let same = c.only x.place x.value x.metadata in
    isnt (subst (says c.place) same.1 (subst (λ p. says p x.value) same.0 x.is)))

-- ---- what gives the key

module _ (v : List ℕ) (answer : (m : Allowed) (n : ℕ) (p : List ℕ) → (a : Opened) × AnswerWithin m v n p a)
    (unkeyed : (older : Bool) (key : List ℕ) (f : EditFault) → Decided (HasSaid v (λ o j. IsUnkeyed2 older j key f))) (e : Edit) (f : EditFault) where
  by_opener : (o : Opener) → Decided (IsUnopenedBy2 (allowed_by e) v o f)
  by_opener (Keyslot slot secret) = (let a = answer (allowed_by e) slot secret.bytes.now in keyslot_decided (allowed_by e) v slot secret a.0 a.1 f)
  by_opener (Key key) = unkeyed key.allowed.older key.bytes.now f

  -- the fault says why it gives none, or it doesn't
  unopened2_decided : Decided (IsUnopened2 v e f)
  unopened2_decided = some_decided Opener (opener_in (deed_of e)) (λ o. IsUnopenedBy2 (allowed_by e) v o f) by_opener

-- ---- the edit

module _ (v : List ℕ) (payload : Data) (answer : (m : Allowed) (n : ℕ) (p : List ℕ) → (a : Opened) × AnswerWithin m v n p a) (sound : (f : CheckFault) → IsFault v payload f → ⊥) (e : Edit) (r : List ℕ) where
  -- where metadata counts
  unopened_of_counting : Counting v payload → (f : EditFault) → Decided (IsUnopened2 v e f)
  unopened_of_counting c = unopened2_decided v answer (λ older key f. said_decided v payload c (λ o j. IsUnkeyed2 older j key f) (c.unkeyed older key f)) e

  fault_of_counting : Counting v payload → (f : EditFault) → Decided (IsEditFault2 v payload e r f)
  fault_of_counting c (edit.NotAccepted f) = inr (sound f)
  fault_of_counting c edit.Requirements = said_decided v payload c _ (true_decided (has_requirements c.value))
  fault_of_counting c edit.NoSuchSlot = said_decided v payload c _ (absent_decided c.value e)
  fault_of_counting c edit.SameSlot = itself_decided e
  fault_of_counting c edit.Locked = unopened_of_counting c edit.Locked
  fault_of_counting c edit.KeyLength = unopened_of_counting c edit.KeyLength
  fault_of_counting c edit.WrongKey = unopened_of_counting c edit.WrongKey
  fault_of_counting c (edit.Slot f) = unopened_of_counting c (edit.Slot f)
  fault_of_counting c edit.SlotTaken = said_decided v payload c _ (taken_decided c.value e)
  fault_of_counting c edit.NoFreeSlot = said_decided v payload c _ (no_free_decided c.value e)
  fault_of_counting c edit.NoRoom = said_decided v payload c _ (no_room_decided (hdr_size (header_at v c.place)) (length v) payload c.value c.area e)
  fault_of_counting c edit.LastSlot = said_decided v payload c _ (last_decided c.value c.digest e)
  fault_of_counting c edit.Iterations = few_decided e
  fault_of_counting c edit.Argon2 = beyond_decided e
  fault_of_counting c edit.BadLabel = bad_label_decided e
  fault_of_counting c edit.NoSuchToken = said_decided v payload c _ (some_lacks_decided c.value (change_by e))
  fault_of_counting c edit.TokenTaken = said_decided v payload c _ (some_taken_decided c.value (change_by e))
  fault_of_counting c edit.NoFreeToken = said_decided v payload c _ (some_no_free_decided c.value (change_by e))
  fault_of_counting c edit.UnreadableToken = some_unread_decided (change_by e)
  fault_of_counting c edit.BadUuid = bad_uuid_decided e
  fault_of_counting c (edit.BadToken f) = said_decided v payload c _ (some_bad_decided (hdr_size (header_at v c.place) - 4096) c.value f (change_by e))
  fault_of_counting c edit.SeqExhausted = said_decided v payload c _ (cases_eq (seqid (header_at v c.place) + 1) (2 ^ 64))
  fault_of_counting c edit.MetadataFull = said_decided v payload c _ (full_decided (hdr_size (header_at v c.place)) (length v) payload c.value c.area e (c.alike e))
  fault_of_counting c edit.RandomLength = said_decided v payload c _ (miscounted_decided c.value e r)
  fault_of_counting c edit.Memory = inr (λ bad. bad)
  fault_of_counting c edit.Device = inr (λ bad. bad)

  -- where none counts
  unopened_of_none : ((p : ℕ) (i : Value) → HasMetadata v p i → ⊥) → (f : EditFault) → Decided (IsUnopened2 v e f)
  unopened_of_none none = unopened2_decided v answer (λ older key f. inr (λ x. none x.place x.value x.metadata)) e

  fault_of_none : ((p : ℕ) (i : Value) → HasMetadata v p i → ⊥) → (f : EditFault) → Decided (IsEditFault2 v payload e r f)
  fault_of_none none (edit.NotAccepted f) = inr (sound f)
  fault_of_none none edit.SameSlot = itself_decided e
  fault_of_none none edit.Locked = unopened_of_none none edit.Locked
  fault_of_none none edit.KeyLength = unopened_of_none none edit.KeyLength
  fault_of_none none edit.WrongKey = unopened_of_none none edit.WrongKey
  fault_of_none none (edit.Slot f) = unopened_of_none none (edit.Slot f)
  fault_of_none none edit.Iterations = few_decided e
  fault_of_none none edit.Argon2 = beyond_decided e
  fault_of_none none edit.BadLabel = bad_label_decided e
  fault_of_none none edit.UnreadableToken = some_unread_decided (change_by e)
  fault_of_none none edit.BadUuid = bad_uuid_decided e
  fault_of_none none edit.Memory = inr (λ bad. bad)
  fault_of_none none edit.Device = inr (λ bad. bad)
  fault_of_none none f = inr (λ x. none x.place x.value x.metadata)

  -- in either case
  pub fault2_decided : Counting v payload ⊎ ((p : ℕ) (i : Value) → HasMetadata v p i → ⊥) → (f : EditFault) → Decided (IsEditFault2 v payload e r f)
  fault2_decided (inl c) = fault_of_counting c
  fault2_decided (inr none) = fault_of_none none

-- a fault of the metadata with a token has a candidate with the same key
pub known_token2 : (v : List ℕ) (payload : Data) (e : Edit) (r : List ℕ) (f : MetaFault) → IsEditFault2 v payload e r (edit.BadToken f)
    → (g : MetaFault) × Among g meta_candidates × IsEditFault2 v payload e r (edit.BadToken g) × (meta_key g ≡ meta_key f)
known_token2 v payload e r f bad =
    let x = known_token (hdr_size (header_at v bad.place) - 4096) bad.value f (change_by e) bad.is in
    (x.0, x.1, record { place = bad.place; value = bad.value; metadata = bad.metadata; is = x.2 }, x.3)
