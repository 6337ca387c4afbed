-- An edit judged by the header that was read: a fault of it is the volume's first, and where none was
-- found none stands.
use Rattle.std.proofs.Common.{◌≡◌, ℕ, ◌+◌, Bor, List, [], length, Option, Result, Ok, Err, OnOk, IfErr, arith, inl, inr, refl, subst}
use Rattle.std.specs.Prelude.{IfOk, IsSomeAnd}
use Rattle.luks_area.specs.declared.area.Area.{Area}
use Rattle.luks_area.specs.declared.areas.Entry.{Entry}
use Rattle.luks2_header.specs.Header2.{hdr_size, header_at}
use Rattle.luks_meta.specs.Content.{area_len, content}
use Rattle.luks_meta.specs.declared.meta.Meta.{Meta}
use Rattle.luks_reading.specs.declared.header.ChosenCopy.{ChosenCopy}
use Rattle.luks_reading.specs.declared.report.Data.{Data}
use Rattle.luks_reading.specs.Layout2.{Luks2Area}
use Rattle.luks_reading.specs.Listing.{Lists}
use Rattle.luks_edit.specs.declared.edit.Edit.{Edit}
use Rattle.luks_edit.specs.declared.deed.Deed.TheVariants as deed
use Rattle.luks_edit.specs.declared.deed.Place.TheVariants.{New, Opened}
use Rattle.luks_edit.specs.declared.deed.Removed.{Removed}
use Rattle.luks_edit.specs.declared.deed.Rewritten.{Rewritten}
use Rattle.luks_edit.specs.declared.edit.Opener.{Opener}
use Rattle.luks_edit.specs.declared.edit.Opener.TheVariants as opener
use Rattle.luks_making.specs.declared.derivation.AskedDerivation.{AskedDerivation}
use Rattle.luks_edit.specs.declared.edit.Secret.{Secret}
use Rattle.luks_edit.specs.declared.edit_fault.EditFault.{EditFault}
use Rattle.luks_edit.specs.declared.edit_fault.EditFault.TheVariants as fault
use Rattle.luks_edit.specs.Asked.{allowed_for, deed_of}
use Rattle.luks_edit.specs.NewUuids.{IsBadUuid}
use Rattle.luks_reading.specs.Checked.{WellFormed}
use Rattle.luks2_edit_laws.specs.declared.like.Like.{Like}
use Rattle.luks2_edit_laws.specs.declared.like.Like.TheVariants.{Keyslot}
use Rattle.luks2_edit_laws.specs.Likes.{IsLike}
use Rattle.luks2_edit_laws.specs.Metadata.{HasMetadata}
use Rattle.luks2_edit_laws.specs.Places.{IsNewArea}
use Rattle.luks2_edit_laws.specs.Refused.{HasBadText, HasNoFreeToken, HasSaid, IsAbsent, IsBadLabel, IsOnlyOne, IsTokenTaken, LacksToken}
use Rattle.luks2_judging.specs.declared.judged.JudgedChange.{JudgedChange}
use Rattle.luks2_judging.specs.declared.judged.JudgedEdit.{JudgedEdit}
use Rattle.luks2_judging.specs.declared.judged.JudgedEdit.TheVariants as judged
use Rattle.luks2_judging.specs.declared.judged.TextFields.{TextFields}
use Rattle.luks2_judging.specs.Changes.{IsChangeFault, IsTakenChange}
use Rattle.luks2_judging.specs.Rewriting.{IsRewrittenAs, IsUnrewritten}
use Rattle.luks2_judging.specs.Judged.{IsNewNumber}
use Rattle.luks2_judging.specs.Judging.{IsJudgedTo, IsRefusedEarly, sealing}
use Rattle.luks2_judging.specs.Opened.{IsUnlocked, IsUnopened}
use Rattle.luks2_judging.specs.Room.{IsAllowed, IsUnsealable}
use Rattle.luks2_judging.specs.Rows.{HasNoFaultBefore}
use Rattle.luks2_judging.specs.Sealing.{IsUnadded}
use Rattle.luks2_judging.proofs.AreaFacts.{header_long, listed_here}
use Rattle.luks2_judging.proofs.ChosenFacts.{metadata_of}
use Rattle.luks2_judging.proofs.JudgedFacts.{added_past, amended_past, bad_uuid_first, changed_past, erased_past, label_first, lacking_first, none_opened, number_first, only_first, passed_of, past_opened}
use Rattle.luks2_judging.proofs.JudgedFacts.{removed_past, token_taken_first, unfree_token_first, unread_token_first, unadded_first, unchanged_first, unopened_first, IsPast}
use Rattle.luks2_judging.proofs.RoomFacts.{area_excludes}
use Rattle.luks2_judging.proofs.TokenFacts.{lacks_apart, lacks_unfree, lacks_unread, no_change_fault, taken_numbered, taken_readable, taken_there, taken_unfree, taken_untaken, unread_is, unread_numbered, unread_untaken}

-- a volume of `total` bytes with the areas `entries`, whose metadata `meta` is that of the copy at the
-- place `o`; no row up to `SameSlot` refuses the edit
pub record IsReadAs (v : List ℕ) (payload : Data) (e : Edit) (o : ℕ) (meta : Meta) (entries : List Entry) (total : ℕ) : Type 0 where
  pub metadata : HasMetadata v o (content meta)
  pub long : area_len meta + 4096 ≡ hdr_size (header_at v o)
  pub size : length v ≡ total
  pub lists : Lists entries (Luks2Area (content meta) (area_len meta + 4096) payload total)
  pub four : (random : List ℕ) → IsPast 4 v payload e random

pub read_as : {v : List ℕ} {payload : Data} {e : Edit} {copy : ChosenCopy} {areas entries : List Entry} {meta : Meta} {total : ℕ} → meta ≡ copy.meta
    → entries ≡ areas → length v ≡ total → ((random : List ℕ) → IsJudgedTo 4 copy areas v payload e random)
    → IsReadAs v payload e copy.header.hdr_offset meta entries total
read_as {v} {payload} {e} {copy} {areas} {entries} {meta} {total} same listed size judged = rw (same, listed) (record {
  metadata = metadata_of v copy (judged []).chosen;
  long = header_long v copy (judged []).chosen;
  size = size;
  lists = listed_here v copy (judged []).chosen payload total size areas (judged []).lists;
  four = λ random. passed_of 4 v payload e random (judged random).passed;
})

module _ {v : List ℕ} {payload : Data} {e : Edit} {o : ℕ} {meta : Meta} {entries : List Entry} {total : ℕ} (r : IsReadAs v payload e o meta entries total) where
  -- what is said of the JSON area's size and of the volume's length is said of the header's size
  said_of : (says : ℕ → ℕ → Type 0) → says (area_len meta + 4096) total → says (hdr_size (header_at v o)) (length v)
  said_of says is = rw (r.size, ← r.long) is

  -- so is that a new area is free
  free_of : {like : Like} {a : Area} → IsNewArea (area_len meta + 4096) total payload (content meta) like a → IsNewArea (hdr_size (header_at v o)) (length v) payload (content meta) like a
  free_of {like} {a} place = said_of (λ h t. IsNewArea h t payload (content meta) like a) place

  pub placed_of : {like : Like} {a : Area} {here : Meta} → meta ≡ here → IsNewArea (area_len meta + 4096) total payload (content meta) like a
      → IsNewArea (hdr_size (header_at v o)) (length v) payload (content here) like a
  placed_of {like} {a} same place = subst (λ m. IsNewArea (hdr_size (header_at v o)) (length v) payload (content m) like a) same (free_of place)

  -- what opens gives no key
  pub unopened_refused : (f : EditFault) → WellFormed v payload → ((HasSaid v (λ o j. IsAbsent j e) → ⊥) → IsUnopened v e f) → IsRefusedEarly v payload e f
  unopened_refused f well unopened = unopened_first v payload e well f r.four (unopened ((r.four []).none fault.NoSuchSlot (omega arith)))

  -- it does, or there is none
  module _ (past : IsUnlocked v e) where
    eight_of : (random : List ℕ) → IsPast 8 v payload e random
    eight_of random = past_opened v payload e random past (r.four random)

    -- a keyslot is added
    module _ {opener_ : Opener} {new : Bor (List ℕ)} {to : Option ℕ} (asked : AskedDerivation) (is : deed_of e ≡ deed.Seal (sealing (New opener_ to) new asked))
        (like : Like) (is_like : IsLike (content meta) opener_ like) where
      pub unadded_refused : (f : EditFault) → IsUnadded (area_len meta + 4096) total payload (content meta) like to (allowed_for opener_ new.now).memory asked f
          → IsRefusedEarly v payload e f
      unadded_refused f (inl bad) = number_first v payload o (content meta) r.metadata e opener_ to new asked is eight_of f bad
      unadded_refused f (inr bad) =
          unadded_first v payload o (content meta) r.metadata e opener_ to new asked is eight_of
          bad.0.number bad.0.is like is_like f (said_of (λ h t. IsUnsealable h t payload (content meta) like (allowed_for opener_ new.now).memory asked f) bad.1)

      pub added_passed : {made : ℕ} {a : Area} → IsNewNumber (content meta) to made → IsAllowed (allowed_for opener_ new.now).memory asked
          → IsNewArea (area_len meta + 4096) total payload (content meta) like a → (random : List ℕ) → HasNoFaultBefore 20 v payload e random
      added_passed {made} {a} number enough place random =
          added_past v payload o (content meta) r.metadata e opener_ to new asked is eight_of made number like is_like
          (λ none. area_excludes (hdr_size (header_at v o)) (length v) payload (content meta) like a (free_of place) none) enough random

    -- one is sealed again
    module _ {slot : ℕ} {old : Secret} {new : Bor (List ℕ)} (asked : AskedDerivation) (is : deed_of e ≡ deed.Seal (sealing (Opened slot old) new asked)) where
      pub unchanged_refused : (f : EditFault) → IsUnsealable (area_len meta + 4096) total payload (content meta) (Keyslot slot) (allowed_for (opener.Keyslot slot old) new.now).memory asked f
          → IsRefusedEarly v payload e f
      unchanged_refused f bad =
          unchanged_first v payload o (content meta) r.metadata e slot old new asked is eight_of
          f (said_of (λ h t. IsUnsealable h t payload (content meta) (Keyslot slot) (allowed_for (opener.Keyslot slot old) new.now).memory asked f) bad)

      pub changed_passed : {a : Area} → IsAllowed (allowed_for (opener.Keyslot slot old) new.now).memory asked → IsNewArea (area_len meta + 4096) total payload (content meta) (Keyslot slot) a
          → (random : List ℕ) → HasNoFaultBefore 20 v payload e random
      changed_passed {a} enough place random =
          changed_past v payload o (content meta) r.metadata e slot old new asked is eight_of
          (λ none. area_excludes (hdr_size (header_at v o)) (length v) payload (content meta) (Keyslot slot) a (free_of place) none) enough random

    -- one is removed
    module _ {d : Removed} (is : deed_of e ≡ deed.Remove d) where
      pub last_refused : IsOnlyOne (content meta) d.slot → IsRefusedEarly v payload e fault.LastSlot
      last_refused bad = only_first v payload o (content meta) r.metadata e d is eight_of bad

      pub removed_passed : (IsOnlyOne (content meta) d.slot → ⊥) → (random : List ℕ) → HasNoFaultBefore 20 v payload e random
      removed_passed other random = removed_past v payload o (content meta) r.metadata e d is eight_of other random

  -- all are erased
  pub erased_passed : deed_of e ≡ deed.Erase → (random : List ℕ) → HasNoFaultBefore 20 v payload e random
  erased_passed is random =
      erased_past v payload o (content meta) r.metadata e is (λ any. past_opened v payload e any (none_opened v e (rw is refl)) (r.four any)) random

  -- the header is written anew
  module _ {rewritten : Rewritten} (is : deed_of e ≡ deed.Rewrite rewritten) where
    eight_of_none : (random : List ℕ) → IsPast 8 v payload e random
    eight_of_none random = past_opened v payload e random (none_opened v e (rw is refl)) (r.four random)

    label_refused : HasBadText rewritten → IsRefusedEarly v payload e fault.BadLabel
    label_refused bad = label_first v payload o (content meta) r.metadata e (λ x. rw is at x) (λ x. rw is at x) (λ x. rw is at x) (λ x. rw is at x) (λ x. rw is at x) (λ x. rw is at x)
        eight_of_none (rw is bad)

    -- the texts are good
    module _ (good : HasBadText rewritten → ⊥) where
      good_label : IsBadLabel e → ⊥
      good_label bad = good (rw is at bad)

      lacking : IsSomeAnd rewritten.change (LacksToken (content meta)) → IsRefusedEarly v payload e fault.NoSuchToken
      lacking bad = lacking_first v payload o (content meta) r.metadata e (λ x. rw is at x) (λ x. rw is at x) (λ x. rw is at x) (λ x. rw is at x) (λ x. rw is at x) (λ x. rw is at x)
          eight_of_none good_label (rw is bad)

      taken : IsSomeAnd rewritten.change (IsTokenTaken (content meta)) → IsRefusedEarly v payload e fault.TokenTaken
      taken bad = token_taken_first v payload o (content meta) r.metadata e (λ x. rw is at x) (λ x. rw is at x) (λ x. rw is at x) (λ x. rw is at x) (λ x. rw is at x) (λ x. rw is at x)
          eight_of_none good_label (λ x. lacks_apart (content meta) rewritten.change (rw is at x) bad) (rw is bad)

      unfree : IsSomeAnd rewritten.change (HasNoFreeToken (content meta)) → IsRefusedEarly v payload e fault.NoFreeToken
      unfree bad = unfree_token_first v payload o (content meta) r.metadata e (λ x. rw is at x) (λ x. rw is at x) (λ x. rw is at x) (λ x. rw is at x) (λ x. rw is at x) (λ x. rw is at x)
          eight_of_none good_label (λ x. lacks_unfree (content meta) rewritten.change (rw is at x) bad) (λ x. taken_unfree (content meta) rewritten.change (rw is at x) bad) (rw is bad)

      unread : IsSomeAnd rewritten.change (λ c. IsChangeFault (content meta) c fault.UnreadableToken) → IsRefusedEarly v payload e fault.UnreadableToken
      unread bad = unread_token_first v payload o (content meta) r.metadata e (λ x. rw is at x) (λ x. rw is at x) (λ x. rw is at x) (λ x. rw is at x) (λ x. rw is at x) (λ x. rw is at x)
          eight_of_none good_label (λ x. lacks_unread (content meta) rewritten.change (rw is at x) (unread_is (content meta) rewritten.change bad))
          (λ x. unread_untaken (content meta) rewritten.change bad (rw is at x)) (λ x. unread_numbered (content meta) rewritten.change bad (rw is at x))
          (rw is (unread_is (content meta) rewritten.change bad))

      change_refused : (f : EditFault) → IsSomeAnd rewritten.change (λ c. IsChangeFault (content meta) c f) → IsRefusedEarly v payload e f
      change_refused fault.NoSuchToken bad = lacking bad
      change_refused fault.TokenTaken bad = taken bad
      change_refused fault.NoFreeToken bad = unfree bad
      change_refused fault.UnreadableToken bad = unread bad
      change_refused f bad = absurd (no_change_fault rewritten.change bad)

      -- the change takes something
      module _ (change : Option JudgedChange) (takes : IsTakenChange (content meta) rewritten.change change) where
        bad_uuid : IsBadUuid rewritten.uuid → IsRefusedEarly v payload e fault.BadUuid
        bad_uuid bad =
            bad_uuid_first v payload o (content meta) r.metadata e (λ x. rw is at x) (λ x. rw is at x) (λ x. rw is at x) (λ x. rw is at x) (λ x. rw is at x) (λ x. rw is at x) eight_of_none good_label
            (λ x. taken_there (content meta) rewritten.change change takes (rw is at x)) (λ x. taken_untaken (content meta) rewritten.change change takes (rw is at x))
            (λ x. taken_numbered (content meta) rewritten.change change takes (rw is at x)) (λ x. taken_readable (content meta) rewritten.change change takes (rw is at x)) (rw is bad)

        rewriting_passed : (IsBadUuid rewritten.uuid → ⊥) → (random : List ℕ) → HasNoFaultBefore 20 v payload e random
        rewriting_passed own random =
            amended_past v payload o (content meta) r.metadata e (λ x. rw is at x) (λ x. rw is at x) (λ x. rw is at x) (λ x. rw is at x) (λ x. rw is at x) (λ x. rw is at x) eight_of_none good_label
            (λ x. taken_there (content meta) rewritten.change change takes (rw is at x)) (λ x. taken_untaken (content meta) rewritten.change change takes (rw is at x))
            (λ x. taken_numbered (content meta) rewritten.change change takes (rw is at x)) (λ x. taken_readable (content meta) rewritten.change change takes (rw is at x)) (λ x. own (rw is at x)) random

    rewritten_passed : (own : TextFields) (it : JudgedEdit) → (HasBadText rewritten → ⊥) → IsRewrittenAs (content meta) own rewritten it → (random : List ℕ) → HasNoFaultBefore 20 v payload e random
    rewritten_passed own (judged.Rewrite uuid fields change) good x = rewriting_passed good change x.3 (subst (λ u. IsBadUuid u → ⊥) x.0 x.1)
    rewritten_passed own it good x = absurd x

    pub rewriting_judged : (own : TextFields) (it : Result JudgedEdit EditFault) → OnOk it (HasBadText rewritten → ⊥) → IfOk it (IsRewrittenAs (content meta) own rewritten)
        → OnOk it ((random : List ℕ) → HasNoFaultBefore 20 v payload e random)
    rewriting_judged own (Ok it) good x = rewritten_passed own it good x
    rewriting_judged own (Err f) good x = tt

    unrewritten_refused : (f : EditFault) → IsUnrewritten (content meta) rewritten f → IsRefusedEarly v payload e f
    unrewritten_refused fault.BadLabel bad = label_refused bad
    unrewritten_refused fault.BadUuid bad = bad_uuid bad.good bad.change bad.takes bad.bad
    unrewritten_refused f bad = change_refused bad.0 f bad.1

    pub rewriting_ended : (it : Result JudgedEdit EditFault) → IfErr it (IsUnrewritten (content meta) rewritten) → IfErr it (IsRefusedEarly v payload e)
    rewriting_ended (Ok it) x = tt
    rewriting_ended (Err f) x = unrewritten_refused f x
