-- An edit of a LUKS2 volume that seals a keyslot: its last refusals, before the first write.
use Rattle.std.proofs.Common.{◌≡◌, ℕ, ◌+◌, ◌-◌, ◌^◌, ◌<◌, ◌≤◌, List, length, None, refl, sym, ap, ◌∙◌, subst, arith}
use Rattle.std.specs.Prelude.{IsSomeAnd}
use Rattle.base64.specs.GeneralPurpose.{IsBytes}
use Rattle.serde_json.specs.Data.{Data as Value}
use Rattle.serde_json.specs.Written.{compact_text}
use Rattle.luks2_header.specs.Header2.{header_at, hdr_size, seqid}
use Rattle.luks_meta.specs.Content.{area_len, content}
use Rattle.luks_meta.proofs.Namings.{one_digest}
use Rattle.luks_reading.specs.declared.header.ChosenCopy.{ChosenCopy}
use Rattle.luks_reading.specs.declared.report.Data.{Data}
use Rattle.luks_reading.specs.Header.{json_at}
use Rattle.luks_edit.specs.Asked.{change_by, change_in, deed_of, sealed_in}
use Rattle.luks_edit.specs.declared.deed.Deed.{Deed}
use Rattle.luks_edit.specs.declared.deed.Deed.TheVariants as deed
use Rattle.luks_edit.specs.declared.deed.Sealed.{Sealed}
use Rattle.luks_edit.specs.declared.edit.Edit.{Edit}
use Rattle.luks_edit.specs.declared.edit_fault.EditFault.{EditFault}
use Rattle.luks_edit.specs.declared.edit_fault.EditFault.TheVariants as fault
use Rattle.luks_edit.proofs.RowFacts.{after_token, first_of_row, next, none_at_all, passed_from, Passed}
use Rattle.luks2_edit_laws.specs.Edited.{members_of, IsEdited}
use Rattle.luks2_edit_laws.specs.Refused.{IsEditFault2, HasSaid, IsFull, IsMiscounted, IsUnrefused2, Need2, NeedsLike}
use Rattle.luks2_edit_laws.proofs.ToldFacts.{need_once}
use Rattle.luks2_judging.proofs.EditedFacts.{texts_as_long}
use Rattle.luks2_editing.specs.declared.sealed_metadata.Sealing.{Sealing}
use Rattle.luks2_editing.specs.MadeMetadata.{like_of, IsMadeBy, IsSealingEdit}
use Rattle.luks2_editing.specs.Prepared.{IsPrepared, IsUnprepared}
use Rattle.luks2_editing.specs.Replies.{EndsBy2}
use Rattle.luks2_editing.proofs.MadeMetadataFacts.{asked_need, made_edited}
use Rattle.luks2_editing.proofs.RenewalFacts.{len_here, said, said_here}

-- an edit that seals a key changes nothing else of the metadata
unamended_in : (d : Deed) (P : Sealed → Type 0) → IsSomeAnd (sealed_in d) P → change_in d ≡ None
unamended_in (deed.Seal s) P x = refl
unamended_in (deed.Remove r) P x = absurd x
unamended_in (deed.Rewrite r) P x = absurd x
unamended_in deed.Erase P x = absurd x

module _ (v : List ℕ) (payload : Data) (e : Edit) (random : List ℕ) (copy : ChosenCopy) (sealing : Sealing)
    (x : IsSealingEdit v payload e random copy sealing) where
  -- the metadata with a salt is what the edit makes with it
  pub edited_by : (salt : List ℕ) (new : Value) → IsMadeBy sealing.keyslot (members_of sealing.derivation salt sealing.area) (content copy.meta) new
      → IsEdited (hdr_size (header_at v copy.header.hdr_offset)) (length v) payload e salt (content copy.meta) new
  edited_by salt new made =
      made_edited (hdr_size (header_at v copy.header.hdr_offset)) (length v) payload e (content copy.meta) new sealing.keyslot sealing.derivation salt sealing.area x.asked x.place made

  -- it changes nothing else
  unamended : change_by e ≡ None
  unamended = unamended_in (deed_of e) _ x.asked

  passed : Passed (IsEditFault2 v payload e random) 21
  passed =
      let s = IsEditFault2 v payload e random in
      after_token s (passed_from s 20 x.before.each) (λ f bad. rw unamended at bad.is)

  module _ (salt : List ℕ) (bytes : IsBytes salt) (long : length salt ≡ 32) (new : Value)
      (made : IsMadeBy sealing.keyslot (members_of sealing.derivation salt sealing.area) (content copy.meta) new)
      (n : ℕ) (needs : NeedsLike (content copy.meta) n (like_of sealing.keyslot)) where
    edited : IsEdited (hdr_size (header_at v copy.header.hdr_offset)) (length v) payload e salt (content copy.meta) new
    edited = edited_by salt new made

    need : Need2 (content copy.meta) e n
    need = asked_need e (content copy.meta) sealing.keyslot sealing.derivation n x.asked needs

    len_is : area_len copy.meta ≡ hdr_size (header_at v copy.header.hdr_offset) - 4096
    len_is = len_here v payload copy x.chosen x.well

    numbered_of : copy.header.seqid + 1 < 2 ^ 64 → HasSaid v (λ o j. seqid (header_at v o) + 1 ≡ 2 ^ 64) → ⊥
    numbered_of low bad =
        let is : seqid (header_at v copy.header.hdr_offset) ≡ copy.header.seqid = x.chosen.header.seqid in
        let high : seqid (header_at v copy.header.hdr_offset) + 1 ≡ 2 ^ 64 =
        said_here v payload copy x.chosen x.well (λ o j. seqid (header_at v o) + 1 ≡ 2 ^ 64) bad in
        omega (arith, is, high, low)

    -- with another salt the text is as long
    roomy_of : length (compact_text new) < area_len copy.meta → HasSaid v (λ o j. IsFull (hdr_size (header_at v o)) (length v) payload j e) → ⊥
    roomy_of low bad =
        let full : IsFull (hdr_size (header_at v copy.header.hdr_offset)) (length v) payload (content copy.meta) e =
        said_here v payload copy x.chosen x.well (λ o j. IsFull (hdr_size (header_at v o)) (length v) payload j e) bad in
        let same : length (compact_text full.new) ≡ length (compact_text new) =
        texts_as_long (hdr_size (header_at v copy.header.hdr_offset)) (length v) payload e full.salt salt (content copy.meta) full.new new
        full.salt_bytes bytes (full.salt_length ∙ sym long) (record { one = one_digest (json_at v copy.header.hdr_offset) (content copy.meta) x.chosen.metadata })
        full.edited edited in
        let high : hdr_size (header_at v copy.header.hdr_offset) - 4096 ≤ length (compact_text full.new) = full.full in
        let len : area_len copy.meta ≡ hdr_size (header_at v copy.header.hdr_offset) - 4096 = len_is in
        omega (arith, low, high, len, same)

    counted_of : length random ≡ n → HasSaid v (λ o j. IsMiscounted j e random) → ⊥
    counted_of count bad =
        let other : IsMiscounted (content copy.meta) e random = said_here v payload copy x.chosen x.well (λ o j. IsMiscounted j e random) bad in
        other.other (count ∙ need_once (content copy.meta) e n other.need need other.is)

    past_number : copy.header.seqid + 1 < 2 ^ 64 → Passed (IsEditFault2 v payload e random) 22
    past_number low = next (IsEditFault2 v payload e random) fault.SeqExhausted refl passed (numbered_of low)

    past_room : copy.header.seqid + 1 < 2 ^ 64 → length (compact_text new) < area_len copy.meta → Passed (IsEditFault2 v payload e random) 23
    past_room low room = next (IsEditFault2 v payload e random) fault.MetadataFull refl (past_number low) (roomy_of room)

    past_all : copy.header.seqid + 1 < 2 ^ 64 → length (compact_text new) < area_len copy.meta → length random ≡ n → Passed (IsEditFault2 v payload e random) 26
    past_all low room count =
        let s = IsEditFault2 v payload e random in
        next s fault.Device refl (next s fault.Memory refl (next s fault.RandomLength refl (past_room low room) (counted_of count)) (λ bad. bad)) (λ bad. bad)

    -- nothing refuses it where all was prepared
    pub sealing_unrefused : IsPrepared copy.header.seqid (area_len copy.meta) new random n → IsUnrefused2 v payload e random
    sealing_unrefused p = record { none = none_at_all (IsEditFault2 v payload e random) (past_all p.numbered p.room p.counted) }

    -- how it ends where it wasn't
    pub unprepared_ends : (f : EditFault) → IsUnprepared copy.header.seqid (area_len copy.meta) new random n f → EndsBy2 payload v e random f v
    unprepared_ends fault.SeqExhausted bad = (
      first_of_row (IsEditFault2 v payload e random) fault.SeqExhausted refl passed
          (said v payload copy x.chosen x.well (λ o j. seqid (header_at v o) + 1 ≡ 2 ^ 64) (ap (λ n. n + 1) x.chosen.header.seqid ∙ bad)),
      refl,
    )
    unprepared_ends fault.MetadataFull bad = (
      first_of_row (IsEditFault2 v payload e random) fault.MetadataFull refl (past_number bad.numbered)
          (said v payload copy x.chosen x.well (λ o j. IsFull (hdr_size (header_at v o)) (length v) payload j e) (record {
            salt = salt;
            salt_bytes = bytes;
            salt_length = long;
            new = new;
            edited = edited;
            full = subst (λ n. n ≤ length (compact_text new)) len_is bad.full;
          })),
      refl,
    )
    unprepared_ends fault.RandomLength bad = (
      first_of_row (IsEditFault2 v payload e random) fault.RandomLength refl (past_room bad.numbered bad.room)
          (said v payload copy x.chosen x.well (λ o j. IsMiscounted j e random) (record { need = n; is = need; other = bad.other })),
      refl,
    )
    unprepared_ends fault.Memory bad = refl
    unprepared_ends f bad = absurd bad
