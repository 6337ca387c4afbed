-- An edit that writes the header anew, with its metadata as it was or changed in named members.
use Rattle.std.proofs.Common.{◌≢◌, ◌≡◌, ℕ, ◌+◌, ◌-◌, List, Option, None, ap, refl, sym, subst, ◌∙◌}
use Rattle.std.specs.Prelude.{IsSomeAnd}
use Rattle.serde_json.specs.Data.{Data as Value}
use Rattle.luks_area.specs.Ranges.{SameBut}
use Rattle.luks2_header.specs.Header2.{hdr_size, header_at}
use Rattle.luks_rules.specs.declared.fault.MetaFault.{MetaFault}
use Rattle.luks_rules.specs.Held.{IsHeld}
use Rattle.luks_meta.specs.Content.{area_len, content}
use Rattle.luks_reading.specs.declared.header.ChosenCopy.{ChosenCopy}
use Rattle.luks_reading.specs.declared.report.Data.{Data}
use Rattle.luks_reading.specs.Checked.{WellFormed}
use Rattle.luks_reading.specs.Header.{IsChosenCopy}
use Rattle.luks_edit.specs.declared.edit.Edit.{Edit}
use Rattle.luks_edit.specs.declared.new_uuid.NewUuid.{NewUuid}
use Rattle.luks_edit.specs.NewUuids.{uuid_field_after, uuid_need}
use Rattle.luks_edit.specs.declared.edit_fault.EditFault.{EditFault}
use Rattle.luks_edit.specs.declared.edit_fault.EditFault.TheVariants as fault
use Rattle.luks_edit.specs.Asked.{change_by}
use Rattle.luks_edit.proofs.RowFacts.{after_token, first_of_token, passed_from, Passed}
use Rattle.luks2_edit_laws.specs.Copies.{field_after, uuid_random}
use Rattle.luks2_edit_laws.specs.Places.{IsOfCopies}
use Rattle.luks2_edit_laws.specs.Edited.{IsAmended}
use Rattle.luks2_edit_laws.specs.Refused.{HasSaid, IsBadToken, IsEditFault2, Need2}
use Rattle.luks2_edit_laws.proofs.AmendedFacts.{amended_once}
use Rattle.luks2_judging.specs.declared.judged.JudgedChange.{JudgedChange}
use Rattle.luks2_judging.specs.Judging.{IsRewriting}
use Rattle.luks2_judging.specs.Rows.{HasNoFaultBefore}
use Rattle.luks2_judging.specs.Texts.{texts_of}
use Rattle.luks2_judging.specs.declared.judged.TextFields.{TextFields}
use Rattle.luks2_editing.specs.Amending.{HasMadeFault, IsChangedBy, IsUnmade}
use Rattle.luks2_editing.specs.Prepared.{IsPrepared, IsUnwritten}
use Rattle.luks2_editing.specs.Replies.{EndsBy2, IsDone2}
use Rattle.luks2_editing.specs.Rewriting.{with_uuid, AreWrittenAnew, IsRenewing, MayBeHalfWritten}
use Rattle.luks2_editing.proofs.AmendingFacts.{amended_by, made_fault, token_fault, unfaulted}
use Rattle.luks2_editing.proofs.RenewalFacts.{copies_touched, len_here, prepared_unrefused, renewing, said, said_here, unwritten_ends, written_after}

module _ (v : List ℕ) (payload : Data) (copy : ChosenCopy) (x : IsChosenCopy v copy) (well : WellFormed v payload) (e : Edit) (uuid : Option NewUuid) (texts : TextFields) (change : Option JudgedChange)
    (is : IsRewriting (content copy.meta) (texts_of copy.header) e uuid texts change) where
  -- it may be written anew with these texts
  pub rewriting_renews : (random : List ℕ) → IsRenewing v e random copy.header (with_uuid uuid random texts) (area_len copy.meta)
  rewriting_renews random = renewing v payload copy x well e random (with_uuid uuid random texts)
      (rw is.asked (ap (λ (u : Option NewUuid). uuid_field_after u (uuid_random random) texts.uuid) is.uuid_is
      ∙ ap (λ (f : List ℕ). uuid_field_after is.rewritten.uuid (uuid_random random) f) (ap (λ (t : TextFields). t.uuid) is.is ∙ sym x.header.uuid)))
      (rw is.asked (ap (λ (t : TextFields). t.label) is.is ∙ ap (λ (f : List ℕ). field_after is.rewritten.label f) (sym x.header.label)))
      (rw is.asked (ap (λ (t : TextFields). t.subsystem) is.is ∙ ap (λ (f : List ℕ). field_after is.rewritten.subsystem f) (sym x.header.subsystem)))

  -- a fault of the metadata with a new token is one of what is made
  made_bad : (f : MetaFault) → HasSaid v (λ o j. IsSomeAnd (change_by e) (IsBadToken (hdr_size (header_at v o) - 4096) j f)) → HasMadeFault (area_len copy.meta) (content copy.meta) change f
  made_bad f bad =
      let here : IsSomeAnd (change_by e) (IsBadToken (hdr_size (header_at v copy.header.hdr_offset) - 4096) (content copy.meta) f) =
      said_here v payload copy x well (λ o j. IsSomeAnd (change_by e) (IsBadToken (hdr_size (header_at v o) - 4096) j f)) bad in
      made_fault (area_len copy.meta) (content copy.meta) f is.rewritten.change change is.takes
      (subst (λ n. IsSomeAnd is.rewritten.change (IsBadToken n (content copy.meta) f)) (sym (len_here v payload copy x well)) (rw is.asked at here))

  bad_made : (f : MetaFault) → HasMadeFault (area_len copy.meta) (content copy.meta) change f → HasSaid v (λ o j. IsSomeAnd (change_by e) (IsBadToken (hdr_size (header_at v o) - 4096) j f))
  bad_made f bad = said v payload copy x well (λ o j. IsSomeAnd (change_by e) (IsBadToken (hdr_size (header_at v o) - 4096) j f))
      (rw is.asked (subst (λ n. IsSomeAnd is.rewritten.change (IsBadToken n (content copy.meta) f)) (len_here v payload copy x well)
      (token_fault (area_len copy.meta) (content copy.meta) f is.rewritten.change change is.takes bad)))

  module _ (random : List ℕ) (before : HasNoFaultBefore 20 v payload e random) where
    -- how it ends where the metadata isn't made
    pub unmade_ends : (f : EditFault) → IsUnmade (area_len copy.meta) (content copy.meta) change f → EndsBy2 payload v e random f v
    unmade_ends (fault.BadToken f) least = (
      first_of_token (IsEditFault2 v payload e random) f (passed_from (IsEditFault2 v payload e random) 20 before.each) (bad_made f least.0)
          (λ g bad. least.1 g (made_bad g bad)),
      refl,
    )
    unmade_ends fault.Memory wanting = refl
    unmade_ends f bad = absurd bad

    module _ (new : Value) (made : IsChangedBy change (content copy.meta) new) (held : IsHeld (area_len copy.meta) new) where
      passed : Passed (IsEditFault2 v payload e random) 21
      passed =
          let s = IsEditFault2 v payload e random in
          after_token s (passed_from s 20 before.each) (λ f bad. unfaulted (area_len copy.meta) (content copy.meta) new change made held f (made_bad f bad))

      amends : IsAmended is.rewritten.change (content copy.meta) new
      amends = amended_by (content copy.meta) new is.rewritten.change change is.takes made

      -- it takes two salts, and what its uuid takes
      takes : Need2 (content copy.meta) e (128 + uuid_need uuid)
      takes = rw is.asked (ap (λ (u : Option NewUuid). 128 + uuid_need u) is.uuid_is)

      takes_only : (k : ℕ) → Need2 (content copy.meta) e k → k ≡ 128 + uuid_need uuid
      takes_only k same = (rw is.asked at same) ∙ sym (ap (λ (u : Option NewUuid). 128 + uuid_need u) is.uuid_is)

      -- what it leaves where it was ended
      pub rewriting_ends : (w : List ℕ) (f : EditFault) → IsUnwritten copy.header.seqid (area_len copy.meta) new random (128 + uuid_need uuid) f → (f ≢ fault.Device → w ≡ v)
          → MayBeHalfWritten v copy.header.hdr_offset e random new v w → EndsBy2 payload v e random f w
      rewriting_ends = unwritten_ends v payload copy x well e random new passed
          (λ salt. rw is.asked amends) (λ salt k other. amended_once is.rewritten.change (content copy.meta) k new (rw is.asked at other) amends)
          (128 + uuid_need uuid) takes takes_only (λ u. rw is.asked tt)

      -- and where it was done
      pub rewriting_done : (w : List ℕ) → IsPrepared copy.header.seqid (area_len copy.meta) new random (128 + uuid_need uuid)
          → AreWrittenAnew v copy.header.hdr_offset e random new w → SameBut (IsOfCopies copy.header.hdr_size) v w → IsDone2 payload v e random (record { slot = None }) w
      rewriting_done w ready anew rest = record {
        unrefused = prepared_unrefused v payload copy x well e random new passed
            (λ salt. rw is.asked amends) (λ salt k other. amended_once is.rewritten.change (content copy.meta) k new (rw is.asked at other) amends)
            (128 + uuid_need uuid) takes takes_only (λ u. rw is.asked tt) ready;
        after = written_after v payload copy x well e random new passed
            (λ salt. rw is.asked amends) (λ salt k other. amended_once is.rewritten.change (content copy.meta) k new (rw is.asked at other) amends)
            (128 + uuid_need uuid) takes takes_only (λ u. rw is.asked tt) w (λ n lost. absurd (rw is.asked at lost)) anew
            (copies_touched v payload copy x well e random new passed
            (λ salt. rw is.asked amends) (λ salt k other. amended_once is.rewritten.change (content copy.meta) k new (rw is.asked at other) amends)
            (128 + uuid_need uuid) takes takes_only (λ u. rw is.asked tt) w rest);
        told = rw is.asked refl;
      }
