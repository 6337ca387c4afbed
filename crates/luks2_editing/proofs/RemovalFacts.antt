-- A keyslot that is removed of a LUKS2 volume: its area, and the copies beside it.
use Rattle.std.proofs.Common.{◌≡◌, ℕ, ◌≤◌, List, Option, length, replicate, inl, inr, refl, sym, ◌∙◌, subst, arith}
use Rattle.serde_json.specs.Data.{Data as Value}
use Rattle.luks_area.specs.declared.area.Area.{Area}
use Rattle.luks_area.specs.Ranges.{part, IsAt, SameBut}
use Rattle.luks_area.proofs.RangeFacts.{same_but-then, same_but-wider}
use Rattle.luks2_header.specs.Header2.{header_at, hdr_size}
use Rattle.luks_making.specs.Without.{without_slot}
use Rattle.luks_meta.specs.Content.{area_len, content}
use Rattle.luks_reading.specs.declared.header.ChosenCopy.{ChosenCopy}
use Rattle.luks_reading.specs.declared.report.Data.{Data}
use Rattle.luks_reading.specs.Checked.{WellFormed}
use Rattle.luks_reading.specs.Header.{IsChosenCopy}
use Rattle.luks_edit.specs.declared.edit.Edit.TheVariants.{Remove}
use Rattle.luks_edit.specs.declared.edit.Secret.{Secret}
use Rattle.luks_edit.proofs.RowFacts.{after_token, passed_from, Passed}
use Rattle.luks2_edit_laws.specs.Edited.{After2}
use Rattle.luks2_edit_laws.specs.Leftovers.{Leftover2}
use Rattle.luks2_edit_laws.specs.Metadata.{IsKeyArea}
use Rattle.luks2_edit_laws.specs.Places.{IsOfCopies, IsTouchedUpTo}
use Rattle.luks2_edit_laws.specs.Refused.{IsEditFault2}
use Rattle.luks2_edit_laws.proofs.TouchedFacts.{all_touched}
use Rattle.luks2_judging.specs.Rows.{HasNoFaultBefore}
use Rattle.luks2_editing.specs.Prepared.{IsPrepared}
use Rattle.luks2_editing.specs.Rewriting.{AreWrittenAnew}
use Rattle.luks2_editing.proofs.LostFacts.{beside_first, beside_second, both_beside}
use Rattle.luks2_header.proofs.CopyFacts.{listed_at_least}
use Rattle.luks2_editing.proofs.RenewalFacts.{metadata_here, prepared_unrefused, size_is, sound_here, written_after}

-- ---- the keyslot's area

module _ (v : List ℕ) (payload : Data) (copy : ChosenCopy) (x : IsChosenCopy v copy) (well : WellFormed v payload)
    (slot : ℕ) (by_ : Option ℕ) (passphrase : Secret) (random : List ℕ) (before : HasNoFaultBefore 20 v payload (Remove slot by_ passphrase) random) where
  pub removal_passed : Passed (IsEditFault2 v payload (Remove slot by_ passphrase) random) 21
  removal_passed =
      let s = IsEditFault2 v payload (Remove slot by_ passphrase) random in
      after_token s (passed_from s 20 before.each) (λ f bad. bad.is)

  module _ (area : Area) (is : IsKeyArea (content copy.meta) slot area) where
    module _ (new : Value) (made : new ≡ without_slot slot (content copy.meta)) (w y : List ℕ)
        (ready : IsPrepared copy.header.seqid (area_len copy.meta) new random 128)
        (anew : AreWrittenAnew v copy.header.hdr_offset (Remove slot by_ passphrase) random new w)
        (copies : SameBut (IsOfCopies copy.header.hdr_size) v w) (lost : SameBut (IsAt area.start area.len) w y) where
      anew_kept : AreWrittenAnew v copy.header.hdr_offset (Remove slot by_ passphrase) random new y
      anew_kept =
          let size : 16384 ≤ hdr_size (header_at v copy.header.hdr_offset) = listed_at_least (hdr_size (header_at v copy.header.hdr_offset)) (sound_here v payload copy x well).form.listed in
          both_beside v copy.header.hdr_offset (Remove slot by_ passphrase) random new w y (IsAt area.start area.len) (omega (arith, size)) lost
          (beside_first v payload copy x well slot area is) (beside_second v payload copy x well slot area is) anew

      rest_touched : SameBut (IsTouchedUpTo slot (hdr_size (header_at v copy.header.hdr_offset)) (length v) payload (content copy.meta) (Remove slot by_ passphrase)) v y
      rest_touched = same_but-then
          (same_but-wider (λ p at. inl at) (subst (λ n. SameBut (IsOfCopies n) v w) (sym (size_is v payload copy x well)) copies))
          (same_but-wider (λ p at. inr (inr (record { lost = record { slot = slot; loses = refl; is = record { area = area; is = is; at = at } }; low = omega arith }))) lost)

      -- while it was overwritten
      pub torn_lost : Leftover2 v payload (Remove slot by_ passphrase) random y
      torn_lost = inr (
        prepared_unrefused v payload copy x well (Remove slot by_ passphrase) random new removal_passed (λ salt. made) (λ salt k same. same ∙ sym made) 128 refl (λ k same. same) (λ u. tt) ready,
        record {
          place = copy.header.hdr_offset;
          value = content copy.meta;
          metadata = metadata_here v payload copy x well;
          new = new;
          edited = made;
          torn = inr (inr (inr (record {
            sealed = tt;
            first = anew_kept.first;
            second = anew_kept.second;
            slot = slot;
            loses = refl;
            wiped = λ n low loses. (let same : n ≡ slot = loses in absurd (omega (arith, low, same)));
            rest = rest_touched;
          })));
        },
      )

      -- once it was
      pub removed_after : part y area.start area.len ≡ replicate area.len 0 → After2 v payload (Remove slot by_ passphrase) random y
      removed_after wiped =
          written_after v payload copy x well (Remove slot by_ passphrase) random new removal_passed (λ salt. made) (λ salt k same. same ∙ sym made) 128 refl (λ k same. same) (λ u. tt) y
          (λ n same a there.
          let other : IsKeyArea (content copy.meta) slot a = subst (λ m. IsKeyArea (content copy.meta) m a) same there in
          let begins = other.1 in
          let mine = is.1 in
          let long = other.2 in
          let my_long = is.2 in
          let starts : a.start ≡ area.start = cc (begins, mine) in
          let lens : a.len ≡ area.len = cc (long, my_long) in
          rw (starts, lens) wiped)
          anew_kept (all_touched slot (hdr_size (header_at v copy.header.hdr_offset)) (length v) payload (content copy.meta) (Remove slot by_ passphrase) v y rest_touched)
