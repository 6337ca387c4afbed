-- The keyslots of a LUKS2 volume that are erased: their areas, and the copies beside them.
use Rattle.std.proofs.Common.{◌≡◌, ℕ, ◌≤◌, List, length, inl, inr, refl, sym, ◌∙◌, subst, arith}
use Rattle.serde_json.specs.Data.{Data as Value}
use Rattle.luks_area.specs.declared.area.Area.{Area}
use Rattle.luks_area.specs.declared.area.AreaName.TheVariants.{Slot}
use Rattle.luks_area.specs.declared.areas.Entry.{Entry}
use Rattle.luks_area.specs.Names.{HasArea}
use Rattle.luks_area.specs.Ranges.{SameBut}
use Rattle.luks_area.proofs.RangeFacts.{same_but-then, same_but-wider}
use Rattle.luks2_header.specs.Header2.{header_at, hdr_size}
use Rattle.luks2_header.proofs.CopyFacts.{listed_at_least}
use Rattle.luks_making.specs.Without.{without_slots}
use Rattle.luks_meta.specs.Content.{area_len, content}
use Rattle.luks_reading.specs.declared.header.ChosenCopy.{ChosenCopy}
use Rattle.luks_reading.specs.declared.report.Data.{Data}
use Rattle.luks_reading.specs.Checked.{WellFormed}
use Rattle.luks_reading.specs.Header.{IsChosenCopy}
use Rattle.luks_reading.specs.Layout2.{Luks2Area}
use Rattle.luks_reading.specs.Listing.{Lists}
use Rattle.luks_reading.proofs.VolumeLaws.{well_formed_fits}
use Rattle.luks_edit.specs.declared.edit.Edit.TheVariants.{Erase}
use Rattle.luks_edit.proofs.RowFacts.{after_token, passed_from, Passed}
use Rattle.luks2_edit_laws.specs.Edited.{After2}
use Rattle.luks2_edit_laws.specs.Leftovers.{Leftover2}
use Rattle.luks2_edit_laws.specs.Metadata.{IsKeyArea}
use Rattle.luks2_edit_laws.specs.Places.{IsOfCopies, IsTouched}
use Rattle.luks2_edit_laws.specs.Refused.{IsEditFault2}
use Rattle.luks2_judging.specs.Rows.{HasNoFaultBefore}
use Rattle.luks2_editing.specs.Prepared.{IsPrepared}
use Rattle.luks2_editing.specs.Rewriting.{AreWrittenAnew}
use Rattle.luks2_editing.specs.Wiping.{AreApart, AreWiped, AreWipedInPart, IsOfKeyslots}
use Rattle.luks2_editing.proofs.LostFacts.{area_named, beside_first, beside_second, both_beside}
use Rattle.luks2_editing.proofs.RenewalFacts.{metadata_here, prepared_unrefused, size_is, sound_here, written_after}

-- ---- the areas of a copy's keyslots

-- a list has those of the metadata `j`, and of keyslots no others
pub record ListsKeyslots (j : Value) (areas : List Entry) : Type 0 where
  pub only : (n : ℕ) (a : Area) → HasArea areas (Slot n) a → IsKeyArea j n a
  pub all : (n : ℕ) (a : Area) → IsKeyArea j n a → HasArea areas (Slot n) a

-- so has one with all areas
pub keyslots_listed : (j : Value) (h total : ℕ) (payload : Data) (entries areas : List Entry) → areas ≡ entries → Lists entries (Luks2Area j h payload total) → ListsKeyslots j areas
keyslots_listed j h total payload entries areas same lists = rw same (record {
  only = λ n a has. lists.only (Slot n) a has;
  all = λ n a is. lists.all (Slot n) a is;
})

module _ (v : List ℕ) (payload : Data) (copy : ChosenCopy) (x : IsChosenCopy v copy) (well : WellFormed v payload) (areas : List Entry)
    (lists : ListsKeyslots (content copy.meta) areas) where
  -- no two of them share a byte
  pub areas_apart : AreApart areas
  areas_apart m n a b one two other =
      (well_formed_fits v payload well).fit.disjoint (Slot m) (Slot n) a b (area_named v payload copy x well m a (lists.only m a one)) (area_named v payload copy x well n b (lists.only n b two))
      (λ same. other (ap_number same))
    where
      ap_number : {m n : ℕ} → Slot m ≡ Slot n → m ≡ n
      ap_number same = cc

  module _ (random : List ℕ) (before : HasNoFaultBefore 20 v payload Erase random) where
    pub erasure_passed : Passed (IsEditFault2 v payload Erase random) 21
    erasure_passed =
        let s = IsEditFault2 v payload Erase random in
        after_token s (passed_from s 20 before.each) (λ f bad. bad.is)

    module _ (new : Value) (made : new ≡ without_slots (content copy.meta)) (w y : List ℕ)
        (ready : IsPrepared copy.header.seqid (area_len copy.meta) new random 128)
        (anew : AreWrittenAnew v copy.header.hdr_offset Erase random new w)
        (copies : SameBut (IsOfCopies copy.header.hdr_size) v w) (wiping : SameBut (IsOfKeyslots areas) w y) where
      anew_kept : AreWrittenAnew v copy.header.hdr_offset Erase random new y
      anew_kept =
          let size : 16384 ≤ hdr_size (header_at v copy.header.hdr_offset) = listed_at_least (hdr_size (header_at v copy.header.hdr_offset)) (sound_here v payload copy x well).form.listed in
          both_beside v copy.header.hdr_offset Erase random new w y (IsOfKeyslots areas) (omega (arith, size)) wiping
          (λ p here is. beside_first v payload copy x well is.slot is.area (lists.only is.slot is.area is.has) p here is.at)
          (λ p here is. beside_second v payload copy x well is.slot is.area (lists.only is.slot is.area is.has) p here is.at) anew

      copies_here : SameBut (IsOfCopies (hdr_size (header_at v copy.header.hdr_offset))) v w
      copies_here = subst (λ n. SameBut (IsOfCopies n) v w) (sym (size_is v payload copy x well)) copies

      rest_touched : SameBut (IsTouched (hdr_size (header_at v copy.header.hdr_offset)) (length v) payload (content copy.meta) Erase) v y
      rest_touched = same_but-then
          (same_but-wider (λ p at. inl at) copies_here)
          (same_but-wider (λ p is. inr (inr (record { slot = is.slot; loses = tt; is = record { area = is.area; is = lists.only is.slot is.area is.has; at = is.at } }))) wiping)

      -- while one was overwritten
      pub torn_areas : AreWipedInPart areas w y → Leftover2 v payload Erase random y
      torn_areas part_ = inr (
        prepared_unrefused v payload copy x well Erase random new erasure_passed (λ salt. made) (λ salt k same. same ∙ sym made) 128 refl (λ k same. same) (λ u. tt) ready,
        record {
          place = copy.header.hdr_offset;
          value = content copy.meta;
          metadata = metadata_here v payload copy x well;
          new = new;
          edited = made;
          torn = inr (inr (inr (record {
            sealed = tt;
            first = anew_kept.first;
            second = anew_kept.second;
            slot = part_.slot;
            loses = tt;
            wiped = λ n low loses a is. part_.wiped n a low (lists.all n a is);
            rest = same_but-then
                (same_but-wider (λ p at. inl at) copies_here)
                (same_but-wider (λ p to. inr (inr (record {
                  lost = record { slot = to.is.slot; loses = tt; is = record { area = to.is.area; is = lists.only to.is.slot to.is.area to.is.has; at = to.is.at } };
                  low = to.low;
                }))) part_.rest);
          })));
        },
      )

      -- once all were
      pub erased_after : AreWiped areas y → After2 v payload Erase random y
      erased_after wiped =
          written_after v payload copy x well Erase random new erasure_passed (λ salt. made) (λ salt k same. same ∙ sym made) 128 refl (λ k same. same) (λ u. tt) y
          (λ n loses a is. wiped n a (lists.all n a is)) anew_kept rest_touched
