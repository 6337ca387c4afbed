-- A keyslot of a LUKS2 volume that is sealed again: its new area, and what the edit leaves.
use Rattle.std.proofs.Common.{◌≡◌, ℕ, ◌≤◌, Bor, List, length, replicate, codes, false, option_and_then, inl, inr, refl, sym, ap, ◌∙◌, subst, arith}
use Rattle.std.proofs.lemmas.Option.{same_Some}
use Rattle.serde_json.specs.Data.{Data as Value}
use Rattle.serde_json.specs.Find.{get}
use Rattle.luks_area.specs.declared.area.Area.{Area}
use Rattle.luks_area.specs.declared.area.AreaName.TheVariants.{Slot}
use Rattle.luks_area.specs.Ranges.{part, IsAt, IsOfEither, SameBut}
use Rattle.luks_area.proofs.RangeFacts.{part-same_but, same_but-then, same_but-wider}
use Rattle.luks2_header.specs.Header2.{header_at, hdr_size}
use Rattle.luks_rules.specs.declared.table.Outer.TheVariants as outer
use Rattle.luks_rules.specs.Reading.{number_in}
use Rattle.luks_rules.specs.Sizes.{inside_at}
use Rattle.luks_making.specs.declared.derivation.AskedDerivation.{AskedDerivation}
use Rattle.luks_making.specs.Changed.{renewed_slot}
use Rattle.luks_making.specs.Derivations.{asked_beyond}
use Rattle.luks_slot.specs.declared.fault.SlotFault.{SlotFault}
use Rattle.luks_slot.specs.Opening.{area_bytes}
use Rattle.luks_slot.specs.Sealing.{IsSealed}
use Rattle.luks_meta.specs.Content.{content}
use Rattle.luks_reading.specs.declared.header.ChosenCopy.{ChosenCopy}
use Rattle.luks_reading.specs.declared.report.Data.{Data}
use Rattle.luks_reading.specs.Checked.{WellFormed}
use Rattle.luks_reading.specs.Header.{IsChosenCopy}
use Rattle.luks_edit.specs.declared.edit.Edit.TheVariants.{Change}
use Rattle.luks_edit.specs.declared.edit.Opener.TheVariants as opener
use Rattle.luks_edit.specs.Asked.{allowed_for}
use Rattle.luks2_edit_laws.specs.declared.like.Like.TheVariants.{Keyslot}
use Rattle.luks_edit.specs.declared.edit.Secret.{Secret}
use Rattle.luks2_edit_laws.specs.Edited.{keyslot_salt, members_of, stripes_random, After2, Gives2, HoldsKey, IsEdited}
use Rattle.luks2_edit_laws.specs.Leftovers.{Leftover2}
use Rattle.luks2_edit_laws.specs.Metadata.{HasStripes, IsKeyArea}
use Rattle.luks2_edit_laws.specs.Places.{IsNewArea, IsOfCopies, IsTouchedUpTo}
use Rattle.luks2_edit_laws.specs.Refused.{IsUnrefused2}
use Rattle.luks2_edit_laws.proofs.AlikeFacts.{SaysLike}
use Rattle.luks2_edit_laws.proofs.SealFacts.{opened_plan, IsOpened}
use Rattle.luks2_edit_laws.proofs.TouchedFacts.{all_touched}
use Rattle.luks2_judging.specs.Rows.{HasNoFaultBefore}
use Rattle.luks2_judging.specs.declared.judged.Renewal.{Renewal}
use Rattle.luks2_editing.specs.declared.sealed_metadata.SealedSlot.TheVariants.{Renewed}
use Rattle.luks2_editing.specs.MadeMetadata.{IsSealedAgain, IsSealingEdit}
use Rattle.luks2_editing.specs.Rewriting.{AreWrittenAnew}
use Rattle.luks2_editing.specs.SealedKeyslot.{HasRefusedKeyslot, IsKeyslotWritten, IsOfStripesOf, IsSealing}
use Rattle.luks2_judging.proofs.KeyAreaFacts.{area_of_object}
use Rattle.luks2_editing.proofs.LostFacts.{beside_first, beside_second, both_beside}
use Rattle.luks2_editing.proofs.NewKeyslotFacts.{alike_place, same_len, same_start, torn_leftover, SealsLike}
use Rattle.luks2_editing.proofs.PlanFacts.{like_changed, like_unrefused, long_salt}
use Rattle.luks2_header.proofs.CopyFacts.{listed_at_least}
use Rattle.luks2_editing.proofs.RenewalFacts.{metadata_here, sound_here}

-- ---- the keyslot in the new metadata

module _ (j k : Value) (slot : ℕ) (derivation : AskedDerivation) (salt : List ℕ) (area : Area) (made : IsSealedAgain slot (members_of derivation salt area) j k) where
  -- its stripes are as before
  stripes_stay : (bytes stripes : ℕ) → HasStripes j slot bytes stripes → HasStripes k slot bytes stripes
  stripes_stay bytes stripes x =
      let was = made.changes.was in
      let says = made.changes.says in
      let object : was ≡ x.object = same_Some was x.object (sym made.changes.there.is ∙ x.there.is) in
      record {
        object = renewed_slot (members_of derivation salt area) was;
        there = record { numbered = refl; named = made.changes.there.named; is = made.changes.is };
        key_bytes_are = ap (number_in 1 128) (says.members (codes "key_size") refl)
            ∙ ap (λ o. number_in 1 128 (inside_at outer.Top (codes "key_size") o)) object ∙ x.key_bytes_are;
        stripes_are = ap (λ a. number_in 1 4294967295 (option_and_then (get (codes "stripes")) a)) (says.members (codes "af") refl)
            ∙ ap (λ o. number_in 1 4294967295 (inside_at outer.Af (codes "stripes") o)) object ∙ x.stripes_are;
      }

  -- its area is the new one
  area_there : IsKeyArea k slot area
  area_there = area_of_object k (renewed_slot (members_of derivation salt area) made.changes.was) slot area.start area.len
      made.changes.there.named made.changes.is made.changes.says.offset made.changes.says.size

  pub renewed_alike : SealsLike j k (Keyslot slot) slot area
  renewed_alike = record { stripes = stripes_stay; place = area_there }

-- ---- the volume

-- what an edit that seals it again seals, once its rows up to that of the label were judged
pub renewal_seals : (v : List ℕ) (payload : Data) (copy : ChosenCopy) (r : Renewal) (old : Secret) (new : Bor (List ℕ)) (key random : List ℕ)
    → IsChosenCopy v copy → WellFormed v payload → HasNoFaultBefore 20 v payload (Change r.slot old new r.derivation.iterations r.derivation.chosen) random
    → Gives2 (allowed_for (opener.Keyslot r.slot old) new.now) v (opener.Keyslot r.slot old) key
    → IsNewArea (hdr_size (header_at v copy.header.hdr_offset)) (length v) payload (content copy.meta) (Keyslot r.slot) r.area
    → IsSealingEdit v payload (Change r.slot old new r.derivation.iterations r.derivation.chosen) random copy (record { keyslot = Renewed r.slot; derivation = r.derivation; area = r.area })
renewal_seals v payload copy r old new key random x well before opened place = record {
  chosen = x;
  well = well;
  before = before;
  asked = (refl, refl);
  place = place;
  key = key;
  opened = opened;
}

module _ (v : List ℕ) (payload : Data) (copy : ChosenCopy) (x : IsChosenCopy v copy) (well : WellFormed v payload)
    (slot : ℕ) (old : Secret) (new : Bor (List ℕ)) (derivation : AskedDerivation) (key random : List ℕ) (area : Area) (k : Value)
    (opened : Gives2 (allowed_for (opener.Keyslot slot old) new.now) v (opener.Keyslot slot old) key)
    (place : IsNewArea (hdr_size (header_at v copy.header.hdr_offset)) (length v) payload (content copy.meta) (Keyslot slot) area)
    (made : IsSealedAgain slot (members_of derivation (keyslot_salt random) area) (content copy.meta) k) where
  -- what is sealed is of the edit
  pub change_sealing : IsSealing v payload (Change slot old new derivation.iterations derivation.chosen) random copy.header.hdr_offset (content copy.meta) k slot new.now key
  change_sealing = record {
    sealed = λ w holds. record { slot = slot; is_made = refl; key = key; opened = opened; holds = holds };
    place = λ p at. record {
      like = Keyslot slot;
      is_like = refl;
      has = alike_place (content copy.meta) k (Keyslot slot) slot area (renewed_alike (content copy.meta) k slot derivation (keyslot_salt random) area made)
          (hdr_size (header_at v copy.header.hdr_offset)) (length v) payload p place at;
    };
  }

  -- its plan isn't refused
  pub renewed_unrefused : 160 ≤ length random → asked_beyond (allowed_for (opener.Keyslot slot old) new.now).memory derivation ≡ false → (g : SlotFault) → HasRefusedKeyslot (allowed_for (opener.Keyslot slot old) new.now) k slot g → ⊥
  renewed_unrefused enough within g y =
      let j : Value = content copy.meta in
      let was : IsOpened (allowed_for (opener.Keyslot slot old) new.now) v copy.header.hdr_offset j slot = opened_plan old.kind (allowed_for (opener.Keyslot slot old) new.now) v copy.header.hdr_offset j slot old.bytes.now key (metadata_here v payload copy x well) opened in
      let now : renewed_slot (members_of derivation (keyslot_salt random) area) made.changes.was ≡ y.object =
      same_Some (renewed_slot (members_of derivation (keyslot_salt random) area) made.changes.was) y.object (sym made.changes.is ∙ y.there.is) in
      let object : made.changes.was ≡ was.object = same_Some made.changes.was was.object (sym made.changes.there.is ∙ was.there) in
      let like : SaysLike (allowed_for (opener.Keyslot slot old) new.now) made.changes.was (renewed_slot (members_of derivation (keyslot_salt random) area) made.changes.was) =
      like_changed (allowed_for (opener.Keyslot slot old) new.now) made.changes.was (renewed_slot (members_of derivation (keyslot_salt random) area) made.changes.was)
      (members_of derivation (keyslot_salt random) area) made.changes.says (long_salt random enough) within in
      like_unrefused j k slot slot g was y (subst (λ d. SaysLike (allowed_for (opener.Keyslot slot old) new.now) d y.object) object (subst (λ d. SaysLike (allowed_for (opener.Keyslot slot old) new.now) made.changes.was d) now like))
      (λ m is. (made.changes.naming slot m).0 is) made.changes.rest.digests

  module _ (free : IsUnrefused2 v payload (Change slot old new derivation.iterations derivation.chosen) random)
      (edited : IsEdited (hdr_size (header_at v copy.header.hdr_offset)) (length v) payload (Change slot old new derivation.iterations derivation.chosen) (keyslot_salt random) (content copy.meta) k) where
    -- ---- the old area

    module _ (lost : Area) (is : IsKeyArea (content copy.meta) slot lost) (w y : List ℕ)
        (written : IsKeyslotWritten v copy.header.hdr_offset (Change slot old new derivation.iterations derivation.chosen) random k slot new.now key w)
        (wiping : SameBut (IsAt lost.start lost.len) w y) where
      -- the new one lies beside it
      apart : (a : Area) → IsKeyArea k slot a → (p : ℕ) → IsAt a.start a.len p → IsAt lost.start lost.len p → ⊥
      apart a there p here at =
          let new_there = area_there (content copy.meta) k slot derivation (keyslot_salt random) area made in
          let start : a.start ≡ area.start = same_start k slot a area there new_there in
          let len : a.len ≡ area.len = same_len k slot a area there new_there in
          let low = here.0 in
          let high = here.1 in
          place.gap.gap.free (Slot slot) lost is p at (omega (arith, low, start), omega (arith, high, start, len))

      holds_kept : HoldsKey y k slot new.now key (stripes_random random)
      holds_kept =
          let h : HoldsKey w k slot new.now key (stripes_random random) = written.holds in
          let there : IsKeyArea k slot h.plan.area =
          area_of_object k h.object slot h.plan.area.start h.plan.area.len h.there.named h.there.is h.is.start h.is.len in
          let same : area_bytes y h.plan.area ≡ area_bytes w h.plan.area =
          part-same_but h.plan.area.start h.plan.area.len wiping (λ p here at. apart h.plan.area there p here at) in
          record {
            object = h.object;
            there = h.there;
            plan = h.plan;
            is = h.is;
            key_length = h.key_length;
            random_length = h.random_length;
            sealed = subst (λ l. IsSealed h.plan l new.now key (stripes_random random)) (sym same) h.sealed;
          }

      anew_kept : AreWrittenAnew v copy.header.hdr_offset (Change slot old new derivation.iterations derivation.chosen) random k y
      anew_kept =
          let size : 16384 ≤ hdr_size (header_at v copy.header.hdr_offset) =
          listed_at_least (hdr_size (header_at v copy.header.hdr_offset)) (sound_here v payload copy x well).form.listed in
          both_beside v copy.header.hdr_offset (Change slot old new derivation.iterations derivation.chosen) random k w y (IsAt lost.start lost.len) (omega (arith, size)) wiping
          (beside_first v payload copy x well slot lost is) (beside_second v payload copy x well slot lost is) written.anew

      rest_touched : SameBut (IsTouchedUpTo slot (hdr_size (header_at v copy.header.hdr_offset)) (length v) payload (content copy.meta) (Change slot old new derivation.iterations derivation.chosen)) v y
      rest_touched = same_but-then
          (same_but-wider (λ p at. of_written p at) written.rest)
          (same_but-wider (λ p at. inr (inr (record { lost = record { slot = slot; loses = refl; is = record { area = lost; is = is; at = at } }; low = omega arith }))) wiping)
        where
          of_written : (p : ℕ) → IsOfEither (IsOfStripesOf k slot) (IsOfCopies (hdr_size (header_at v copy.header.hdr_offset))) p
              → IsTouchedUpTo slot (hdr_size (header_at v copy.header.hdr_offset)) (length v) payload (content copy.meta) (Change slot old new derivation.iterations derivation.chosen) p
          of_written p (inl at) = inr (inl (change_sealing.place p at))
          of_written p (inr at) = inl at

      -- while it was overwritten
      pub torn_lost : Leftover2 v payload (Change slot old new derivation.iterations derivation.chosen) random y
      torn_lost = torn_leftover v payload copy x well (Change slot old new derivation.iterations derivation.chosen) random k free edited y (inr (inr (inr (record {
        sealed = change_sealing.sealed y holds_kept;
        first = anew_kept.first;
        second = anew_kept.second;
        slot = slot;
        loses = refl;
        wiped = λ n low loses. (let same : n ≡ slot = loses in absurd (omega (arith, low, same)));
        rest = rest_touched;
      }))))

      -- once it was
      pub changed_after : part y lost.start lost.len ≡ replicate lost.len 0 → After2 v payload (Change slot old new derivation.iterations derivation.chosen) random y
      changed_after wiped = record {
        place = copy.header.hdr_offset;
        value = content copy.meta;
        metadata = metadata_here v payload copy x well;
        new = k;
        edited = edited;
        first = anew_kept.first;
        second = anew_kept.second;
        sealed = change_sealing.sealed y holds_kept;
        wiped = λ n same a there.
            (let other : IsKeyArea (content copy.meta) slot a = subst (λ m. IsKeyArea (content copy.meta) m a) same there in
            let starts : a.start ≡ lost.start = same_start (content copy.meta) slot a lost other is in
            let lens : a.len ≡ lost.len = same_len (content copy.meta) slot a lost other is in
            rw (starts, lens) wiped);
        rest = all_touched slot (hdr_size (header_at v copy.header.hdr_offset)) (length v) payload (content copy.meta) (Change slot old new derivation.iterations derivation.chosen) v y rest_touched;
      }
