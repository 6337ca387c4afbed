-- A LUKS1 volume of which only some keyslots' entries and areas, and the uuid's field, were changed.
use Rattle.std.proofs.Common.{◌≡◌, ℕ, ◌+◌, ◌-◌, ◌*◌, ◌<◌, ◌≤◌, ◌⊎◌, List, length, subst, refl, sym, ap, ◌∙◌, arith, inl, inr, lit≤}
use Rattle.std.proofs.lemmas.Bool.{cases_eq}
use Rattle.luks_area.specs.declared.area.Area.{Area}
use Rattle.luks_area.specs.declared.area.AreaName.{AreaName}
use Rattle.luks_area.specs.declared.area.AreaName.TheVariants.{Head1, Head2, Slot, Segment}
use Rattle.luks_area.specs.Area.{Fit, name_number}
use Rattle.luks_area.specs.Ranges.{part, IsAt, IsOfEither, SameBut}
use Rattle.luks_area.proofs.RangeFacts.{length-part_inside, part-same_but, same_but-wider}
use Rattle.luks_area.specs.Sectors.{rounded_to_sectors}
use Rattle.luks1_header.specs.Bytes.{number_at}
use Rattle.luks1_header.specs.Faults.{HasUnknownState, LacksIterations, IsLuks1Fault as IsLuks1HeadFault}
use Rattle.luks1_header.specs.Header1.{entry, entry_stripes}
use Rattle.luks1_header.specs.declared.fault.HeadFault.{HeadFault}
use Rattle.luks1_header.specs.declared.fault.HeadFault.TheVariants as fault
use Rattle.luks1_header.specs.declared.fault.IterationsOf.TheVariants as of
use Rattle.luks1_header.proofs.Luks1HeaderFacts.{header_found}
use Rattle.luks2_header.specs.declared.selection.Copies.{Copies}
use Rattle.luks2_header.specs.Selection.{luks1, luks2, Chosen}
use Rattle.luks2_header.proofs.ChoiceFacts.{choices_agree}
use Rattle.luks_reading.specs.declared.report.Data.{Data}
use Rattle.luks_reading.specs.Checked.{AreaOf, HasAreaAs, IsLuks1Volume, WellFormed}
use Rattle.luks_reading.specs.Layout1.{Luks1Area}
use Rattle.luks_edit.specs.Kept.{KeepsArea, KeepsSlot}
use Rattle.luks1_edits.specs.Kept.{AreKeyslots, ChangesKeyslots, HasSameCommon, HasSameKeyslot, IsEither, IsFitFor, KeepsEntries, KeepsEntry, KeepsOthers}
use Rattle.luks1_edits.specs.Places.{area_len, area_start, entry_place, IsOfKeyslot, IsOfKeyslots, IsOfUuid}
use Rattle.luks1_edits.proofs.HeaderFacts.{chosen_moves, common_moves, entry_is, header_clear, header_moves, len_is, number_same, same_common, same_common_back, start_is, volume_of}
use Rattle.luks1_edits.proofs.AnswerFacts.{answer_moves, answer_returns}

-- ---- the areas of a volume, by its header

pub keyslot_area : List ℕ → ℕ → Area
keyslot_area v n = record { start = area_start v n; len = area_len v n }

pub has_keyslot : (v : List ℕ) (payload : Data) (total n : ℕ) → n < 8 → Luks1Area (part v 0 592) payload total (Slot n) (keyslot_area v n)
unfolding keyslot_area
has_keyslot v payload total n lt = (lt, sym (start_is v n lt), sym (len_is v n lt))

pub header_area : Area
header_area = record { start = 0; len = 592 }

pub has_header : (h : List ℕ) (payload : Data) (total : ℕ) → Luks1Area h payload total Head1 header_area
unfolding header_area
has_header h payload total = (refl, refl)

-- the header lies inside
pub header_inside : (h : List ℕ) (payload : Data) (total : ℕ) → IsLuks1Volume h payload total → 592 ≤ total
unfolding header_area
header_inside h payload total whole = let inside = whole.fit.inside Head1 header_area (has_header h payload total) in omega (arith, inside)

-- ---- areas that don't meet

module _ (v : List ℕ) (payload : Data) (fit : Fit (Luks1Area (part v 0 592) payload (length v)) (length v)) where
  areas_apart : (m n p : ℕ) → m < 8 → n < 8 → (m ≡ n → ⊥) → IsAt (area_start v m) (area_len v m) p → IsAt (area_start v n) (area_len v n) p → ⊥
  unfolding keyslot_area
  areas_apart m n p ltm ltn other at_m at_n =
      fit.disjoint (Slot m) (Slot n) (keyslot_area v m) (keyslot_area v n) (has_keyslot v payload (length v) m ltm) (has_keyslot v payload (length v) n ltn)
      (λ e. other (ap name_number e)) p at_m at_n

  -- no place of the header is of a keyslot's area
  pub header_apart : (n p : ℕ) → n < 8 → p < 592 → IsAt (area_start v n) (area_len v n) p → ⊥
  unfolding keyslot_area header_area
  header_apart n p lt below at =
      fit.disjoint Head1 (Slot n) header_area (keyslot_area v n) (has_header (part v 0 592) payload (length v)) (has_keyslot v payload (length v) n lt)
      (λ e. cc) p (omega arith, omega arith) at

  -- a keyslot's area is inside
  pub area_inside : (n : ℕ) → n < 8 → area_start v n + area_len v n ≤ length v
  unfolding keyslot_area
  area_inside n lt = fit.inside (Slot n) (keyslot_area v n) (has_keyslot v payload (length v) n lt)

  segment_apart : (m n p : ℕ) (a : Area) → m < 8 → Luks1Area (part v 0 592) payload (length v) (Segment n) a
      → IsAt a.start a.len p → IsOfKeyslot v m p → ⊥
  unfolding keyslot_area header_area
  segment_apart m n p a lt has at (inl in_entry) =
      fit.disjoint Head1 (Segment n) header_area a (has_header (part v 0 592) payload (length v)) has (λ e. cc) p (omega arith, omega arith) at
  segment_apart m n p a lt has at (inr in_area) =
      fit.disjoint (Slot m) (Segment n) (keyslot_area v m) a (has_keyslot v payload (length v) m lt) has (λ e. cc) p in_area at

  -- those of the uuid are of none, and of no segment
  entry_not_uuid : (n p : ℕ) → IsAt (entry_place n) 48 p → IsOfUuid p → ⊥
  entry_not_uuid n p at uuid = let low = at.0 in let high = uuid.1 in omega (arith, low, high)

  area_not_uuid : (n p : ℕ) → n < 8 → IsAt (area_start v n) (area_len v n) p → IsOfUuid p → ⊥
  area_not_uuid n p lt at uuid = let high = uuid.1 in header_apart n p lt (omega (arith, high)) at

  segment_not_uuid : (n p : ℕ) (a : Area) → Luks1Area (part v 0 592) payload (length v) (Segment n) a → IsAt a.start a.len p → IsOfUuid p → ⊥
  unfolding header_area
  segment_not_uuid n p a has at uuid =
      let high = uuid.1 in
      fit.disjoint Head1 (Segment n) header_area a (has_header (part v 0 592) payload (length v)) has (λ e. cc) p (omega arith, omega (arith, high)) at

  -- the places of one keyslot aren't of another
  pub entry_apart : (m n p : ℕ) → m < 8 → n < 8 → (m ≡ n → ⊥) → IsAt (entry_place n) 48 p → IsOfKeyslot v m p → ⊥
  entry_apart m n p ltm ltn other at (inl in_entry) = let low = at.0 in let high = at.1 in let from = in_entry.0 in let to = in_entry.1 in omega (arith, other, low, high, from, to)
  entry_apart m n p ltm ltn other at (inr in_area) = let high = at.1 in header_apart m p ltm (omega (arith, high, ltn)) in_area

  pub area_apart : (m n p : ℕ) → m < 8 → n < 8 → (m ≡ n → ⊥) → IsAt (area_start v n) (area_len v n) p → IsOfKeyslot v m p → ⊥
  area_apart m n p ltm ltn other at (inl in_entry) = let to = in_entry.1 in header_apart n p ltn (omega (arith, to, ltm)) at
  area_apart m n p ltm ltn other at (inr in_area) = areas_apart m n p ltm ltn other in_area at

  pub common_apart : (m p : ℕ) → m < 8 → p < 208 → IsOfKeyslot v m p → ⊥
  common_apart m p lt below (inl in_entry) = let from = in_entry.0 in omega (arith, from, below)
  common_apart m p lt below (inr in_area) = header_apart m p lt (omega (arith, below)) in_area

  module _ (w : List ℕ) (named : ℕ → Type 0) (keyslots : AreKeyslots named) (same : SameBut (IsOfEither (IsOfKeyslots v named) IsOfUuid) v w) where
    differs : (n : ℕ) → (named n → ⊥) → (m : ℕ) → named m → m ≡ n → ⊥
    differs n not m is e = not (subst named e is)

    kept_front : part w 0 168 ≡ part v 0 168
    kept_front = part-same_but 0 168 same (λ p at either.
        let high = at.1 in
        elim either [
          | inl x ↦ common_apart x.keyslot p (keyslots.numbered x.keyslot x.is_named) (omega (arith, high)) x.of
          | inr uuid ↦ (let low = uuid.0 in omega (arith, low, high))
        ])

    kept_entry : (n : ℕ) → n < 8 → (named n → ⊥) → entry w n ≡ entry v n
    kept_entry n lt not = part-same_but (entry_place n) 48 same (λ p at either. elim either [
      | inl x ↦ entry_apart x.keyslot n p (keyslots.numbered x.keyslot x.is_named) lt (differs n not x.keyslot x.is_named) at x.of
      | inr uuid ↦ entry_not_uuid n p at uuid
    ])

    kept_area : (n : ℕ) → n < 8 → (named n → ⊥) → part w (area_start v n) (area_len v n) ≡ part v (area_start v n) (area_len v n)
    kept_area n lt not = part-same_but (area_start v n) (area_len v n) same (λ p at either. elim either [
      | inl x ↦ area_apart x.keyslot n p (keyslots.numbered x.keyslot x.is_named) lt (differs n not x.keyslot x.is_named) at x.of
      | inr uuid ↦ area_not_uuid n p lt at uuid
    ])

    kept_segment : (n : ℕ) (a : Area) → Luks1Area (part v 0 592) payload (length v) (Segment n) a → part w a.start a.len ≡ part v a.start a.len
    kept_segment n a has = part-same_but a.start a.len same (λ p at either. elim either [
      | inl x ↦ segment_apart x.keyslot n p a (keyslots.numbered x.keyslot x.is_named) has at x.of
      | inr uuid ↦ segment_not_uuid n p a has at uuid
    ])

    -- where the uuid's field has the same faults, a keyslot that isn't named has all that its answer depends on
    same_with_uuid : HasSameCommon v w → (n : ℕ) → (named n → ⊥) → HasSameKeyslot n v w
    same_with_uuid common n not = record {
      length_same = same.length_same;
      common = common;
      entry = λ lt. kept_entry n lt not;
      area = λ lt. kept_area n lt not;
    }

  -- where the uuid's field is as it was too
  module _ (w : List ℕ) (named : ℕ → Type 0) (keyslots : AreKeyslots named) (same : SameBut (IsOfKeyslots v named) v w) where
    pub kept_common : HasSameCommon v w
    kept_common = same_common v w (part-same_but 0 208 same
        (λ p at x. common_apart x.keyslot p (keyslots.numbered x.keyslot x.is_named) (let high = at.1 in omega (arith, high)) x.of))

    pub same_keyslot : (n : ℕ) → (named n → ⊥) → HasSameKeyslot n v w
    same_keyslot n not = same_with_uuid w named keyslots (same_but-wider (λ p x. inl x) same) kept_common n not

-- ---- what is kept

pub luks1_area_of : (v : List ℕ) (payload : Data) (n : AreaName) (a : Area) → Chosen v luks1 → AreaOf v payload n a → Luks1Area (part v 0 592) payload (length v) n a
luks1_area_of v payload n a chosen x = subst (λ c. HasAreaAs v payload c n a) (choices_agree v x.choice luks1 x.chosen chosen) x.area

-- the areas of the volume are those of its header
luks1_area_in : (v : List ℕ) (payload : Data) (n : AreaName) (a : Area) → Chosen v luks1 → Luks1Area (part v 0 592) payload (length v) n a → AreaOf v payload n a
luks1_area_in v payload n a chosen has = record { choice = luks1; chosen = chosen; area = has }

module _ (payload : Data) (named : ℕ → Type 0) (v w : List ℕ) (x : ChangesKeyslots payload named v w) where
  placed : Fit (Luks1Area (part v 0 592) payload (length v)) (length v)
  placed = (volume_of v payload x.chosen x.well).fit

  pub front : part w 0 168 ≡ part v 0 168
  front = kept_front v payload placed w named x.keyslots x.rest

  pub luks1_after : Chosen w luks1
  luks1_after = chosen_moves v w x.rest.length_same front x.chosen

  -- an area by the one header is there by the other, where the volume is as long and the entry the same
  area_same : (u z : List ℕ) → length z ≡ length u → part z 0 168 ≡ part u 0 168 → (n : AreaName) (a : Area)
      → ((m : ℕ) → n ≡ Slot m → m < 8 → entry z m ≡ entry u m)
      → Luks1Area (part u 0 592) payload (length u) n a → Luks1Area (part z 0 592) payload (length z) n a
  area_same u z size same Head1 a at has = has
  area_same u z size same Head2 a at has = has
  area_same u z size same (Slot n) a at has =
      let key : number_at (part u 0 592) 108 4 ≡ number_at (part z 0 592) 108 4 = sym (number_same (part z 0 592) (part u 0 592) 108 4 (header_moves u z same 108 4 (lit≤ tt))) in
      let entries : entry (part u 0 592) n ≡ entry (part z 0 592) n = entry_is u n has.0 ∙ sym (at n refl has.0) ∙ sym (entry_is z n has.0) in (
        has.0,
        has.1 ∙ ap (λ e. number_at e 40 4 * 512) entries,
        has.2 ∙ ap (λ k. rounded_to_sectors (k * entry_stripes (entry (part u 0 592) n))) key ∙ ap (λ e. rounded_to_sectors (number_at (part z 0 592) 108 4 * entry_stripes e)) entries,
      )
  area_same u z size same (Segment n) a at has =
      let start : number_at (part u 0 592) 104 4 ≡ number_at (part z 0 592) 104 4 = sym (number_same (part z 0 592) (part u 0 592) 104 4 (header_moves u z same 104 4 (lit≤ tt))) in
      (has.0, has.1, has.2 ∙ ap (λ k. k * 512) start, has.3 ∙ ap (λ t. t - a.start) (sym size))

  keeps_area : (n : AreaName) → ((m : ℕ) → n ≡ Slot m → m < 8 → entry w m ≡ entry v m)
      → ((a : Area) → Luks1Area (part v 0 592) payload (length v) n a → part w a.start a.len ≡ part v a.start a.len) → KeepsArea payload n v w
  keeps_area n at bytes = record {
    same = λ a. (
      λ has. luks1_area_in w payload n a luks1_after (area_same v w x.rest.length_same front n a at (luks1_area_of v payload n a x.chosen has)),
      λ has. luks1_area_in v payload n a x.chosen
          (area_same w v (sym x.rest.length_same) (sym front) n a (λ m is lt. sym (at m is lt)) (luks1_area_of w payload n a luks1_after has)),
    );
    bytes = λ a has. bytes a (luks1_area_of v payload n a x.chosen has);
  }

  keeps_slot_area : (n : ℕ) → (named n → ⊥) → KeepsArea payload (Slot n) v w
  keeps_slot_area n not = keeps_area (Slot n)
      (λ m is lt. kept_entry v payload placed w named x.keyslots x.rest m lt (λ there. not (subst named (sym (ap name_number is)) there)))
      (λ a is.
      let start : a.start ≡ area_start v n = is.1 ∙ start_is v n is.0 in
      let len : a.len ≡ area_len v n = is.2 ∙ len_is v n is.0 in
      subst (λ s. part w s a.len ≡ part v s a.len) (sym start)
      (subst (λ l. part w (area_start v n) l ≡ part v (area_start v n) l) (sym len) (kept_area v payload placed w named x.keyslots x.rest n is.0 not)))

  -- LUKS1 has no keyslots in metadata
  no_value : (u : List ℕ) → Chosen u luks1 → (place : ℕ) (copies : Copies) → Chosen u (luks2 place copies) → ⊥
  no_value u one place copies two = let same = choices_agree u luks1 (luks2 place copies) one two in cc

  keeps_entry : (n : ℕ) → (named n → ⊥) → KeepsEntry payload n v w
  keeps_entry n not = record {
    area = keeps_slot_area n not;
    entry = λ bytes. (
      λ is. record { chosen = luks1_after; numbered = is.numbered; is = is.is ∙ sym (kept_entry v payload placed w named x.keyslots x.rest n is.numbered not) },
      λ is. record { chosen = x.chosen; numbered = is.numbered; is = is.is ∙ kept_entry v payload placed w named x.keyslots x.rest n is.numbered not },
    );
  }

  -- whatever the uuid's field holds
  pub keeps_entries : KeepsEntries payload named v w
  keeps_entries = record {
    size = x.rest.length_same;
    segments = λ n. keeps_area (Segment n) (λ m is lt. absurd (cc)) (λ a has. kept_segment v payload placed w named x.keyslots x.rest n a has);
    slots = keeps_entry;
  }

  -- where it has the same faults
  module _ (common : HasSameCommon v w) where
    pub same_unnamed : (n : ℕ) → (named n → ⊥) → HasSameKeyslot n v w
    same_unnamed n not = same_with_uuid v payload placed w named x.keyslots x.rest common n not

    keeps_slot : (n : ℕ) → (named n → ⊥) → KeepsSlot payload n v w
    keeps_slot n not =
        let entry = keeps_entry n not in
        record {
          area = entry.area;
          entry = entry.entry;
          value = λ d. (
            λ is. absurd (no_value v x.chosen is.place is.copies is.chosen),
            λ is. absurd (no_value w luks1_after is.place is.copies is.chosen),
          );
          answers = λ allowed p a. (answer_moves allowed n v w p a x.chosen (same_unnamed n not), answer_returns allowed n v w p a x.chosen (same_unnamed n not));
        }

    pub keeps_others : KeepsOthers payload named v w
    keeps_others = record { size = keeps_entries.size; segments = keeps_entries.segments; slots = keeps_slot }

-- ---- the volume stays well formed

module _ (payload : Data) (named : ℕ → Type 0) (v w : List ℕ) (x : ChangesKeyslots payload named v w) (fits : (n : ℕ) → named n → IsFitFor (entry v n) (entry w n)) (decided : (n : ℕ) → named n ⊎ (named n → ⊥)) where
  whole : IsLuks1Volume (part v 0 592) payload (length v)
  whole = volume_of v payload x.chosen x.well

  clear : (f : HeadFault) → IsLuks1HeadFault (part v 0 592) f → ⊥
  clear = header_clear v payload x.chosen x.well

  entry_kept : (n : ℕ) → n < 8 → (named n → ⊥) → entry w n ≡ entry v n
  entry_kept n lt not = kept_entry v payload whole.fit w named x.keyslots x.rest n lt not

  front_same : part w 0 168 ≡ part v 0 168
  front_same = kept_front v payload whole.fit w named x.keyslots x.rest

  -- each entry is fit for use in the place of the old one
  fit_entry : (n : ℕ) → n < 8 → IsFitFor (entry (part v 0 592) n) (entry (part w 0 592) n)
  fit_entry n lt = subst (λ e. IsFitFor e (entry (part w 0 592) n)) (sym (entry_is v n lt))
      (subst (λ e. IsFitFor (entry v n) e) (sym (entry_is w n lt)) (elim (decided n) [
        | inl is ↦ fits n is
        | inr not ↦
            let same : entry (part v 0 592) n ≡ entry w n = entry_is v n lt ∙ sym (entry_kept n lt not) in
            record {
              stated = λ none. clear (fault.SlotState n) (lt, subst HasUnknownState (sym same) none);
              offset = ap (λ e. number_at e 40 4) (entry_kept n lt not);
              stripes = ap entry_stripes (entry_kept n lt not);
              iterated = λ none. clear (fault.Iterations (of.Slot n)) (lt, subst LacksIterations (sym same) none);
            }
      ]))

  clear_after : HasSameCommon v w → (f : HeadFault) → IsLuks1HeadFault (part w 0 592) f → ⊥
  clear_after common fault.TooShort bad =
      let long = x.chosen.long in
      let size = x.rest.length_same in
      let all = length-part_inside w 0 592 (omega (arith, long, size)) in
      omega (arith, bad, all)
  clear_after common fault.NoSoundCopy bad = bad
  clear_after common (fault.SlotState n) bad = (fit_entry n bad.0).stated bad.1
  clear_after common (fault.Stripes n) bad = clear (fault.Stripes n) (bad.0, sym (fit_entry n bad.0).stripes ∙ bad.1)
  clear_after common (fault.Iterations (of.Slot n)) bad = (fit_entry n bad.0).iterated bad.1
  clear_after common fault.Device bad = bad
  clear_after common fault.Memory bad = bad
  clear_after common f bad = clear f (common_moves w v (same_common_back v w common) f (tt, bad)).1

  field_same : (o : ℕ) → o + 4 ≤ 168 → number_at (part w 0 592) o 4 ≡ number_at (part v 0 592) o 4
  field_same o within = number_same (part w 0 592) (part v 0 592) o 4 (header_moves v w front_same o 4 within)

  area_before : (n : AreaName) (a : Area) → Luks1Area (part w 0 592) payload (length v) n a → Luks1Area (part v 0 592) payload (length v) n a
  area_before Head1 a has = has
  area_before Head2 a has = has
  area_before (Slot n) a has =
      let fit = fit_entry n has.0 in (
        has.0,
        has.1 ∙ ap (λ k. k * 512) fit.offset,
        has.2 ∙ ap (λ k. rounded_to_sectors (k * entry_stripes (entry (part w 0 592) n))) (field_same 108 (lit≤ tt)) ∙ ap (λ s. rounded_to_sectors (number_at (part v 0 592) 108 4 * s)) fit.stripes,
      )
  area_before (Segment n) a has = (has.0, has.1, has.2 ∙ ap (λ k. k * 512) (field_same 104 (lit≤ tt)), has.3)

  fit_after : Fit (Luks1Area (part w 0 592) payload (length v)) (length v)
  fit_after = record {
    inside = λ n a has. whole.fit.inside n a (area_before n a has);
    disjoint = λ m n a b hm hn. whole.fit.disjoint m n a b (area_before m a hm) (area_before n b hn);
  }

  pub fits_after : Fit (Luks1Area (part w 0 592) payload (length w)) (length w)
  fits_after = subst (λ t. Fit (Luks1Area (part w 0 592) payload t) t) (sym x.rest.length_same) fit_after

  pub stays_well_formed : HasSameCommon v w → WellFormed w payload
  stays_well_formed common = record {
    choice = luks1;
    chosen = chosen_moves v w x.rest.length_same front_same x.chosen;
    formed = record { header = header_found (part w 0 592) (clear_after common); fit = fits_after };
  }

-- whether a keyslot is one of two is decided
pub either_decided : (a b n : ℕ) → IsEither a b n ⊎ (IsEither a b n → ⊥)
either_decided a b n = elim (cases_eq n a) [
  | inl x ↦ inl (inl x)
  | inr not_a ↦ elim (cases_eq n b) [ inl x ↦ inl (inr x) | inr not_b ↦ inr (λ is. elim is [ inl x ↦ not_a x | inr x ↦ not_b x ]) ]
]
