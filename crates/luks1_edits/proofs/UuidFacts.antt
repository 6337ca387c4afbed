-- A LUKS1 volume of which only the uuid's field was changed: to a uuid, or to any bytes.
use Rattle.std.proofs.Common.{◌≡◌, ℕ, ◌<◌, ◌⊎◌, List, length, take, subst, sym, ap, ◌∙◌, arith, inl, inr, Some}
use Rattle.luks_area.specs.First.{NotAfter}
use Rattle.luks_area.specs.Ranges.{part, SameBut}
use Rattle.luks_area.specs.Text.{text_of}
use Rattle.luks_area.proofs.RangeFacts.{length-part_inside, part-same_but, same_but-wider}
use Rattle.luks1_header.specs.Bytes.{text_at, IsUuid}
use Rattle.luks1_header.specs.Faults.{HasUnknownState, LacksIterations, IsLuks1Fault as IsLuks1HeadFault}
use Rattle.luks1_header.specs.Header1.{entry, entry_stripes, header_text}
use Rattle.luks1_header.specs.declared.fault.HeadFault.{HeadFault}
use Rattle.luks1_header.specs.declared.fault.HeadFault.TheVariants as head
use Rattle.luks1_header.specs.declared.fault.IterationsOf.TheVariants as of
use Rattle.luks1_header.specs.declared.fault.TextField.TheVariants as field
use Rattle.luks1_header.proofs.DecidableFacts.{held, uuid_or_not}
use Rattle.luks2_header.specs.Selection.{luks1, Chosen}
use Rattle.luks2_header.proofs.ChoiceFacts.{choices_agree}
use Rattle.luks2_header.proofs.UuidFacts.{field_text, uuid_text-is}
use Rattle.luks_slot.specs.declared.allowed.Allowed.{Allowed}
use Rattle.luks_reading.specs.declared.check_fault.CheckFault.{CheckFault}
use Rattle.luks_reading.specs.declared.check_fault.CheckFault.TheVariants as checked
use Rattle.luks_reading.specs.declared.open_fault.OpenFault.{OpenFault}
use Rattle.luks_reading.specs.declared.open_fault.OpenFault.TheVariants as opening
use Rattle.luks_reading.specs.declared.report.Data.{Data}
use Rattle.luks_reading.specs.Answer.{AnswerWithin, IsLuks1Refusal, IsRefusalAsWithin, IsRefusalWithin, Opened, refused, opens, no_key, open_key}
use Rattle.luks_reading.specs.Checked.{IsFault, IsFaultAs, IsLuks1Fault, WellFormed}
use Rattle.luks_reading.specs.Layout1.{Luks1Area}
use Rattle.luks_reading.proofs.ListedAreaFacts.{no_area_fault}
use Rattle.luks_edit.specs.declared.new_uuid.NewUuid.{NewUuid}
use Rattle.luks_edit.specs.declared.new_uuid.NewUuid.TheVariants.{Text, Random}
use Rattle.luks_edit.specs.NewUuids.{new_uuid_text, IsBadUuid}
use Rattle.luks1_edits.specs.Edited.{IsUuidSet}
use Rattle.luks1_edits.specs.Kept.{ChangesKeyslots, HasSameCommon, HasUuid, KeepsOthers}
use Rattle.luks1_edits.specs.Leftovers.{IsFaultOfUuid, IsRefusalOfUuid}
use Rattle.luks1_edits.specs.Places.{entry_place, IsOfUuid}
use Rattle.luks1_edits.proofs.AnswerFacts.{answer_returns, common_or_entry}
use Rattle.luks1_edits.proofs.HeaderFacts.{entry_fault, entry_is, header_clear, IsUuids, moves_or_uuids, uuid_is, uuids_common, well_uuid}
use Rattle.luks1_edits.proofs.KeptFacts.{fits_after, front, keeps_others, luks1_after, same_unnamed, stays_well_formed}

-- ---- the uuid that is set

-- its text is of a uuid
new_is : (uuid : NewUuid) (random : List ℕ) → (IsBadUuid (Some uuid) → ⊥) → IsUuid (new_uuid_text uuid random)
new_is (Text text) random good = held (uuid_or_not text.now) good
new_is Random random good = uuid_text-is (take 16 random)

module _ (uuid : NewUuid) (v random w : List ℕ) (good : IsBadUuid (Some uuid) → ⊥) (set : IsUuidSet uuid v random w) where
  -- so the header says it
  pub set_text : header_text w field.Uuid ≡ new_uuid_text uuid random
  set_text = ap text_of set.field_is ∙ field_text (new_uuid_text uuid random) (new_is uuid random good)

  pub set_uuid : HasUuid w
  set_uuid = subst IsUuid (sym set_text) (new_is uuid random good)

-- ---- only the uuid's field changed

module _ (payload : Data) (v : List ℕ) (chosen : Chosen v luks1) (well : WellFormed v payload) (w : List ℕ) (same : SameBut IsOfUuid v w) where
  changes : ChangesKeyslots payload (λ n. ⊥) v w
  changes = record {
    keyslots = record { numbered = λ n is. absurd is };
    chosen = chosen;
    well = well;
    rest = same_but-wider (λ p at. inr at) same;
  }

  pub uuid_chosen : Chosen w luks1
  uuid_chosen = luks1_after payload (λ n. ⊥) v w changes

  common : HasUuid w → HasSameCommon v w
  common new = uuids_common v w (front payload (λ n. ⊥) v w changes) (well_uuid v payload chosen well) new

  -- to a uuid

  pub uuid_others : HasUuid w → KeepsOthers payload (λ n. ⊥) v w
  uuid_others new = keeps_others payload (λ n. ⊥) v w changes (common new)

  pub uuid_well : HasUuid w → WellFormed w payload
  uuid_well new = stays_well_formed payload (λ n. ⊥) v w changes (λ n is. absurd is) (λ n. inr (λ is. is)) (common new)

  -- to any bytes: each fault is of the uuid's field

  clear : (f : HeadFault) → IsLuks1HeadFault (part v 0 592) f → ⊥
  clear = header_clear v payload chosen well

  entry_same : (n : ℕ) → n < 8 → entry (part w 0 592) n ≡ entry (part v 0 592) n
  entry_same n lt =
      entry_is w n lt
      ∙ part-same_but (entry_place n) 48 same (λ p at uuid. let low = at.0 in let high = uuid.1 in omega (arith, low, high))
      ∙ sym (entry_is v n lt)

  only_uuids : (f : HeadFault) → IsLuks1HeadFault (part w 0 592) f → IsUuids f
  only_uuids head.TooShort bad =
      let long = chosen.long in
      let size = same.length_same in
      let all = length-part_inside w 0 592 (omega (arith, long, size)) in
      absurd (omega (arith, bad, all))
  only_uuids head.NoSoundCopy bad = absurd bad
  only_uuids (head.SlotState n) bad = absurd (clear (head.SlotState n) (bad.0, subst HasUnknownState (entry_same n bad.0) bad.1))
  only_uuids (head.Stripes n) bad = absurd (clear (head.Stripes n) (bad.0, sym (ap entry_stripes (entry_same n bad.0)) ∙ bad.1))
  only_uuids (head.Iterations (of.Slot n)) bad = absurd (clear (head.Iterations (of.Slot n)) (bad.0, subst LacksIterations (entry_same n bad.0) bad.1))
  only_uuids head.Device bad = absurd bad
  only_uuids head.Memory bad = absurd bad
  only_uuids f bad = elim (moves_or_uuids w v (sym (front payload (λ n. ⊥) v w changes)) f (tt, bad)) [
    | inl before ↦ absurd (clear f before.1)
    | inr uuids ↦ uuids
  ]

  only_fault : (f : CheckFault) → IsLuks1Fault (part w 0 592) payload (length w) f → IsFaultOfUuid f
  only_fault (checked.Head f) bad = elim (only_uuids f bad) [ inl is ↦ inl (ap checked.Head is) | inr is ↦ inr (ap checked.Head is) ]
  only_fault (checked.Area f) bad =
      absurd (no_area_fault (Luks1Area (part w 0 592) payload (length w)) (length w) f (fits_after payload (λ n. ⊥) v w changes (λ n is. absurd is) (λ n. inr (λ is. is))) bad)
  only_fault f bad = absurd bad

  pub uuid_faults : (f : CheckFault) → IsFault w payload f → IsFaultOfUuid f
  uuid_faults f x = only_fault f (subst (λ c. IsFaultAs w payload c f) (choices_agree w x.choice luks1 x.chosen uuid_chosen) x.fault)

  -- and a keyslot is refused for it, or answers as before

  module _ (none : HasUuid w → ⊥) (allowed : Allowed) (n : ℕ) where
    lacks : IsLuks1Refusal allowed.older (part w 0 592) (length w) n (opening.Head head.Uuid)
    lacks = (tt, λ uuid. none (subst IsUuid (uuid_is w) uuid))

    lacks_as : IsRefusalWithin allowed w n (opening.Head head.Uuid)
    lacks_as = record { choice = luks1; chosen = uuid_chosen; fault = lacks }

    refusal_of : (f : OpenFault) → IsLuks1Refusal allowed.older (part w 0 592) (length w) n f → NotAfter (open_key f) (open_key (opening.Head head.Uuid)) → IsRefusalOfUuid (refused f)
    refusal_of (opening.Head f) bad first =
        let uuids : IsUuids f = elim (common_or_entry (part w 0 592) n f bad) [
          | inl x ↦ only_uuids f x.1
          | inr x ↦ only_uuids f (entry_fault (part w 0 592) n f x.numbered x.fault)
        ] in
        elim uuids [ inl is ↦ inl (ap (λ g. refused (opening.Head g)) is) | inr is ↦ inr (ap (λ g. refused (opening.Head g)) is) ]
    refusal_of (opening.Meta f) bad first = absurd bad
    refusal_of opening.NoSuchSlot bad first = (let low = first.0 in absurd (omega (arith, low)))
    refusal_of opening.SlotFree bad first = (let low = first.0 in absurd (omega (arith, low)))
    refusal_of opening.Outside bad first = (let low = first.0 in absurd (omega (arith, low)))
    refusal_of (opening.Slot f) bad first = (let low = first.0 in absurd (omega (arith, low)))
    refusal_of opening.Device bad first = absurd bad
    refusal_of opening.Memory bad first = absurd bad

    refused_for : (p : List ℕ) (a : Opened) → AnswerWithin allowed w n p a → IsRefusalOfUuid a
    refused_for p (refused f) x =
        refusal_of f (subst (λ c. IsRefusalAsWithin allowed w n c f) (choices_agree w x.0.choice luks1 x.0.chosen uuid_chosen) x.0.fault) (x.1 (opening.Head head.Uuid) lacks_as)
    refused_for p (opens k) x =
        absurd (x.unrefused (opening.Head head.Uuid) (subst (λ c. IsRefusalAsWithin allowed w n c (opening.Head head.Uuid)) (choices_agree w luks1 x.choice uuid_chosen x.chosen) lacks))
    refused_for p no_key x =
        absurd (x.unrefused (opening.Head head.Uuid) (subst (λ c. IsRefusalAsWithin allowed w n c (opening.Head head.Uuid)) (choices_agree w luks1 x.choice uuid_chosen x.chosen) lacks))

  pub uuid_answers : (allowed : Allowed) (n : ℕ) (p : List ℕ) (a : Opened) → AnswerWithin allowed w n p a → AnswerWithin allowed v n p a ⊎ IsRefusalOfUuid a
  uuid_answers allowed n p a x = elim (uuid_or_not (text_at w 168 40)) [
    | inl new ↦ inl (answer_returns allowed n v w p a chosen (same_unnamed payload (λ m. ⊥) v w changes (common new) n (λ is. is)) x)
    | inr none ↦ inr (refused_for none allowed n p a x)
  ]
