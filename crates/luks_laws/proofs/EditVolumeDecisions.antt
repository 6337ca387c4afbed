-- An edit of a volume has a first refusal, or it is refused by nothing, whatever counts of the volume.
use Rattle.std.proofs.Common.{◌≡◌, ◌⊎◌, ℕ, List, length, subst, inl, inr}
use Rattle.serde_json.specs.Data.{Data as Value}
use Rattle.luks2_header.specs.Header2.{hdr_size, header_at}
use Rattle.luks2_header.specs.Selection.{Choice, Chosen, luks1, luks2, nothing}
use Rattle.luks2_header.proofs.ChoiceFacts.{choices_agree, choice_exists}
use Rattle.luks_rules.specs.declared.fault.MetaFault.{MetaFault}
use Rattle.luks_rules.specs.Accepted.{IsMeta}
use Rattle.luks_rules.specs.Faults.{Among}
use Rattle.luks_rules.specs.MetaFault.{meta_key}
use Rattle.luks_meta.proofs.Namings.{one_digest}
use Rattle.luks_slot.specs.declared.allowed.Allowed.{Allowed}
use Rattle.luks_reading.specs.declared.check_fault.CheckFault.{CheckFault}
use Rattle.luks_reading.specs.declared.report.Data.{Data}
use Rattle.luks_reading.specs.Answer.{AnswerWithin, Opened}
use Rattle.luks_reading.specs.Checked.{First, IsFault, WellFormed, WellFormedAs}
use Rattle.luks_reading.specs.Header.{json_at}
use Rattle.luks_reading.proofs.VolumeLaws.{well_formed_faultless}
use Rattle.luks_edit.specs.declared.edit.Edit.{Edit}
use Rattle.luks_edit.specs.declared.edit_fault.EditFault.{EditFault}
use Rattle.luks_edit.specs.declared.edit_fault.EditFault.TheVariants as edit
use Rattle.luks1_edits.specs.Refused.{IsEditFault1, IsUnrefused1, Refusal1}
use Rattle.luks2_edit_laws.specs.Metadata.{HasMetadata}
use Rattle.luks2_edit_laws.specs.Refused.{IsEditFault2, IsUnrefused2, Refusal2}
use Rattle.luks2_edit_laws.proofs.VolumeFacts.{one_metadata, one_place}
use Rattle.luks2_judging.proofs.EditedFacts.{texts_as_long}
use Rattle.luks_volume.specs.Edits.{IsEditFault, IsEditFaultAs, IsUnrefused, Refusal}
use Rattle.luks_laws.proofs.DecidedFacts.{alike_decided, Decided}
use Rattle.luks_laws.proofs.EditDecisions.{first_edit_fault_or_none}
use Rattle.luks_laws.proofs.EditDecisions1.{fault1_decided}
use Rattle.luks_laws.proofs.EditDecisions2.{Counting, fault2_decided, known_token2}
use Rattle.luks_laws.proofs.GapVolumes.{area_or_no_room}
use Rattle.luks_laws.proofs.HeaderDecisions2.{meta_candidates}
use Rattle.luks_laws.proofs.UnkeyedDecisions2.{unkeyed_decided}

-- ---- the faults of any volume, by what counts of it

-- by whatever counts, a fault of the volume is one of the edit
unaccepted_as : (v : List ℕ) (payload : Data) (e : Edit) (r : List ℕ) (c : Choice) (f : CheckFault) → IsFault v payload f
    → IsEditFaultAs v payload e r c (edit.NotAccepted f)
unaccepted_as v payload e r luks1 f bad = bad
unaccepted_as v payload e r (luks2 o copies) f bad = bad
unaccepted_as v payload e r nothing f bad = bad

-- and the other way round
fault_of_volume : (v : List ℕ) (payload : Data) (e : Edit) (r : List ℕ) (c : Choice) (f : CheckFault) → IsEditFaultAs v payload e r c (edit.NotAccepted f)
    → IsFault v payload f
fault_of_volume v payload e r luks1 f bad = bad
fault_of_volume v payload e r (luks2 o copies) f bad = bad
fault_of_volume v payload e r nothing f bad = bad

-- ---- what counts, of which there is one

module _ (v : List ℕ) (payload : Data) where
  -- of a well formed volume accepted metadata counts, or none
  counting_as : WellFormed v payload → (c : Choice) → Chosen v c → WellFormedAs v payload c → Counting v payload ⊎ ((p : ℕ) (i : Value) → HasMetadata v p i → ⊥)
  counting_as formed luks1 chosen is = inr (λ p i x. (let e = choices_agree v luks1 (luks2 p x.copies) chosen x.chosen in cc))
  counting_as formed nothing chosen is = absurd is
  counting_as formed (luks2 o copies) chosen is =
      let j = is.layout.0 in
      let accepted : IsMeta (json_at v o) j = is.layout.1.metadata in
      let there : HasMetadata v o j = record { copies = copies; chosen = chosen; holds = accepted.json } in
      let digest = one_digest (json_at v o) j accepted in
      inl (record {
        place = o;
        value = j;
        there = there;
        only = λ p i x. (one_place v o p copies x.copies chosen x.chosen, one_metadata v o p copies x.copies j i chosen accepted.json x.chosen x.holds);
        digest = digest;
        unkeyed = unkeyed_decided (json_at v o) j accepted;
        area = area_or_no_room v payload o j there formed;
        alike = λ e a b x y a_bytes b_bytes long. texts_as_long (hdr_size (header_at v o)) (length v) payload e a b j x y a_bytes b_bytes long (record { one = digest });
      })

  -- ---- the edit

  module _ (checked : ((f : CheckFault) × First v payload f) ⊎ WellFormed v payload) (answer : (m : Allowed) (n : ℕ) (p : List ℕ) → (a : Opened) × AnswerWithin m v n p a)
      (e : Edit) (r : List ℕ) where
    sound : WellFormed v payload → (f : CheckFault) → IsFault v payload f → ⊥
    sound = well_formed_faultless v payload

    -- each fault is decided by the rules of LUKS1
    decided1 : WellFormed v payload → (f : EditFault) → Decided (IsEditFault1 v payload e r f)
    decided1 formed = fault1_decided v payload answer (sound formed) e r

    -- and by those of LUKS2
    decided2 : WellFormed v payload → (f : EditFault) → Decided (IsEditFault2 v payload e r f)
    decided2 formed = fault2_decided v payload answer (sound formed) e r (counting_as formed formed.choice formed.chosen formed.formed)

    -- by what counts
    decided_as : WellFormed v payload → (c : Choice) (f : EditFault) → Decided (IsEditFaultAs v payload e r c f)
    decided_as formed luks1 f = decided1 formed f
    decided_as formed (luks2 o copies) f = decided2 formed f
    decided_as formed nothing (edit.NotAccepted f) = inr (sound formed f)
    decided_as formed nothing f = inr (λ bad. bad)

    -- of the volume
    decided : WellFormed v payload → (f : EditFault) → Decided (IsEditFault v payload e r f)
    decided formed f = alike_decided (IsEditFaultAs v payload e r formed.choice f) (IsEditFault v payload e r f)
        (λ is. record { choice = formed.choice; chosen = formed.chosen; fault = is })
        (λ x. subst (λ c. IsEditFaultAs v payload e r c f) (choices_agree v x.choice formed.choice x.chosen formed.chosen) x.fault) (decided_as formed formed.choice f)

    -- by the rules of LUKS1
    pub first_refusal1_or_unrefused : ((f : EditFault) × Refusal1 v payload e r f) ⊎ IsUnrefused1 v payload e r
    first_refusal1_or_unrefused = elim (first_edit_fault_or_none v payload (IsEditFault1 v payload e r) (λ f bad. bad) (λ f bad. bad) (λ f bad. absurd bad) checked sound decided1) [
      | inl first ↦ inl first
      | inr none ↦ inr (record { none = none })
    ]

    -- by those of LUKS2
    pub first_refusal2_or_unrefused : ((f : EditFault) × Refusal2 v payload e r f) ⊎ IsUnrefused2 v payload e r
    first_refusal2_or_unrefused = elim (first_edit_fault_or_none v payload (IsEditFault2 v payload e r) (λ f bad. bad) (λ f bad. bad) (known_token2 v payload e r) checked sound decided2) [
      | inl first ↦ inl first
      | inr none ↦ inr (record { none = none })
    ]

    -- a fault of the metadata with a token has a candidate by what counts
    token_as : (c : Choice) (f : MetaFault) → IsEditFaultAs v payload e r c (edit.BadToken f)
        → (g : MetaFault) × Among g meta_candidates × IsEditFaultAs v payload e r c (edit.BadToken g) × (meta_key g ≡ meta_key f)
    token_as luks1 f bad = absurd bad
    token_as (luks2 o copies) f bad = known_token2 v payload e r f bad
    token_as nothing f bad = absurd bad

    token_of_volume : (f : MetaFault) → IsEditFault v payload e r (edit.BadToken f)
        → (g : MetaFault) × Among g meta_candidates × IsEditFault v payload e r (edit.BadToken g) × (meta_key g ≡ meta_key f)
    token_of_volume f bad =
        let x = token_as bad.choice f bad.fault in
        (x.0, x.1, record { choice = bad.choice; chosen = bad.chosen; fault = x.2 }, x.3)

    -- by those of what counts
    pub first_refusal_or_unrefused : ((f : EditFault) × Refusal v payload e r f) ⊎ IsUnrefused v payload e r
    first_refusal_or_unrefused =
        let c = choice_exists v in
        elim (first_edit_fault_or_none v payload (IsEditFault v payload e r)
        (λ f bad. record { choice = c.0; chosen = c.1; fault = unaccepted_as v payload e r c.0 f bad })
        (λ f x. fault_of_volume v payload e r x.choice f x.fault) token_of_volume checked sound decided) [
          | inl first ↦ inl first
          | inr none ↦ inr (record { none = none })
        ]
