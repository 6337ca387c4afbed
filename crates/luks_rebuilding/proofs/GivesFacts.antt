-- The header that was made counts, is well formed, and its keyslots give what the metadata gives.
use Rattle.std.proofs.Common.{◌≡◌, ℕ, ◌+◌, ◌-◌, ◌≤◌, List, codes, length, Option, Some, None, option_and_then, refl, sym, ap, subst, ◌∙◌, arith, inl, inr}
use Rattle.serde_json.specs.Data.{Data as Value}
use Rattle.serde_json.specs.Find.{get}
use Rattle.luks_area.specs.Area.{Fit, IsInside}
use Rattle.luks_area.specs.Ranges.{part}
use Rattle.luks_area.specs.declared.area.Area.{Area}
use Rattle.luks_area.specs.declared.area.AreaName.{AreaName}
use Rattle.luks_area.specs.declared.area.AreaName.TheVariants as name
use Rattle.luks1_header.specs.Bytes.{IsUuid}
use Rattle.luks2_header.proofs.BinaryHeaderFacts.{written_in_step}
use Rattle.luks2_header.proofs.ChoiceFacts.{choices_agree, uuid_sound}
use Rattle.luks2_header.proofs.CopyFacts.{listed_at_least}
use Rattle.luks2_header.specs.Header2.{hdr_size, header_at, uuid_field, IsUuidField}
use Rattle.luks2_header.specs.Selection.{Choice, luks2, Chosen}
use Rattle.luks2_header.specs.Sizes.{IsListed}
use Rattle.luks2_header.specs.Written.{IsWrittenCopy}
use Rattle.luks2_header.specs.declared.selection.Copies.TheVariants.{InStep}
use Rattle.luks2_header.proofs.UuidFacts.{fills, uuid_text-is}
use Rattle.luks_rules.proofs.AreaFaults.{one_value}
use Rattle.luks_rules.proofs.Deciding.{metadata_faultless}
use Rattle.luks_meta.specs.Accepted.{IsMeta}
use Rattle.luks_meta.specs.Reading.{decimal_in}
use Rattle.luks_slot.specs.Opening.{slot_key}
use Rattle.luks_slot.specs.declared.allowed.Allowed.{Allowed}
use Rattle.luks_slot.specs.declared.plan.SlotPlan.{SlotPlan}
use Rattle.luks_reading.specs.Answer.{opens, no_key, refused, AnswerWithin, HasNoKeyslot, HasPlanAs, HasRefusedPlanWithin, IsRefusalAsWithin, IsRefusalWithin, Opened, OpensWithin}
use Rattle.luks_reading.specs.Checked.{WellFormed}
use Rattle.luks_reading.specs.Header.{json_at}
use Rattle.luks_reading.specs.Layout2.{Luks2Area}
use Rattle.luks_reading.specs.Plans.{HasLuks2Plan}
use Rattle.luks_reading.specs.declared.open_fault.OpenFault.{OpenFault}
use Rattle.luks_reading.specs.declared.open_fault.OpenFault.TheVariants.{Head, Meta, NoSuchSlot, SlotFree, Outside, Slot, Device, Memory}
use Rattle.luks_reading.specs.declared.report.Data.TheVariants.{Here, Elsewhere}
use Rattle.luks_rebuilding.proofs.RegionFacts.{ends}
use Rattle.luks_rebuilding.specs.Candidates.{Source}
use Rattle.luks_rebuilding.specs.Found.{HasRegionInside}
use Rattle.luks_rebuilding.specs.Gives.{Gives, GivesKey, IsRefusedSlot}
use Rattle.luks_rebuilding.specs.KeyAreas.{HasKeyArea, IsSlotArea}
use Rattle.luks_rebuilding.specs.Rebuilt.{IsMade, IsUuidOf}

-- the uuid of the new header is one
uuid_is : (v : List ℕ) (size at : ℕ) (given : Option (List ℕ)) (random uuid : List ℕ)
    → ((text : List ℕ) → given ≡ Some text → IsUuid text) → IsUuidOf v size at given random uuid → IsUuid uuid
uuid_is v size at (Some t) random uuid good is = subst IsUuid (sym is) (good t refl)
uuid_is v size at None random uuid good (inl kept) = subst IsUuid (sym kept.is) kept.there.uuid
uuid_is v size at None random uuid good (inr other) = elim other.1 [
  | inl kept ↦ subst IsUuid (sym kept.is) kept.there.uuid
  | inr new ↦ subst IsUuid (sym new.1) (uuid_text-is _)
]

module _
    (v random old w : List ℕ) (given : Option (List ℕ)) (source : Source) (j : Value)
    (meta : IsMeta (source.json) j) (x : IsMade v given random old w source)
    (good : (text : List ℕ) → given ≡ Some text → IsUuid text)
    (fit : Fit (Luks2Area j source.size Elsewhere (length v)) (length v))
    (region : HasRegionInside j source.size (length w))
  where
    -- ---- the copy that counts

    size : hdr_size (header_at w 0) ≡ source.size
    size = x.first.written.header.fields.hdr_size ∙ x.first.fields.hdr_size

    large : 16384 ≤ source.size
    large = listed_at_least source.size (subst IsListed x.first.fields.hdr_size x.first.written.listed)

    json_long : length (source.json) ≡ source.size - 4096
    json_long =
        let sum = x.first.written.size in
        let long = x.first.fields.hdr_size in
        omega (arith, sum, long)

    json_there : json_at w 0 ≡ source.json
    json_there = ap (λ n. part w 4096 (n - 4096)) size ∙ sym (ap (λ n. part w 4096 n) json_long) ∙ x.first.written.area

    chosen : Chosen w (luks2 0 InStep)
    chosen =
        let second = subst (λ (o : ℕ). IsWrittenCopy w o x.second.header (source.json)) (sym x.first.fields.hdr_size) x.second.written in
        written_in_step w x.first.header x.second.header (source.json) (source.json) x.first.written second (x.first.fields.seqid ∙ sym x.second.fields.seqid)

    field_is : IsUuidField (uuid_field (header_at w 0))
    field_is =
        subst IsUuidField (sym (x.first.written.header.fields.uuid ∙ x.first.fields.own_uuid))
        (fills x.uuid (uuid_is v source.size source.at given random x.uuid good x.own_uuid))

    meta_there : IsMeta (json_at w 0) j
    meta_there = subst (λ (a : List ℕ). IsMeta a j) (sym json_there) meta

    -- ---- the areas

    slot_inside : (n : ℕ) (a : Area) → IsSlotArea j n a → a.start + a.len ≤ length w
    slot_inside n a is =
        let end_ = ends j source.size large (length (source.json)) json_long meta.content region.bytes region.says n a is in
        let inside = region.inside in
        omega (arith, end_, inside)

    area_inside : (n : AreaName) (a : Area) → Luks2Area j source.size Elsewhere (length w) n a → IsInside a (length w)
    area_inside name.Head1 a is = let start = is.0 in let len = is.1 in let inside = region.inside in omega (arith, start, len, inside)
    area_inside name.Head2 a is = let start = is.0 in let len = is.1 in let inside = region.inside in omega (arith, start, len, inside)
    area_inside (name.Slot n) a is = slot_inside n a is
    area_inside (name.Segment n) a is = absurd (let here : Elsewhere ≡ Here = is.1 in cc)

    area_as : (n : AreaName) (a : Area) → Luks2Area j source.size Elsewhere (length w) n a → Luks2Area j source.size Elsewhere (length v) n a
    area_as name.Head1 a is = is
    area_as name.Head2 a is = is
    area_as (name.Slot n) a is = is
    area_as (name.Segment n) a is = absurd (let here : Elsewhere ≡ Here = is.1 in cc)

    fit_there : Fit (Luks2Area j source.size Elsewhere (length w)) (length w)
    fit_there = record {
      inside = area_inside;
      disjoint = λ m n a b p q. fit.disjoint m n a b (area_as m a p) (area_as n b q);
    }

    pub well_formed : WellFormed w Elsewhere
    well_formed = record {
      choice = luks2 0 InStep;
      chosen = chosen;
      formed = record {
        uuid = field_is;
        layout = (
          j,
          record {
            metadata = meta_there;
            segments = λ here. absurd (let is : Elsewhere ≡ Here = here in cc);
            fit = subst (λ (h : ℕ). Fit (Luks2Area j h Elsewhere (length w)) (length w)) (sym size) fit_there;
          },
        );
      };
    }

    -- ---- the keyslots

    plan_area : (n : ℕ) (plan : SlotPlan) → HasLuks2Plan (source.json) n plan → HasKeyArea source n plan.area
    plan_area n plan z = record {
      value = z.value;
      holds = z.holds;
      area = (
        z.numbered,
        ap (λ o. decimal_in (option_and_then (get (codes "offset")) (option_and_then (get (codes "area")) o))) z.there ∙ z.is.start,
        ap (λ o. decimal_in (option_and_then (get (codes "size")) (option_and_then (get (codes "area")) o))) z.there ∙ z.is.len,
      );
    }

    plan_inside : (n : ℕ) (plan : SlotPlan) → HasLuks2Plan (source.json) n plan → plan.area.start + plan.area.len ≤ length w
    plan_inside n plan z =
        let its = plan_area n plan z in
        slot_inside n plan.area (subst (λ (k : Value). IsSlotArea k n plan.area) (one_value (source.json) its.value j its.holds meta.json) its.area)

    same_bytes : (n : ℕ) (plan : SlotPlan) → HasLuks2Plan (source.json) n plan
        → part w plan.area.start plan.area.len ≡ part v plan.area.start plan.area.len
    same_bytes n plan z = x.areas n plan.area (plan_area n plan z)

    plan_there : (n : ℕ) (plan : SlotPlan) → HasLuks2Plan (source.json) n plan → HasLuks2Plan (json_at w 0) n plan
    plan_there n plan z = subst (λ (a : List ℕ). HasLuks2Plan a n plan) (sym json_there) z

    plan_here : (n : ℕ) (plan : SlotPlan) → HasLuks2Plan (json_at w 0) n plan → HasLuks2Plan (source.json) n plan
    plan_here n plan z = subst (λ (a : List ℕ). HasLuks2Plan a n plan) json_there z

    module _ (allowed : Allowed) (n : ℕ) where
      to_refusal : (f : OpenFault) → IsRefusedSlot allowed (source.json) n f → IsRefusalAsWithin allowed w n (luks2 0 InStep) f
      to_refusal (Head f) z = absurd z
      to_refusal (Meta f) z = absurd z
      to_refusal NoSuchSlot z = subst (λ (a : List ℕ). HasNoKeyslot a n) (sym json_there) z
      to_refusal SlotFree z = absurd z
      to_refusal Outside z = absurd z
      to_refusal (Slot f) z = subst (λ (a : List ℕ). HasRefusedPlanWithin allowed (HasLuks2Plan a n) f) (sym json_there) z
      to_refusal Device z = absurd z
      to_refusal Memory z = absurd z

      from_refusal : (f : OpenFault) → IsRefusalAsWithin allowed w n (luks2 0 InStep) f → IsRefusedSlot allowed (source.json) n f
      from_refusal (Head f) z = uuid_sound (uuid_field (header_at w 0)) field_is f z
      from_refusal (Meta f) z = (metadata_faultless (json_at w 0)).1 (j, meta_there) f z
      from_refusal NoSuchSlot z = subst (λ (a : List ℕ). HasNoKeyslot a n) json_there z
      from_refusal SlotFree z = z
      from_refusal Outside z = (
          let inside = plan_inside n z.plan (plan_here n z.plan z.is) in
          let past = z.past in
          omega (arith, inside, past))
      from_refusal (Slot f) z = subst (λ (a : List ℕ). HasRefusedPlanWithin allowed (HasLuks2Plan a n) f) json_there z
      from_refusal Device z = z
      from_refusal Memory z = z

      -- there, by whatever counts
      by_chosen : (f : OpenFault) → IsRefusalWithin allowed w n f → IsRefusedSlot allowed (source.json) n f
      by_chosen f z = from_refusal f (subst (λ (c : Choice). IsRefusalAsWithin allowed w n c f) (choices_agree w z.choice (luks2 0 InStep) z.chosen chosen) z.fault)

      refused_there : (f : OpenFault) → IsRefusedSlot allowed (source.json) n f → IsRefusalWithin allowed w n f
      refused_there f z = record { choice = luks2 0 InStep; chosen = chosen; fault = to_refusal f z }

      module _ (p : List ℕ) where
        key_there : (found : Option (List ℕ)) → GivesKey allowed (source.json) v n p found → OpensWithin allowed w n p found
        key_there found z = record {
          choice = luks2 0 InStep;
          chosen = chosen;
          plan = z.plan;
          is = plan_there n z.plan z.is;
          unrefused = λ f bad. z.unrefused f (from_refusal f bad);
          key = ap (λ (b : List ℕ). slot_key z.plan b p) (same_bytes n z.plan z.is) ∙ z.key;
        }

        key_here : (found : Option (List ℕ)) → OpensWithin allowed w n p found → GivesKey allowed (source.json) v n p found
        key_here found z =
            let choice : z.choice ≡ luks2 0 InStep = choices_agree w z.choice (luks2 0 InStep) z.chosen chosen in
            let its = plan_here n z.plan (subst (λ (c : Choice). HasPlanAs w n c z.plan) choice z.is) in
            record {
              plan = z.plan;
              is = its;
              unrefused = λ f bad. z.unrefused f (subst (λ (c : Choice). IsRefusalAsWithin allowed w n c f) (sym choice) (to_refusal f bad));
              key = ap (λ (b : List ℕ). slot_key z.plan b p) (sym (same_bytes n z.plan its)) ∙ z.key;
            }

        pub gives_there : (a : Opened) → Gives allowed (source.json) v n p a → AnswerWithin allowed w n p a
        gives_there (refused f) z = (refused_there f z.0, λ g bad. z.1 g (by_chosen g bad))
        gives_there (opens k) z = key_there (Some k) z
        gives_there no_key z = key_there None z

        pub gives_here : (a : Opened) → AnswerWithin allowed w n p a → Gives allowed (source.json) v n p a
        gives_here (refused f) z = (by_chosen f z.0, λ g bad. z.1 g (refused_there g bad))
        gives_here (opens k) z = key_here (Some k) z
        gives_here no_key z = key_here None z
