-- A converted keyslot answers as the old one did.
use Rattle.std.proofs.Common.{◌≡◌, ℕ, ◌+◌, ◌-◌, ◌*◌, ◌≤◌, List, ◌++◌, length, replicate, true, false, Option, Some, None, refl, sym, ap, subst, ◌∙◌, arith, inl, inr}
use Rattle.std.proofs.lemmas.Bool.{cases_lt}
use Rattle.std.proofs.Math.Seq.{take-append_seam}
use Rattle.serde_json.specs.Data.{Data}
use Rattle.luks_area.specs.First.{NotAfter}
use Rattle.luks_area.specs.Ranges.{part}
use Rattle.luks_area.proofs.RangeFacts.{length-part_inside, part-whole}
use Rattle.luks_area.specs.Sectors.{rounded_to_sectors, sector_count}
use Rattle.luks1_header.specs.Header1.{key_bytes_of}
use Rattle.luks1_header.specs.declared.fault.HeadFault.{HeadFault}
use Rattle.luks2_header.specs.Header2.{header_at, uuid_field, IsUuidField}
use Rattle.luks2_header.specs.Selection.{Choice, luks1, luks2, Chosen}
use Rattle.luks2_header.proofs.ChoiceFacts.{choices_agree, uuid_sound}
use Rattle.luks2_header.specs.declared.selection.Copies.{Copies}
use Rattle.luks_rules.specs.Accepted.{IsMeta}
use Rattle.luks_rules.specs.Faults.{object_at}
use Rattle.luks_rules.specs.declared.fault.MetaFault.{MetaFault}
use Rattle.luks_rules.specs.declared.table.Section.TheVariants.{Keyslots}
use Rattle.luks_rules.proofs.AreaFaults.{one_value}
use Rattle.luks_rules.proofs.Deciding.{metadata_faultless}
use Rattle.luks_making.specs.Conversions.{SaysSource}
use Rattle.luks_making.specs.Keyslots.{slot_value}
use Rattle.luks_slot.specs.declared.fault.SlotFault.{SlotFault}
use Rattle.luks_slot.specs.declared.allowed.Allowed.{Allowed}
use Rattle.luks_slot.specs.declared.plan.SlotPlan.{SlotPlan}
use Rattle.luks_slot.specs.Allowance.{without_memory}
use Rattle.luks_slot.specs.Opening.{stripe_bytes}
use Rattle.luks_slot.specs.Refusal.{slot_refusal_within}
use Rattle.luks_reading.specs.declared.open_fault.OpenFault.{OpenFault}
use Rattle.luks_reading.specs.declared.open_fault.OpenFault.TheVariants.{Head, Meta, NoSuchSlot, SlotFree, Outside, Slot, Device, Memory}
use Rattle.luks_reading.specs.Answer.{AnswerWithin, HasPlanAs, IsRefusalAsWithin, OpensWithin, open_key, refused}
use Rattle.luks_reading.specs.Header.{json_at}
use Rattle.luks_reading.proofs.MemoryFacts.{still_accepted}
use Rattle.luks_reading.specs.Plans.{HasLuks1Plan, HasLuks2Plan, IsLuks2Plan}
use Rattle.luks_converting.specs.Copied.{HasSameSectors, IsCopiedPlan}
use Rattle.luks_converting.specs.Converted.{new_size, new_start}
use Rattle.luks_converting.specs.Source.{header_members, is_enabled, source_size, source_start, HasRoom}
use Rattle.luks_converting.proofs.CopiedFacts.{same_key, still_unrefused}
use Rattle.luks_converting.proofs.PlaceFacts.{ends}
use Rattle.luks_converting.proofs.PlanFacts.{copied_plan, has_plan, keyslot_there, new_plan, new_slot, plan_len, plan_start}
use Rattle.luks_converting.proofs.SourceFacts.{low_of, no_some, slot_absent, some_same}

-- the front of two lists joined
front_of : (xs ys : List ℕ) (k : ℕ) → length xs ≡ k → part (xs ++ ys) 0 k ≡ part xs 0 k
front_of xs ys k long = subst (λ n. part (xs ++ ys) 0 n ≡ part xs 0 n) long (take-append_seam xs ys ∙ sym (part-whole xs))

none_of : {A : Type 0} (o : Option A) → ((a : A) → o ≡ Some a → ⊥) → o ≡ None
none_of None h = refl
none_of (Some a) h = absurd (h a refl)

-- the metadata `j` of the new header counts in the volume `w`
pub record HasHeader (w : List ℕ) (j : Data) : Type 0 where
  pub copies : Copies
  pub chosen : Chosen w (luks2 0 copies)
  pub uuid : IsUuidField (uuid_field (header_at w 0))
  pub meta : IsMeta (json_at w 0) j
  pub long : 16777216 ≤ length w

module _
    (v w : List ℕ) (j : Data)
    (was : Chosen v luks1) (has : HasRoom (part v 0 592)) (x : SaysSource (header_members (part v 0 592)) j) (new : HasHeader w j)
  where
    -- the faults that may stand of any keyslot
    no_head : (allowed : Allowed) (n : ℕ) (f : HeadFault) → IsRefusalAsWithin allowed w n (luks2 0 new.copies) (Head f) → ⊥
    no_head allowed n f z = uuid_sound (uuid_field (header_at w 0)) new.uuid f z

    no_meta : (allowed : Allowed) (n : ℕ) (f : MetaFault) → IsRefusalAsWithin allowed w n (luks2 0 new.copies) (Meta f) → ⊥
    no_meta allowed n f z = (metadata_faultless (json_at w 0)).1 (j, new.meta) f z

    module _ (n : ℕ) (on : is_enabled (part v 0 592) n ≡ true) where
      is_there : object_at j Keyslots n ≡ Some (slot_value (new_slot (part v 0 592) n))
      is_there = keyslot_there (part v 0 592) j x n on

      its_plan : (b : SlotPlan) → HasLuks2Plan (json_at w 0) n b → IsLuks2Plan j n (slot_value (new_slot (part v 0 592) n)) b
      its_plan b z =
          let value : z.value ≡ j = one_value (json_at w 0) z.value j z.holds new.meta.json in
          let there : object_at j Keyslots n ≡ Some z.object = subst (λ (k : Data). object_at k Keyslots n ≡ Some z.object) value z.there in
          let object : z.object ≡ slot_value (new_slot (part v 0 592) n) = some_same z.object (slot_value (new_slot (part v 0 592) n)) (sym there ∙ is_there) in
          let is : IsLuks2Plan j n z.object b = subst (λ (k : Data). IsLuks2Plan k n z.object b) value z.is in
          subst (λ (o : Data). IsLuks2Plan j n o b) object is

      -- what the old keyslot gave, the new one gives
      module _ (area_is : part w (new_start (part v 0 592) n) (new_size (part v 0 592) n)
          ≡ part v (source_start (part v 0 592) n) (source_size (part v 0 592) n) ++ replicate (new_size (part v 0 592) n - source_size (part v 0 592) n) 0)
          (allowed : Allowed) (p : List ℕ) (found : Option (List ℕ)) (o : OpensWithin allowed v n p found) where
        was_luks1 : o.choice ≡ luks1
        was_luks1 = choices_agree v o.choice luks1 o.chosen was

        old_plan : HasLuks1Plan (part v 0 592) n o.plan
        old_plan = subst (λ (c : Choice). HasPlanAs v n c o.plan) was_luks1 o.is

        not_refused : (f : OpenFault) → IsRefusalAsWithin allowed v n luks1 f → ⊥
        not_refused f z = o.unrefused f (subst (λ (c : Choice). IsRefusalAsWithin allowed v n c f) (sym was_luks1) z)

        old_accepted : slot_refusal_within (without_memory allowed.older) o.plan ≡ None
        old_accepted = none_of (slot_refusal_within (without_memory allowed.older) o.plan) (λ (f : SlotFault) is. not_refused (Slot f) (record { plan = o.plan; is = old_plan; refused = is }))

        old_inside : o.plan.area.start + o.plan.area.len ≤ length v
        old_inside = elim (cases_lt (length v) (o.plan.area.start + o.plan.area.len)) [
          | inl past ↦ absurd (not_refused Outside (record { plan = o.plan; is = old_plan; past = past }))
          | inr inside ↦ omega (arith, inside)
        ]

        unrefused : (f : OpenFault) → IsRefusalAsWithin allowed w n (luks2 0 new.copies) f → ⊥
        unrefused (Head f) z = no_head allowed n f z
        unrefused (Meta f) z = no_meta allowed n f z
        unrefused NoSuchSlot z =
            let value : z.value ≡ j = one_value (json_at w 0) z.value j z.holds new.meta.json in
            let gone : object_at j Keyslots n ≡ None = subst (λ (k : Data). object_at k Keyslots n ≡ None) value (z.absent (let low = low_of (part v 0 592) n on in omega (arith, low))) in
            no_some (slot_value (new_slot (part v 0 592) n)) (sym gone ∙ is_there)
        unrefused Outside z =
            let is = its_plan z.plan z.is in
            let start = plan_start (part v 0 592) j x n on z.plan is in
            let len = plan_len (part v 0 592) j x n on z.plan is in
            let end = ends (part v 0 592) n on has in
            let long = new.long in
            let past = z.past in
            absurd (omega (arith, start, len, end, long, past))
        unrefused (Slot f) z =
            let is = its_plan z.plan z.is in
            let copied = copied_plan (part v 0 592) j x n on o.plan z.plan old_plan.is is in
            let accepted = still_unrefused (without_memory allowed.older) o.plan z.plan copied old_accepted in
            no_some f (sym (still_accepted (without_memory allowed.older) allowed z.plan (omega arith) (λ e. e) accepted) ∙ z.refused)
        unrefused other z = z

        plan : SlotPlan
        plan = new_plan (part v 0 592) j x n on

        plan_has : IsLuks2Plan j n (slot_value (new_slot (part v 0 592) n)) plan
        unfolding plan
        plan_has = has_plan (part v 0 592) j x n on

        copied : IsCopiedPlan o.plan plan
        copied = copied_plan (part v 0 592) j x n on o.plan plan old_plan.is plan_has

        -- the bytes of the two areas
        old_bytes : part v o.plan.area.start o.plan.area.len ≡ part v (source_start (part v 0 592) n) (source_size (part v 0 592) n)
        old_bytes = ap (λ s. part v s o.plan.area.len) old_plan.is.start ∙ ap (part v (source_start (part v 0 592) n)) old_plan.is.len

        new_bytes : part w plan.area.start plan.area.len ≡ part w (new_start (part v 0 592) n) (new_size (part v 0 592) n)
        new_bytes =
            ap (λ s. part w s plan.area.len) (plan_start (part v 0 592) j x n on plan plan_has)
            ∙ ap (part w (new_start (part v 0 592) n)) (plan_len (part v 0 592) j x n on plan plan_has)

        sectors_long : length (part v (source_start (part v 0 592) n) (source_size (part v 0 592) n)) ≡ 512 * sector_count (stripe_bytes o.plan)
        sectors_long =
            let whole : length (part v o.plan.area.start o.plan.area.len) ≡ o.plan.area.len = length-part_inside v o.plan.area.start o.plan.area.len old_inside in
            let same : o.plan.area.len ≡ rounded_to_sectors (stripe_bytes o.plan) =
            old_plan.is.len ∙ sym (ap (λ k. rounded_to_sectors (k * o.plan.stripes)) old_plan.is.key_bytes ∙ ap (λ k. rounded_to_sectors (key_bytes_of (part v 0 592) * k)) old_plan.is.stripes) in
            sym (ap length old_bytes) ∙ whole ∙ same ∙ omega arith

        same_sectors : HasSameSectors o.plan (part v o.plan.area.start o.plan.area.len) (part w plan.area.start plan.area.len)
        same_sectors =
            let k : ℕ = 512 * sector_count (stripe_bytes o.plan) in
            ap (λ bytes. part bytes 0 k) old_bytes
            ∙ sym (front_of (part v (source_start (part v 0 592) n) (source_size (part v 0 592) n)) (replicate (new_size (part v 0 592) n - source_size (part v 0 592) n) 0) k sectors_long)
            ∙ sym (ap (λ bytes. part bytes 0 k) (new_bytes ∙ area_is))

        pub converted_opens : OpensWithin allowed w n p found
        converted_opens = record {
          choice = luks2 0 new.copies;
          chosen = new.chosen;
          plan = plan;
          is = record { numbered = (let low = low_of (part v 0 592) n on in omega (arith, low)); value = j; holds = new.meta.json; object = slot_value (new_slot (part v 0 592) n); there = is_there; is = plan_has };
          unrefused = unrefused;
          key = sym (same_key o.plan plan (part v o.plan.area.start o.plan.area.len) (part w plan.area.start plan.area.len) p copied same_sectors) ∙ o.key;
        }

    -- no other keyslot is there
    module _ (n : ℕ) (off : is_enabled (part v 0 592) n ≡ false) where
      gone : object_at j Keyslots n ≡ None
      gone = x.no_keyslot n (inr (slot_absent (part v 0 592) n off))

      first_as : (allowed : Allowed) (f : OpenFault) → IsRefusalAsWithin allowed w n (luks2 0 new.copies) f → NotAfter (open_key NoSuchSlot) (open_key f)
      first_as allowed (Head f) z = absurd (no_head allowed n f z)
      first_as allowed (Meta f) z = absurd (no_meta allowed n f z)
      first_as allowed SlotFree z = absurd z
      first_as allowed Device z = absurd z
      first_as allowed Memory z = absurd z
      first_as allowed other z = (omega arith, λ e. tt)

      pub converted_absent : (allowed : Allowed) (p : List ℕ) → AnswerWithin allowed w n p (refused NoSuchSlot)
      converted_absent allowed p = (
        record { choice = luks2 0 new.copies; chosen = new.chosen; fault = record { value = j; holds = new.meta.json; absent = λ small. gone } },
        λ g z. first_as allowed g (subst (λ (c : Choice). IsRefusalAsWithin allowed w n c g) (choices_agree w z.choice (luks2 0 new.copies) z.chosen new.chosen) z.fault),
      )
