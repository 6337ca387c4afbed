-- What trying a keyslot of a header that was made tells.
use Rattle.std.proofs.Common.{◌≡◌, ℕ, ◌+◌, ◌*◌, ◌<◌, ◌≤◌, List, length, Bool, false, Option, Some, None, Result, Ok, Err, IfErr, IfOk, IsTrue, OnOk, ◌↔◌, refl, slice_index_or, sym, ap, subst, ◌∙◌, arith}
use Rattle.std.proofs.lemmas.List.{get_or_default}
use Rattle.luks_area.specs.Ranges.{part}
use Rattle.luks_area.specs.Sectors.{rounded_to_sectors}
use Rattle.luks_area.specs.declared.area.Area.{Area}
use Rattle.luks_area.specs.declared.device.DeviceFault.{DeviceFault}
use Rattle.luks1_header.specs.Header1.{active_word, enabled_word, entry, entry_stripes, key_bytes_of, word_of, IsCommon, IsEntry, IsLuks1}
use Rattle.luks1_header.specs.Written.{WritesLuks1}
use Rattle.luks1_header.specs.declared.fault.HeadFault.{HeadFault}
use Rattle.luks1_header.specs.declared.fault.HeadFault.TheVariants as head
use Rattle.luks1_header.specs.declared.fault.IterationsOf.TheVariants as of
use Rattle.luks1_header.specs.declared.luks1.Luks1.{Luks1}
use Rattle.luks1_header.specs.declared.luks1.Luks1Slot.{Luks1Slot}
use Rattle.luks1_header.specs.declared.luks1.SlotState.{SlotState}
use Rattle.luks1_header.specs.declared.luks1.SlotState.TheVariants.{Disabled, Enabled}
use Rattle.luks1_mending.specs.Areas.{own_area, stripes_area}
use Rattle.luks1_mending.specs.Kept.{IsKept}
use Rattle.luks1_mending.specs.Made.{IsMade}
use Rattle.luks1_mending.specs.Taken.{taken_key_bytes, IsFieldFault}
use Rattle.luks1_mending.specs.declared.given.Given.{Given}
use Rattle.luks1_mending.proofs.HeaderFacts.{common_held, made_header, text_there}
use Rattle.luks_slot.specs.Fault.{IsAnsweredFault}
use Rattle.luks_slot.specs.Opening.{area_bytes, slot_key}
use Rattle.luks_slot.specs.Allowance.{without_memory}
use Rattle.luks_slot.specs.Refusal.{slot_refusal}
use Rattle.luks_slot.proofs.RefusalFacts.{accepted_within, refusal_at_none}
use Rattle.luks_slot.specs.declared.fault.SlotFault.{SlotFault}
use Rattle.luks_slot.specs.declared.fault.SlotFault.TheVariants as slot
use Rattle.luks_slot.specs.declared.plan.SlotPlan.{SlotPlan}
use Rattle.luks_reading.specs.PlanAnswers.{IsOpenable}
use Rattle.luks_reading.specs.Plans.{HasLuks1Plan, IsLuks1Plan}
use Rattle.luks_reading.specs.declared.open_fault.OpenFault.{OpenFault}
use Rattle.luks_reading.specs.declared.open_fault.OpenFault.TheVariants.{Head, Meta, NoSuchSlot, SlotFree, Outside, Slot, Device, Memory}
use Rattle.luks_reading.proofs.Luks1Plans.{one_luks1_plan}
use Rattle.luks_reading.proofs.SamePlans.{same_answer, same_refusal_within, SameFields}
use Rattle.luks1_rebuilding.proofs.GivesFacts.{kept_entry}
use Rattle.luks1_mending.proofs.KeptFacts.{sound_of}
use Rattle.luks1_rebuilding.proofs.MadeFacts.{kept_used, used_kept}
use Rattle.luks1_rebuilding.proofs.PlanFacts.{plan_here, plan_there, SaysKept}
use Rattle.luks1_rebuilding.specs.Gives.{IsKeptPlan, IsRefusedKept}
use Rattle.luks1_rebuilding.specs.KeyAreas.{header_of, IsKeptInUse}
use Rattle.luks1_rebuilding.specs.Used.{any_slot, slot_at}
use Rattle.luks1_rebuilding.specs.Openings.{OpensBy}
use Rattle.luks1_rebuilding.specs.Tried.{IsMadeOfSome, IsMadeOf, IsTried}

-- false isn't true
untrue : IsTrue false → ⊥
untrue t = cc

-- of a header that was made no field was at fault
pub made_faultless : (h : List ℕ) (total : ℕ) (g : Given) (d : Luks1) → IsMade h total g d → (f : HeadFault) → IsFieldFault h g f → ⊥
made_faultless h total g d made (head.Text t) bad = bad (made.common.usable t)
made_faultless h total g d made head.KeyBytes bad = bad made.common.key_at_least made.common.key_at_most
made_faultless h total g d made (head.Iterations of.Digest) bad = (let some = made.common.iterated in omega (arith, some, bad))
made_faultless h total g d made (head.Iterations (of.Slot n)) bad = bad
made_faultless h total g d made head.TooShort bad = bad
made_faultless h total g d made head.NotLuks bad = bad
made_faultless h total g d made head.Version bad = bad
made_faultless h total g d made head.NoSoundCopy bad = bad
made_faultless h total g d made head.Uuid bad = bad
made_faultless h total g d made (head.SlotState n) bad = bad
made_faultless h total g d made (head.Stripes n) bad = bad
made_faultless h total g d made head.Device bad = bad
made_faultless h total g d made head.Memory bad = bad

-- a plan that the header gives of a keyslot opens as the source's
module _ {v : List ℕ} {g : Given} {n : ℕ} {b : List ℕ} (says : SaysKept v g n b) (used : IsKeptInUse v g n) (p : List ℕ)
    (made : (f : HeadFault) → IsFieldFault (header_of v) g f → ⊥) (plan : SlotPlan) (is : HasLuks1Plan b n plan) where
  same : (other : SlotPlan) → IsKeptPlan v g n other → SameFields plan other
  same other kept = one_luks1_plan b n plan other is (plan_there says other kept)

  accepted : slot_refusal plan ≡ None → (older : Bool) (f : OpenFault) → IsRefusedKept older v g n f → ⊥
  accepted none older (Head f) bad = bad
  accepted none older (Meta f) bad = bad
  accepted none older NoSuchSlot bad = bad
  accepted none older SlotFree bad = bad
  accepted none older Outside bad = bad
  accepted none older (Slot f) bad =
      let alike = same_refusal_within (without_memory older) plan bad.plan (same bad.plan bad.is) in
      let fine = accepted_within (without_memory older) plan none in
      let refused = bad.refused in
      absurd (cc)
  accepted none older Device bad = bad
  accepted none older Memory bad = bad

  found : (k : List ℕ) → slot_refusal plan ≡ None → slot_key plan (part v plan.area.start plan.area.len) p ≡ Some k → OpensBy v g p n
  found k none key = record {
    made = made;
    in_use = used;
    key = k;
    gives = λ older. record { plan = plan; is = plan_here says plan is; unrefused = accepted none older; key = key };
  }

  only : OpensBy v g p n → (k : List ℕ) → slot_key plan (part v plan.area.start plan.area.len) p ≡ None → ⊥
  only x k none =
      let gives = x.gives false in
      let alike = same_answer plan gives.plan v p (same gives.plan gives.is) in
      let key = gives.key in
      absurd (cc)

  refused : (f : SlotFault) → slot_refusal plan ≡ Some f → OpensBy v g p n → ⊥
  refused f bad x = (x.gives false).unrefused (Slot f) (record { plan = plan; is = plan_here says plan is; refused = refusal_at_none plan ∙ bad })

  abbrev pub Answer : Result Bool DeviceFault → Type 0
  Answer q = IfOk q (λ is. IsTrue is ↔ OpensBy v g p n)

  opened : (key : Option (List ℕ)) → slot_refusal plan ≡ None → key ≡ slot_key plan (area_bytes v plan.area) p → (q : Result Bool DeviceFault)
      → IsTried (Ok key) q → Answer q
  opened (Some k) none key q is = subst Answer (sym is) ((λ t. found k none (sym key)), (λ x. refl))
  opened None none key q is = subst Answer (sym is) ((λ t. absurd (untrue t)), (λ x. absurd (only x p (sym key))))

  shut : (f : SlotFault) → slot_refusal plan ≡ Some f → (q : Result Bool DeviceFault) → q ≡ Ok false → Answer q
  shut f bad q is = subst Answer (sym is) ((λ t. absurd (untrue t)), (λ x. absurd (refused f bad x)))

  failed : (q : Result Bool DeviceFault) → OnOk q ⊥ → Answer q
  failed (Ok b) never = absurd never
  failed (Err f) never = tt

  not_opened : (f : SlotFault) → IsAnsweredFault plan f → (q : Result Bool DeviceFault) → IsTried (Err f) q → Answer q
  not_opened slot.Argon2 bad q is = shut slot.Argon2 bad q is
  not_opened slot.Cipher bad q is = shut slot.Cipher bad q is
  not_opened slot.Hash bad q is = shut slot.Hash bad q is
  not_opened slot.KeySize bad q is = shut slot.KeySize bad q is
  not_opened slot.Device bad q is = failed q is
  not_opened slot.Memory bad q is = absurd bad

  pub answered : (r : Result (Option (List ℕ)) SlotFault) (q : Result Bool DeviceFault) → IfErr r (IsAnsweredFault plan) → OnOk r (slot_refusal plan ≡ None)
      → IfOk r (λ key. key ≡ slot_key plan (area_bytes v plan.area) p) → IsTried r q → Answer q
  answered (Ok key) q fault none value is = opened key none value q is
  answered (Err f) q fault none value is = not_opened f fault q is

-- ---- the header that was made

-- an enabled keyslot of it, as the source has it
pub record IsKeptEntry (h : List ℕ) (g : Given) (total : ℕ) (d : Luks1) (n : ℕ) : Type 0 where
  pub kept : IsKept h (taken_key_bytes h g) total n
  pub enabled : active_word (entry h n) ≡ enabled_word
  pub says : IsEntry (entry h n) (slot_at d n)

module _ (h : List ℕ) (total : ℕ) (g : Given) (d : Luks1) (made : IsMade h total g d) (n : ℕ) (lt : n < 8) where
  area_of : Area
  area_of = stripes_area d.common.key_bytes (slot_at d n).key_material_offset (slot_at d n).stripes

  pub kept_entry_of : (slot_at d n).state ≡ Enabled → IsKeptEntry h g total d n
  unfolding area_of
  kept_entry_of on =
      let x = used_kept h total g d made n area_of (record { numbered = lt; enabled = on; is = refl }) in
      record { kept = x.kept; enabled = x.enabled; says = kept_entry h (taken_key_bytes h g) total n (slot_at d n) x.kept (made.slots n any_slot lt) }

  -- a keyslot that is kept and in use is enabled
  pub enabled_there : IsKept h (taken_key_bytes h g) total n → active_word (entry h n) ≡ enabled_word → (slot_at d n).state ≡ Enabled
  enabled_there kept on =
      (kept_used h total g d made n (own_area h (taken_key_bytes h g) n) (record { kept = kept; enabled = on; is = refl })).enabled

-- what it is written as says what is kept
pub says_of : (v : List ℕ) (g : Given) (d : Luks1) → IsMadeOf v g d → (b : List ℕ) → WritesLuks1 b d → (n : ℕ) → n < 8 → IsEntry (entry (header_of v) n) (slot_at d n) → SaysKept v g n b
says_of v g d made b put n lt source =
    let held = common_held (header_of v) g d.common made.common b put.common in
    let there = (put.slots n any_slot lt).fields in
    record {
      numbered = lt;
      texts = λ t. text_there (header_of v) g d.common made.common b put.common t ∙ made.common.texts t;
      key_bytes = held.key_bytes ∙ made.common.key_bytes;
      digest = held.mk_digest ∙ made.common.mk_digest;
      digest_salt = held.mk_digest_salt ∙ made.common.mk_digest_salt;
      digest_iterations = held.mk_digest_iterations ∙ made.common.mk_digest_iterations;
      iterations = there.iterations ∙ sym source.fields.iterations;
      salt = there.salt ∙ sym source.fields.salt;
      sector = there.key_material_offset ∙ sym source.fields.key_material_offset;
      stripes = there.stripes ∙ sym source.fields.stripes;
    }

-- ---- the plan of an enabled keyslot of a header that was made

module _ (d : Luks1) (n : ℕ) (lt : n < 8) (b : List ℕ) (put : WritesLuks1 b d) (s : Luks1Slot) (here : s ≡ slot_at d n) (on : s.state ≡ Enabled) (plan : SlotPlan)
    (is : (h e : List ℕ) → IsCommon h d.common → IsEntry e s → IsLuks1Plan h e plan)
    (judged : (h e : List ℕ) → IsCommon h d.common → IsEntry e s → active_word e ≡ enabled_word → IsOpenable plan) where
  on_there : (slot_at d n).state ≡ Enabled
  on_there = ap (λ (q : Luks1Slot). q.state) (sym here) ∙ on

  module _ (h : List ℕ) (total : ℕ) (g : Given) (made : IsMade h total g d) where
    header : IsLuks1 b d
    header = made_header h total g d made b put

    says : IsEntry (entry b n) s
    says = subst (IsEntry (entry b n)) (sym here) (header.slots.each n any_slot lt)

    pub openable : IsOpenable plan
    openable = judged b (entry b n) header.common says ((put.slots n any_slot lt).fields.state ∙ ap word_of on_there)

    pub has_plan : HasLuks1Plan b n plan
    has_plan = record { numbered = lt; is = is b (entry b n) header.common says }

    pub inside : plan.area.start + plan.area.len ≤ total
    inside =
        let kept = kept_entry_of h total g d made n lt on_there in
        let there = (put.slots n any_slot lt).fields in
        let sector = there.key_material_offset ∙ sym kept.says.fields.key_material_offset in
        let stripes = there.stripes ∙ sym kept.says.fields.stripes in
        let key = (common_held h g d.common made.common b put.common).key_bytes ∙ made.common.key_bytes in
        let start = has_plan.is.start ∙ ap (λ m. m * 512) sector in
        let len = has_plan.is.len ∙ ap (λ m. rounded_to_sectors (key_bytes_of b * m)) stripes ∙ ap (λ k. rounded_to_sectors (k * entry_stripes (entry h n))) key in
        let within = (sound_of h (taken_key_bytes h g) total n kept.kept).inside in
        omega (arith, start, len, within)

  -- what trying it tells of the volume
  pub tells_opening : (v : List ℕ) (g : Given) → IsMadeOf v g d → (p : List ℕ) (r : Result (Option (List ℕ)) SlotFault) (q : Result Bool DeviceFault)
      → IfErr r (IsAnsweredFault plan) → OnOk r (slot_refusal plan ≡ None) → IfOk r (λ key. key ≡ slot_key plan (area_bytes v plan.area) p) → IsTried r q
      → IfOk q (λ t. IsTrue t ↔ OpensBy v g p n)
  tells_opening v g made p r q fault none value tried =
      let h : List ℕ = header_of v in
      let kept = kept_entry_of h (length v) g d made n lt on_there in
      answered (says_of v g d made b put n lt kept.says) (record { kept = kept.kept; enabled = kept.enabled }) p (made_faultless h (length v) g d made) plan (has_plan h (length v) g made) r q fault none value tried

-- the plan of a keyslot may be opened, and its area lies inside a volume of `total` bytes
pub record IsPlanThere (plan : SlotPlan) (total : ℕ) : Type 0 where
  pub openable : IsOpenable plan
  pub inside : plan.area.start + plan.area.len ≤ total

-- so is that of an enabled one of a header that was made
pub enabled_plan : (d : Luks1) (n total : ℕ) → IsMadeOfSome d total → n < 8 → (q : Luks1Slot) → (slice_index_or d.slots n q).state ≡ Enabled → (plan : SlotPlan)
    → ((h e : List ℕ) → IsCommon h d.common → IsEntry e (slice_index_or d.slots n q) → IsLuks1Plan h e plan)
    → ((h e : List ℕ) → IsCommon h d.common → IsEntry e (slice_index_or d.slots n q) → active_word e ≡ enabled_word → IsOpenable plan)
    → IsPlanThere plan total
enabled_plan d n total some low q on plan is judged =
    let eight = some.made.eight in
    let within : n < length d.slots = omega (arith, eight, low) in
    let here : slice_index_or d.slots n q ≡ slot_at d n = sym (get_or_default d.slots n any_slot q within) in
    record {
      openable = openable d n low some.as_written some.written (slice_index_or d.slots n q) here on plan is judged some.bytes total some.given some.made;
      inside = inside d n low some.as_written some.written (slice_index_or d.slots n q) here on plan is judged some.bytes total some.given some.made;
    }

-- a disabled keyslot opens by no passphrase
pub tells_shut : (v : List ℕ) (g : Given) (d : Luks1) → IsMadeOf v g d → (n : ℕ) → n < 8 → (s : Luks1Slot) → s ≡ slot_at d n → s.state ≡ Disabled → (p : List ℕ)
    → IsTrue false ↔ OpensBy v g p n
tells_shut v g d made n lt s here off p =
    ((λ t. absurd (untrue t)), (λ x. absurd (no_state (slot_at d n).state (enabled_there (header_of v) (length v) g d made n lt x.in_use.kept x.in_use.enabled) (ap (λ (q : Luks1Slot). q.state) (sym here) ∙ off))))
  where
    no_state : (t : SlotState) → t ≡ Enabled → t ≡ Disabled → ⊥
    no_state t on disabled = cc

-- what is told of each that is given
pub of_each : {F : Type 0} (q : Result Bool F) (P : Given → Type 0) (Q : Bool → Given → Type 0) → ((g : Given) → P g → IfOk q (λ b. Q b g)) → IfOk q (λ b. (g : Given) → P g → Q b g)
of_each (Ok b) P Q each = each
of_each (Err f) P Q each = tt
