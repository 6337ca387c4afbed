-- A keyslot that is made: its area is sealed, then its entry is written.
use Rattle.std.proofs.Common.{◌≡◌, ℕ, ◌+◌, ◌-◌, ◌*◌, ◌<◌, ◌≤◌, List, length, take, drop, subst, refl, sym, ap, ◌∙◌, arith, inl, inr, length-drop, Bool}
use Rattle.luks_area.specs.declared.area.AreaName.TheVariants.{Slot}
use Rattle.luks_area.specs.Ranges.{part, written, IsAt, SameBut}
use Rattle.luks_area.proofs.RangeFacts.{part-same_but, same_but-then, same_but-wider, same_outside-written}
use Rattle.luks_area.specs.Sectors.{rounded_to_sectors}
use Rattle.luks1_header.specs.Bytes.{number_at}
use Rattle.luks1_header.specs.Header1.{active_word, enabled_word, entry, entry_iterations, entry_stripes, HoldsEntry, HoldsSlots, IsCommon, IsEntry, IsLuks1}
use Rattle.luks1_header.specs.Written.{WritesEntry}
use Rattle.luks1_header.specs.declared.luks1.Luks1.{Luks1}
use Rattle.luks1_header.specs.declared.luks1.Luks1Slot.{Luks1Slot}
use Rattle.luks_slot.specs.Allowance.{without_memory}
use Rattle.luks_slot.specs.declared.fault.SlotFault.{SlotFault}
use Rattle.luks_slot.specs.declared.fault.SlotFault.TheVariants as sealing
use Rattle.luks_slot.specs.declared.plan.SlotPlan.{SlotPlan}
use Rattle.luks_slot.specs.Fault.{IsAnsweredWithin}
use Rattle.luks_slot.specs.Opening.{area_bytes, stripe_bytes}
use Rattle.luks_slot.specs.Sealing.{IsSealed}
use Rattle.luks_reading.specs.declared.report.Data.{Data}
use Rattle.luks_reading.specs.Checked.{IsLuks1Volume}
use Rattle.luks_reading.specs.PlanAnswers.{IsOpenable}
use Rattle.luks_reading.specs.Plans.{IsLuks1Plan}
use Rattle.luks1_edits.specs.Accepted.{IsHeaderOf, keyslot_fault}
use Rattle.luks1_edits.specs.Edited.{IsMade}
use Rattle.luks1_edits.specs.Kept.{AreKeyslots, IsEither}
use Rattle.luks1_edits.specs.Leftovers.{IsMadeButEntry}
use Rattle.luks1_edits.specs.Places.{area_len, area_start, entry_place, IsOfKeyslots}
use Rattle.luks1_edits.specs.Refused.{keyslot_need}
use Rattle.luks1_edits.specs.Steps.{IsKeyslotMade, IsUnmade}
use Rattle.luks1_edits.proofs.MadeKeyslotFacts.{no_argon2}
use Rattle.luks1_edits.proofs.AnswerFacts.{SameFront, plan_moves}
use Rattle.luks1_edits.proofs.HeaderFacts.{entry_is, header_moves, key_is, volume_of}
use Rattle.luks1_edits.proofs.KeptFacts.{header_apart, kept_common}
use Rattle.luks1_edits.proofs.StepFacts.{entry_range, entry_written}

-- what agrees but in a set agrees the other way round
same_but-back : {T : ℕ → Type 0} {u v : List ℕ} → SameBut T u v → SameBut T v u
same_but-back same = record { length_same = sym same.length_same; each = λ p apart. sym (same.each p apart) }

-- the plan of a new keyslot `n` of the header `h`, whose entry is `e`
pub record IsNewPlan (h : List ℕ) (n : ℕ) (e : List ℕ) (iterations : ℕ) (salt : List ℕ) (plan : SlotPlan) : Type 0 where
  pub is : IsLuks1Plan h e plan
  pub openable : IsOpenable plan
  pub made : IsMade (entry h n) e iterations salt

pub new_plan : (h : List ℕ) (d : Luks1) (n : ℕ) (e : List ℕ) (slot : Luks1Slot) (iterations : ℕ) (salt : List ℕ) (plan : SlotPlan) → IsLuks1 h d → n < 8 → 1 ≤ iterations
    → ((v e : List ℕ) → HoldsSlots v d.slots → HoldsEntry e slot → IsMade (entry v n) e iterations salt) → WritesEntry e slot
    → ((h e : List ℕ) → IsCommon h d.common → IsEntry e slot → IsLuks1Plan h e plan)
    → ((h e : List ℕ) → IsCommon h d.common → IsEntry e slot → active_word e ≡ enabled_word → IsOpenable plan)
    → IsNewPlan h n e iterations salt plan
new_plan h d n e slot iterations salt plan is lt many made writes plan_is judged =
    let m : IsMade (entry h n) e iterations salt = made h e is.slots writes.fields in
    let striped : 1 ≤ entry_stripes (entry h n) = (is.slots.each n slot lt).striped in
    let stripes : entry_stripes e ≡ entry_stripes (entry h n) = m.stripes in
    let turns : entry_iterations e ≡ iterations = m.iterations_are in
    let fit : IsEntry e slot = record { fields = writes.fields; striped = omega (arith, striped, stripes); iterated = λ on. omega (arith, turns, many) } in
    record { is = plan_is h e is.common fit; openable = judged h e is.common fit m.enabled; made = m }

module _ (h : List ℕ) (n : ℕ) (e : List ℕ) (iterations : ℕ) (salt : List ℕ) (plan : SlotPlan) (x : IsNewPlan h n e iterations salt plan) where
  pub plan_key_length : (key : List ℕ) → length key ≡ number_at h 108 4 → length key ≡ plan.key_bytes
  plan_key_length key size = size ∙ sym x.is.key_bytes

  pub plan_random_length : (random : List ℕ) → length random ≡ keyslot_need h n → length (drop 32 random) ≡ (plan.stripes - 1) * plan.key_bytes
  plan_random_length random size =
      let left : length (drop 32 random) ≡ length random - 32 = length-drop 32 random in
      let all : length random - 32 ≡ (entry_stripes (entry h n) - 1) * number_at h 108 4 = omega (arith, size) in
      left ∙ all ∙ ap (λ s. (s - 1) * number_at h 108 4) (sym (x.is.stripes ∙ x.made.stripes)) ∙ ap (λ k. (plan.stripes - 1) * k) (sym x.is.key_bytes)

  pub plan_inside : (payload : Data) (total : ℕ) → IsLuks1Volume h payload total → n < 8 → plan.area.start + plan.area.len ≤ total
  plan_inside payload total whole lt = whole.fit.inside (Slot n) plan.area (
    lt,
    x.is.start ∙ ap (λ k. k * 512) x.made.offset,
    x.is.len ∙ ap (λ s. rounded_to_sectors (number_at h 108 4 * s)) x.made.stripes,
  )

  -- ---- in the volume

  module _ (payload : Data) (v : List ℕ) (of : IsHeaderOf h payload v) (lt : n < 8) where
    entry_in : entry h n ≡ entry v n
    entry_in = ap (λ b. entry b n) of.begins ∙ entry_is v n lt

    pub made_in : IsMade (entry v n) e iterations salt
    made_in = subst (λ o. IsMade o e iterations salt) entry_in x.made

    key_in : number_at h 108 4 ≡ number_at v 108 4
    key_in = ap (λ b. number_at b 108 4) of.begins ∙ key_is v

    start_at : plan.area.start ≡ area_start v n
    start_at = x.is.start ∙ ap (λ k. k * 512) made_in.offset

    len_at : plan.area.len ≡ area_len v n
    len_at = x.is.len ∙ ap (λ k. rounded_to_sectors (k * entry_stripes e)) key_in ∙ ap (λ s. rounded_to_sectors (number_at v 108 4 * s)) made_in.stripes

    -- while the area was sealed
    pub area_torn : (u : List ℕ) → SameBut (IsAt plan.area.start plan.area.len) v u → SameBut (IsAt (area_start v n) (area_len v n)) v u
    area_torn u same = same_but-wider (λ p at. subst (λ k. IsAt (area_start v n) k p) len_at (subst (λ k. IsAt k plan.area.len p) start_at at)) same

    -- the area is of the keyslot
    area_touched : (u : List ℕ) → SameBut (IsAt plan.area.start plan.area.len) v u → SameBut (IsOfKeyslots v (IsEither n n)) v u
    area_touched u same = same_but-wider (λ p at. record { keyslot = n; is_named = inl refl; of = inr at }) (area_torn u same)

    -- so are both
    entry_touched : (u w : List ℕ) → SameBut (IsAt plan.area.start plan.area.len) v u → SameBut (IsAt (entry_place n) 48) u w → SameBut (IsOfKeyslots v (IsEither n n)) v w
    entry_touched u w first second = same_but-then (area_touched u first) (same_but-wider (λ p at. record { keyslot = n; is_named = inl refl; of = inl at }) second)

    apart : (p : ℕ) → IsAt plan.area.start plan.area.len p → IsAt (entry_place n) 48 p → ⊥
    apart p in_area at =
        let high = at.1 in
        header_apart v payload (volume_of v payload of.chosen of.well).fit n p lt (omega (arith, high, lt))
        (subst (λ k. IsAt (area_start v n) k p) len_at (subst (λ k. IsAt k plan.area.len p) start_at in_area))

    numbered : AreKeyslots (IsEither n n)
    numbered = record { numbered = λ m either. elim either [ inl y ↦ omega (arith, y, lt) | inr y ↦ omega (arith, y, lt) ] }

    -- after both
    pub keyslot_made : (u w passphrase key random : List ℕ) → salt ≡ take 32 random → length key ≡ number_at h 108 4 → length random ≡ keyslot_need h n
        → SameBut (IsAt plan.area.start plan.area.len) v u → IsSealed plan (area_bytes u plan.area) passphrase key (drop 32 random)
        → SameBut (IsAt (entry_place n) 48) u w → entry w n ≡ e → IsKeyslotMade v n iterations passphrase key random w
    keyslot_made u w passphrase key random salt_is key_size random_size first sealed second written =
        let rest : SameBut (IsOfKeyslots v (IsEither n n)) v w = entry_touched u w first second in
        let front : part w 0 168 ≡ part v 0 168 = (kept_common v payload (volume_of v payload of.chosen of.well).fit w (IsEither n n) numbered rest).front in
        let moved : SameFront h (part w 0 592) = record { parts = λ o l within. ap (λ b. part b o l) of.begins ∙ sym (header_moves v w front o l within) } in
        record {
          rest = rest;
          made = subst (λ o. IsMade (entry v n) o iterations (take 32 random)) (sym written) (subst (λ s. IsMade (entry v n) e iterations s) salt_is made_in);
          holds = record {
            plan = plan;
            is = record {
              numbered = lt;
              is = subst (λ o. IsLuks1Plan (part w 0 592) o plan) (sym (entry_is w n lt ∙ written)) (plan_moves h (part w 0 592) e plan moved x.is);
            };
            key_length = plan_key_length key key_size;
            random_length = plan_random_length random random_size;
            sealed = subst (λ b. IsSealed plan b passphrase key (drop 32 random)) (sym (part-same_but plan.area.start plan.area.len second apart)) sealed;
          };
        }

    -- while the entry was written: it might have been written whole
    pub entry_torn : (u w passphrase key random : List ℕ) → salt ≡ take 32 random → length key ≡ number_at h 108 4 → length random ≡ keyslot_need h n → length e ≡ 48
        → SameBut (IsAt plan.area.start plan.area.len) v u → IsSealed plan (area_bytes u plan.area) passphrase key (drop 32 random)
        → SameBut (IsAt (entry_place n) 48) u w → IsMadeButEntry v n iterations passphrase key random w
    entry_torn u w passphrase key random salt_is key_size random_size entry_len first sealed second =
        let long : 592 ≤ length v = of.chosen.long in
        let size = first.length_same in
        let whole : List ℕ = written u (208 + 48 * n) e in
        let within : (208 + 48 * n) + length e ≤ length u = omega (arith, long, size, entry_len, lt) in
        let after : SameBut (IsAt (entry_place n) 48) u whole = entry_range u whole whole n (length e) entry_len (same_outside-written u (208 + 48 * n) e within) refl in
        record {
          done = whole;
          made = keyslot_made u whole passphrase key random salt_is key_size random_size first sealed after
              (entry_written u whole whole e n entry_len lt (omega (arith, long, size)) refl refl);
          rest = same_but-then (same_but-back after) second;
        }

-- the sectors of the stripes are of the area
pub sealed_rest : (plan : SlotPlan) {v u : List ℕ} → rounded_to_sectors (stripe_bytes plan) ≤ plan.area.len
    → SameBut (IsAt plan.area.start (rounded_to_sectors (stripe_bytes plan))) v u → SameBut (IsAt plan.area.start plan.area.len) v u
sealed_rest plan fits same = same_but-wider (λ p at. (at.0, (let high = at.1 in omega (arith, high, fits)))) same

-- why sealing failed
pub unsealed_unmade : (older : Bool) (h e : List ℕ) (plan : SlotPlan) (f : SlotFault) → IsLuks1Plan h e plan → IsAnsweredWithin (without_memory older) plan f → IsUnmade older h (keyslot_fault f)
unsealed_unmade older h e plan sealing.Device is x = tt
unsealed_unmade older h e plan sealing.Memory is x = absurd (no_argon2 h e plan.derivation is.derivation x.1)
unsealed_unmade older h e plan f is x = record { plan = plan; bytes = e; is = is; refused = x }
